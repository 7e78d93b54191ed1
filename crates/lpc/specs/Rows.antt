-- The four coefficient rows of a frame: Int_lpc_1to3, Lsp_Az and Get_lsp_pol of TS 26.073 (TS 26.090, 5.2.6 and 5.2.4).
use Rattle.std.specs.Prelude.{ℕ, zero, suc, ◌+◌, ◌-◌, List, [], ◌∷◌, ◌++◌, ℤ, pos, length}
use Rattle.lists.specs.Lists.{at, tab, pairwise}
use Rattle.basicop.specs.Ops.{add, sub, shr, l_add, l_sub, l_msu, l_shl, l_shr_r, extract_l, l_extract, mpy_32_16}
use Rattle.lpc.specs.declared.Rows.{Rows}

-- ---- Int_lpc_1to3: an LSP of subframes 0, 1 and 2 from that of the frame before and that of this one. Subframe 3 has the new one
abbrev pub blend0 : ℤ → ℤ → ℤ
blend0 old new = add (shr new (pos 2)) (sub old (shr old (pos 2)))

abbrev pub blend1 : ℤ → ℤ → ℤ
blend1 old new = add (shr old (pos 1)) (shr new (pos 1))

abbrev pub blend2 : ℤ → ℤ → ℤ
blend2 old new = add (shr old (pos 2)) (sub new (shr new (pos 2)))

-- ---- Get_lsp_pol: the polynomial (Q24) whose roots are the LSPs q 0, q 1, ..
-- one degree more, by the root r: f j from the old f j, f (j - 1) and f (j - 2)
abbrev pub raised_from : ℤ → ℤ → ℤ → ℤ → ℤ
raised_from f before second r = l_sub (l_add f second) (l_shl (mpy_32_16 (l_extract before) r) (pos 1))

-- from e: the coefficients f 0 .. f n, and f (n - 1) once more as the new top one
unfoldable pub raised_at : List ℤ → ℤ → ℕ → ℤ
raised_at e r zero = at e 0
raised_at e r (suc zero) = l_msu (at e 1) r (pos 512)
raised_at e r (suc (suc j)) = raised_from (at e (suc (suc j))) (at e (suc j)) (at e j) r

abbrev pub raised : List ℤ → ℤ → List ℤ
raised f r =
    let e = f ++ (at f (length f - 2) ∷ []) in
    tab (raised_at e r) (length e)

-- of degree d + 1, with d + 2 coefficients: f 0 is 1, f 1 is -2 q 0
unfoldable pub polynomial : List ℤ → ℕ → List ℤ
polynomial q zero = pos 16777216 ∷ l_msu (pos 0) (at q 0) (pos 512) ∷ []
polynomial q (suc d) = raised (polynomial q d) (at q (suc d))

-- ---- Lsp_Az: eleven coefficients (Q12) from ten LSPs
-- every second LSP, from the one at o on: 0, 2, 4, 6, 8 or 1, 3, 5, 7, 9
abbrev pub every_second : ℕ → List ℤ → List ℤ
every_second o q = at q o ∷ at q (o + 2) ∷ at q (o + 4) ∷ at q (o + 6) ∷ at q (o + 8) ∷ []

-- v >> 13 plus bit 12 of v, and of that the low 16 bits, read as signed (docs/BENCH.md, "Coefficient rows")
abbrev pub coefficient : ℤ → ℤ
coefficient v = extract_l (l_shr_r v (pos 13))

-- of the polynomials f and g, for i = 1 .. 5: what f1[i] and f2[i] hold, then coefficients i and 11 - i
abbrev pub sum : List ℤ → ℕ → ℤ
sum f i = l_add (at f i) (at f (i - 1))

abbrev pub difference : List ℤ → ℕ → ℤ
difference g i = l_sub (at g i) (at g (i - 1))

abbrev pub front : List ℤ → List ℤ → ℕ → ℤ
front f g i = coefficient (l_add (sum f i) (difference g i))

abbrev pub back : List ℤ → List ℤ → ℕ → ℤ
back f g i = coefficient (l_sub (sum f i) (difference g i))

abbrev pub row : List ℤ → List ℤ → List ℤ
row f g = pos 4096 ∷ (tab (λ (k : ℕ). front f g (k + 1)) 5 ++ tab (λ (k : ℕ). back f g (5 - k)) 5)

unfoldable pub row_of : List ℤ → List ℤ
row_of q = row (polynomial (every_second 0 q) 4) (polynomial (every_second 1 q) 4)

-- four rows, one a subframe
abbrev pub row_list : Rows → List (List ℤ)
row_list rows = rows.a ∷ rows.b ∷ rows.c ∷ rows.d ∷ []

-- the four rows of a frame, from the LSPs of the frame before and its own
unfoldable pub rows_of : List ℤ → List ℤ → Rows
rows_of old new =
    record {
      a = row_of (pairwise blend0 old new);
      b = row_of (pairwise blend1 old new);
      c = row_of (pairwise blend2 old new);
      d = row_of new;
    }
