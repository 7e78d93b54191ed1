-- The eleven coefficients of a row: its length, its first entry, its range, and its entries as the code makes them.
use Rattle.std.proofs.Common.{ℕ, zero, suc, ◌+◌, ◌-◌, ◌<◌, ◌≡◌, refl, sym, ap, ◌∙◌, List, add-one, arith, lit<, ℤ, pos, length, length-append, w16, SFits}
use Rattle.lists.specs.Lists.{at, tab}
use Rattle.lists.proofs.Entries.{length_tab, at_tab, at_left, at_right, each_append, each_tab}
use Rattle.basicop.specs.Ops.{l_add, l_sub}
use Rattle.basicop.proofs.Wrap.{wrap_fits}
use Rattle.lpc.specs.Rows.{polynomial, every_second, coefficient, sum, difference, front, back, row, row_of, rows_of}

-- ---- a row of two polynomials
module _ (f g : List ℤ) where
  abbrev fronts : ℕ → ℤ
  fronts k = front f g (k + 1)

  abbrev backs : ℕ → ℤ
  backs k = back f g (5 - k)

  pub length_row : length (row f g) ≡ 11
  length_row = ap suc (length-append (tab fronts 5) (tab backs 5) ∙ rw (length_tab fronts 5, length_tab backs 5))

  fits : (i : ℕ) → SFits w16 (at (row f g) i)
  fits zero = record { sfits = lit< tt }
  fits (suc i) =
      let none : SFits w16 (pos 0) = record { sfits = lit< tt } in
      each_append (SFits w16) none (tab fronts 5) (tab backs 5)
      (each_tab (SFits w16) none fronts 5 (λ k. wrap_fits w16 _))
      (each_tab (SFits w16) none backs 5 (λ k. wrap_fits w16 _))
      i

  -- entries k + 1 and 10 - k, both from one sum and one difference
  module _ (k : ℕ) (h : k < 5) {s d : ℤ} (es : s ≡ l_add (at f (k + 1)) (at f k)) (ed : d ≡ l_sub (at g (k + 1)) (at g k)) where
    sums : (s ≡ sum f (k + 1)) × (d ≡ difference g (k + 1))
    sums = let e : k + 1 - 1 ≡ k = omega arith in rw e (es, ed)

    pub row_front : coefficient (l_add s d) ≡ at (row f g) (k + 1)
    row_front =
        rw (sums.0, sums.1) (at_tab fronts 5 k h ∙ at_left (tab fronts 5) (tab backs 5) k (rw (length_tab fronts 5) h) ∙ ap (at (row f g)) (sym (add-one k)))

    pub row_back : coefficient (l_sub s d) ≡ at (row f g) (10 - k)
    row_back =
        let i : 5 - (9 - k - 5) ≡ k + 1 = omega arith in
        let j : 10 - k ≡ suc (9 - k) = omega arith in
        rw (sums.0, sums.1, ← i, j) (at_tab backs 5 (9 - k - 5) (omega arith) ∙ at_right (tab fronts 5) (tab backs 5) 5 (9 - k) (length_tab fronts 5) (omega arith))

-- ---- every row, whatever the LSPs, and so each of the four rows of a frame
pub record IsRow (a : List ℤ) : Type 0 where
  pub eleven : length a ≡ 11
  pub first : at a 0 ≡ pos 4096
  pub fits : (i : ℕ) → SFits w16 (at a i)

pub row_first : (q : List ℤ) → at (row_of q) 0 ≡ pos 4096
unfolding row_of
row_first q = refl

pub row_is : (q : List ℤ) → IsRow (row_of q)
unfolding row_of
row_is q =
    let f = polynomial (every_second 0 q) 4 in
    let g = polynomial (every_second 1 q) 4 in
    record { eleven = length_row f g; first = row_first q; fits = fits f g }

pub rows_are : (old new : List ℤ) → IsRow (rows_of old new).a × (IsRow (rows_of old new).b × (IsRow (rows_of old new).c × IsRow (rows_of old new).d))
unfolding rows_of
rows_are old new = (row_is _, (row_is _, (row_is _, row_is _)))
