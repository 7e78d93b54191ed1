-- Lsf_lsp of TS 26.073 (TS 26.090, 5.2.5): line spectral frequencies to their cosines.
use Rattle.std.specs.Prelude.{List, [], ◌∷◌, map, ℤ, pos, ◌+ℤ◌, ◌≤ℤ◌}
use Rattle.lists.specs.Lists.{minus, entry, Every}
use Rattle.basicop.specs.Ops.{low_bits, add, sub, shr, l_mult, l_shr, extract_l}

-- table: 65 cosines (Q15)
unfoldable pub cosine : List ℤ
cosine =
    pos 32767 ∷ pos 32729 ∷ pos 32610 ∷ pos 32413 ∷ pos 32138 ∷ pos 31786 ∷ pos 31357 ∷ pos 30853 ∷ pos 30274 ∷ pos 29622 ∷
    pos 28899 ∷ pos 28106 ∷ pos 27246 ∷ pos 26320 ∷ pos 25330 ∷ pos 24279 ∷ pos 23170 ∷ pos 22006 ∷ pos 20788 ∷ pos 19520 ∷
    pos 18205 ∷ pos 16846 ∷ pos 15447 ∷ pos 14010 ∷ pos 12540 ∷ pos 11039 ∷ pos 9512 ∷ pos 7962 ∷ pos 6393 ∷ pos 4808 ∷
    pos 3212 ∷ pos 1608 ∷ pos 0 ∷ minus 1608 ∷ minus 3212 ∷ minus 4808 ∷ minus 6393 ∷ minus 7962 ∷ minus 9512 ∷ minus 11039 ∷
    minus 12540 ∷ minus 14010 ∷ minus 15447 ∷ minus 16846 ∷ minus 18205 ∷ minus 19520 ∷ minus 20788 ∷ minus 22006 ∷ minus 23170 ∷ minus 24279 ∷
    minus 25330 ∷ minus 26320 ∷ minus 27246 ∷ minus 28106 ∷ minus 28899 ∷ minus 29622 ∷ minus 30274 ∷ minus 30853 ∷ minus 31357 ∷ minus 31786 ∷
    minus 32138 ∷ minus 32413 ∷ minus 32610 ∷ minus 32729 ∷ minus 32768 ∷ []

-- offset / 256 of the way from an entry to the next
unfoldable pub between : ℤ → ℤ → ℤ → ℤ
between low next offset = add low (extract_l (l_shr (l_mult (sub next low) offset) (pos 9)))

-- For the LSF 16384 ind is 64, and the standard reads one entry past its table and multiplies it by 0: what lies past the end is 0 here
-- (docs/DIFFERENCES.md, 1)
unfoldable pub lsp_of : ℤ → ℤ
lsp_of lsf =
    let ind = shr lsf (pos 8) in
    between (entry cosine ind) (entry cosine (ind +ℤ pos 1)) (low_bits 8 lsf)

abbrev pub lsps_of : List ℤ → List ℤ
lsps_of lsfs = map lsp_of lsfs

-- every LSF lies in 0..=16384; a sheet with another is turned back by refusal 2
abbrev pub Frequencies : List ℤ → Type 0
Frequencies lsfs = Every (λ (lsf : ℤ). (pos 0 ≤ℤ lsf) × (lsf ≤ℤ pos 16384)) lsfs
