-- A list that is made of parts, one after another, each of a count that is known.
use Rattle.std.specs.Prelude.{List, [], ◌∷◌, ◌++◌, ℕ, ◌+◌, take, drop, slice_index_or}

-- the parts, one after another
abbrev pub joined : {A : Type 0} → List (List A) → List A
joined [] = []
joined (p ∷ ps) = p ++ joined ps

-- all the counts
abbrev pub total : List ℕ → ℕ
total [] = 0
total (n ∷ ns) = n + total ns

-- where each part starts, the first of them at k
abbrev pub starts : ℕ → List ℕ → List ℕ
starts k [] = []
starts k (n ∷ ns) = k ∷ starts (k + n) ns

-- the parts of a list: for each count as many entries, in order
abbrev pub cut : {A : Type 0} → List ℕ → List A → List (List A)
cut [] xs = []
cut (n ∷ ns) xs = take n xs ∷ cut ns (drop n xs)

-- part k
abbrev pub part_at : {A : Type 0} → List (List A) → ℕ → List A
part_at ps k = slice_index_or ps k []
