-- The parts of a list of numbers, as the code takes them: each from where it starts.
use Rattle.std.proofs.Common.{◌≡◌, refl, ap, ◌∙◌, List, [], ◌∷◌, ℕ, zero, suc, ◌<◌, arith, length, take, drop, get_or, drop-drop}
use Rattle.lists.specs.Parts.{total, cut, part_at}

pub part_cut : {A : Type 0} (ns : List ℕ) (xs : List A) (k : ℕ) → k < length ns → part_at (cut ns xs) k ≡ take (get_or ns k 0) (drop (total (take k ns)) xs)
part_cut [] xs k h = absurd (omega arith)
part_cut (n ∷ ns) xs zero h = refl
part_cut (n ∷ ns) xs (suc k) h = part_cut ns (drop n xs) k (omega arith) ∙ ap (take (get_or ns k 0)) (drop-drop (total (take k ns)) n xs)
