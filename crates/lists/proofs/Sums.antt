-- Counts and sums of one list after another.
use Rattle.std.proofs.Common.{ℕ, ◌+◌, ◌≡◌, refl, sym, ap, ◌∙◌, Bool, true, false, cond, List, [], ◌∷◌, ◌++◌, arith, ℤ, ◌+ℤ◌}
use Rattle.std.proofs.Math.IntN.{+ℤ_idl, +ℤ_assoc}
use Rattle.lists.specs.Lists.{count, selected, total_z}
use Rattle.lists.specs.Parts.{total}

pub count_append : (bs cs : List Bool) → count (bs ++ cs) ≡ count bs + count cs
count_append [] cs = omega arith
count_append (b ∷ bs) cs = omega (arith, count_append bs cs)

pub total_append : (ms ns : List ℕ) → total (ms ++ ns) ≡ total ms + total ns
total_append [] ns = omega arith
total_append (m ∷ ms) ns = omega (arith, total_append ms ns)

pub total_z_append : (ys zs : List ℤ) → total_z (ys ++ zs) ≡ total_z ys +ℤ total_z zs
total_z_append [] zs = sym (+ℤ_idl (total_z zs))
total_z_append (y ∷ ys) zs = ap (λ (z : ℤ). y +ℤ z) (total_z_append ys zs) ∙ sym (+ℤ_assoc y (total_z ys) (total_z zs))

pub selected_append : {A : Type 0} (f : A → Bool) (xs ys : List A) → selected f (xs ++ ys) ≡ selected f xs ++ selected f ys
selected_append f [] ys = refl
selected_append {A} f (x ∷ xs) ys = go (f x) (selected_append f xs ys)
  where
    go : (t : Bool) → selected f (xs ++ ys) ≡ selected f xs ++ selected f ys
        → cond t (x ∷ selected f (xs ++ ys)) (selected f (xs ++ ys)) ≡ cond t (x ∷ selected f xs) (selected f xs) ++ selected f ys
    go true e = ap (λ (l : List A). x ∷ l) e
    go false e = e
