-- A rule of a table, of integers or of rows, proved at all of its entries by one test that antt computes, one entry after the other.
use Rattle.std.proofs.Common.{◌≡◌, ◌∙◌, subst, sym, ap, Bool, true, false, ◌&&◌, List, [], ◌∷◌, ⊎_elim, ℕ, zero, suc, ◌+◌, ◌<◌, add-zero, zero-add, add-suc, suc-add, le_of_suc-le-suc, not-suc-le-zero, eq-or-lt_of_le, T, eqb→eq, ℤ, pos, negsuc, length, get_or}
use Rattle.lists.specs.Lists.{at, eq_z}

pub both_pass : (a b : Bool) → T (a && b) → T a × T b
both_pass true b t = (tt, t)
both_pass false b t = absurd t

-- the test f passes at each entry of the list and its place, counted from i
abbrev pub every : {A : Type 0} → (ℕ → A → Bool) → ℕ → List A → Bool
every f i [] = true
every f i (x ∷ xs) = f i x && every f (suc i) xs

from : {A : Type 0} (f : ℕ → A → Bool) (xs : List A) (d : A) (i : ℕ) → T (every f i xs) → (k : ℕ) → k < length xs → T (f (i + k) (get_or xs k d))
from f [] d i t k h = absurd (not-suc-le-zero h)
from f (x ∷ xs) d i t zero h = subst (λ (m : ℕ). T (f m x)) (sym (add-zero i)) (both_pass (f i x) (every f (suc i) xs) t).0
from f (x ∷ xs) d i t (suc k) h =
    subst (λ (m : ℕ). T (f m (get_or xs k d))) (suc-add i k ∙ sym (add-suc i k))
    (from f xs d (suc i) (both_pass (f i x) (every f (suc i) xs) t).1 k (le_of_suc-le-suc h))

-- of any entries, d being what stands for one past the end; and of integers
pub each_entry : {A : Type 0} (f : ℕ → A → Bool) (xs : List A) (d : A) → T (every f 0 xs) → (k : ℕ) → k < length xs → T (f k (get_or xs k d))
each_entry f xs d t k h = subst (λ (m : ℕ). T (f m (get_or xs k d))) (zero-add k) (from f xs d 0 t k h)

pub at_each : (f : ℕ → ℤ → Bool) (xs : List ℤ) → T (every f 0 xs) → (k : ℕ) → k < length xs → T (f k (at xs k))
at_each f xs = each_entry f xs (pos 0)

-- the test of equality, passed
pub eq_z→eq : (a b : ℤ) → T (eq_z a b) → a ≡ b
eq_z→eq (pos a) (pos b) t = ap pos (eqb→eq a b t)
eq_z→eq (pos a) (negsuc b) t = absurd t
eq_z→eq (negsuc a) (pos b) t = absurd t
eq_z→eq (negsuc a) (negsuc b) t = ap negsuc (eqb→eq a b t)

-- ---- a rule of every number below n, by one test that antt computes
abbrev pub all_below : (ℕ → Bool) → ℕ → Bool
all_below f zero = true
all_below f (suc n) = f n && all_below f n

pub below_each : (f : ℕ → Bool) (n : ℕ) → T (all_below f n) → (k : ℕ) → k < n → T (f k)
below_each f zero t k h = absurd (not-suc-le-zero h)
below_each f (suc n) t k h =
    ⊎_elim
    (λ (e : k ≡ n). rw e (both_pass (f n) (all_below f n) t).0)
    (λ (l : k < n). below_each f n (both_pass (f n) (all_below f n) t).1 k l)
    (eq-or-lt_of_le (le_of_suc-le-suc h))
