-- Lists of integers by their entries, and steps that are counted: what the definitions of all stages are written with. What holds of every entry of a list,
-- how many tests are true, and sums.
use Rattle.std.specs.Prelude.{ℕ, zero, suc, ◌+◌, Bool, false, if◌then◌else◌, List, [], ◌∷◌, ◌++◌, ◌==◌, ℤ, pos, negsuc, neg_ℤ, ◌+ℤ◌, slice_index_or}

-- a negative number, as a table prints it: -n
abbrev pub minus : ℕ → ℤ
minus n = neg_ℤ (pos n)

-- two integers are the same, as a test
abbrev pub eq_z : ℤ → ℤ → Bool
eq_z (pos a) (pos b) = a == b
eq_z (pos a) (negsuc b) = false
eq_z (negsuc a) (pos b) = false
eq_z (negsuc a) (negsuc b) = a == b

-- entry i of a list of integers, and 0 past its end
abbrev pub at : List ℤ → ℕ → ℤ
at xs i = slice_index_or xs i (pos 0)

-- the same at an integer index: 0 before the start and past the end
abbrev pub entry : List ℤ → ℤ → ℤ
entry xs (pos i) = at xs i
entry xs (negsuc i) = pos 0

-- s after the steps f 0, f 1, .. f (n − 1), in that order: `for k in 0..n { s = f(k, s) }`
unfoldable pub iter : {S : Type 0} → (ℕ → S → S) → ℕ → S → S
iter f zero s = s
iter f (suc n) s = f n (iter f n s)

-- f 0, f 1, .. f (n − 1)
unfoldable pub tab : (ℕ → ℤ) → ℕ → List ℤ
tab f zero = []
tab f (suc n) = tab f n ++ (f n ∷ [])

-- f of the two first entries, of the two second ones, and so on, as far as both lists go
abbrev pub pairwise : (ℤ → ℤ → ℤ) → List ℤ → List ℤ → List ℤ
pairwise f [] ys = []
pairwise f (x ∷ xs) [] = []
pairwise f (x ∷ xs) (y ∷ ys) = f x y ∷ pairwise f xs ys

-- y with one entry more, which is made from y: step n of a recursion that feeds on its own entries
abbrev pub grow : (ℕ → List ℤ → ℤ) → ℕ → List ℤ → List ℤ
grow g n y = y ++ (g n y ∷ [])

-- how many of the tests are true: each is one, or none
unfoldable pub one_if : Bool → ℕ
one_if b = if b then 1 else 0

abbrev pub count : List Bool → ℕ
count [] = 0
count (b ∷ bs) = one_if b + count bs

-- the entries of which the test is true, in order
abbrev pub selected : {A : Type 0} → (A → Bool) → List A → List A
selected f [] = []
selected f (x ∷ xs) = if f x then x ∷ selected f xs else selected f xs

-- all the integers together; `total` (Parts.antt) of naturals
abbrev pub total_z : List ℤ → ℤ
total_z [] = pos 0
total_z (z ∷ zs) = z +ℤ total_z zs

-- P holds of every entry
abbrev pub Every : {A : Type 0} → (A → Type 0) → List A → Type 0
Every P [] = Unit {0}
Every P (x ∷ xs) = P x × Every P xs
