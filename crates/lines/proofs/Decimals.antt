-- The decimal digits of a number are std's.
use Rattle.std.proofs.Common.{◌≡◌, ap, List, [], ◌∷◌, ◌++◌, ℕ, zero, suc, ◌^◌, ◌/◌, ◌%◌, ◌<◌, ◌≤◌, arith, lt-ltb, le-ltb, refl}
use Rattle.std.specs.Fmt.{decimal as digits}
use Rattle.std.proofs.lemmas.Fmt.{decimal_by_steps}
use Rattle.lines.specs.Lines.{digit, spelled, decimal}

-- so is what is spelled with room enough for the digits before the last
one : (n : ℕ) → n < 10 → (k : ℕ) → n ≤ k → spelled k n ≡ digit n ∷ []
unfolding spelled
one n h zero l = refl
one n h (suc k) l = rw (lt-ltb n 10 h)

more : (n : ℕ) (front : List ℕ) → 10 ≤ n → ((k : ℕ) → n / 10 ≤ k → spelled k (n / 10) ≡ front) → (k : ℕ) → n ≤ k → spelled k n ≡ front ++ (digit (n % 10) ∷ [])
unfolding spelled
more n front h f zero l = absurd (omega (arith, h, l))
more n front h f (suc k) l = rw (le-ltb n 10 h) (ap (λ (xs : List ℕ). xs ++ (digit (n % 10) ∷ [])) (f k (omega (arith, l))))

pub decimal_digits : (n : ℕ) → n < 2 ^ 64 → decimal n ≡ digits n
unfolding decimal
decimal_digits n h = decimal_by_steps (λ (m : ℕ) (ds : List ℕ). (k : ℕ) → m ≤ k → spelled k m ≡ ds) one more n h n (omega arith)
