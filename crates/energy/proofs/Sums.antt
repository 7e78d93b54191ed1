-- energy_new: squares never fall, so that the sum clamped at each step is the exact one, held once.
use Rattle.std.proofs.Common.{◌≡◌, refl, sym, ap, ◌∙◌, List, [], ◌∷◌, ℕ, suc, min, ◌+◌, ◌*◌, ◌≤◌, ◌<◌, mul-le-mul, le_refl, not-suc-le-zero, arith, ℤ, pos, negsuc, nat_abs, ◌*ℤ◌, length, ◌≤ℤ◌, ◌<ℤ◌, w32, SFits}
use mathlib.Core.List.{foldl}
use Rattle.std.specs.Int.Signed.{mag, nat_abs-le}
use Rattle.lists.specs.Lists.{eq_z, at}
use Rattle.basicop.specs.Ops.{clamp, asr, quartered, l_mult, l_mac}
use Rattle.basicop.proofs.Ints.{arith_ℤ, le_in, ≤ℤ_antisym}
use Rattle.basicop.proofs.Shift.{asr_same}
use Rattle.basicop.proofs.Clamp.{clamp_pos}
use Rattle.basicop.proofs.Naturals.{asr_pos, l_add_pos}
use Rattle.energy.specs.Energy.{squares, energy}
use Rattle.energy.proofs.Tests.{eq_z_not, either}

-- ---- the exact sum
abbrev pub with_square : ℕ → ℤ → ℕ
with_square s x = s + 2 * (nat_abs x * nat_abs x)

abbrev pub exact : List ℤ → ℕ
exact xs = foldl with_square 0 xs

pub square_is : (x : ℤ) → x *ℤ x ≡ pos (nat_abs x * nat_abs x)
square_is (pos a) = refl
square_is (negsuc a) = refl

-- the greatest is (-32768)²
pub square_most : (x : ℤ) → mag x < 32768 → 2 * (nat_abs x * nat_abs x) ≤ 2147483648
square_most x h = omega (arith, mul-le-mul (nat_abs-le x h) (nat_abs-le x h))

-- of numbers of 16 bits each square is at most that
exact_from : (xs : List ℤ) (a : ℕ) → ((i : ℕ) → i < length xs → mag (at xs i) < 32768) → foldl with_square a xs ≤ a + length xs * 2147483648
exact_from [] a h = omega arith
exact_from (x ∷ xs) a h = omega (arith, exact_from xs (with_square a x) (λ i l. h (suc i) (omega arith)), square_most x (h 0 (omega arith)))

pub exact_most : (xs : List ℤ) → ((i : ℕ) → i < length xs → mag (at xs i) < 32768) → exact xs ≤ length xs * 2147483648
exact_most xs h = omega (arith, exact_from xs 0 h)

mac_is : (a : ℕ) (x : ℤ) → l_mac (pos (min a 2147483647)) x x ≡ pos (min (with_square a x) 2147483647)
unfolding l_mult
mac_is a x =
    rw (square_is x, clamp_pos w32 (2 * (nat_abs x * nat_abs x)), l_add_pos (min a 2147483647) (min (2 * (nat_abs x * nat_abs x)) 2147483647))
    (ap pos (omega arith))

held : (xs : List ℤ) (a : ℕ) → foldl (λ (s x : ℤ). l_mac s x x) (pos (min a 2147483647)) xs ≡ pos (min (foldl with_square a xs) 2147483647)
held [] a = refl
held (x ∷ xs) a = rw (mac_is a x) (held xs (with_square a x))

pub squares_is : (xs : List ℤ) → squares xs ≡ pos (min (exact xs) 2147483647)
unfolding squares
squares_is xs = held xs 0

pub squares_held : (xs : List ℤ) → clamp w32 (pos (exact xs)) ≡ squares xs
squares_held xs = clamp_pos w32 (exact xs) ∙ sym (squares_is xs)

-- the first square is in it
sum_from : (xs : List ℤ) (a : ℕ) → a ≤ foldl with_square a xs
sum_from [] a = le_refl a
sum_from (x ∷ xs) a = omega (arith, sum_from xs (with_square a x))

pub squares_start : (xs : List ℤ) → 0 < length xs → pos (min (2 * (nat_abs (at xs 0) * nat_abs (at xs 0))) 2147483647) ≤ℤ squares xs
squares_start [] p = absurd (not-suc-le-zero p)
squares_start (x ∷ xs) p = rw (squares_is (x ∷ xs)) (le_in (omega (arith, sum_from xs (with_square 0 x))))

-- ---- the range of a sum and of an energy: 0 to 2147483647
pub record Energetic (z : ℤ) : Type 0 where
  pub from : pos 0 ≤ℤ z
  pub fits : SFits w32 z

pub squares_range : (xs : List ℤ) → Energetic (squares xs)
squares_range xs = rw (squares_is xs) (record { from = le_in (omega arith); fits = record { sfits = omega arith } })

shifted : (xs : List ℤ) → Energetic (asr (squares xs) 4)
shifted xs = record { from = rw (squares_is xs, asr_pos _ 4) (le_in (omega arith)); fits = asr_same w32 (squares xs) 4 (squares_range xs).fits }

pub energy_range : (xs : List ℤ) → Energetic (energy xs)
unfolding energy
energy_range xs = either Energetic (eq_z (squares xs) (pos 2147483647)) (squares_range _) (shifted xs)

pub energy_none : (xs : List ℤ) → energy xs ≤ℤ pos 0 → energy xs ≡ pos 0
energy_none xs h = ≤ℤ_antisym h (energy_range xs).from

-- ---- the test, as the code makes it
pub energy_again : (xs : List ℤ) → pos 2147483646 <ℤ squares xs → squares (quartered xs) ≡ energy xs
unfolding energy
energy_again xs h =
    let e : squares xs ≡ pos 2147483647 = squares_is xs ∙ ap pos (omega (arith_ℤ, rw (squares_is xs) at h)) in
    rw e

pub energy_once : (xs : List ℤ) → squares xs ≤ℤ pos 2147483646 → asr (squares xs) 4 ≡ energy xs
unfolding energy
energy_once xs h = rw (eq_z_not (squares xs) (pos 2147483647) less)
  where
    less : squares xs ≡ pos 2147483647 → ⊥
    less e = omega (arith_ℤ, h, e)
