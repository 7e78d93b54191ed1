-- The operators of numbers that are not negative, in ℕ.
use Rattle.std.proofs.Common.{◌≡◌, refl, ap, ◌∙◌, ℕ, min, ◌+◌, ◌*◌, ◌-◌, ◌/◌, ◌^◌, ◌≤◌, pos, ◌-ℤ◌, w16, w32}
use Rattle.basicop.specs.Ops.{asr, clamp, add, sub, mult, l_add, l_sub, l_mult, l_shl, round}
use Rattle.basicop.proofs.Ints.{arith_ℤ, sub_ℤ_is}
use Rattle.basicop.proofs.Clamp.{clamp_pos}

pub minus : (a b : ℕ) → b ≤ a → pos a -ℤ pos b ≡ pos (a - b)
minus a b h = omega (arith_ℤ, sub_ℤ_is (pos a) (pos b))

pub asr_pos : (a n : ℕ) → asr (pos a) n ≡ pos (a / 2 ^ n)
unfolding asr
asr_pos a n = refl

pub add_pos : (a b : ℕ) → add (pos a) (pos b) ≡ pos (min (a + b) 32767)
unfolding add
add_pos a b = clamp_pos w16 (a + b)

pub sub_pos : (a b : ℕ) → b ≤ a → sub (pos a) (pos b) ≡ pos (min (a - b) 32767)
unfolding sub
sub_pos a b h = ap (clamp w16) (minus a b h) ∙ clamp_pos w16 (a - b)

pub mult_pos : (a b : ℕ) → mult (pos a) (pos b) ≡ pos (min (a * b / 32768) 32767)
unfolding mult asr
mult_pos a b = clamp_pos w16 (a * b / 32768)

pub l_add_pos : (a b : ℕ) → l_add (pos a) (pos b) ≡ pos (min (a + b) 2147483647)
unfolding l_add
l_add_pos a b = clamp_pos w32 (a + b)

pub l_sub_pos : (a b : ℕ) → b ≤ a → l_sub (pos a) (pos b) ≡ pos (min (a - b) 2147483647)
unfolding l_sub
l_sub_pos a b h = ap (clamp w32) (minus a b h) ∙ clamp_pos w32 (a - b)

pub l_mult_pos : (a b : ℕ) → l_mult (pos a) (pos b) ≡ pos (min (2 * (a * b)) 2147483647)
unfolding l_mult
l_mult_pos a b = clamp_pos w32 (2 * (a * b))

pub l_shl_pos : (a n : ℕ) → l_shl (pos a) (pos n) ≡ pos (min (a * 2 ^ n) 2147483647)
unfolding l_shl
l_shl_pos a n = clamp_pos w32 (a * 2 ^ n)

pub round_pos : (a : ℕ) → round (pos a) ≡ pos (min (a + 32768) 2147483647 / 65536)
unfolding asr
round_pos a = rw (l_add_pos a 32768)
