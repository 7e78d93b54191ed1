-- The clamped steps (Synthesis.antt) and the whole numbers (Whole.antt) say the same. The theorem is `agree` in proofs/Agree.antt:
-- for any number of taps m, any row a, any excitation xs and any history h of m numbers, in the range of 16 bits or not.
use Rattle.std.specs.Prelude.{ℕ, ◌≡◌, false, List, ℤ, take}
use Rattle.synthesis.specs.Synthesis.{samples, overflowed, overflowed_at}
use Rattle.synthesis.specs.Whole.{whole_samples, retried, retried_at}

pub record Agree (m : ℕ) (a xs h : List ℤ) : Type 0 where
  -- the first sample at which a step clamps is the first at which a whole number lies outside the 32-bit range
  pub place : overflowed_at m a xs h ≡ retried_at m a xs h
  -- a step clamps where, and only where, some whole number lies outside
  pub flag : overflowed m a xs h ≡ retried m a xs h
  -- the samples before that place are the same
  pub before : take (retried_at m a xs h) (samples m a xs h) ≡ take (retried_at m a xs h) (whole_samples m a xs h)
  -- where no number lies outside all of them are
  pub all : retried m a xs h ≡ false → samples m a xs h ≡ whole_samples m a xs h
