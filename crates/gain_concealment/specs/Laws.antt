-- What may be relied on of the median and of the gains: `median`, `conceal` and `update_good` ensure it.
use Rattle.std.specs.Prelude.{List, ℕ, ◌+◌, ◌<◌, ℤ, pos, length, ◌≤ℤ◌}
use mathlib.Core.List.{Perm}
use Rattle.lists.specs.Lists.{at, Every}
use Rattle.basicop.specs.declared.Gains.{Gains}
use Rattle.gain_concealment.specs.declared.GainConcealment.{GainConcealment}
use Rattle.gain_concealment.specs.declared.UsedGains.{UsedGains}
use Rattle.gain_concealment.specs.Median.{sorted}

-- ---- the third of the five in order: `sorted` has the same numbers, and they rise
pub record InOrder (xs : List ℤ) : Type 0 where
  pub same : Perm xs (sorted xs)
  pub rises : (k : ℕ) → k + 1 < length (sorted xs) → at (sorted xs) k ≤ℤ at (sorted xs) (k + 1)

-- ---- gains that are not negative, and stay so
pub record NotNegative (gains : Gains) : Type 0 where
  pub pitch : pos 0 ≤ℤ gains.pitch.0
  pub code : pos 0 ≤ℤ gains.code.0

pub record Kept (c : GainConcealment) : Type 0 where
  pub pitch_history : Every (λ (g : ℤ). pos 0 ≤ℤ g) c.pitch_history
  pub code_history : Every (λ (g : ℤ). pos 0 ≤ℤ g) c.code_history
  pub past : NotNegative c.past
  pub last_good : NotNegative c.last_good

-- concealed gains lie in 0..=32766
pub record Concealed (u : UsedGains) : Type 0 where
  pub pitch : (pos 0 ≤ℤ u.gains.pitch.0) × (u.gains.pitch.0 ≤ℤ pos 32766)
  pub code : (pos 0 ≤ℤ u.gains.code.0) × (u.gains.code.0 ≤ℤ pos 32766)
  pub next : Kept u.next

-- the gains of a subframe, and what goes on, are not negative
pub record Used (u : UsedGains) : Type 0 where
  pub gains : NotNegative u.gains
  pub next : Kept u.next
