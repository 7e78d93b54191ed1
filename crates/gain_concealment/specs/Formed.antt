-- Numbers of 16 bits: what every concealment of gains holds that the code can hold.
use Rattle.std.specs.Int.{w16}
use Rattle.std.proofs.Common.{SFits}
use Rattle.basicop.specs.Words.{Words}
use Rattle.basicop.specs.declared.Gains.{Gains}
use Rattle.gain_concealment.specs.declared.GainConcealment.{GainConcealment}

pub record PairFormed (p : Gains) : Type 0 where
  pub pitch : SFits w16 p.pitch.0
  pub code : SFits w16 p.code.0

pub record GainsFormed (c : GainConcealment) : Type 0 where
  pub pitch_history : Words 5 c.pitch_history
  pub code_history : Words 5 c.code_history
  pub past : PairFormed c.past
  pub last_good : PairFormed c.last_good
