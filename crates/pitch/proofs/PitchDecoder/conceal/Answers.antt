-- `PitchDecoder::conceal` meets its contract: below 143 a sample more, from there on the lag before.
use Rattle.std.proofs.Common.{sym}
use Rattle.pitch.proofs.Lags.{concealed_below, concealed_from}
use Rattle.pitch.proofs.PitchDecoder.conceal.Goals as goal

pub returns-then-short : goal.returns-then-short
returns-then-short c = sym (concealed_below c.args.self.previous.samples c.if-short.true)

pub returns-else-short : goal.returns-else-short
returns-else-short c = sym (concealed_from c.args.self.previous.samples c.if-short.false)
