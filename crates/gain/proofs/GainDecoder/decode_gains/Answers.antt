-- `decode_gains` meets its contract: the row's numbers, the code gain of the predicted gain, and the row's energy entered.
use Rattle.std.proofs.Common.{ℕ, pos, w16, SFits, to_z-of_z, rules}
use Rattle.lists.specs.Lists.{at}
use Rattle.lists.proofs.Signed.{entry_fits}
use Rattle.gain.proofs.Signs.{fraction_in}
use Rattle.gain.proofs.Results.{gains_made}
use Rattle.gain.proofs.GainDecoder.decode_gains.Goals as goal

pub code_gain-requires : goal.code_gain-requires
code_gain-requires c = rw c.predict-predicted.ensures (fraction_in _ _ _).0

pub returns : goal.returns
returns c =
    let each : (k : ℕ) → SFits w16 (at c.gain_row.result k) = λ k. search (rules, entry_fits) in
    rw (to_z-of_z (each 0))
    (gains_made c.args.tables.logs.now c.args.tables.pows.now (pos c.args.index) c.args.innovation.0 c.args.self.energies c.gain_row.ensures.value c.predict-predicted.ensures (rw (to_z-of_z (each 1)) at c.code_gain.ensures) (rw (to_z-of_z (each 2)) at c.enter.ensures))
