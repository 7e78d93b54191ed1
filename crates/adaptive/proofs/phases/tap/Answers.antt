-- `adaptive::tap` meets its contract: to the left and to the right, the place read in the table is the definition's.
use Rattle.std.proofs.Common.{◌∙◌, ◌+◌, ◌*◌, ◌-◌, arith, to_z-of_z}
use Rattle.adaptive.specs.Predict.{inter6}
use Rattle.adaptive.proofs.Table.{inter6_fits}
use Rattle.adaptive.proofs.Taps.{tap_left, tap_right}
use Rattle.adaptive.proofs.phases.tap.Goals as goal

pub returns-then-j-lt10 : goal.returns-then-j-lt10
unfolding inter6
returns-then-j-lt10 c =
    let f = c.args.phase in
    let j = c.args.j in
    to_z-of_z (inter6_fits (f + 6 * (9 - j)) (omega (arith, c.requires.0))) ∙ tap_left f j c.if-j-lt10.true

pub returns-else-j-lt10 : goal.returns-else-j-lt10
unfolding inter6
returns-else-j-lt10 c =
    let f = c.args.phase in
    let j = c.args.j in
    to_z-of_z (inter6_fits (6 - f + 6 * (j - 10)) (omega (arith, c.requires))) ∙ tap_right f j c.requires.0 c.if-j-lt10.false
