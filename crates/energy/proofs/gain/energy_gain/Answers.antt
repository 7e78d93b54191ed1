-- `energy_gain` meets its contract: the energies are positive where the ratio is taken.
use Rattle.std.proofs.Common.{◌≡◌, ◌∙◌, pos, ◌<ℤ◌, w16, w32, to_z, of_z}
use Rattle.lists.proofs.Signed.{got}
use Rattle.basicop.proofs.Tests.{at_most_yes, at_most_no}
use Rattle.energy.specs.Energy.{energy}
use Rattle.energy.proofs.Sums.{energy_none}
use Rattle.energy.proofs.Gains.{gain_none, gain_some}
use Rattle.energy.proofs.gain.energy_gain.Goals as goal
use Rattle.energy.proofs.gain.energy_gain.Goals.{After-energy-output_energy, After-energy-input_energy, Else-output_energy-le0, Else-input_energy-le0}

output : (c : After-energy-output_energy) → to_z w32 (of_z w32 c.energy-output_energy.result) ≡ energy c.args.output
output c = got w32 c.energy-output_energy.type_inv c.energy-output_energy.ensures

input : (c : After-energy-input_energy) → to_z w32 (of_z w32 c.energy-input_energy.result) ≡ energy c.args.input
input c = got w32 c.energy-input_energy.type_inv c.energy-input_energy.ensures

loud : (c : Else-output_energy-le0) → pos 0 <ℤ energy c.args.output
loud c = at_most_no _ (pos 0) (rw (output c.before) at c.if-output_energy-le0.false)

above : (c : Else-input_energy-le0) → pos 0 <ℤ energy c.args.input
above c = at_most_no _ (pos 0) (rw (input c.before) at c.if-input_energy-le0.false)

pub returns-then-output_energy-le0 : goal.returns-then-output_energy-le0
returns-then-output_energy-le0 c = energy_none c.args.output (at_most_yes (rw (output c.before) at c.if-output_energy-le0.true))

pub returns-then-input_energy-le0 : goal.returns-then-input_energy-le0
returns-then-input_energy-le0 c =
    let i = energy_none c.args.input (at_most_yes (rw (input c.before) at c.if-input_energy-le0.true)) in
    (loud c.before.before, gain_none (energy c.args.output) (energy c.args.input) i)

pub energy_ratio-ratio-requires : goal.energy_ratio-ratio-requires
energy_ratio-ratio-requires c = rw (output c.before.before.before, input c.before) (loud c.before.before, above c)

pub returns : goal.returns
returns c =
    let e = c.before.before.before in
    let o = e.before.before in
    let ratio = rw (output o.before, input e.before) at (got w32 c.energy_ratio-ratio.type_inv c.energy_ratio-ratio.ensures) in
    let gain = rw (got w32 c.inverse_sqrt.type_inv c.inverse_sqrt.ensures, ratio) at (got w16 c.rounded.type_inv c.rounded.ensures) in
    (loud o, gain ∙ gain_some (energy c.args.output) (energy c.args.input) (above e))
