-- `energy_ratio` meets its contract: for positive energies the division is in order.
use Rattle.std.proofs.Common.{◌≡◌, w16, w32, to_z, of_z, to_z-of_z}
use Rattle.lists.proofs.Signed.{got}
use Rattle.basicop.specs.Ops.{norm_l}
use Rattle.energy.specs.Gain.{exp_out, gain_out, gain_in}
use Rattle.energy.proofs.Gains.{gain_divides_lem}
use Rattle.energy.proofs.gain.energy_ratio.Goals as goal
use Rattle.energy.proofs.gain.energy_ratio.Goals.{After-norm_l-input_exponent, After-rounded-gain_in, After-rounded-gain_out, After-sub-exponent}

-- what the two exponents and the two operands read as
exponent : (c : After-sub-exponent) → to_z w16 (of_z w16 c.sub-exponent.result) ≡ exp_out c.args.output_energy
exponent c =
    rw (got w16 c.norm_l.type_inv c.norm_l.ensures, to_z-of_z c.ranges.output_energy) at (got w16 c.sub-exponent.type_inv c.sub-exponent.ensures)

numerator : (c : After-rounded-gain_out) → to_z w16 (of_z w16 c.rounded-gain_out.result) ≡ gain_out c.args.output_energy
numerator c = rw (exponent c.before, to_z-of_z c.ranges.output_energy) at (got w16 c.rounded-gain_out.type_inv c.rounded-gain_out.ensures)

input_exponent : (c : After-norm_l-input_exponent) → to_z w16 (of_z w16 c.norm_l-input_exponent.result) ≡ norm_l c.args.input_energy
input_exponent c = rw (to_z-of_z c.ranges.input_energy) at (got w16 c.norm_l-input_exponent.type_inv c.norm_l-input_exponent.ensures)

divisor : (c : After-rounded-gain_in) → to_z w16 (of_z w16 c.rounded-gain_in.result) ≡ gain_in c.args.input_energy
divisor c = rw (input_exponent c.before, to_z-of_z c.ranges.input_energy) at (got w16 c.rounded-gain_in.type_inv c.rounded-gain_in.ensures)

pub div_s-requires : goal.div_s-requires
div_s-requires c =
    rw (numerator c.before.before, divisor c) (gain_divides_lem c.args.output_energy c.args.input_energy c.requires.0 c.ranges.output_energy c.requires.1 c.ranges.input_energy)

pub returns : goal.returns
returns c =
    let e = c.before in
    let q = e.before in
    let d = q.before in
    rw (got w16 c.div_s.type_inv c.div_s.ensures, got w16 c.sub.type_inv c.sub.ensures, numerator d.before.before, divisor d, exponent d.before.before.before, input_exponent d.before) at (got w32 c.scaled_ratio.type_inv c.scaled_ratio.ensures)
