-- `doubled_square` meets its contract: twice a square of 16 bits is at most 2 ^ 31.
use Rattle.std.proofs.Common.{◌≡◌, refl, arith, pos, ◌*ℤ◌, w16, w64, SFits, to_z, of_z, to_z-of_z}
use Rattle.basicop.proofs.Range.{sfits_mul, sfits_scale, widened}
use Rattle.energy.proofs.Sums.{square_is, square_most}
use Rattle.energy.proofs.sum.doubled_square.Goals as goal
use Rattle.energy.proofs.sum.doubled_square.Goals.{Start}

wide : (c : Start) → to_z w64 (of_z w64 (to_z w16 (of_z w16 c.args.sample))) ≡ c.args.sample
wide c = widened w16 w64 c.args.sample c.ranges.sample tt

square : (c : Start) → SFits w64 (c.args.sample *ℤ c.args.sample)
square c = sfits_mul w64 c.args.sample c.args.sample 32768 32768 c.ranges.sample.sfits c.ranges.sample.sfits tt

double : (c : Start) → SFits w64 (pos 2 *ℤ (c.args.sample *ℤ c.args.sample))
double c = sfits_scale w64 2 c.args.sample c.args.sample 32768 32768 c.ranges.sample.sfits c.ranges.sample.sfits tt

pub overflow_mul-result : goal.overflow_mul-result
overflow_mul-result c = rw (wide c) (square c)

pub overflow_mul-result-2 : goal.overflow_mul-result-2
overflow_mul-result-2 c = rw (wide c, to_z-of_z (square c)) (double c)

pub overflow_cast-result : goal.overflow_cast-result
overflow_cast-result c =
    rw (wide c, to_z-of_z (square c), to_z-of_z (double c), square_is c.args.sample) (tt, record { fits = omega (arith, square_most c.args.sample c.ranges.sample.sfits) })

pub returns : goal.returns
returns c =
    rw (wide c, to_z-of_z (square c), to_z-of_z (double c), square_is c.args.sample) (refl, square_most c.args.sample c.ranges.sample.sfits)
