-- `adaptive::extended` meets its contract: n samples are made, and `plain` is the test of all that stands.
use Rattle.std.proofs.Common.{refl, sym, ap, ◌∙◌, ◌+◌, ◌/◌, rules, arith, pos, ◌-ℤ◌, [], take, get_or, take_at, ◌≡◌, w16}
use Rattle.lists.proofs.Signed.{got}
use Rattle.lists.proofs.Grow.{grown_none, grown_more, grown_done}
use Rattle.pitch.specs.Lag.{lag_of}
use Rattle.adaptive.specs.Predict.{coefficient, extended, phase}
use Rattle.adaptive.specs.Inner.{left_of, right_of, quiet}
use Rattle.adaptive.proofs.Places.{start_range}
use Rattle.adaptive.proofs.Taps.{lag_row}
use Rattle.adaptive.proofs.Samples.{sample_same}
use Rattle.adaptive.proofs.Tested.{tested_yes, tested_more}
use Rattle.adaptive.proofs.extended.Goals as goal

pub loop-n-init : goal.loop-n-init
loop-n-init c =
    let front : take 154 c.padded-buffer.result ≡ c.args.history = rw c.padded-buffer.ensures (take_at c.args.history _ 154 (search rules)) in
    (search rules, (grown_none (search rules) front, record { is = c.quiet-plain.ensures ∙ sym (ap quiet front) }))

pub overflow_add-start : goal.overflow_add-start
overflow_add-start c =
    let range = start_range c.args.lag _ c.requires.0 c.requires.1 c.start_of-start.ensures in
    record { fits = omega (arith, range.1, c.loop-n-test.true) }

pub sample-y-requires : goal.sample-y-requires
sample-y-requires c =
    let range = start_range c.args.lag _ c.requires.0 c.requires.1 c.start_of-start.ensures in
    let row = lag_row c.args.lag _ _ c.phase_of.ensures.value c.all_taps-rows.ensures in
    record {
      places = (omega (arith, range.0), omega (arith, range.1, c.loop-n-test.true));
      quiet = (row.light, tested_yes c.loop-n.invariant.1.1 (c.start_of-start.result + c.loop-n.n + 11) (omega (arith, range.1)));
    }

pub loop-n-preserved : goal.loop-n-preserved
loop-n-preserved c =
    let range = start_range c.args.lag _ c.requires.0 c.requires.1 c.start_of-start.ensures in
    let row = lag_row c.args.lag _ _ c.phase_of.ensures.value c.all_taps-rows.ensures in
    let n = c.loop-n.n in
    let f = phase (lag_of c.args.lag) in
    let taps = get_or c.all_taps-rows.result (c.phase_of.result / 2) [] in
    let all = c.loop-n.invariant.1 in
    let here = sample_same c.loop-n.buffer (c.start_of-start.result + n) (154 + n) (left_of taps) (coefficient f) (right_of taps) (coefficient (pos 6 -ℤ f)) (omega (arith, range.0)) (omega (arith, range.1)) row.left row.right c.sample-y.ensures in (
      omega (arith, c.loop-n-test.true),
      (
        grown_more all.0 (got w16 c.sample-y.type_inv here) (omega (arith, c.loop-n-test.true)),
        tested_more _ all.1 (omega (arith, all.0.room, c.loop-n-test.true)) c.large.ensures (omega arith),
      ),
    )

pub returns : goal.returns
unfolding extended
returns c = grown_done c.loop-n.invariant.1.0 40 (search rules) refl ∙ rw c.start_of-start.ensures
