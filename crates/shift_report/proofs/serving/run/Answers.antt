-- `shift_report::run` meets its contract: a round adds its sheet and leaves the rounds after it; there are as many as the limit says.
use Rattle.std.proofs.Common.{◌-◌, ◌+◌, ◌*◌, arith}
use Rattle.shift_report.proofs.Running.{running_none, running_more, running_last, running_all}
use Rattle.shift_report.proofs.Taken.{taken_none, taken_more, taken_within}
use Rattle.shift_report.proofs.serving.run.Goals as goal

pub loop-init : goal.loop-init
loop-init g c = record { running = running_none _ _ _ c.zeros-totals.ensures; taken = taken_none _ }

pub add-totals-requires : goal.add-totals-requires
add-totals-requires g c =
    let before = c.loop.invariant.running in
    let step = c.in_ok-step.ensures in
    (before.bounded, step.bounded, omega (arith, before.counted, step.counted))

pub loop-preserved : goal.loop-preserved
loop-preserved g c =
    let before = c.loop.invariant in
    let step = c.in_ok-step.ensures in
    let (came, took, made) = step.sheet in
    record {
      running = rw c.add-totals.ensures.sum
          (running_more _ _ _ _ _ _ _ (65535 - (c.loop.counter + 1)) _ _ _ before.running c.in-Some.is step.sheet step.bounded step.counted (omega arith));
      taken = taken_more _ _ _ (364 * c.loop.counter) 364 _ came before.taken took (omega arith);
    }

pub returns-after-loop-clause-totals : goal.returns-after-loop-clause-totals
returns-after-loop-clause-totals g c = running_all _ _ _ _ _ _ _ c.loop.invariant.running (omega arith)

pub returns-in_default-clause-totals : goal.returns-in_default-clause-totals
returns-in_default-clause-totals g c = running_last _ _ _ _ _ _ _ c.loop.invariant.running c.in_default.is

pub returns-in_default-clause-limit : goal.returns-in_default-clause-limit
returns-in_default-clause-limit g c = taken_within _ _ _ _ c.loop.invariant.taken (omega arith)
