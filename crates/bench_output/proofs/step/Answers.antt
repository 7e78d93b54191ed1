-- `bench_output::step` meets its contract where there is no whole sheet: nothing was read, or some of one.
use Rattle.std.proofs.Common.{◌≡◌, rules, length}
use Rattle.bench_output.proofs.Answers.{step_none, step_cut}
use Rattle.bench_output.proofs.step.Goals as goal

pub returns-in-None : goal.returns-in-None
returns-in-None c =
    let nothing : length c.args.bytes.now ≡ 0 = search rules in
    rw c.new.ensures (step_none c.args.carried c.args.bytes.now nothing)

pub returns-in-None-2 : goal.returns-in-None-2
returns-in-None-2 c =
    let some : ¬ (length c.args.bytes.now ≡ 0) = search rules in
    let short : ¬ (length c.args.bytes.now ≡ 364) = search rules in
    step_cut c.args.carried c.args.bytes.now _ some short c.cut_line.ensures
