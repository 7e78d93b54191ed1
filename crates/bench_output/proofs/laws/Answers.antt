-- `bench_output::laws` ensures that the steps of any input print the whole output.
use Rattle.bench_output.proofs.Steps.{steps_output}
use Rattle.bench_output.proofs.laws.Goals as goal

pub returns : goal.returns
returns c = steps_output
