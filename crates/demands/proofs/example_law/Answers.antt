use Rattle.demands.proofs.Example.{example_law}
use Rattle.demands.proofs.example_law.Goals as goal

pub returns : goal.returns
returns c = example_law
