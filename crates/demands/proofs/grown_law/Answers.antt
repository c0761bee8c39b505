use Rattle.demands.proofs.Grown.{grown}
use Rattle.demands.proofs.grown_law.Goals as goal

pub returns : goal.returns
returns c = grown
