use Rattle.demands.proofs.Missing.{count_law}
use Rattle.demands.proofs.count_law.Goals as goal

pub returns : goal.returns
returns c = count_law
