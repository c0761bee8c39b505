use Rattle.demands.proofs.Receiving.{receiving_law}
use Rattle.demands.proofs.receiving_law.Goals as goal

pub returns : goal.returns
returns c = receiving_law
