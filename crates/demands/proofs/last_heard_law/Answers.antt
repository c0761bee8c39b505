use Rattle.demands.proofs.LastHeard.{last_heard_lem}
use Rattle.demands.proofs.last_heard_law.Goals as goal

pub returns : goal.returns
returns c = last_heard_lem
