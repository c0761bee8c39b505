use Rattle.demands.proofs.Receiving.{only_live_law}
use Rattle.demands.proofs.only_live_law.Goals as goal

pub returns : goal.returns
returns c = only_live_law
