use Rattle.demands.proofs.Judged.{batch_law}
use Rattle.demands.proofs.batch_law.Goals as goal

pub returns : goal.returns
returns c = batch_law
