use Rattle.demands.proofs.Judged.{inserted_law}
use Rattle.demands.proofs.inserted_law.Goals as goal

pub returns : goal.returns
returns c = inserted_law
