use Rattle.access.proofs.Laws.{trainer_law}
use Rattle.access.proofs.claims.trainer_law.Goals as goal

pub returns : goal.returns
returns c = trainer_law
