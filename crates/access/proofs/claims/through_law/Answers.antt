use Rattle.access.proofs.Laws.{through_law}
use Rattle.access.proofs.claims.through_law.Goals as goal

pub returns : goal.returns
returns c = through_law
