use Rattle.access.proofs.Laws.{outside_law}
use Rattle.access.proofs.claims.outside_law.Goals as goal

pub returns : goal.returns
returns c = outside_law
