use Rattle.access.proofs.Laws.{rights_law}
use Rattle.access.proofs.claims.rights_law.Goals as goal

pub returns : goal.returns
returns c = rights_law
