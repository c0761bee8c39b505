use Rattle.tunnel.proofs.Laws.{created_law}
use Rattle.tunnel.proofs.claims.created_law.Goals as goal

pub returns : goal.returns
returns c = created_law
