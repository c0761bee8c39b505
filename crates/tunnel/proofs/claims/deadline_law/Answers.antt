use Rattle.tunnel.proofs.Laws.{deadline_law}
use Rattle.tunnel.proofs.claims.deadline_law.Goals as goal

pub returns : goal.returns
returns c = deadline_law
