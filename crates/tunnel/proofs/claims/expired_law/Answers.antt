use Rattle.tunnel.proofs.Laws.{expired_law}
use Rattle.tunnel.proofs.claims.expired_law.Goals as goal

pub returns : goal.returns
returns c = expired_law
