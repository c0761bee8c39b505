use Rattle.tunnel.proofs.Laws.{settle_law}
use Rattle.tunnel.proofs.claims.settle_law.Goals as goal

pub returns : goal.returns
returns c = settle_law
