use Rattle.tunnel.proofs.Laws.{store_law}
use Rattle.tunnel.proofs.claims.store_law.Goals as goal

pub returns : goal.returns
returns c = store_law
