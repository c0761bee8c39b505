use Rattle.tunnel.proofs.Laws.{still_law}
use Rattle.tunnel.proofs.claims.still_law.Goals as goal

pub returns : goal.returns
returns c = still_law
