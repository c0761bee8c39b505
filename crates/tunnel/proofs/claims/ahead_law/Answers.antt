use Rattle.tunnel.proofs.Laws.{ahead_law}
use Rattle.tunnel.proofs.claims.ahead_law.Goals as goal

pub returns : goal.returns
returns c = ahead_law
