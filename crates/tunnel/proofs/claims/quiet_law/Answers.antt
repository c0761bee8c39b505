use Rattle.tunnel.proofs.Laws.{quiet_law}
use Rattle.tunnel.proofs.claims.quiet_law.Goals as goal

pub returns : goal.returns
returns c = quiet_law
