use Rattle.tunnel.proofs.Laws.{event_law}
use Rattle.tunnel.proofs.claims.event_law.Goals as goal

pub returns : goal.returns
returns c = event_law
