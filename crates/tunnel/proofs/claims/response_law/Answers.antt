use Rattle.tunnel.proofs.Laws.{response_law}
use Rattle.tunnel.proofs.claims.response_law.Goals as goal

pub returns : goal.returns
returns c = response_law
