use Rattle.tunnel.proofs.Laws.{refusals_law}
use Rattle.tunnel.proofs.claims.refusals_law.Goals as goal

pub returns : goal.returns
returns c = refusals_law
