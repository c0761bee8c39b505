use Rattle.tunnel.proofs.Laws.{greatest_law}
use Rattle.tunnel.proofs.claims.greatest_law.Goals as goal

pub returns : goal.returns
returns c = greatest_law
