use Rattle.tunnel.proofs.Laws.{numbers_law}
use Rattle.tunnel.proofs.claims.numbers_law.Goals as goal

pub returns : goal.returns
returns c = numbers_law
