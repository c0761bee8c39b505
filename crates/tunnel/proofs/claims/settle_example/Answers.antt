use Rattle.tunnel.proofs.Laws.{settle_example}
use Rattle.tunnel.proofs.claims.settle_example.Goals as goal

pub returns : goal.returns
returns c = settle_example
