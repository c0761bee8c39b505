use Rattle.tunnel.proofs.Laws.{ahead_example}
use Rattle.tunnel.proofs.claims.ahead_example.Goals as goal

pub returns : goal.returns
returns c = ahead_example
