use Rattle.sessions.proofs.Laws.{empty_batch_law}
use Rattle.sessions.proofs.claims.empty_batch_law.Goals as goal

pub returns : goal.returns
returns c = empty_batch_law
