use Rattle.sessions.proofs.Laws.{next_index_law}
use Rattle.sessions.proofs.claims.next_index_law.Goals as goal

pub returns : goal.returns
returns c = next_index_law
