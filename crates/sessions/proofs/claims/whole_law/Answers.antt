use Rattle.sessions.proofs.Laws.{whole_law}
use Rattle.sessions.proofs.claims.whole_law.Goals as goal

pub returns : goal.returns
returns c = whole_law
