use Rattle.sessions.proofs.Laws.{slot_law}
use Rattle.sessions.proofs.claims.slot_law.Goals as goal

pub returns : goal.returns
returns c = slot_law
