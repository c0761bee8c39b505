use Rattle.window.proofs.Laws.{fresh_law}
use Rattle.window.proofs.fresh_law.Goals as goal

pub returns : goal.returns
returns c = fresh_law
