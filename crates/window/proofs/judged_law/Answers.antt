use Rattle.window.proofs.Laws.{judged_law}
use Rattle.window.proofs.judged_law.Goals as goal

pub returns : goal.returns
returns c = judged_law
