use Rattle.window.proofs.Laws.{window_law}
use Rattle.window.proofs.window_law.Goals as goal

pub returns : goal.returns
returns c = window_law
