use Rattle.window.proofs.Laws.{standing_law}
use Rattle.window.proofs.standing_law.Goals as goal

pub returns : goal.returns
returns c = standing_law
