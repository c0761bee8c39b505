use Rattle.error.proofs.Laws.{positive_law}
use Rattle.error.proofs.positive_law.Goals as goal

pub returns : goal.returns
returns c = positive_law
