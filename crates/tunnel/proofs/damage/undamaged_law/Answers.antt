use Rattle.tunnel.proofs.Laws.{undamaged_law}
use Rattle.tunnel.proofs.damage.undamaged_law.Goals as goal

pub returns : goal.returns
returns c = undamaged_law
