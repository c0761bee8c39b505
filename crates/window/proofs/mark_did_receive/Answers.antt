use Rattle.window.proofs.Steps.{way_wrong}
use Rattle.window.proofs.mark_did_receive.Goals as goal

pub returns-in-None : goal.returns-in-None
returns-in-None c = way_wrong _ _ _ _ c.in-None.ensures.cases c.refused.ensures
