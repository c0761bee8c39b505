use Rattle.demands.proofs.WakingsExample.{conditions_needed}
use Rattle.demands.proofs.conditions_needed.Goals as goal

pub returns : goal.returns
returns c = conditions_needed
