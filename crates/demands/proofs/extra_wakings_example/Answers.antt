use Rattle.demands.proofs.WakingsExample.{extra_wakings_example}
use Rattle.demands.proofs.extra_wakings_example.Goals as goal

pub returns : goal.returns
returns c = extra_wakings_example
