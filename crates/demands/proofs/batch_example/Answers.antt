use Rattle.demands.proofs.BatchExample.{batch_example}
use Rattle.demands.proofs.batch_example.Goals as goal

pub returns : goal.returns
returns c = batch_example
