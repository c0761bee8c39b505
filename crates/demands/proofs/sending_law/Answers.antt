use Rattle.demands.proofs.Sending.{sending_law}
use Rattle.demands.proofs.sending_law.Goals as goal

pub returns : goal.returns
returns c = sending_law
