use Rattle.tunnel.proofs.Laws.{queue_law}
use Rattle.tunnel.proofs.ring_buffer.queue_law.Goals as goal

pub returns : goal.returns
returns c = queue_law
