use lib.Bits.{and_mask}
use Rattle.tunnel.proofs.ring_buffer.place_of.Goals as goal

pub returns : goal.returns
returns c = and_mask _ 4
