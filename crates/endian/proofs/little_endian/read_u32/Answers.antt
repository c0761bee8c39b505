use Rattle.endian.proofs.LittleEndian.{from_chunk}
use Rattle.endian.proofs.little_endian.read_u32.Goals as goal

pub returns : goal.returns
returns c = from_chunk _ _ _ 3 (rw c.unwrap.ensures at c.try_into.ensures).1 c.from_le_bytes.ensures
