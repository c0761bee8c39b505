-- The theorems of the laws that src/little_endian.rt ties: what another crate may cite of these proofs.
-- Assumes nothing.
use Rattle.endian.specs.LittleEndian.{LittleEndianLaw}
use Rattle.endian.proofs.LittleEndian.{to_size, to_byte, to_from, from_bound, from_to, to_part}

-- numbers and bytes of every width are made of each other
pub little_endian_law : LittleEndianLaw
little_endian_law = record { size = to_size; byte = to_byte; number = to_from; bound = from_bound; bytes = from_to; part = to_part }
