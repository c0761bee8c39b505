-- The theorem of the law that src/lib.rt ties: what another crate may cite of these proofs.
-- Assumes nothing.
use Rattle.std.proofs.Common.{◌<◌, arith}
use Rattle.error.specs.declared.Error.{Error}
use Rattle.error.specs.Error.{error_number, PositiveLaw}

pub positive_law : PositiveLaw
positive_law e = grind arith
