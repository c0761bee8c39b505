use native.Mathlib.Omega.{arith}
use Rattle.text.proofs.HexReading.{hex_none, hex_dash, hex_other, long_read}
use Rattle.text.proofs.hex.read_hex.Goals as goal

pub returns-in-45-clause-read : goal.returns-in-45-clause-read
returns-in-45-clause-read c = hex_dash _ _ (omega arith) (omega arith) (omega arith)

pub returns-in-len2-up-clause-read : goal.returns-in-len2-up-clause-read
returns-in-len2-up-clause-read c = rw (← long_read c.args.word.now (omega arith)) c.read_pairs.ensures.read

pub returns-in_default-clause-read : goal.returns-in_default-clause-read
returns-in_default-clause-read c = hex_none _ _ (omega arith)

pub returns-in_default-2-clause-read : goal.returns-in_default-2-clause-read
returns-in_default-2-clause-read c = hex_other _ _ (omega arith) (omega arith) (λ e. omega arith)
