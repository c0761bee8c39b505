use Rattle.text.proofs.HexReading.{Storing}
use Rattle.text.proofs.hex.read_pairs.Given as goal

abbrev pub invariant-loop-i : goal.invariant-loop-i
invariant-loop-i l = Storing l.word l.initial.bytes l.bytes l.i
