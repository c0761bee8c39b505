use Rattle.text.proofs.HexReading.{Checking}
use Rattle.text.proofs.hex.are_pairs.Given as goal

abbrev pub invariant-loop-i : goal.invariant-loop-i
invariant-loop-i l = Checking l.word l.i
