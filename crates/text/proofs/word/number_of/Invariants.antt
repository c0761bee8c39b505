use Rattle.text.proofs.Digits.{Counting}
use Rattle.text.proofs.word.number_of.Given as goal

abbrev pub invariant-loop-byte : goal.invariant-loop-byte
invariant-loop-byte l = Counting l.word l.value l.byte-index
