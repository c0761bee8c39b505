use Rattle.std.proofs.Common.{take}
use Rattle.script.specs.Answer.{numbers_text}
use Rattle.text.specs.Text.{Prints}
use Rattle.script.proofs.answer.put_numbers.Given as goal

abbrev pub invariant-loop-number : goal.invariant-loop-number
invariant-loop-number l = Prints l.initial.out (numbers_text (take l.number-index l.numbers)) l.out
