use Rattle.script.proofs.Telling.{prints_more}
use Rattle.script.proofs.answer.put_numbers.Goals as goal

pub loop-number-preserved : goal.loop-number-preserved
loop-number-preserved c = prints_more _ _ _ _ _ c.loop-number-test.true c.loop-number.invariant c.put_number.ensures
