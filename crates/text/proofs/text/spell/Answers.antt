use native.Mathlib.Omega.{arith}
use Rattle.text.proofs.Digits.{spelling_ends, spelling_more}
use Rattle.text.proofs.text.spell.Goals as goal

pub returns-then-rest-eq0 : goal.returns-then-rest-eq0
returns-then-rest-eq0 c = spelling_ends _ _ _ _ c.loop-i.invariant (omega arith) c.if-rest-eq0.true

pub loop-i-preserved : goal.loop-i-preserved
loop-i-preserved c = spelling_more _ _ _ _ c.loop-i.invariant (omega arith) c.if-rest-eq0.false
