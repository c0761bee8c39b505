use Rattle.sessions.proofs.Batches.{Going}
use Rattle.sessions.proofs.batch.finish_all.Given as goal

abbrev pub invariant-loop-i : goal.invariant-loop-i
invariant-loop-i l = Going l.initial.words l.initial.progress l.counters l.kinds l.words l.verdicts l.skips l.progress l.i
