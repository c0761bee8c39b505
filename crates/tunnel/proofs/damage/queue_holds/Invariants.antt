use Rattle.tunnel.proofs.QueueLoop.{QueueYet}
use Rattle.tunnel.proofs.damage.queue_holds.Given as goal

abbrev pub invariant-loop-i : goal.invariant-loop-i
invariant-loop-i l = QueueYet l.events l.greatest l.i
