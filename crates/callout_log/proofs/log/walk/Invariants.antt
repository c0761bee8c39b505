use Rattle.callout_log.proofs.Walking.{Walking}
use Rattle.callout_log.proofs.log.walk.Given as goal

abbrev pub invariant-loop-end : goal.invariant-loop-end
invariant-loop-end l = Walking l.bytes l.end l.callouts l.records

abbrev pub decreases-loop-end : goal.decreases-loop-end
decreases-loop-end l = l.end
