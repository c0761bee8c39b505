use Rattle.callout_log.proofs.Walking.{Checked}
use Rattle.callout_log.proofs.log.are_callouts.Given as goal

abbrev pub invariant-loop-callout : goal.invariant-loop-callout
invariant-loop-callout l = Checked l.bytes l.callout-iterator
