use Rattle.callout_log.proofs.Viewing.{Hiding}
use Rattle.callout_log.proofs.view.hide_records.Given as goal

abbrev pub invariant-loop-i : goal.invariant-loop-i
invariant-loop-i l = Hiding l.initial.bytes l.bytes l.callout.first l.callout.count l.i
