use Rattle.callout_log.proofs.Viewing.{HidingLeft}
use Rattle.callout_log.proofs.view.hide_callouts.Given as goal

abbrev pub invariant-loop-callout : goal.invariant-loop-callout
invariant-loop-callout l = HidingLeft l.log.bytes.now l.initial.bytes l.bytes l.callout-iterator
