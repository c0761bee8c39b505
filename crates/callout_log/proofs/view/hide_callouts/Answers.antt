use Rattle.callout_log.proofs.Viewing.{callouts_inside}
use Rattle.callout_log.proofs.view.hide_callouts.Goals as goal

pub hide_records-requires : goal.hide_records-requires
hide_records-requires c = callouts_inside _ _ _ _ c.loop-callout.invariant _ _ c.in-Some.ensures.steps
