use Rattle.callout_log.proofs.Walking.{check_fails, check_inside}
use Rattle.callout_log.proofs.log.are_callouts.Goals as goal

pub are_records-requires : goal.are_records-requires
are_records-requires c = check_inside _ _ c.loop-callout.invariant _ _ c.in-Some.ensures.steps

pub returns-then-not-are_records : goal.returns-then-not-are_records
returns-then-not-are_records c = check_fails _ _ c.loop-callout.invariant _ _ c.in-Some.ensures.steps c.if-not-are_records.ensures
