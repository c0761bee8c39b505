use native.Mathlib.Omega.{arith}
use Rattle.callout_log.specs.Append.{reported}
use Rattle.callout_log.proofs.Appending.{append_good, lists_beside, store_small, store_within}
use Rattle.callout_log.proofs.append.append.Goals as goal

pub overflow_sub-free : goal.overflow_sub-free
overflow_sub-free c = store_within _ _ c.if-not-is_store.ensures

pub write_records-requires-clause-one : goal.write_records-requires-clause-one
write_records-requires-clause-one c = lists_beside _ _ _ c.if-not-are_times.ensures c.if-not-is_store.ensures c.if-not-are_beside.ensures

pub overflow_cast-count : goal.overflow_cast-count
overflow_cast-count c = omega (arith, store_small _ _ c.if-not-is_store.ensures, c.if-count-free.false)

pub returns : goal.returns
returns c =
    append_good _ _ (reported c.args.reports) c.if-not-are_times.ensures c.if-not-is_store.ensures c.if-not-are_beside.ensures c.if-not-are_verdicts.ensures _ _
    (omega (arith, store_within _ _ c.if-not-is_store.ensures, c.if-free-lt-TRAILER_SZ.false, c.if-count-free.false))
    c.write_records.ensures
    c.write_trailer.ensures
