use Rattle.callout_log.specs.Read.{SameLists, held}
use Rattle.callout_log.proofs.Filling.{Putting}
use Rattle.callout_log.proofs.read.read_records.Given as goal

abbrev pub invariant-loop-i : goal.invariant-loop-i
invariant-loop-i l = record {
  putting : Putting l.bytes l.hides l.callout.first l.callout.count (held l.initial.lists) (held l.lists) l.at l.i;
  same : SameLists l.lists l.initial.lists;
}
