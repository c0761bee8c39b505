use Rattle.std.specs.Iterator.Adapters.{enumerate_count, enumerate_source}
use Rattle.callout_log.specs.Read.{SameLists, held}
use Rattle.callout_log.proofs.Filling.{Filling}
use Rattle.callout_log.proofs.read.read_callouts.Given as goal

abbrev pub invariant-loop-i : goal.invariant-loop-i
invariant-loop-i l = record {
  filling : Filling l.log.bytes.now l.hides (held l.initial.lists) (held l.lists) (enumerate_source l.i-iterator) (enumerate_count l.i-iterator) l.records;
  same : SameLists l.lists l.initial.lists;
}
