use Rattle.callout_log.specs.Append.{reported}
use Rattle.callout_log.proofs.Writing.{Writes}
use Rattle.callout_log.proofs.append.write_records.Given as goal

abbrev pub invariant-loop-i : goal.invariant-loop-i
invariant-loop-i l = Writes (reported l.reports) l.initial.bytes l.bytes l.i
