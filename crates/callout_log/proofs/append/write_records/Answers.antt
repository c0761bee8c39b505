use mathlib.Core.Path.{refl, ap, ◌∙◌}
use Rattle.callout_log.specs.Record.{record_bytes}
use Rattle.callout_log.proofs.Writing.{write_more}
use Rattle.callout_log.proofs.append.write_records.Goals as goal

pub loop-i-preserved : goal.loop-i-preserved
loop-i-preserved c = write_more _ _ _ _ c.loop-i.invariant _ _ c.loop-i-test.true (c.write_record.ensures ∙ ap record_bytes c.at.ensures) refl
