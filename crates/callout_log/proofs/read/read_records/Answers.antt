use mathlib.Core.Path.{ap, ◌∙◌}
use Rattle.callout_log.specs.Record.{shown}
use Rattle.callout_log.proofs.Filling.{put_more, same_on}
use Rattle.callout_log.proofs.read.read_records.Goals as goal

pub loop-i-preserved : goal.loop-i-preserved
loop-i-preserved c =
    record {
      putting = put_more _ _ _ _ _ _ _ _ c.loop-i.invariant.putting _ _ c.loop-i-test.true
          (c.seen.ensures ∙ ap (shown c.args.hides) c.record_at-report.ensures)
          c.put.ensures.put;
      same = same_on _ _ _ c.put.ensures.same c.loop-i.invariant.same;
    }
