use Rattle.std.proofs.Common.{rules, ap, sym, set, set-set}
use Rattle.sessions.proofs.Batches.{batch_turn, batch_ends}
use Rattle.sessions.proofs.batch.finish_all.Goals as goal
use Rattle.sessions.proofs.batch.finish_all.Goals.{then-finished-ne0, else-finished-ne0}

pub loop-i-preserved : goal.loop-i-preserved
loop-i-preserved c =
    elim c.if-finished-ne0.branch [
      | then-finished-ne0 w ↦ rw (w.skips-is, w.progress-is) (search (batch_turn, set-set, rules))
      | else-finished-ne0 w ↦ rw (w.skips-is, w.progress-is) (search (batch_turn, ap (set c.loop-i.skips c.loop-i.i) (sym w.if-finished-ne0.false), rules))
    ]

pub returns : goal.returns
returns c = search (batch_ends, rules)
