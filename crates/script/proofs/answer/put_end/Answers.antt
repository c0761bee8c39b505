use Rattle.std.proofs.Common.{[], ◌∷◌}
use Rattle.script.proofs.Telling.{prints_behind}
use Rattle.script.proofs.answer.put_end.Goals as goal
use Rattle.script.proofs.answer.put_end.Goals.{in-Err, in_default}

pub returns : goal.returns
returns c =
    elim c.match-answered.branch [
      | in-Err w ↦ rw w.in-Err.is (prints_behind _ _ _ _ (10 ∷ []) w.put_refusal.ensures (rw w.out-is at c.put.ensures))
      | in_default w ↦ rw w.in_default.is (rw w.out-is at c.put.ensures)
    ]
