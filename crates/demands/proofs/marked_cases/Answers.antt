use mathlib.Core.Path.{refl}
use Rattle.demands.proofs.Computing.{the_calls}
use Rattle.window.specs.History as windowHistory
use Rattle.demands.specs.Marked as marked
use Rattle.demands.proofs.marked_cases.Goals as goal

pub returns : goal.returns
unfolding the_calls windowHistory.verdict windowHistory.given marked.same marked.standing marked.same_window marked.given_all marked.verdicts marked.code marked.says marked.wakings marked.initiated marked.responded marked.holds marked.hold_all marked.marked
returns c = refl
