-- The deadline reads the control and the last update only.
-- Assumes nothing.
use mathlib.Core.Path.{◌≡◌, refl}
use mathlib.Core.Bool.{true}
use Rattle.base.specs.Choice.{choose, case_result}
use Rattle.std.specs.Prelude.{Ok}
use Rattle.tunnel.specs.PollTimeout.{poll_timeout}
use Rattle.tunnel.specs.declared.answer.Answer.TheVariants.{Deadline}
use Rattle.tunnel.specs.Damage.{undamaged}
use Rattle.tunnel.specs.Tunnel.{timeless_gate, timeless, let_through, call_deadline}
use Rattle.tunnel.specs.declared.tunnel.Tunnel.{Tunnel}

-- the answer of a deadline
pub deadline_answer : (t : Tunnel) → undamaged t ≡ true → (call_deadline t).answer ≡ Ok (Deadline (poll_timeout t.control t.last_update))
unfolding call_deadline timeless timeless_gate let_through choose case_result
deadline_answer t p = rw p refl
