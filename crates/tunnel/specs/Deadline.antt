-- What demand 3 rests on: the deadline reads the control and the last update only.
use Rattle.std.specs.Prelude.{◌≡◌, true, Ok}
use Rattle.tunnel.specs.PollTimeout.{poll_timeout}
use Rattle.tunnel.specs.declared.answer.Answer.TheVariants.{Deadline}
use Rattle.tunnel.specs.Damage.{undamaged}
use Rattle.tunnel.specs.Tunnel.{call_deadline}
use Rattle.tunnel.specs.declared.tunnel.Tunnel.{Tunnel}

-- The deadline of a tunnel that number 14 lets through is that of its control and its last update, whatever the greatest time is.
pub record DeadlineLaw (t : Tunnel) : Type 0 where
  pub answer : undamaged t ≡ true → (call_deadline t).answer ≡ Ok (Deadline (poll_timeout t.control t.last_update))
  pub alike : (u : Tunnel) → undamaged t ≡ true → undamaged u ≡ true → t.control ≡ u.control → t.last_update ≡ u.last_update
      → (call_deadline t).answer ≡ (call_deadline u).answer
