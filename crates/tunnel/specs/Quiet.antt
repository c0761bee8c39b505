-- What demand 3 rests on: a waking that comes early leaves all as it was.
use Rattle.std.specs.Prelude.{◌≡◌, false, List, ◌⊎◌, ℕ, None, Some}
use Rattle.tunnel.specs.PollTimeout.{next_deadline}
use Rattle.tunnel.specs.declared.control.Control.{Control}
use Rattle.sessions.specs.Session.{due_by}
use Rattle.sessions.specs.Sessions.{current_of}
use Rattle.sessions.specs.declared.session.Session.{Session}
use Rattle.tunnel.specs.HandleTimeout.{inner, handle_due}

-- A waking that comes early: the next deadline has not come, and a session is current or no persistent keepalive is set.
pub record Early (c : Control) (now : ℕ) : Type 0 where
  pub waits : due_by (next_deadline c) now ≡ false
  pub held : ((session : Session) × (current_of c.sessions ≡ Some session)) ⊎ (c.timers.persistent_keepalive ≡ None)

-- It leaves the control and the store as they were.
pub record QuietLaw (c : Control) (store : List ℕ) (jitter now : ℕ) : Type 0 where
  pub quiet : Early c now → handle_due c store jitter now ≡ inner c store
