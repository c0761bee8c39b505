-- What the Rust's `Tunnel` holds, save `TimeLastUpdate`, and what an operation on it hands back, after src/tunnel.rs.
use Rattle.std.specs.Prelude.{Bool, true, false, List, ℕ, None, Option, Result, Ok, Err}
use Rattle.tunnel.specs.declared.answer.Answer.TheVariants.{Polled, Report}
use Rattle.tunnel.specs.declared.answer.Answer.{Answer}
use Rattle.tunnel.specs.declared.control.Control.{Control}
use Rattle.tunnel.specs.declared.control.Out.{Out}
use Rattle.tunnel.specs.Handshake.{new_handshake, is_expired}
use Rattle.tunnel.specs.RingBuffer.{new_ring, push_back, pop_front}
use Rattle.tunnel.specs.Timers.{new_timers}
use Rattle.tunnel.specs.declared.event.Event.{Event}
use Rattle.tunnel.specs.declared.handshake.Handshake.{Handshake}
use Rattle.tunnel.specs.declared.ring_buffer.RingBuffer.{RingBuffer}
use Rattle.tunnel.specs.declared.timers.Timers.{Timers}
use Rattle.sessions.specs.Sessions.{new_sessions, missing}
use Rattle.sessions.specs.declared.sessions.Sessions.{Sessions}
use Rattle.base.specs.Choice.{case_result}
use Rattle.error.specs.declared.Error.{Error}

-- a control of six parts
abbrev pub control : Handshake → Sessions → Timers → RingBuffer → Option ℕ → Bool → Control
control handshake sessions timers events first established =
    record {
      handshake = handshake;
      sessions = sessions;
      timers = timers;
      events = events;
      first_initiation_at = first;
      established = established;
    }

-- a control with another handshake
abbrev pub with_handshake : Control → Handshake → Control
with_handshake c x = control x c.sessions c.timers c.events c.first_initiation_at c.established

-- a control with other sessions
abbrev pub with_sessions : Control → Sessions → Control
with_sessions c x = control c.handshake x c.timers c.events c.first_initiation_at c.established

-- a control with other timers
abbrev pub with_timers : Control → Timers → Control
with_timers c x = control c.handshake c.sessions x c.events c.first_initiation_at c.established

-- a control with other events
abbrev pub with_events : Control → RingBuffer → Control
with_events c x = control c.handshake c.sessions c.timers x c.first_initiation_at c.established

-- a control with another time of the first initiation
abbrev pub with_first_initiation_at : Control → Option ℕ → Control
with_first_initiation_at c x = control c.handshake c.sessions c.timers c.events x c.established

-- a control with its mark of a confirmed session
abbrev pub with_established : Control → Bool → Control
with_established c x = control c.handshake c.sessions c.timers c.events c.first_initiation_at x

-- what an operation hands back: the control, the answer, whether it raises the greatest time, whether it ticks `TimeLastUpdate`
abbrev pub out_of : Control → Result Answer Error → (raises updates : Bool) → Out
out_of c answer raises updates = record { control = c; answer = answer; raises = raises; updates = updates }

-- what an operation hands back, and the store that it leaves
pub record Turn : Type 0 where
  pub out : Out
  pub store : List ℕ

-- a tunnel's control at its creation
unfoldable pub new_control : ℕ → Option ℕ → ℕ → Control
new_control index interval now = control new_handshake (new_sessions index) (new_timers interval now) new_ring None false

-- a call that is turned down
unfoldable pub refuse : Control → Error → Out
refuse c error = out_of c (Err error) false false

-- a call that is answered
unfoldable pub done : Control → Answer → Out
done c answer = out_of c (Ok answer) true false

-- whether the connection has expired
unfoldable pub expired_control : Control → Bool
expired_control c = is_expired c.handshake

-- the control with an event queued
unfoldable pub queueing : Control → Event → Control
queueing c event = with_events c (push_back c.events event)

-- the oldest queued event
unfoldable pub poll_event : Control → Out
poll_event c = out_of (with_events c (pop_front c.events).events) (Ok (Polled (pop_front c.events).event)) false false

-- the missing report of the session with a local index
unfoldable pub missing_report : Control → List ℕ → ℕ → Out
missing_report c store index =
    case_result (missing c.sessions store index) (refuse c) (λ count. out_of c (Ok (Report count)) false false)
