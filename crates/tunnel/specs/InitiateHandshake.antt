-- Initiations sent, after `initiate_handshake` and `restart_handshake` of src/tunnel.rs.
use Rattle.std.specs.Prelude.{ℕ, Some, unwrap_or}
use Rattle.base.specs.Choice.{choose}
use Rattle.tunnel.specs.Control.{with_handshake, with_sessions, with_timers, with_first_initiation_at, done, expired_control}
use Rattle.tunnel.specs.declared.answer.Answer.TheVariants.{NoAnswer, Initiation}
use Rattle.tunnel.specs.declared.control.Control.{Control}
use Rattle.tunnel.specs.declared.control.Out.{Out}
use Rattle.tunnel.specs.declared.initiate_handshake.Initiated.{Initiated}
use Rattle.tunnel.specs.Handshake.{is_in_progress, initiate_handshake}
use Rattle.tunnel.specs.Timers.{tick_initiation}
use Rattle.sessions.specs.Sessions.{next_index}

-- the control after an initiation was sent with the next local index
unfoldable pub initiating : Control → ℕ → Control
initiating c now =
    with_first_initiation_at
    (with_timers
    (with_sessions
    (with_handshake c (initiate_handshake c.handshake (next_index c.sessions).index now))
    (next_index c.sessions).sessions)
    (tick_initiation c.timers (is_in_progress c.handshake) now))
    (Some (unwrap_or c.first_initiation_at now))

-- an initiation sent, which replaces one that is in progress
unfoldable pub initiate : Control → ℕ → Initiated
initiate c now = record { control = initiating c now; local_index = (next_index c.sessions).index }

-- a new handshake started, which replaces one that is in progress; an expired tunnel starts none
unfoldable pub restart_handshake : Control → ℕ → Out
restart_handshake c now =
    choose (expired_control c) (done c NoAnswer) (done (initiate c now).control (Initiation (initiate c now).local_index))

-- a handshake started, unless one is in progress: `initiate_handshake` of src/tunnel.rs
unfoldable pub start_handshake : Control → ℕ → Out
start_handshake c now = choose (is_in_progress c.handshake) (done c NoAnswer) (restart_handshake c now)
