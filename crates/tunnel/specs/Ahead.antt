-- Local indices told ahead: every call that allocates one gives the index told just before it, and no other call uses one up.
use Rattle.std.specs.Prelude.{◌≡◌, List, [], ◌∷◌, ◌++◌, ℕ, ◌≤◌, length, Option, Some, Ok, Err}
use Rattle.base.specs.Lists.{zeros}
use Rattle.sessions.specs.Laws.{selecting, InSlot}
use Rattle.sessions.specs.Sessions.{ahead}
use Rattle.sessions.specs.declared.session.Session.{Session}
use Rattle.tunnel.specs.AfterStates.{with_control, OfOutcome, IsExpired}
use Rattle.tunnel.specs.Answer.{number_of}
use Rattle.tunnel.specs.Control.{with_sessions, with_timers}
use Rattle.tunnel.specs.RingBuffer.{queued, newest}
use Rattle.tunnel.specs.Timers.{schedule_handshake}
use Rattle.tunnel.specs.Tunnel.{new_tunnel, call_new, call_start, call_restart, call_send, call_receive, call_look, call_initiation, call_response, call_cookie, call_timeout, call_event, call_deadline, call_missing}
use Rattle.tunnel.specs.declared.answer.Answer.TheVariants.{NoAnswer, Initiation, Response}
use Rattle.tunnel.specs.declared.event.Event.TheVariants.{SendHandshakeInitiation}
use Rattle.tunnel.specs.declared.event.Event.{Event}
use Rattle.tunnel.specs.declared.handshake.HandshakeState.TheVariants.{InitSent}
use Rattle.tunnel.specs.declared.tunnel.Answered.{Answered}
use Rattle.tunnel.specs.declared.tunnel.Tunnel.{Tunnel}
use Rattle.error.specs.declared.Error.TheVariants.{WrongKey}

-- the index told ahead
abbrev pub told_index : Tunnel → ℕ
told_index t = (ahead t.control.sessions).index

-- the index last used up
abbrev pub last_index : Tunnel → ℕ
last_index t = t.control.sessions.last_index

-- the events of a tunnel, the oldest first
abbrev pub events_of : Tunnel → List (Option Event)
events_of t = queued t.control.events

-- An initiation was sent with the index told: it is used up, and a response to it is awaited.
pub record SentWith (t last : Tunnel) (now : ℕ) : Type 0 where
  pub used : last_index last ≡ told_index t
  pub awaited : last.control.handshake.state ≡ InitSent (told_index t) now

-- An initiation was answered with the index told: it is used up, and a session that has it fills its slot.
pub record AnsweredWith (t last : Tunnel) : Type 0 where
  pub used : last_index last ≡ told_index t
  pub session : Session
  pub stored : InSlot last.control.sessions (told_index t) session

-- What starting or restarting leaves: the initiation that it answers was sent with the index told; without one none is used up.
pub record Initiates (t : Tunnel) (a : Answered) (now : ℕ) : Type 0 where
  pub given : (index : ℕ) → a.answer ≡ Ok (Initiation index) → (index ≡ told_index t) × SentWith t a.tunnel now
  pub none : ((index : ℕ) → a.answer ≡ Ok (Initiation index) → ⊥) → last_index a.tunnel ≡ last_index t

-- A waking at this time that is let through sends a scheduled handshake: the tunnel is not expired, and the scheduled time has come.
pub record HandshakeDue (t : Tunnel) (now : ℕ) : Type 0 where
  pub living : IsExpired t → ⊥
  pub at : ℕ
  pub scheduled : t.control.timers.send_handshake_at ≡ Some at
  pub come : at ≤ now

-- The index that a call answers, uses up or queues is the one told just before it:
pub record AheadLaw (t : Tunnel) (store : List ℕ) : Type 0 where
  -- a creation that is not turned down has used up the index that it was given
  pub new : (index keepalive now : ℕ) → number_of (call_new store index keepalive now).answered.answer ≡ 0
      → last_index (call_new store index keepalive now).answered.tunnel ≡ index
  pub start : (now : ℕ) → Initiates t (call_start t now) now
  pub restart : (now : ℕ) → Initiates t (call_restart t now) now
  -- an incoming initiation, answered or turned down by 3, 4, 5 or 7, and where it is turned down by another number
  pub initiation : (peer outcome now index remote : ℕ) → (call_initiation t store peer outcome now).answered.answer ≡ Ok (Response index remote)
      → (index ≡ told_index t) × AnsweredWith t (call_initiation t store peer outcome now).answered.tunnel
  pub failed : (peer outcome now : ℕ) → OfOutcome (number_of (call_initiation t store peer outcome now).answered.answer)
      → last_index (call_initiation t store peer outcome now).answered.tunnel ≡ told_index t
  pub refused : (peer outcome now : ℕ) → (number_of (call_initiation t store peer outcome now).answered.answer ≡ 0 → ⊥)
      → (OfOutcome (number_of (call_initiation t store peer outcome now).answered.answer) → ⊥)
      → last_index (call_initiation t store peer outcome now).answered.tunnel ≡ last_index t
  -- a waking that sends a scheduled handshake queues its initiation behind the events there, and any other one uses up none
  pub sent : (jitter now : ℕ) → number_of (call_timeout t store jitter now).answered.answer ≡ 0 → HandshakeDue t now
      → (events_of (call_timeout t store jitter now).answered.tunnel ≡ newest (events_of t ++ Some (SendHandshakeInitiation (told_index t)) ∷ []))
      × SentWith t (call_timeout t store jitter now).answered.tunnel now
  pub unsent : (jitter now : ℕ) → (number_of (call_timeout t store jitter now).answered.answer ≡ 0 → HandshakeDue t now → ⊥)
      → last_index (call_timeout t store jitter now).answered.tunnel ≡ last_index t
  -- no other call uses one up
  pub send : (count now : ℕ) → last_index (call_send t count now).tunnel ≡ last_index t
  pub receive : (index id now : ℕ) (counters kinds verdicts skips : List ℕ)
      → last_index (call_receive t store index id now counters kinds verdicts skips).out.tunnel ≡ last_index t
  pub look : (index counter now : ℕ) → last_index (call_look t store index counter now).tunnel ≡ last_index t
  pub response : (receiver peer outcome now : ℕ) → last_index (call_response t store receiver peer outcome now).answered.tunnel ≡ last_index t
  pub cookie : (receiver outcome now : ℕ) → last_index (call_cookie t receiver outcome now).tunnel ≡ last_index t
  pub event : last_index (call_event t).tunnel ≡ last_index t
  pub deadline : last_index (call_deadline t).tunnel ≡ last_index t
  pub missing : (index : ℕ) → last_index (call_missing t store index).tunnel ≡ last_index t

-- a tunnel that 14 lets through: index 511 last used up, a current session with index 256, and a handshake scheduled for 5 ns
unfoldable pub scheduled_tunnel : Tunnel
scheduled_tunnel =
    with_control (new_tunnel 511 0 0)
    (with_timers (with_sessions (new_tunnel 511 0 0).control (selecting 256 511)) (schedule_handshake (new_tunnel 511 0 0).control.timers 5))

-- The premises hold: 256 is passed over, and each call that allocates gives 257.
pub record AheadExample : Type 0 where
  pub eight : length scheduled_tunnel.control.sessions.slots ≡ 8
  pub sixteen : length scheduled_tunnel.control.events.slots ≡ 16
  pub index : told_index scheduled_tunnel ≡ 257
  pub start : (call_start scheduled_tunnel 7).answer ≡ Ok (Initiation 257)
  pub restart : (call_restart scheduled_tunnel 7).answer ≡ Ok (Initiation 257)
  pub initiation : (call_initiation scheduled_tunnel (zeros 1024) 9 0 7).answered.answer ≡ Ok (Response 257 9)
  pub failed : number_of (call_initiation scheduled_tunnel (zeros 1024) 9 3 7).answered.answer ≡ 3
  pub failed_by : (call_initiation scheduled_tunnel (zeros 1024) 9 3 7).answered.answer ≡ Err WrongKey
  pub spent : last_index (call_initiation scheduled_tunnel (zeros 1024) 9 3 7).answered.tunnel ≡ 257
  pub due : HandshakeDue scheduled_tunnel 7
  pub woken : (call_timeout scheduled_tunnel (zeros 1024) 0 7).answered.answer ≡ Ok NoAnswer
  pub sent : events_of (call_timeout scheduled_tunnel (zeros 1024) 0 7).answered.tunnel ≡ Some (SendHandshakeInitiation 257) ∷ []
