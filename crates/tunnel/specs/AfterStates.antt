-- What a call leaves: all as it came where it is turned down, save two calls; its own time as the greatest where it is not; and which calls
-- change nothing else or nothing at all; what the event call takes; and that an expired tunnel has no current session.
use Rattle.std.specs.Prelude.{◌≡◌, true, List, [], ◌⊎◌, ℕ, drop, None, Some, Result, Ok, unwrap_or}
use Rattle.base.specs.Lists.{zeros}
use Rattle.error.specs.declared.Error.{Error}
use Rattle.sessions.specs.Laws.{MaySend}
use Rattle.sessions.specs.Session.{with_sent_data}
use Rattle.sessions.specs.Sessions.{with_last_index, next_index, current_of, put}
use Rattle.sessions.specs.declared.session.Session.{Session}
use Rattle.tunnel.specs.Answer.{number_of}
use Rattle.tunnel.specs.Control.{with_sessions, with_timers, with_events}
use Rattle.tunnel.specs.RingBuffer.{queued, oldest}
use Rattle.tunnel.specs.Timers.{with_sent, with_data_sent, with_received_without_reply, with_sent_without_reply}
use Rattle.tunnel.specs.Tunnel.{call_new, call_start, call_restart, call_send, call_receive, call_look, call_initiation, call_response, call_cookie, call_timeout, call_settle, call_event, call_deadline, call_missing}
use Rattle.tunnel.specs.declared.answer.Answer.TheVariants.{NoAnswer, Polled, Deadline, Woke}
use Rattle.tunnel.specs.declared.answer.Answer.{Answer}
use Rattle.tunnel.specs.declared.control.Control.{Control}
use Rattle.tunnel.specs.declared.handshake.HandshakeState.TheVariants.{InitSent, Expired}
use Rattle.tunnel.specs.declared.timers.Timers.{Timers}
use Rattle.tunnel.specs.declared.tunnel.Tunnel.{Tunnel}

-- turned down: its number is not 0
abbrev pub TurnedDown : Result Answer Error → Type 0
TurnedDown answer = number_of answer ≡ 0 → ⊥

-- a tunnel with another greatest time
abbrev pub with_greatest : Tunnel → ℕ → Tunnel
with_greatest t x = record { control = t.control; last_update = t.last_update; greatest = x }

-- a tunnel with another control
abbrev pub with_control : Tunnel → Control → Tunnel
with_control t x = record { control = x; last_update = t.last_update; greatest = t.greatest }

-- a tunnel whose last index is this one
abbrev pub with_index_used : Tunnel → ℕ → Tunnel
with_index_used t index = with_control t (with_sessions t.control (with_last_index t.control.sessions index))

-- both send timers ticked, with what a tick of each does to the times without a reply
abbrev pub with_send_ticked : Timers → ℕ → Timers
with_send_ticked t now =
    with_sent_without_reply (with_received_without_reply (with_data_sent (with_sent t now) now) None) (Some (unwrap_or t.first_data_sent_without_reply now))

-- a tunnel with this session marked as having sent data, its counter as before, with both send timers ticked and the greatest time raised
abbrev pub with_data_marked : Tunnel → Session → ℕ → Tunnel
with_data_marked t session now =
    with_greatest
    (with_control t
    (with_sessions (with_timers t.control (with_send_ticked t.control.timers now)) (put t.control.sessions (with_sent_data session true))))
    now

-- a send by 12 that found a session: the current one, which may send
pub record FoundTooFew (t : Tunnel) (count now : ℕ) (session : Session) : Type 0 where
  pub number : number_of (call_send t count now).answer ≡ 12
  pub current : current_of t.control.sessions ≡ Some session
  pub may : MaySend session now

-- the numbers by which an outcome turns down an incoming initiation
abbrev pub OfOutcome : ℕ → Type 0
OfOutcome number = (number ≡ 3) ⊎ (number ≡ 4) ⊎ (number ≡ 5) ⊎ (number ≡ 7)

-- A call that is turned down hands back the tunnel, the store and the verdict list as they came, with two exceptions:
pub record AfterStates (t : Tunnel) (store : List ℕ) : Type 0 where
  pub start : (now : ℕ) → TurnedDown (call_start t now).answer → (call_start t now).tunnel ≡ t
  pub restart : (now : ℕ) → TurnedDown (call_restart t now).answer → (call_restart t now).tunnel ≡ t
  pub send : (count now : ℕ) → TurnedDown (call_send t count now).answer → ((session : Session) → FoundTooFew t count now session → ⊥)
      → (call_send t count now).tunnel ≡ t
  -- a send by 12 that found a session has marked it, ticked both send timers and raised the greatest time
  pub send_too_few : (count now : ℕ) (session : Session) → FoundTooFew t count now session → (call_send t count now).tunnel ≡ with_data_marked t session now
  pub receive : (index id now : ℕ) (counters kinds verdicts skips : List ℕ) → TurnedDown (call_receive t store index id now counters kinds verdicts skips).out.answer
      → ((call_receive t store index id now counters kinds verdicts skips).out.tunnel ≡ t)
      × ((call_receive t store index id now counters kinds verdicts skips).store ≡ store)
      × ((call_receive t store index id now counters kinds verdicts skips).verdicts ≡ verdicts)
      × ((call_receive t store index id now counters kinds verdicts skips).skips ≡ skips)
  pub initiation : (peer outcome now : ℕ) → TurnedDown (call_initiation t store peer outcome now).answered.answer
      → (OfOutcome (number_of (call_initiation t store peer outcome now).answered.answer) → ⊥)
      → (call_initiation t store peer outcome now).answered.tunnel ≡ t
  -- an incoming initiation by 3, 4, 5 or 7 has used up its local index
  pub initiation_failed : (peer outcome now : ℕ) → OfOutcome (number_of (call_initiation t store peer outcome now).answered.answer)
      → (call_initiation t store peer outcome now).answered.tunnel ≡ with_index_used t (next_index t.control.sessions).index
  pub initiation_store : (peer outcome now : ℕ) → TurnedDown (call_initiation t store peer outcome now).answered.answer
      → (call_initiation t store peer outcome now).store ≡ store
  pub response : (receiver peer outcome now : ℕ) → TurnedDown (call_response t store receiver peer outcome now).answered.answer
      → ((call_response t store receiver peer outcome now).answered.tunnel ≡ t) × ((call_response t store receiver peer outcome now).store ≡ store)
  pub cookie : (receiver outcome now : ℕ) → TurnedDown (call_cookie t receiver outcome now).answer → (call_cookie t receiver outcome now).tunnel ≡ t
  pub timeout : (jitter now : ℕ) → TurnedDown (call_timeout t store jitter now).answered.answer
      → ((call_timeout t store jitter now).answered.tunnel ≡ t) × ((call_timeout t store jitter now).store ≡ store)
  pub settle : (jitter now : ℕ) → TurnedDown (call_settle t store jitter now).answered.answer
      → ((call_settle t store jitter now).answered.tunnel ≡ t) × ((call_settle t store jitter now).store ≡ store)
  pub event : TurnedDown (call_event t).answer → (call_event t).tunnel ≡ t
  -- the early look, the deadline and the missing report change nothing, turned down or not
  pub look : (index counter now : ℕ) → (call_look t store index counter now).tunnel ≡ t
  pub deadline : (call_deadline t).tunnel ≡ t
  pub missing : (index : ℕ) → (call_missing t store index).tunnel ≡ t
  -- a creation that is turned down hands back the tunnel of index 0, no keepalive and time 0, and the store as it came
  pub new : (index keepalive now : ℕ) → TurnedDown (call_new store index keepalive now).answered.answer
      → ((call_new store index keepalive now).answered.tunnel ≡ (call_new (zeros 1024) 0 0 0).answered.tunnel)
      × ((call_new store index keepalive now).store ≡ store)

-- Every call with a time that is not turned down, save the early look, leaves the greatest time at its own.
pub record GreatestLaw (t : Tunnel) (store : List ℕ) : Type 0 where
  pub new : (index keepalive now : ℕ) → number_of (call_new store index keepalive now).answered.answer ≡ 0
      → (call_new store index keepalive now).answered.tunnel.greatest ≡ now
  pub start : (now : ℕ) → number_of (call_start t now).answer ≡ 0 → (call_start t now).tunnel.greatest ≡ now
  pub restart : (now : ℕ) → number_of (call_restart t now).answer ≡ 0 → (call_restart t now).tunnel.greatest ≡ now
  pub send : (count now : ℕ) → number_of (call_send t count now).answer ≡ 0 → (call_send t count now).tunnel.greatest ≡ now
  pub receive : (index id now : ℕ) (counters kinds verdicts skips : List ℕ)
      → number_of (call_receive t store index id now counters kinds verdicts skips).out.answer ≡ 0
      → (call_receive t store index id now counters kinds verdicts skips).out.tunnel.greatest ≡ now
  pub initiation : (peer outcome now : ℕ) → number_of (call_initiation t store peer outcome now).answered.answer ≡ 0
      → (call_initiation t store peer outcome now).answered.tunnel.greatest ≡ now
  pub response : (receiver peer outcome now : ℕ) → number_of (call_response t store receiver peer outcome now).answered.answer ≡ 0
      → (call_response t store receiver peer outcome now).answered.tunnel.greatest ≡ now
  pub cookie : (receiver outcome now : ℕ) → number_of (call_cookie t receiver outcome now).answer ≡ 0 → (call_cookie t receiver outcome now).tunnel.greatest ≡ now
  pub timeout : (jitter now : ℕ) → number_of (call_timeout t store jitter now).answered.answer ≡ 0
      → (call_timeout t store jitter now).answered.tunnel.greatest ≡ now
  pub settle : (jitter now : ℕ) → number_of (call_settle t store jitter now).answered.answer ≡ 0
      → (call_settle t store jitter now).answered.tunnel.greatest ≡ now

-- The tunnel is expired.
abbrev pub IsExpired : Tunnel → Type 0
IsExpired t = t.control.handshake.state ≡ Expired

-- Calls that are not turned down and raise the greatest time only, the deadline of an expired tunnel, and what the event call takes.
pub record StillLaw (t : Tunnel) (store : List ℕ) : Type 0 where
  -- an empty batch
  pub batch : (index id now : ℕ) → number_of (call_receive t store index id now [] [] [] []).out.answer ≡ 0
      → ((call_receive t store index id now [] [] [] []).out.tunnel ≡ with_greatest t now)
      × ((call_receive t store index id now [] [] [] []).store ≡ store)
      × ((call_receive t store index id now [] [] [] []).verdicts ≡ [])
      × ((call_receive t store index id now [] [] [] []).skips ≡ [])
  -- waking, starting or restarting an expired tunnel, which answer nothing
  pub timeout : (jitter now : ℕ) → IsExpired t → number_of (call_timeout t store jitter now).answered.answer ≡ 0
      → ((call_timeout t store jitter now).answered.answer ≡ Ok NoAnswer)
      × ((call_timeout t store jitter now).answered.tunnel ≡ with_greatest t now)
      × ((call_timeout t store jitter now).store ≡ store)
  pub start : (now : ℕ) → IsExpired t → number_of (call_start t now).answer ≡ 0
      → ((call_start t now).answer ≡ Ok NoAnswer) × ((call_start t now).tunnel ≡ with_greatest t now)
  pub restart : (now : ℕ) → IsExpired t → number_of (call_restart t now).answer ≡ 0
      → ((call_restart t now).answer ≡ Ok NoAnswer) × ((call_restart t now).tunnel ≡ with_greatest t now)
  -- settling an expired tunnel, which makes no waking
  pub settle : (jitter now : ℕ) → IsExpired t → number_of (call_settle t store jitter now).answered.answer ≡ 0
      → ((call_settle t store jitter now).answered.answer ≡ Ok (Woke 0))
      × ((call_settle t store jitter now).answered.tunnel ≡ with_greatest t now)
      × ((call_settle t store jitter now).store ≡ store)
  -- starting while an initiation awaits its response, which answers nothing
  pub again : (now local sent : ℕ) → t.control.handshake.state ≡ InitSent local sent → number_of (call_start t now).answer ≡ 0
      → ((call_start t now).answer ≡ Ok NoAnswer) × ((call_start t now).tunnel ≡ with_greatest t now)
  -- the deadline of an expired tunnel is none
  pub deadline : IsExpired t → number_of (call_deadline t).answer ≡ 0 → (call_deadline t).answer ≡ Ok (Deadline None)

-- The event call answers the oldest of the queued events and takes it off: the others stay, in order, and nothing else changes.
pub record EventLaw (t : Tunnel) : Type 0 where
  pub answer : number_of (call_event t).answer ≡ 0 → (call_event t).answer ≡ Ok (Polled (oldest (queued t.control.events)))
  pub queue : number_of (call_event t).answer ≡ 0 → queued (call_event t).tunnel.control.events ≡ drop 1 (queued t.control.events)
  pub rest : (call_event t).tunnel ≡ with_control t (with_events t.control (call_event t).tunnel.control.events)

-- an expired tunnel has no current session
abbrev pub NoneCurrent : Tunnel → Type 0
NoneCurrent t = IsExpired t → current_of t.control.sessions ≡ None

-- Every call that is handed a tunnel which, if expired, has no current session hands back such a one, and so does a creation.
pub record ExpiredLaw (t : Tunnel) (store : List ℕ) : Type 0 where
  pub new : (index keepalive now : ℕ) → NoneCurrent (call_new store index keepalive now).answered.tunnel
  pub start : (now : ℕ) → NoneCurrent (call_start t now).tunnel
  pub restart : (now : ℕ) → NoneCurrent (call_restart t now).tunnel
  pub send : (count now : ℕ) → NoneCurrent (call_send t count now).tunnel
  pub receive : (index id now : ℕ) (counters kinds verdicts skips : List ℕ) → NoneCurrent (call_receive t store index id now counters kinds verdicts skips).out.tunnel
  pub look : (index counter now : ℕ) → NoneCurrent (call_look t store index counter now).tunnel
  pub initiation : (peer outcome now : ℕ) → NoneCurrent (call_initiation t store peer outcome now).answered.tunnel
  pub response : (receiver peer outcome now : ℕ) → NoneCurrent (call_response t store receiver peer outcome now).answered.tunnel
  pub cookie : (receiver outcome now : ℕ) → NoneCurrent (call_cookie t receiver outcome now).tunnel
  pub timeout : (jitter now : ℕ) → NoneCurrent (call_timeout t store jitter now).answered.tunnel
  pub settle : (jitter now : ℕ) → NoneCurrent (call_settle t store jitter now).answered.tunnel
  pub event : NoneCurrent (call_event t).tunnel
  pub deadline : NoneCurrent (call_deadline t).tunnel
  pub missing : (index : ℕ) → NoneCurrent (call_missing t store index).tunnel
