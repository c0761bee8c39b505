-- What else follows from the definitions: what the checks let through, what no call changes, and what a response that opened leads to.
use Rattle.std.specs.Prelude.{◌≡◌, Bool, true, false, List, ℕ, ◌≤◌, Option, Some, Ok}
use Rattle.sessions.specs.Session.{time_limit, new_session, with_id}
use Rattle.sessions.specs.Sessions.{current_of, insert}
use Rattle.sessions.specs.declared.session.Role.TheVariants.{Initiator}
use Rattle.sessions.specs.declared.session.Session.{Session}
use Rattle.tunnel.specs.Control.{with_handshake, with_sessions, done}
use Rattle.tunnel.specs.Damage.{undamaged}
use Rattle.tunnel.specs.Encapsulate.{encrypt_keepalive}
use Rattle.tunnel.specs.HandleHandshake.{confirming, complete}
use Rattle.tunnel.specs.Tunnel.{gate, call_start, call_restart, call_send, call_receive, call_look, call_initiation, call_response, call_cookie, call_timeout, call_settle, call_event, call_deadline, call_missing}
use Rattle.tunnel.specs.declared.answer.Answer.TheVariants.{Keepalive}
use Rattle.tunnel.specs.declared.control.Control.{Control}
use Rattle.tunnel.specs.declared.handshake.Handshake.{Handshake}
use Rattle.tunnel.specs.declared.tunnel.Tunnel.{Tunnel}

-- A call that the checks 1, 2, 14 and 13 let through has a time within the limit, good arguments, an undamaged tunnel and a time not before the greatest one.
pub record GateLaw (t : Tunnel) (bad : Bool) (now : ℕ) : Type 0 where
  pub limited : gate t bad now ≡ Ok tt → now ≤ time_limit
  pub good : gate t bad now ≡ Ok tt → bad ≡ false
  pub whole : gate t bad now ≡ Ok tt → undamaged t ≡ true
  pub onward : gate t bad now ≡ Ok tt → t.greatest ≤ now

-- the persistent keepalive's setting of a tunnel
abbrev pub setting_of : Tunnel → Option ℕ
setting_of t = t.control.timers.persistent_keepalive

-- No call changes the persistent keepalive's setting.
pub record SettingLaw (t : Tunnel) (store : List ℕ) : Type 0 where
  pub start : (now : ℕ) → setting_of (call_start t now).tunnel ≡ setting_of t
  pub restart : (now : ℕ) → setting_of (call_restart t now).tunnel ≡ setting_of t
  pub send : (count now : ℕ) → setting_of (call_send t count now).tunnel ≡ setting_of t
  pub receive : (index id now : ℕ) (counters kinds verdicts skips : List ℕ)
      → setting_of (call_receive t store index id now counters kinds verdicts skips).out.tunnel ≡ setting_of t
  pub look : (index counter now : ℕ) → setting_of (call_look t store index counter now).tunnel ≡ setting_of t
  pub initiation : (peer outcome now : ℕ) → setting_of (call_initiation t store peer outcome now).answered.tunnel ≡ setting_of t
  pub response : (receiver peer outcome now : ℕ) → setting_of (call_response t store receiver peer outcome now).answered.tunnel ≡ setting_of t
  pub cookie : (receiver outcome now : ℕ) → setting_of (call_cookie t receiver outcome now).tunnel ≡ setting_of t
  pub timeout : (jitter now : ℕ) → setting_of (call_timeout t store jitter now).answered.tunnel ≡ setting_of t
  pub settle : (jitter now : ℕ) → setting_of (call_settle t store jitter now).answered.tunnel ≡ setting_of t
  pub event : setting_of (call_event t).tunnel ≡ setting_of t
  pub deadline : setting_of (call_deadline t).tunnel ≡ setting_of t
  pub missing : (index : ℕ) → setting_of (call_missing t store index).tunnel ≡ setting_of t

-- the session that a response establishes, before it is inserted
abbrev pub establishing : (receiver peer now : ℕ) → Session
establishing receiver peer now = new_session receiver peer Initiator now

-- the control once that session is stored and confirmed
abbrev pub confirmed_by : Control → Handshake → List ℕ → (receiver peer now : ℕ) → Control
confirmed_by c handshake store receiver peer now =
    confirming (with_sessions (with_handshake c handshake) (insert c.sessions store (establishing receiver peer now)).sessions) receiver now

-- A response that opened:
pub record ResponseLaw (c : Control) (handshake : Handshake) (store : List ℕ) (receiver peer now : ℕ) : Type 0 where
  -- its session is the current one
  pub current : current_of (confirmed_by c handshake store receiver peer now).sessions ≡ Some (with_id (establishing receiver peer now) c.sessions.inserted)
  -- the keepalive has its first counter
  pub first : (encrypt_keepalive (confirmed_by c handshake store receiver peer now) now).keepalive ≡ Some (peer, 0)
  -- which is what it is answered with
  pub answer : complete c handshake store (establishing receiver peer now) receiver now
      ≡ done (encrypt_keepalive (confirmed_by c handshake store receiver peer now) now).control (Keepalive peer 0)
