-- The waking, after `handle_timeout` of src/tunnel.rs, in the Rust's order of tests, save that a handshake already required skips the four tests of rekeying.
use Rattle.std.specs.Prelude.{Bool, true, false, List, ℕ, ◌+◌, Ok}
use Rattle.base.specs.Choice.{choose, case_option, case_pair}
use Rattle.tunnel.specs.Control.{Turn, with_handshake, with_sessions, with_timers, out_of, done, expired_control, queueing}
use Rattle.tunnel.specs.PollTimeout.{scheduled_handshake, reject_deadline, attempt_deadline, handshake_rekey_timeout, rekey_on_send, rekey_on_messages, rekey_on_receive, response_deadline, passive_deadline, persistent_deadline}
use Rattle.tunnel.specs.InitiateHandshake.{initiate}
use Rattle.tunnel.specs.Encapsulate.{encrypt_keepalive}
use Rattle.tunnel.specs.declared.answer.Answer.TheVariants.{NoAnswer}
use Rattle.tunnel.specs.declared.control.Control.{Control}
use Rattle.tunnel.specs.Handshake.{is_in_progress, set_expired, expire_cookie}
use Rattle.tunnel.specs.Timers.{clear_timers, schedule_handshake, cancel_scheduled_handshake, consume_passive_keepalive, tick_persistent_keepalive}
use Rattle.tunnel.specs.declared.event.Event.TheVariants.{SendHandshakeInitiation, SendKeepalive, ConnectionExpired}
use Rattle.tunnel.specs.declared.timers.Timers.{Timers}
use Rattle.sessions.specs.Cases.{case_role}
use Rattle.sessions.specs.Session.{due_by}
use Rattle.sessions.specs.Sessions.{Expiring, clear, expire, is_empty}
use Rattle.sessions.specs.declared.session.Session.{Session}

-- a control and the store of its windows
pub record Inner : Type 0 where
  pub control : Control
  pub store : List ℕ

-- a control and its store
abbrev pub inner : Control → List ℕ → Inner
inner c store = record { control = c; store = store }

-- all sessions dropped and the timers reset
unfoldable pub clear_all : Control → List ℕ → ℕ → Inner
clear_all c store now =
    inner (with_timers (with_sessions c (clear c.sessions store).sessions) (clear_timers c.timers now)) (clear c.sessions store).store

-- the connection ended
unfoldable pub expire_control : Control → List ℕ → ℕ → Inner
expire_control c store now =
    inner (queueing (clear_all (with_handshake c (set_expired c.handshake)) store now).control ConnectionExpired)
    (clear_all (with_handshake c (set_expired c.handshake)) store now).store

-- a handshake scheduled after the jitter
unfoldable pub scheduling : Control → (jitter now : ℕ) → Control
scheduling c jitter now = with_timers c (schedule_handshake c.timers (now + jitter))

-- a keepalive queued, if there is a session for it
unfoldable pub queue_keepalive : Control → ℕ → Control
queue_keepalive c now =
    case_pair (encrypt_keepalive c now).keepalive (encrypt_keepalive c now).control
    (λ peer counter. queueing (encrypt_keepalive c now).control (SendKeepalive peer counter))

-- whether a keepalive is due
unfoldable pub keepalive_due : Control → ℕ → Bool
keepalive_due c now = choose (due_by (passive_deadline c) now) true (due_by (persistent_deadline c) now)

-- the timers with the passive keepalive's deadline dropped if it has come
unfoldable pub passive_timers : Control → ℕ → Timers
passive_timers c now = choose (due_by (passive_deadline c) now) (consume_passive_keepalive c.timers) c.timers

-- the timers after the keepalives that are due
unfoldable pub keepalive_timers : Control → ℕ → Timers
keepalive_timers c now =
    choose (due_by (persistent_deadline c) now) (tick_persistent_keepalive (passive_timers c now) now) (passive_timers c now)

-- one keepalive queued for those that are due; the passive one's deadline is dropped and the persistent one's time ticked even if there is no session for it
unfoldable pub send_keepalive : Control → ℕ → Control
send_keepalive c now = queue_keepalive (with_timers c (keepalive_timers c now)) now

-- a keepalive queued if one is due
unfoldable pub keepalive_if_due : Control → ℕ → Control
keepalive_if_due c now = choose (keepalive_due c now) (send_keepalive c now) c

-- whether a handshake is required while none is in progress
unfoldable pub rekey_due : Control → ℕ → Bool
rekey_due c now =
    choose (due_by (rekey_on_send c) now) true
    (choose (due_by (rekey_on_messages c) now) true
    (choose (due_by (rekey_on_receive c) now) true (due_by (response_deadline c) now)))

-- while no initiation awaits a response: a handshake scheduled if one is required or rekeying is due, else a keepalive queued if one is due
unfoldable pub rekey_or_keepalive : Control → Bool → (jitter now : ℕ) → Control
rekey_or_keepalive c required jitter now =
    choose required (scheduling c jitter now) (choose (rekey_due c now) (scheduling c jitter now) (keepalive_if_due c now))

-- while an initiation awaits a response: the connection ended after REKEY_ATTEMPT_TIME, else a handshake scheduled after REKEY_TIMEOUT or if one is required
unfoldable pub give_up_or_retry : Control → List ℕ → Bool → (jitter now : ℕ) → Inner
give_up_or_retry c store required jitter now =
    choose (due_by (attempt_deadline c) now) (expire_control c store now)
    (choose (due_by (handshake_rekey_timeout c) now) (inner (scheduling c jitter now) store)
    (choose required (inner (scheduling c jitter now) store) (inner c store)))

-- the cookie expired if it is due, then the connection ended three times REJECT_AFTER_TIME after its last handshake, or else kept up by handshakes and keepalives
unfoldable pub maintain_connection : Control → List ℕ → Bool → (jitter now : ℕ) → Inner
maintain_connection c store required jitter now =
    let d : Control = with_handshake c (expire_cookie c.handshake now) in
    choose (due_by (reject_deadline d) now) (expire_control d store now)
    (case_option (handshake_rekey_timeout d)
    (inner (rekey_or_keepalive d required jitter now) store)
    (λ retry. give_up_or_retry d store required jitter now))

-- whether an expired current session is presumed lost: it sent data and no newer session is stored
unfoldable pub is_lost : Control → Session → Bool
is_lost c session = choose session.sent_data (is_empty c.sessions) false

-- whether an expired current session is to be replaced by a handshake of ours
unfoldable pub is_replaced : Control → Session → Bool
is_replaced c session = case_role session.role (choose (is_in_progress c.handshake) false true) false

-- sessions past REJECT_AFTER_TIME discarded, then the connection ended if the current one among them is presumed lost, or else maintained
unfoldable pub expire_sessions : Control → List ℕ → (jitter now : ℕ) → Inner
expire_sessions c store jitter now =
    let e : Expiring = expire c.sessions store now in
    let d : Control = with_sessions c e.expired.sessions in
    case_option e.expired.current (maintain_connection d e.store false jitter now)
    (λ session. choose (is_lost d session) (expire_control d e.store now) (maintain_connection d e.store (is_replaced d session) jitter now))

-- the scheduled handshake sent
unfoldable pub send_scheduled : Control → ℕ → Control
send_scheduled c now =
    queueing (initiate (with_timers c (cancel_scheduled_handshake c.timers)) now).control
    (SendHandshakeInitiation (initiate (with_timers c (cancel_scheduled_handshake c.timers)) now).local_index)

-- what is due done to a tunnel that is not expired: a scheduled handshake is sent or waited for, without one the sessions expire
unfoldable pub handle_due : Control → List ℕ → (jitter now : ℕ) → Inner
handle_due c store jitter now =
    choose (due_by (scheduled_handshake c) now) (inner (send_scheduled c now) store)
    (case_option (scheduled_handshake c) (expire_sessions c store jitter now) (λ at. inner c store))

-- timers advanced and due events queued
unfoldable pub handle_timeout : Control → List ℕ → (jitter now : ℕ) → Turn
handle_timeout c store jitter now =
    choose (expired_control c) (record { out = done c NoAnswer; store = store })
    (record { out = out_of (handle_due c store jitter now).control (Ok NoAnswer) true true; store = (handle_due c store jitter now).store })
