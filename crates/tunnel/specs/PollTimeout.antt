-- The deadlines at which a waking has something to do, and the next of them, after `poll_timeout` and `next_deadline` of src/tunnel.rs. Each is
-- one definition, which the waking tests too.
use Rattle.std.specs.Prelude.{ℕ, ltb, None, Option, Some}
use Rattle.base.specs.Choice.{choose, case_option}
use Rattle.tunnel.specs.Control.{expired_control}
use Rattle.tunnel.specs.declared.control.Control.{Control}
use Rattle.tunnel.specs.Handshake.{cookie_expiration, in_flight_initiation}
use Rattle.tunnel.specs.RingBuffer.{ring_is_empty}
use Rattle.tunnel.specs.Timers.{reject_after_time_of, rekey_attempt_deadline, rekey_after_time_without_response, keepalive_after_time_without_send, next_persistent_keepalive, rekey_timeout_of}
use Rattle.sessions.specs.Session.{earlier, rekey_after_time_on_send, reject_after_time_on_receive, rekey_after_messages_reached}
use Rattle.sessions.specs.Sessions.{current_of, next_expiry}
use Rattle.sessions.specs.declared.session.Session.{Session}

-- when the scheduled handshake is due
unfoldable pub scheduled_handshake : Control → Option ℕ
scheduled_handshake c = c.timers.send_handshake_at

-- when the earliest session expires
unfoldable pub earliest_expiry : Control → Option ℕ
earliest_expiry c = next_expiry c.sessions

-- when the stored cookie expires
unfoldable pub cookie_deadline : Control → Option ℕ
cookie_deadline c = cookie_expiration c.handshake

-- when the connection expires for want of a handshake
unfoldable pub reject_deadline : Control → Option ℕ
reject_deadline c = reject_after_time_of c.timers

-- when unanswered handshake attempts are given up
unfoldable pub attempt_deadline : Control → Option ℕ
attempt_deadline c = rekey_attempt_deadline c.timers

-- the retry deadline of the initiation that awaits a response
unfoldable pub handshake_rekey_timeout : Control → Option ℕ
handshake_rekey_timeout c = rekey_timeout_of (in_flight_initiation c.handshake)

-- the rekey deadline of a session that was found and has sent data
unfoldable pub found_on_send : Option Session → Option ℕ
found_on_send found = case_option found None rekey_after_time_on_send

-- the time of the last packet sent, if the session that was found has reached the number of messages after which to rekey
unfoldable pub found_after_messages : Option Session → ℕ → Option ℕ
found_after_messages found last_sent = case_option found None (λ session. choose (rekey_after_messages_reached session) (Some last_sent) None)

-- the rekey deadline of a session that was found and has received data
unfoldable pub found_on_receive : Option Session → Option ℕ
found_on_receive found = case_option found None reject_after_time_on_receive

-- the rekey deadline of a current session that has sent data
abbrev pub rekey_on_send : Control → Option ℕ
rekey_on_send c = found_on_send (current_of c.sessions)

-- when the current session reached the number of messages after which to rekey
abbrev pub rekey_on_messages : Control → Option ℕ
rekey_on_messages c = found_after_messages (current_of c.sessions) c.timers.time_last_packet_sent

-- the rekey deadline of a current session that has received data
abbrev pub rekey_on_receive : Control → Option ℕ
rekey_on_receive c = found_on_receive (current_of c.sessions)

-- the new-handshake deadline for data sent without a reply
unfoldable pub response_deadline : Control → Option ℕ
response_deadline c = rekey_after_time_without_response c.timers

-- the passive-keepalive deadline for data received without a reply
unfoldable pub passive_deadline : Control → Option ℕ
passive_deadline c = keepalive_after_time_without_send c.timers

-- the persistent-keepalive deadline, with or without a session
unfoldable pub persistent_deadline : Control → Option ℕ
persistent_deadline c = next_persistent_keepalive c.timers

-- the persistent-keepalive deadline while a session is current
unfoldable pub current_persistent_deadline : Control → Option ℕ
current_persistent_deadline c = case_option (current_of c.sessions) None (λ session. persistent_deadline c)

-- the deadlines that count at all times
unfoldable pub common_deadline : Control → Option ℕ
common_deadline c = earlier (earlier (earliest_expiry c) (cookie_deadline c)) (reject_deadline c)

-- the deadlines at which a handshake is required while none is in progress
unfoldable pub rekey_deadline : Control → Option ℕ
rekey_deadline c = earlier (earlier (rekey_on_send c) (rekey_on_messages c)) (earlier (rekey_on_receive c) (response_deadline c))

-- the deadlines of keepalives
unfoldable pub keepalive_deadline : Control → Option ℕ
keepalive_deadline c = earlier (passive_deadline c) (current_persistent_deadline c)

-- the earliest deadline while no handshake is scheduled
unfoldable pub unscheduled_deadline : Control → Option ℕ
unscheduled_deadline c =
    case_option (handshake_rekey_timeout c)
    (earlier (common_deadline c) (earlier (rekey_deadline c) (keepalive_deadline c)))
    (λ retry. earlier (common_deadline c) (earlier (Some retry) (attempt_deadline c)))

-- the earliest deadline
unfoldable pub next_deadline : Control → Option ℕ
next_deadline c = case_option (scheduled_handshake c) (unscheduled_deadline c) (λ at. Some at)

-- a deadline, or the last update where it has elapsed before that
unfoldable pub not_before : Option ℕ → ℕ → Option ℕ
not_before deadline last_update = case_option deadline None (λ at. Some (choose (ltb at last_update) last_update at))

-- the next deadline for waking the tunnel; while events are queued it has already passed
unfoldable pub poll_timeout : Control → ℕ → Option ℕ
poll_timeout c last_update =
    choose (expired_control c) None (choose (ring_is_empty c.events) (not_before (next_deadline c) last_update) (Some last_update))
