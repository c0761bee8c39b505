-- The timers of the protocol, after src/timers.rs. Times are nanoseconds, the persistent keepalive's interval is seconds.
use Rattle.std.specs.Prelude.{◌≡◌, Bool, ℕ, ◌+◌, ◌*◌, ◌≤◌, None, Option, Some, unwrap_or}
use Rattle.base.specs.Choice.{choose, case_option}
use Rattle.tunnel.specs.declared.timers.Timers.{Timers}
use Rattle.sessions.specs.Session.{reject_after_time, keepalive_timeout, rekey_timeout}

-- 90 s
abbrev pub rekey_attempt_time : ℕ
rekey_attempt_time = 90000000000

-- 120 s
abbrev pub cookie_expiration_time : ℕ
cookie_expiration_time = 120000000000

-- 333 ms
abbrev pub max_jitter : ℕ
max_jitter = 333000000

-- the greatest interval of the persistent keepalive, in seconds
abbrev pub greatest_interval : ℕ
greatest_interval = 65535

-- a time, if present, is at most this
pub record TimeWithin (time : Option ℕ) (most : ℕ) : Type 0 where
  pub within : (at : ℕ) → time ≡ Some at → at ≤ most

-- a persistent keepalive, if set, has 1 to 65,535 seconds
pub record IntervalWithin (interval : Option ℕ) : Type 0 where
  pub least : (seconds : ℕ) → interval ≡ Some seconds → 1 ≤ seconds
  pub greatest : (seconds : ℕ) → interval ≡ Some seconds → seconds ≤ 65535

-- no timer is above this time, the scheduled handshake by the jitter at most, and the persistent keepalive is in range
pub record TimersWithin (t : Timers) (most : ℕ) : Type 0 where
  pub completed : t.time_last_handshake_completed ≤ most
  pub started : t.time_last_handshake_started ≤ most
  pub received : t.time_last_packet_received ≤ most
  pub sent : t.time_last_packet_sent ≤ most
  pub data_received : t.time_last_data_packet_received ≤ most
  pub data_sent : t.time_last_data_packet_sent ≤ most
  pub kept : t.time_persistent_keepalive ≤ most
  pub received_without_reply : TimeWithin t.last_data_received_without_reply most
  pub sent_without_reply : TimeWithin t.first_data_sent_without_reply most
  pub scheduled : TimeWithin t.send_handshake_at (most + 333000000)
  pub interval : IntervalWithin t.persistent_keepalive

-- timers that all stand at one time
unfoldable pub new_timers : Option ℕ → ℕ → Timers
new_timers interval now = record {
  time_last_handshake_completed = now;
  time_last_handshake_started = now;
  time_last_packet_received = now;
  time_last_packet_sent = now;
  time_last_data_packet_received = now;
  time_last_data_packet_sent = now;
  time_persistent_keepalive = now;
  last_data_received_without_reply = None;
  first_data_sent_without_reply = None;
  persistent_keepalive = interval;
  send_handshake_at = None;
}

-- timers with another time of the last completed handshake
abbrev pub with_completed : Timers → ℕ → Timers
with_completed t x = record {
  time_last_handshake_completed = x;
  time_last_handshake_started = t.time_last_handshake_started;
  time_last_packet_received = t.time_last_packet_received;
  time_last_packet_sent = t.time_last_packet_sent;
  time_last_data_packet_received = t.time_last_data_packet_received;
  time_last_data_packet_sent = t.time_last_data_packet_sent;
  time_persistent_keepalive = t.time_persistent_keepalive;
  last_data_received_without_reply = t.last_data_received_without_reply;
  first_data_sent_without_reply = t.first_data_sent_without_reply;
  persistent_keepalive = t.persistent_keepalive;
  send_handshake_at = t.send_handshake_at;
}

-- timers with another time of the last round of attempts
abbrev pub with_started : Timers → ℕ → Timers
with_started t x = record {
  time_last_handshake_completed = t.time_last_handshake_completed;
  time_last_handshake_started = x;
  time_last_packet_received = t.time_last_packet_received;
  time_last_packet_sent = t.time_last_packet_sent;
  time_last_data_packet_received = t.time_last_data_packet_received;
  time_last_data_packet_sent = t.time_last_data_packet_sent;
  time_persistent_keepalive = t.time_persistent_keepalive;
  last_data_received_without_reply = t.last_data_received_without_reply;
  first_data_sent_without_reply = t.first_data_sent_without_reply;
  persistent_keepalive = t.persistent_keepalive;
  send_handshake_at = t.send_handshake_at;
}

-- timers with another time of the last packet received
abbrev pub with_received : Timers → ℕ → Timers
with_received t x = record {
  time_last_handshake_completed = t.time_last_handshake_completed;
  time_last_handshake_started = t.time_last_handshake_started;
  time_last_packet_received = x;
  time_last_packet_sent = t.time_last_packet_sent;
  time_last_data_packet_received = t.time_last_data_packet_received;
  time_last_data_packet_sent = t.time_last_data_packet_sent;
  time_persistent_keepalive = t.time_persistent_keepalive;
  last_data_received_without_reply = t.last_data_received_without_reply;
  first_data_sent_without_reply = t.first_data_sent_without_reply;
  persistent_keepalive = t.persistent_keepalive;
  send_handshake_at = t.send_handshake_at;
}

-- timers with another time of the last packet sent
abbrev pub with_sent : Timers → ℕ → Timers
with_sent t x = record {
  time_last_handshake_completed = t.time_last_handshake_completed;
  time_last_handshake_started = t.time_last_handshake_started;
  time_last_packet_received = t.time_last_packet_received;
  time_last_packet_sent = x;
  time_last_data_packet_received = t.time_last_data_packet_received;
  time_last_data_packet_sent = t.time_last_data_packet_sent;
  time_persistent_keepalive = t.time_persistent_keepalive;
  last_data_received_without_reply = t.last_data_received_without_reply;
  first_data_sent_without_reply = t.first_data_sent_without_reply;
  persistent_keepalive = t.persistent_keepalive;
  send_handshake_at = t.send_handshake_at;
}

-- timers with another time of the last data packet received
abbrev pub with_data_received : Timers → ℕ → Timers
with_data_received t x = record {
  time_last_handshake_completed = t.time_last_handshake_completed;
  time_last_handshake_started = t.time_last_handshake_started;
  time_last_packet_received = t.time_last_packet_received;
  time_last_packet_sent = t.time_last_packet_sent;
  time_last_data_packet_received = x;
  time_last_data_packet_sent = t.time_last_data_packet_sent;
  time_persistent_keepalive = t.time_persistent_keepalive;
  last_data_received_without_reply = t.last_data_received_without_reply;
  first_data_sent_without_reply = t.first_data_sent_without_reply;
  persistent_keepalive = t.persistent_keepalive;
  send_handshake_at = t.send_handshake_at;
}

-- timers with another time of the last data packet sent
abbrev pub with_data_sent : Timers → ℕ → Timers
with_data_sent t x = record {
  time_last_handshake_completed = t.time_last_handshake_completed;
  time_last_handshake_started = t.time_last_handshake_started;
  time_last_packet_received = t.time_last_packet_received;
  time_last_packet_sent = t.time_last_packet_sent;
  time_last_data_packet_received = t.time_last_data_packet_received;
  time_last_data_packet_sent = x;
  time_persistent_keepalive = t.time_persistent_keepalive;
  last_data_received_without_reply = t.last_data_received_without_reply;
  first_data_sent_without_reply = t.first_data_sent_without_reply;
  persistent_keepalive = t.persistent_keepalive;
  send_handshake_at = t.send_handshake_at;
}

-- timers with another time of the last persistent keepalive
abbrev pub with_persistent : Timers → ℕ → Timers
with_persistent t x = record {
  time_last_handshake_completed = t.time_last_handshake_completed;
  time_last_handshake_started = t.time_last_handshake_started;
  time_last_packet_received = t.time_last_packet_received;
  time_last_packet_sent = t.time_last_packet_sent;
  time_last_data_packet_received = t.time_last_data_packet_received;
  time_last_data_packet_sent = t.time_last_data_packet_sent;
  time_persistent_keepalive = x;
  last_data_received_without_reply = t.last_data_received_without_reply;
  first_data_sent_without_reply = t.first_data_sent_without_reply;
  persistent_keepalive = t.persistent_keepalive;
  send_handshake_at = t.send_handshake_at;
}

-- timers with another time of data received without a reply
abbrev pub with_received_without_reply : Timers → Option ℕ → Timers
with_received_without_reply t x = record {
  time_last_handshake_completed = t.time_last_handshake_completed;
  time_last_handshake_started = t.time_last_handshake_started;
  time_last_packet_received = t.time_last_packet_received;
  time_last_packet_sent = t.time_last_packet_sent;
  time_last_data_packet_received = t.time_last_data_packet_received;
  time_last_data_packet_sent = t.time_last_data_packet_sent;
  time_persistent_keepalive = t.time_persistent_keepalive;
  last_data_received_without_reply = x;
  first_data_sent_without_reply = t.first_data_sent_without_reply;
  persistent_keepalive = t.persistent_keepalive;
  send_handshake_at = t.send_handshake_at;
}

-- timers with another time of data sent without a reply
abbrev pub with_sent_without_reply : Timers → Option ℕ → Timers
with_sent_without_reply t x = record {
  time_last_handshake_completed = t.time_last_handshake_completed;
  time_last_handshake_started = t.time_last_handshake_started;
  time_last_packet_received = t.time_last_packet_received;
  time_last_packet_sent = t.time_last_packet_sent;
  time_last_data_packet_received = t.time_last_data_packet_received;
  time_last_data_packet_sent = t.time_last_data_packet_sent;
  time_persistent_keepalive = t.time_persistent_keepalive;
  last_data_received_without_reply = t.last_data_received_without_reply;
  first_data_sent_without_reply = x;
  persistent_keepalive = t.persistent_keepalive;
  send_handshake_at = t.send_handshake_at;
}

-- timers with another time of the scheduled handshake
abbrev pub with_scheduled : Timers → Option ℕ → Timers
with_scheduled t x = record {
  time_last_handshake_completed = t.time_last_handshake_completed;
  time_last_handshake_started = t.time_last_handshake_started;
  time_last_packet_received = t.time_last_packet_received;
  time_last_packet_sent = t.time_last_packet_sent;
  time_last_data_packet_received = t.time_last_data_packet_received;
  time_last_data_packet_sent = t.time_last_data_packet_sent;
  time_persistent_keepalive = t.time_persistent_keepalive;
  last_data_received_without_reply = t.last_data_received_without_reply;
  first_data_sent_without_reply = t.first_data_sent_without_reply;
  persistent_keepalive = t.persistent_keepalive;
  send_handshake_at = x;
}

-- the connection expiry deadline
unfoldable pub reject_after_time_of : Timers → Option ℕ
reject_after_time_of t = Some (t.time_last_handshake_completed + reject_after_time * 3)

-- the deadline for giving up on unanswered handshake attempts
unfoldable pub rekey_attempt_deadline : Timers → Option ℕ
rekey_attempt_deadline t = Some (t.time_last_handshake_started + rekey_attempt_time)

-- the new-handshake deadline for data sent without a reply
unfoldable pub rekey_after_time_without_response : Timers → Option ℕ
rekey_after_time_without_response t =
    case_option t.first_data_sent_without_reply None (λ at. Some (at + keepalive_timeout + rekey_timeout))

-- the passive-keepalive deadline for data received without a reply
unfoldable pub keepalive_after_time_without_send : Timers → Option ℕ
keepalive_after_time_without_send t = case_option t.last_data_received_without_reply None (λ at. Some (at + keepalive_timeout))

-- the next persistent-keepalive deadline
unfoldable pub next_persistent_keepalive : Timers → Option ℕ
next_persistent_keepalive t =
    case_option t.persistent_keepalive None (λ seconds. Some (t.time_persistent_keepalive + seconds * 1000000000))

-- all seven timers at one time, and nothing without a reply
unfoldable pub clear_timers : Timers → ℕ → Timers
clear_timers t now = record {
  time_last_handshake_completed = now;
  time_last_handshake_started = now;
  time_last_packet_received = now;
  time_last_packet_sent = now;
  time_last_data_packet_received = now;
  time_last_data_packet_sent = now;
  time_persistent_keepalive = now;
  last_data_received_without_reply = None;
  first_data_sent_without_reply = None;
  persistent_keepalive = t.persistent_keepalive;
  send_handshake_at = t.send_handshake_at;
}

-- a handshake completed
unfoldable pub tick_last_handshake_completed : Timers → ℕ → Timers
tick_last_handshake_completed t now = with_completed t now

-- a round of handshake attempts began
unfoldable pub tick_last_handshake_started : Timers → ℕ → Timers
tick_last_handshake_started t now = with_started t now

-- a packet was received, which answers data that was sent
unfoldable pub tick_last_packet_received : Timers → ℕ → Timers
tick_last_packet_received t now = with_sent_without_reply (with_received t now) None

-- a packet was sent, which answers data that was received
unfoldable pub tick_last_packet_sent : Timers → ℕ → Timers
tick_last_packet_sent t now = with_received_without_reply (with_sent t now) None

-- data was received, to which nothing has been sent since
unfoldable pub tick_last_data_packet_received : Timers → ℕ → Timers
tick_last_data_packet_received t now = with_received_without_reply (with_data_received t now) (Some now)

-- data was sent; later sends do not postpone the deadline for the first unanswered packet
unfoldable pub tick_last_data_packet_sent : Timers → ℕ → Timers
tick_last_data_packet_sent t now = with_sent_without_reply (with_data_sent t now) (Some (unwrap_or t.first_data_sent_without_reply now))

-- a persistent keepalive was due
unfoldable pub tick_persistent_keepalive : Timers → ℕ → Timers
tick_persistent_keepalive t now = with_persistent t now

-- the retry deadline for a handshake initiation sent at this time
unfoldable pub rekey_timeout_of : Option ℕ → Option ℕ
rekey_timeout_of sent = case_option sent None (λ at. Some (at + rekey_timeout))

-- a handshake scheduled
unfoldable pub schedule_handshake : Timers → ℕ → Timers
schedule_handshake t at = with_scheduled t (Some at)

-- a scheduled handshake cancelled
unfoldable pub cancel_scheduled_handshake : Timers → Timers
cancel_scheduled_handshake t = with_scheduled t None

-- the passive-keepalive deadline dropped
unfoldable pub consume_passive_keepalive : Timers → Timers
consume_passive_keepalive t = with_received_without_reply t None

-- messages were accepted, data among them or not
unfoldable pub tick_accepted : Timers → Bool → ℕ → Timers
tick_accepted t has_data now = choose has_data (tick_last_data_packet_received (tick_last_packet_received t now) now) (tick_last_packet_received t now)

-- an initiation was answered by a response
unfoldable pub tick_response : Timers → ℕ → Timers
tick_response t now = tick_last_handshake_completed (tick_last_packet_sent (tick_last_packet_received t now) now) now

-- a response completed the handshake, so a scheduled one is cancelled
unfoldable pub tick_completed : Timers → ℕ → Timers
tick_completed t now = cancel_scheduled_handshake (tick_last_handshake_completed (tick_last_packet_received t now) now)

-- an initiation was sent; one that replaces another in progress begins no round of attempts
unfoldable pub tick_initiation : Timers → Bool → ℕ → Timers
tick_initiation t in_progress now =
    choose in_progress (tick_last_packet_sent t now) (tick_last_packet_sent (tick_last_handshake_started t now) now)
