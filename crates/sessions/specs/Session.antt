-- One session, after `Session` of src/session.rs, without its keys and without its window's bitmap. Times are nanoseconds.
use Rattle.std.specs.Prelude.{ℕ, ◌+◌, ◌-◌, Bool, true, false, leb, List, ◌==◌, nat_le, nat_lt, None, Option, Some, Result, Err}
use Rattle.error.specs.declared.Error.{Error}
use Rattle.error.specs.declared.Error.TheVariants.{InvalidArgument, WrongIndex}
use Rattle.base.specs.Choice.{choose, case_option}
use Rattle.window.specs.Window.{limit, will_accept}
use Rattle.sessions.specs.Index.{slot_of}
use Rattle.sessions.specs.Store.{whole, slot_words}
use Rattle.sessions.specs.declared.session.Role.{Role}
use Rattle.sessions.specs.declared.session.Role.TheVariants.{Initiator}
use Rattle.sessions.specs.declared.session.Session.{Session}
use Rattle.sessions.specs.Cases.{case_role}

-- LIMIT, by the name of the Rust: no counter at or above it is granted or committed
abbrev pub reject_after_messages : ℕ
reject_after_messages = limit

-- 2^60 messages
abbrev pub rekey_after_messages : ℕ
rekey_after_messages = 1152921504606846976

-- 120 s
abbrev pub rekey_after_time : ℕ
rekey_after_time = 120000000000

-- 180 s
abbrev pub reject_after_time : ℕ
reject_after_time = 180000000000

-- 10 s
abbrev pub keepalive_timeout : ℕ
keepalive_timeout = 10000000000

-- 5 s
abbrev pub rekey_timeout : ℕ
rekey_timeout = 5000000000

-- the greatest time that a call may give
abbrev pub time_limit : ℕ
time_limit = 4000000000000000000

-- whether a deadline has come
unfoldable pub due_by : Option ℕ → ℕ → Bool
due_by deadline now = case_option deadline false (λ at. leb at now)

-- the lesser of two numbers
unfoldable pub least : ℕ → ℕ → ℕ
least a b = choose (nat_lt b a) b a

-- the earlier of two deadlines
unfoldable pub earlier : Option ℕ → Option ℕ → Option ℕ
earlier a b = case_option a b (λ x. case_option b (Some x) (λ y. Some (least x y)))

-- a session just established, last heard at that time
unfoldable pub new_session : (local peer : ℕ) → Role → (now : ℕ) → Session
new_session local peer role now =
    record {
      filled = true;
      id = 0;
      established_at = now;
      last_heard = now;
      role = role;
      sent_data = false;
      received_data = false;
      receiving_index = local;
      sending_index = peer;
      sending_key_counter = 0;
      next = 0;
    }

-- a session with another filled mark
abbrev pub with_filled : Session → Bool → Session
with_filled s x =
    record {
      filled = x;
      id = s.id;
      established_at = s.established_at;
      last_heard = s.last_heard;
      role = s.role;
      sent_data = s.sent_data;
      received_data = s.received_data;
      receiving_index = s.receiving_index;
      sending_index = s.sending_index;
      sending_key_counter = s.sending_key_counter;
      next = s.next;
    }

-- a session with another id
abbrev pub with_id : Session → ℕ → Session
with_id s x =
    record {
      filled = s.filled;
      id = x;
      established_at = s.established_at;
      last_heard = s.last_heard;
      role = s.role;
      sent_data = s.sent_data;
      received_data = s.received_data;
      receiving_index = s.receiving_index;
      sending_index = s.sending_index;
      sending_key_counter = s.sending_key_counter;
      next = s.next;
    }

-- a session with another mark of data sent
abbrev pub with_sent_data : Session → Bool → Session
with_sent_data s x =
    record {
      filled = s.filled;
      id = s.id;
      established_at = s.established_at;
      last_heard = s.last_heard;
      role = s.role;
      sent_data = x;
      received_data = s.received_data;
      receiving_index = s.receiving_index;
      sending_index = s.sending_index;
      sending_key_counter = s.sending_key_counter;
      next = s.next;
    }

-- a session with another mark of data received
abbrev pub with_received_data : Session → Bool → Session
with_received_data s x =
    record {
      filled = s.filled;
      id = s.id;
      established_at = s.established_at;
      last_heard = s.last_heard;
      role = s.role;
      sent_data = s.sent_data;
      received_data = x;
      receiving_index = s.receiving_index;
      sending_index = s.sending_index;
      sending_key_counter = s.sending_key_counter;
      next = s.next;
    }

-- a session with another send counter
abbrev pub with_counter : Session → ℕ → Session
with_counter s x =
    record {
      filled = s.filled;
      id = s.id;
      established_at = s.established_at;
      last_heard = s.last_heard;
      role = s.role;
      sent_data = s.sent_data;
      received_data = s.received_data;
      receiving_index = s.receiving_index;
      sending_index = s.sending_index;
      sending_key_counter = x;
      next = s.next;
    }

-- a session with another next expected counter of its window
abbrev pub with_next : Session → ℕ → Session
with_next s x =
    record {
      filled = s.filled;
      id = s.id;
      established_at = s.established_at;
      last_heard = s.last_heard;
      role = s.role;
      sent_data = s.sent_data;
      received_data = s.received_data;
      receiving_index = s.receiving_index;
      sending_index = s.sending_index;
      sending_key_counter = s.sending_key_counter;
      next = x;
    }

-- a session with another time at which it was last heard
abbrev pub with_last_heard : Session → ℕ → Session
with_last_heard s x =
    record {
      filled = s.filled;
      id = s.id;
      established_at = s.established_at;
      last_heard = x;
      role = s.role;
      sent_data = s.sent_data;
      received_data = s.received_data;
      receiving_index = s.receiving_index;
      sending_index = s.sending_index;
      sending_key_counter = s.sending_key_counter;
      next = s.next;
    }

-- the record of an empty slot
unfoldable pub empty_session : Session
empty_session = with_filled (new_session 0 0 Initiator 0) false

-- the rekey deadline for an initiator session that has sent data
unfoldable pub rekey_after_time_on_send : Session → Option ℕ
rekey_after_time_on_send s = case_role s.role (choose s.sent_data (Some (s.established_at + rekey_after_time)) None) None

-- the rekey deadline before expiry for an initiator session that has received data
unfoldable pub reject_after_time_on_receive : Session → Option ℕ
reject_after_time_on_receive s =
    case_role s.role
    (choose s.received_data (Some (s.established_at + reject_after_time - keepalive_timeout - rekey_timeout)) None)
    None

-- the time from which a session is expired
unfoldable pub expires_at : Session → ℕ
expires_at s = s.established_at + reject_after_time

-- whether a session is expired
unfoldable pub expired_at : Session → ℕ → Bool
expired_at s time = nat_le (s.established_at + reject_after_time) time

-- whether a session has enough time left to send a packet
unfoldable pub should_use_at : Session → ℕ → Bool
should_use_at s time = nat_le (time + keepalive_timeout) (s.established_at + reject_after_time)

-- whether the send counter has reached the number of messages after which to rekey
unfoldable pub rekey_after_messages_reached : Session → Bool
rekey_after_messages_reached s = nat_le rekey_after_messages s.sending_key_counter

-- whether the send counter has reached LIMIT
unfoldable pub sending_counter_exhausted : Session → Bool
sending_counter_exhausted s = nat_le limit s.sending_key_counter

-- a session marked as having sent data
unfoldable pub prepare_packet_data : Session → Session
prepare_packet_data s = with_sent_data s true

-- so many consecutive counters reserved, if they end at LIMIT at most
unfoldable pub reserve_counters : Session → ℕ → Option (ℕ × Session)
reserve_counters s len =
    choose (nat_le (s.sending_key_counter + len) limit)
    (Some (s.sending_key_counter, (with_counter s (s.sending_key_counter + len))))
    None

-- the early look: an argument is invalid where the store is not of 1,024 words, another index is wrong, else what the window's words say
unfoldable pub will_receive : Session → List ℕ → (receiver counter : ℕ) → Result Unit Error
will_receive s store receiver counter =
    choose (whole store)
    (choose (receiver == s.receiving_index) (will_accept (slot_words store (slot_of receiver)) s.next counter) (Err WrongIndex))
    (Err InvalidArgument)
