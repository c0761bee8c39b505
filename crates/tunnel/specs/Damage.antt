-- Number 14: whether it lets a stored state through. Empty slots, unused places of the ring and the words of the store are not looked at.
use Rattle.std.specs.Prelude.{Bool, true, false, List, [], ◌∷◌, ℕ, ◌+◌, leb, eqb, Option}
use Rattle.base.specs.Choice.{choose, ◌and◌, case_option}
use Rattle.tunnel.specs.Cases.{case_event, case_state}
use Rattle.tunnel.specs.RingBuffer.{queued}
use Rattle.tunnel.specs.Timers.{max_jitter, greatest_interval}
use Rattle.tunnel.specs.declared.event.Event.{Event}
use Rattle.tunnel.specs.declared.handshake.Handshake.{Handshake}
use Rattle.tunnel.specs.declared.handshake.HandshakeState.{HandshakeState}
use Rattle.tunnel.specs.declared.ring_buffer.RingBuffer.{RingBuffer}
use Rattle.tunnel.specs.declared.timers.Timers.{Timers}
use Rattle.sessions.specs.Session.{time_limit}
use Rattle.tunnel.specs.declared.control.Control.{Control}
use Rattle.sessions.specs.Damage.{sessions_hold}
use Rattle.tunnel.specs.declared.tunnel.Tunnel.{Tunnel}

-- a time, if present, is at most this
unfoldable pub time_holds : Option ℕ → ℕ → Bool
time_holds time most = case_option time true (λ at. leb at most)

-- an initiation's time is at most the greatest time
unfoldable pub state_holds : HandshakeState → ℕ → Bool
state_holds state greatest = case_state state true (λ local sent. leb sent greatest) true

-- 1 to 65,535 seconds
unfoldable pub in_range : ℕ → Bool
in_range seconds = choose (eqb seconds 0) false (leb seconds greatest_interval)

-- the keepalive is absent or in range
unfoldable pub interval_holds : Option ℕ → Bool
interval_holds interval = case_option interval true in_range

-- both times of an established event are at most the greatest time
unfoldable pub event_holds : Option Event → ℕ → Bool
event_holds event greatest =
    case_option event true
    (λ held. case_event held (λ local. true) (λ peer counter. true) (λ started confirmed. leb started greatest and leb confirmed greatest) true)

-- every event of a list holds
unfoldable pub queue_holds : List (Option Event) → ℕ → Bool
queue_holds [] greatest = true
queue_holds (event ∷ events) greatest = event_holds event greatest and queue_holds events greatest

-- the ring's head is at most 15, its length at most 16, and every queued event holds
unfoldable pub events_hold : RingBuffer → ℕ → Bool
events_hold r greatest = leb r.head 15 and leb r.len 16 and queue_holds (queued r) greatest

-- the times of the present and the previous initiation and of the cookie are at most the greatest time
unfoldable pub handshake_holds : Handshake → ℕ → Bool
handshake_holds h greatest =
    state_holds h.state greatest and state_holds h.previous greatest and time_holds h.cookies.write_cookie greatest

-- the timers of handshakes and packets are at most the greatest time
unfoldable pub packet_timers_hold : Timers → ℕ → Bool
packet_timers_hold t greatest =
    leb t.time_last_handshake_completed greatest and leb t.time_last_handshake_started greatest
    and leb t.time_last_packet_received greatest and leb t.time_last_packet_sent greatest

-- the timers of data packets and of the persistent keepalive are at most the greatest time
unfoldable pub data_timers_hold : Timers → ℕ → Bool
data_timers_hold t greatest =
    leb t.time_last_data_packet_received greatest and leb t.time_last_data_packet_sent greatest
    and leb t.time_persistent_keepalive greatest

-- the times without a reply are at most the greatest time, the scheduled handshake at most 333 ms above it, the keepalive in range
unfoldable pub fields_hold : Timers → ℕ → Bool
fields_hold t greatest =
    time_holds t.last_data_received_without_reply greatest and time_holds t.first_data_sent_without_reply greatest
    and time_holds t.send_handshake_at (greatest + max_jitter) and interval_holds t.persistent_keepalive

-- all timers hold
unfoldable pub timers_hold : Timers → ℕ → Bool
timers_hold t greatest = packet_timers_hold t greatest and data_timers_hold t greatest and fields_hold t greatest

-- the sessions and the events hold
unfoldable pub stored_holds : Control → ℕ → Bool
stored_holds c greatest = sessions_hold c.sessions greatest and events_hold c.events greatest

-- the control holds below this greatest time
unfoldable pub control_holds : Control → ℕ → Bool
control_holds c greatest =
    timers_hold c.timers greatest and handshake_holds c.handshake greatest
    and time_holds c.first_initiation_at greatest and stored_holds c greatest

-- number 14 lets the tunnel through: the greatest time is at most the limit, and the last update and the control hold below it
unfoldable pub undamaged : Tunnel → Bool
undamaged t = leb t.greatest time_limit and leb t.last_update t.greatest and control_holds t.control t.greatest
