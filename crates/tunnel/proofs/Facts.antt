-- The test of number 14 and the facts that it looks at: one is true just where the others hold.
-- Assumes nothing.
use mathlib.Core.Path.{◌≡◌, refl, sym, ◌∙◌}
use mathlib.Core.Bool.{Bool, true, false}
use mathlib.Core.List.{List, [], ◌∷◌}
use Prim.Native.Nat.{ℕ, zero, suc, ◌+◌, ◌≤◌, ◌<◌}
use native.Mathlib.Omega.{arith}
use native.Mathlib.Decide.{ℕ_discrete}
use lib.Dec.{leb, eqb}
use borrow.Author.Tests.{leb-true, le-leb, eqb-true, eq-eqb, ne_eqb}
use Rattle.base.specs.Choice.{choose, ◌and◌, case_option}
use Rattle.tunnel.specs.Damage.{stored_holds, control_holds, time_holds, state_holds, in_range, interval_holds, event_holds, queue_holds, events_hold, handshake_holds, packet_timers_hold, data_timers_hold, fields_hold, timers_hold, undamaged}
use Rattle.tunnel.specs.Facts.EventsWithin.{none, more}
use Rattle.tunnel.specs.Facts.{SlotWithin, SessionsWithin, EventWithin, EventsWithin, QueueWithin, ControlWithin, Undamaged}
use Rattle.tunnel.specs.declared.control.Control.{Control}
use Rattle.sessions.specs.Damage.{slot_holds, slots_hold}
use Rattle.tunnel.specs.Cases.{case_event, case_state}
use Rattle.tunnel.specs.Handshake.{SentWithin, HandshakeWithin}
use Rattle.tunnel.specs.RingBuffer.{queued, RingWithin}
use Rattle.tunnel.specs.Timers.{max_jitter, TimeWithin, IntervalWithin, TimersWithin}
use Rattle.tunnel.specs.declared.event.Event.TheVariants.{SendHandshakeInitiation, SendKeepalive, Established, ConnectionExpired}
use Rattle.tunnel.specs.declared.event.Event.{Event}
use Rattle.tunnel.specs.declared.handshake.Handshake.{Handshake}
use Rattle.tunnel.specs.declared.handshake.HandshakeState.TheVariants.{None as NoHandshake, InitSent, Expired}
use Rattle.tunnel.specs.declared.handshake.HandshakeState.{HandshakeState}
use Rattle.tunnel.specs.declared.ring_buffer.RingBuffer.{RingBuffer}
use Rattle.tunnel.specs.declared.timers.Timers.{Timers}
use Rattle.sessions.specs.Index.{slot_of}
use Rattle.sessions.specs.Session.{reject_after_messages, time_limit}
use Rattle.sessions.specs.Sessions.{slot_at}
use Rattle.sessions.specs.declared.session.Session.{Session}
use Rattle.sessions.specs.declared.sessions.Sessions.{Sessions}
use Rattle.tunnel.proofs.Later.{control_later}
use Rattle.tunnel.specs.declared.tunnel.Tunnel.{Tunnel}
use Rattle.std.specs.Prelude.{None, Option, Some}

-- the two parts of a test that is true
pub first : (a b : Bool) → (a and b) ≡ true → a ≡ true
unfolding choose
first true b h = refl
first false b h = h

pub second : (a b : Bool) → (a and b) ≡ true → b ≡ true
unfolding choose
second true b h = h
second false b h = let z : ◌≡◌ {A = ℕ} 0 1 = cc in absurd (omega arith)

-- a test of two parts that are true
pub joined : {a b : Bool} → a ≡ true → b ≡ true → (a and b) ≡ true
unfolding choose
joined p q = rw p q

-- a test that is made only where a flag is set
picked : (f b : Bool) → choose f b true ≡ true → f ≡ true → b ≡ true
unfolding choose
picked f b h p = rw p at h

either : (f : Bool) {b : Bool} → (f ≡ true → b ≡ true) → choose f b true ≡ true
unfolding choose
either true h = h refl
either false h = refl

-- a present time
time_facts : (time : Option ℕ) (most : ℕ) → time_holds time most ≡ true → TimeWithin time most
unfolding time_holds case_option
time_facts None most h = record { within = λ at p. let z : ◌≡◌ {A = ℕ} 0 1 = cc in omega arith }
time_facts (Some x) most h = record { within = λ at p. let e : x ≡ at = cc in omega (arith, leb-true x most h) }

time_holds_lem : (time : Option ℕ) (most : ℕ) → TimeWithin time most → time_holds time most ≡ true
unfolding time_holds case_option
time_holds_lem None most w = refl
time_holds_lem (Some x) most w = le-leb x most (w.within x refl)

-- an initiation
state_facts : (state : HandshakeState) (most : ℕ) → state_holds state most ≡ true → SentWithin state most
unfolding state_holds case_state
state_facts NoHandshake most h = record { within = λ local sent p. let z : ◌≡◌ {A = ℕ} 0 1 = cc in omega arith }
state_facts (InitSent x y) most h = record { within = λ local sent p. let e : y ≡ sent = cc in omega (arith, leb-true y most h) }
state_facts Expired most h = record { within = λ local sent p. let z : ◌≡◌ {A = ℕ} 0 1 = cc in omega arith }

state_holds_lem : (state : HandshakeState) (most : ℕ) → SentWithin state most → state_holds state most ≡ true
unfolding state_holds case_state
state_holds_lem NoHandshake most w = refl
state_holds_lem (InitSent x y) most w = le-leb y most (w.within x y refl)
state_holds_lem Expired most w = refl

-- an interval in seconds
range_facts : (seconds : ℕ) → in_range seconds ≡ true → (1 ≤ seconds) × (seconds ≤ 65535)
unfolding in_range choose
range_facts zero h = let z : ◌≡◌ {A = ℕ} 0 1 = cc in absurd (omega arith)
range_facts (suc n) h = (omega arith, leb-true (suc n) 65535 (rw (ne_eqb (suc n) 0 (λ e. omega arith)) at h))

range_holds : (seconds : ℕ) → 1 ≤ seconds → seconds ≤ 65535 → in_range seconds ≡ true
unfolding in_range choose
range_holds zero l m = absurd (omega arith)
range_holds (suc n) l m = rw (ne_eqb (suc n) 0 (λ e. omega arith)) (le-leb (suc n) 65535 m)

interval_facts : (interval : Option ℕ) → interval_holds interval ≡ true → IntervalWithin interval
unfolding interval_holds case_option
interval_facts None h =
    record { least = λ s p. let z : ◌≡◌ {A = ℕ} 0 1 = cc in omega arith; greatest = λ s p. let z : ◌≡◌ {A = ℕ} 0 1 = cc in omega arith }
interval_facts (Some x) h =
    record {
      least = λ s p. let e : x ≡ s = cc in omega (arith, (range_facts x h).0);
      greatest = λ s p. let e : x ≡ s = cc in omega (arith, (range_facts x h).1);
    }

interval_holds_lem : (interval : Option ℕ) → IntervalWithin interval → interval_holds interval ≡ true
unfolding interval_holds case_option
interval_holds_lem None w = refl
interval_holds_lem (Some x) w = range_holds x (w.least x refl) (w.greatest x refl)

-- an event without times
pub no_times : (event : Option Event) (most : ℕ) → ((a b : ℕ) → event ≡ Some (Established a b) → ⊥) → EventWithin event most
no_times event most h = record { started = λ a b p. absurd (h a b p); confirmed = λ a b p. absurd (h a b p) }

-- an event
event_facts : (event : Option Event) (most : ℕ) → event_holds event most ≡ true → EventWithin event most
unfolding event_holds case_option case_event
event_facts (Some (Established x y)) most h =
    record {
      started = λ a b p. let e : x ≡ a = cc in omega (arith, leb-true x most (first _ _ h));
      confirmed = λ a b p. let e : y ≡ b = cc in omega (arith, leb-true y most (second _ _ h));
    }
event_facts None most h = no_times None most (λ a b p. let z : ◌≡◌ {A = ℕ} 0 1 = cc in omega arith)
event_facts (Some (SendHandshakeInitiation x)) most h =
    no_times (Some (SendHandshakeInitiation x)) most (λ a b p. let z : ◌≡◌ {A = ℕ} 0 1 = cc in omega arith)
event_facts (Some (SendKeepalive x y)) most h = no_times (Some (SendKeepalive x y)) most (λ a b p. let z : ◌≡◌ {A = ℕ} 0 1 = cc in omega arith)
event_facts (Some ConnectionExpired) most h = no_times (Some ConnectionExpired) most (λ a b p. let z : ◌≡◌ {A = ℕ} 0 1 = cc in omega arith)

event_holds_lem : (event : Option Event) (most : ℕ) → EventWithin event most → event_holds event most ≡ true
unfolding event_holds case_option case_event
event_holds_lem (Some (Established x y)) most w = joined (le-leb x most (w.started x y refl)) (le-leb y most (w.confirmed x y refl))
event_holds_lem None most w = refl
event_holds_lem (Some (SendHandshakeInitiation x)) most w = refl
event_holds_lem (Some (SendKeepalive x y)) most w = refl
event_holds_lem (Some ConnectionExpired) most w = refl

-- the queued events
queue_facts : (events : List (Option Event)) (most : ℕ) → queue_holds events most ≡ true → EventsWithin most events
unfolding queue_holds
queue_facts [] most h = none
queue_facts (event ∷ events) most h = more (event_facts event most (first _ _ h)) (queue_facts events most (second _ _ h))

queue_holds_lem : (events : List (Option Event)) (most : ℕ) → EventsWithin most events → queue_holds events most ≡ true
unfolding queue_holds
queue_holds_lem [] most none = refl
queue_holds_lem (event ∷ events) most (more w ws) = joined (event_holds_lem event most w) (queue_holds_lem events most ws)

-- the ring
ring_facts : (r : RingBuffer) (most : ℕ) → events_hold r most ≡ true → QueueWithin r most
unfolding events_hold
ring_facts r most h =
    record {
      ring = record { head = leb-true r.head 15 (first _ _ h); len = leb-true r.len 16 (first _ _ (second _ _ h)) };
      events = queue_facts (queued r) most (second _ _ (second _ _ h));
    }

ring_holds : (r : RingBuffer) (most : ℕ) → QueueWithin r most → events_hold r most ≡ true
unfolding events_hold
ring_holds r most w =
    joined (le-leb r.head 15 w.ring.head) (joined (le-leb r.len 16 w.ring.len) (queue_holds_lem (queued r) most w.events))

-- a slot
slot_facts : (s : Session) (slot most : ℕ) → slot_holds s slot most ≡ true → s.filled ≡ true → SlotWithin s slot most
unfolding slot_holds
slot_facts s slot most h f = facts (picked s.filled _ h f)
  where
    facts : (leb s.established_at s.last_heard and leb s.last_heard most and leb s.sending_key_counter reject_after_messages
        and leb s.next reject_after_messages and eqb (slot_of s.receiving_index) slot) ≡ true
        → SlotWithin s slot most
    facts p =
        let onward : s.established_at ≤ s.last_heard = leb-true s.established_at s.last_heard (first _ _ p) in
        let heard : s.last_heard ≤ most = leb-true s.last_heard most (first _ _ (second _ _ p)) in
        let rest = second _ _ (second _ _ p) in
        record {
          established = omega (arith, onward, heard);
          onward = onward;
          heard = heard;
          counter = leb-true s.sending_key_counter reject_after_messages (first _ _ rest);
          next = leb-true s.next reject_after_messages (first _ _ (second _ _ rest));
          index = eqb-true (slot_of s.receiving_index) slot (second _ _ (second _ _ rest));
        }

slot_holds_lem : (s : Session) (slot most : ℕ) → (s.filled ≡ true → SlotWithin s slot most) → slot_holds s slot most ≡ true
unfolding slot_holds
slot_holds_lem s slot most w =
    either s.filled (λ f.
    joined (le-leb s.established_at s.last_heard (w f).onward)
    (joined (le-leb s.last_heard most (w f).heard)
    (joined (le-leb s.sending_key_counter reject_after_messages (w f).counter)
    (joined (le-leb s.next reject_after_messages (w f).next) (eq-eqb (slot_of s.receiving_index) slot (w f).index)))))

-- the slots
slots_facts : (s : Sessions) (count most : ℕ) → slots_hold s count most ≡ true → (k : ℕ) → k < count → slot_holds (slot_at s k) k most ≡ true
unfolding slots_hold
slots_facts s zero most h k l = absurd (omega arith)
slots_facts s (suc count) most h k l = elim (ℕ_discrete k count) [
  | yes e ↦ rw e (second _ _ h)
  | no n ↦ slots_facts s count most (first _ _ h) k (omega arith)
]

slots_hold_lem : (s : Sessions) (count most : ℕ) → ((k : ℕ) → k < count → slot_holds (slot_at s k) k most ≡ true) → slots_hold s count most ≡ true
unfolding slots_hold
slots_hold_lem s zero most w = refl
slots_hold_lem s (suc count) most w = joined (slots_hold_lem s count most (λ k l. w k (omega arith))) (w count (omega arith))

-- the sessions
sessions_facts : (s : Sessions) (most : ℕ) → slots_hold s 8 most ≡ true → SessionsWithin s most
sessions_facts s most h = record { slots = λ k l f. slot_facts (slot_at s k) k most (slots_facts s 8 most h k l) f }

sessions_hold_lem : (s : Sessions) (most : ℕ) → SessionsWithin s most → slots_hold s 8 most ≡ true
sessions_hold_lem s most w = slots_hold_lem s 8 most (λ k l. slot_holds_lem (slot_at s k) k most (λ f. w.slots k l f))

-- the handshake
handshake_facts : (h : Handshake) (most : ℕ) → handshake_holds h most ≡ true → HandshakeWithin h most
unfolding handshake_holds
handshake_facts h most p =
    record {
      present = state_facts h.state most (first _ _ p);
      earlier = state_facts h.previous most (first _ _ (second _ _ p));
      cookie = time_facts h.cookies.write_cookie most (second _ _ (second _ _ p));
    }

handshake_holds_lem : (h : Handshake) (most : ℕ) → HandshakeWithin h most → handshake_holds h most ≡ true
unfolding handshake_holds
handshake_holds_lem h most w =
    joined (state_holds_lem h.state most w.present)
    (joined (state_holds_lem h.previous most w.earlier) (time_holds_lem h.cookies.write_cookie most w.cookie))

-- the timers
module _ (t : Timers) (most : ℕ) where
  timers_facts : timers_hold t most ≡ true → TimersWithin t most
  unfolding timers_hold packet_timers_hold data_timers_hold fields_hold
  timers_facts h =
      record {
        completed = leb-true t.time_last_handshake_completed most (first _ _ (first _ _ h));
        started = leb-true t.time_last_handshake_started most (first _ _ (second _ _ (first _ _ h)));
        received = leb-true t.time_last_packet_received most (first _ _ (second _ _ (second _ _ (first _ _ h))));
        sent = leb-true t.time_last_packet_sent most (second _ _ (second _ _ (second _ _ (first _ _ h))));
        data_received = leb-true t.time_last_data_packet_received most (first _ _ (first _ _ (second _ _ h)));
        data_sent = leb-true t.time_last_data_packet_sent most (first _ _ (second _ _ (first _ _ (second _ _ h))));
        kept = leb-true t.time_persistent_keepalive most (second _ _ (second _ _ (first _ _ (second _ _ h))));
        received_without_reply = time_facts t.last_data_received_without_reply most (first _ _ (second _ _ (second _ _ h)));
        sent_without_reply = time_facts t.first_data_sent_without_reply most (first _ _ (second _ _ (second _ _ (second _ _ h))));
        scheduled =
            time_facts t.send_handshake_at (most + max_jitter) (first _ _ (second _ _ (second _ _ (second _ _ (second _ _ h)))));
        interval = interval_facts t.persistent_keepalive (second _ _ (second _ _ (second _ _ (second _ _ (second _ _ h)))));
      }

  module _ (w : TimersWithin t most) where
    packets_hold : packet_timers_hold t most ≡ true
    unfolding packet_timers_hold
    packets_hold =
        joined (le-leb t.time_last_handshake_completed most w.completed)
        (joined (le-leb t.time_last_handshake_started most w.started)
        (joined (le-leb t.time_last_packet_received most w.received) (le-leb t.time_last_packet_sent most w.sent)))

    data_hold : data_timers_hold t most ≡ true
    unfolding data_timers_hold
    data_hold =
        joined (le-leb t.time_last_data_packet_received most w.data_received)
        (joined (le-leb t.time_last_data_packet_sent most w.data_sent) (le-leb t.time_persistent_keepalive most w.kept))

    fields_hold_lem : fields_hold t most ≡ true
    unfolding fields_hold
    fields_hold_lem =
        joined (time_holds_lem t.last_data_received_without_reply most w.received_without_reply)
        (joined (time_holds_lem t.first_data_sent_without_reply most w.sent_without_reply)
        (joined (time_holds_lem t.send_handshake_at (most + max_jitter) w.scheduled)
        (interval_holds_lem t.persistent_keepalive w.interval)))

    timers_hold_lem : timers_hold t most ≡ true
    unfolding timers_hold
    timers_hold_lem = joined packets_hold (joined data_hold fields_hold_lem)

-- the control
pub control_facts : (c : Control) (most : ℕ) → control_holds c most ≡ true → ControlWithin c most
unfolding control_holds stored_holds
control_facts c most h =
    record {
      timers = timers_facts c.timers most (first _ _ h);
      handshake = handshake_facts c.handshake most (first _ _ (second _ _ h));
      first = time_facts c.first_initiation_at most (first _ _ (second _ _ (second _ _ h)));
      sessions = sessions_facts c.sessions most (first _ _ (second _ _ (second _ _ (second _ _ h))));
      events = ring_facts c.events most (second _ _ (second _ _ (second _ _ (second _ _ h))));
    }

pub control_holds_lem : (c : Control) (most : ℕ) → ControlWithin c most → control_holds c most ≡ true
unfolding control_holds stored_holds
control_holds_lem c most w =
    joined (timers_hold_lem c.timers most w.timers)
    (joined (handshake_holds_lem c.handshake most w.handshake)
    (joined (time_holds_lem c.first_initiation_at most w.first)
    (joined (sessions_hold_lem c.sessions most w.sessions) (ring_holds c.events most w.events))))

-- the facts of a tunnel, and its test
pub undamaged_facts : (t : Tunnel) → undamaged t ≡ true → Undamaged t
unfolding undamaged
undamaged_facts t h =
    record {
      latest = leb-true t.greatest time_limit (first _ _ h);
      updated = leb-true t.last_update t.greatest (first _ _ (second _ _ h));
      control = control_facts t.control t.greatest (second _ _ (second _ _ h));
    }

pub undamaged_holds : (t : Tunnel) → Undamaged t → undamaged t ≡ true
unfolding undamaged
undamaged_holds t w =
    joined (le-leb t.greatest time_limit w.latest)
    (joined (le-leb t.last_update t.greatest w.updated) (control_holds_lem t.control t.greatest w.control))

-- the control of a tunnel that number 14 lets through, below the limit of times
within_limit : (t : Tunnel) → Undamaged t → ControlWithin t.control time_limit
within_limit t w = control_later t.greatest time_limit w.latest t.control w.control

-- the same where the code has made the test
pub let_through_lem : (t : Tunnel) (f : Bool) → f ≡ undamaged t → f ≡ true → ControlWithin t.control time_limit
let_through_lem t f e p = within_limit t (undamaged_facts t (sym e ∙ p))

-- the ring of a tunnel that the test lets through
pub sound_ring : (t : Tunnel) → undamaged t ≡ true → RingWithin t.control.events
sound_ring t p = (within_limit t (undamaged_facts t p)).events.ring
