-- Facts below one time hold below every later one, and give what the calls of timers, handshake and sessions ask for.
-- Assumes nothing.
use mathlib.Core.Path.{◌≡◌, refl, ap, sym, ◌∙◌}
use mathlib.Core.Bool.{true}
use mathlib.Core.List.{List, [], ◌∷◌}
use Prim.Native.Nat.{ℕ, ◌+◌, ◌≤◌}
use native.Mathlib.Omega.{arith}
use Rattle.tunnel.specs.Facts.EventsWithin.{none, more}
use Rattle.tunnel.specs.Facts.{SlotWithin, SessionsWithin, FoundWithin, EventWithin, EventsWithin, QueueWithin, ControlWithin}
use Rattle.tunnel.specs.declared.control.Control.{Control}
use Rattle.tunnel.specs.Cases.{case_state}
use Rattle.tunnel.specs.Handshake.{SentWithin, HandshakeWithin, in_flight_initiation}
use Rattle.tunnel.specs.Timers.{max_jitter, TimeWithin, TimersWithin}
use Rattle.tunnel.specs.declared.event.Event.{Event}
use Rattle.tunnel.specs.declared.handshake.Handshake.{Handshake}
use Rattle.tunnel.specs.declared.handshake.HandshakeState.TheVariants.{None as NoHandshake, InitSent, Expired}
use Rattle.tunnel.specs.declared.handshake.HandshakeState.{HandshakeState}
use Rattle.tunnel.specs.declared.ring_buffer.RingBuffer.{RingBuffer}
use Rattle.tunnel.specs.declared.timers.Timers.{Timers}
use Rattle.sessions.specs.Index.{slot_of}
use Rattle.sessions.proofs.Laws.{lookup_law}
use Rattle.sessions.specs.Laws.{InSlot}
use Rattle.sessions.specs.Sessions.{slot_at, current_of}
use Rattle.sessions.specs.declared.session.Session.{Session}
use Rattle.sessions.specs.declared.sessions.Sessions.{Sessions}
use Rattle.std.specs.Prelude.{None, Option, Some}

module _ (a b : ℕ) (l : a ≤ b) where
  time_later : (time : Option ℕ) → TimeWithin time a → TimeWithin time b
  time_later time w = record { within = λ at p. omega (arith, w.within at p) }

  sent_later : (state : HandshakeState) → SentWithin state a → SentWithin state b
  sent_later state w = record { within = λ local sent p. omega (arith, w.within local sent p) }

  handshake_later : (h : Handshake) → HandshakeWithin h a → HandshakeWithin h b
  handshake_later h w =
      record {
        present = sent_later h.state w.present;
        earlier = sent_later h.previous w.earlier;
        cookie = time_later h.cookies.write_cookie w.cookie;
      }

  slot_later : (s : Session) (slot : ℕ) → SlotWithin s slot a → SlotWithin s slot b
  slot_later s slot w =
      record {
        established = omega (arith, w.established);
        onward = w.onward;
        heard = omega (arith, w.heard);
        counter = w.counter;
        next = w.next;
        index = w.index;
      }

  sessions_later : (s : Sessions) → SessionsWithin s a → SessionsWithin s b
  sessions_later s w = record { slots = λ k h f. slot_later (slot_at s k) k (w.slots k h f) }

  event_later : (event : Option Event) → EventWithin event a → EventWithin event b
  event_later event w = record { started = λ x y p. omega (arith, w.started x y p); confirmed = λ x y p. omega (arith, w.confirmed x y p) }

  events_later : (events : List (Option Event)) → EventsWithin a events → EventsWithin b events
  events_later [] none = none
  events_later (event ∷ events) (more w ws) = more (event_later event w) (events_later events ws)

  pub queue_later : (r : RingBuffer) → QueueWithin r a → QueueWithin r b
  queue_later r w = record { ring = w.ring; events = events_later _ w.events }

timers_later : (a b : ℕ) → a ≤ b → (t : Timers) → TimersWithin t a → TimersWithin t b
timers_later a b l t w = record {
  completed = omega (arith, w.completed);
  started = omega (arith, w.started);
  received = omega (arith, w.received);
  sent = omega (arith, w.sent);
  data_received = omega (arith, w.data_received);
  data_sent = omega (arith, w.data_sent);
  kept = omega (arith, w.kept);
  received_without_reply = time_later a b l t.last_data_received_without_reply w.received_without_reply;
  sent_without_reply = time_later a b l t.first_data_sent_without_reply w.sent_without_reply;
  scheduled = time_later (a + max_jitter) (b + max_jitter) (omega arith) t.send_handshake_at w.scheduled;
  interval = w.interval;
}

pub control_later : (a b : ℕ) → a ≤ b → (c : Control) → ControlWithin c a → ControlWithin c b
control_later a b l c w =
    record {
      timers = timers_later a b l c.timers w.timers;
      handshake = handshake_later a b l c.handshake w.handshake;
      first = time_later a b l c.first_initiation_at w.first;
      sessions = sessions_later a b l c.sessions w.sessions;
      events = queue_later a b l c.events w.events;
    }

-- what the retry deadline asks for
of_state : (state : HandshakeState) (most : ℕ) → SentWithin state most → TimeWithin (case_state state None (λ local sent. Some sent) None) most
unfolding case_state
of_state NoHandshake most w = record { within = λ at p. let z : ◌≡◌ {A = ℕ} 0 1 = cc in omega arith }
of_state (InitSent x y) most w = record { within = λ at p. let e : y ≡ at = cc in omega (arith, w.within x y refl) }
of_state Expired most w = record { within = λ at p. let z : ◌≡◌ {A = ℕ} 0 1 = cc in omega arith }

pub in_flight_within : (h : Handshake) (most : ℕ) (time : Option ℕ) → HandshakeWithin h most → time ≡ in_flight_initiation h → TimeWithin time most
unfolding in_flight_initiation
in_flight_within h most time w e = rw e (of_state h.state most w.present)

-- a session that a lookup found
module _ (s : Sessions) (most : ℕ) (w : SessionsWithin s most) where
  pub slot_within : (index : ℕ) (x : Session) → InSlot s index x → SlotWithin x (slot_of index) most
  slot_within index x i =
      let full : (slot_at s (slot_of index)).filled ≡ true = ap (λ (y : Session). y.filled) i.stored ∙ i.filled in
      rw (← i.stored) (w.slots (slot_of index) (omega arith) full)

  module _ (found : Option Session) (x : Session) (is : found ≡ Some x) where
    -- what is known of the current session
    pub current_within : found ≡ current_of s → SlotWithin x (slot_of x.receiving_index) most
    current_within e = slot_within x.receiving_index x ((lookup_law s).current x (sym e ∙ is))

    pub current_established : found ≡ current_of s → x.established_at ≤ most
    current_established e = (current_within e).established

  -- what the current session's deadlines ask for
  pub current_known : (found : Option Session) → found ≡ current_of s → FoundWithin found most
  current_known found e = record { within = λ x is. current_established found x is e }
