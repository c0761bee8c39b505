-- What number 14 lets through, as facts: `Undamaged t` holds just where `undamaged t` is true, and `ControlWithin c most` where `control_holds c most` is.
use Rattle.std.specs.Prelude.{◌≡◌, true, List, [], ◌∷◌, ℕ, ◌-◌, ◌^◌, ◌≤◌, ◌<◌, Option, Some}
use Rattle.tunnel.specs.declared.control.Control.{Control}
use Rattle.tunnel.specs.Handshake.{HandshakeWithin}
use Rattle.tunnel.specs.RingBuffer.{RingWithin, queued}
use Rattle.tunnel.specs.Timers.{TimeWithin, TimersWithin}
use Rattle.tunnel.specs.declared.event.Event.TheVariants.{Established}
use Rattle.tunnel.specs.declared.event.Event.{Event}
use Rattle.tunnel.specs.declared.ring_buffer.RingBuffer.{RingBuffer}
use Rattle.sessions.specs.Index.{slot_of}
use Rattle.sessions.specs.Sessions.{slot_at}
use Rattle.sessions.specs.declared.session.Session.{Session}
use Rattle.sessions.specs.declared.sessions.Sessions.{Sessions}
use Rattle.tunnel.specs.Damage.{undamaged}
use Rattle.tunnel.specs.declared.tunnel.Tunnel.{Tunnel}

-- a session's times are at most this, it was not last heard before its age counts, its counters are at most 2^64 - 8,193, and its index is of
-- this slot
pub record SlotWithin (s : Session) (slot most : ℕ) : Type 0 where
  pub established : s.established_at ≤ most
  pub onward : s.established_at ≤ s.last_heard
  pub heard : s.last_heard ≤ most
  pub counter : s.sending_key_counter ≤ 2 ^ 64 - 8193
  pub next : s.next ≤ 2 ^ 64 - 8193
  pub index : slot_of s.receiving_index ≡ slot

-- every filled slot
pub record SessionsWithin (s : Sessions) (most : ℕ) : Type 0 where
  pub slots : (k : ℕ) → k < 8 → (slot_at s k).filled ≡ true → SlotWithin (slot_at s k) k most

-- a session that was found was established at this time at most
pub record FoundWithin (found : Option Session) (most : ℕ) : Type 0 where
  pub within : (session : Session) → found ≡ Some session → session.established_at ≤ most

-- both times of an event, if it is an established one, are at most this
pub record EventWithin (event : Option Event) (most : ℕ) : Type 0 where
  pub started : (a b : ℕ) → event ≡ Some (Established a b) → a ≤ most
  pub confirmed : (a b : ℕ) → event ≡ Some (Established a b) → b ≤ most

-- every event of a list
pub data EventsWithin (most : ℕ) : List (Option Event) → Type 0 where
  none : EventsWithin most []
  more : {event : Option Event} {events : List (Option Event)} → EventWithin event most → EventsWithin most events → EventsWithin most (event ∷ events)

-- the ring's head and length are in range, and so is every queued event
pub record QueueWithin (r : RingBuffer) (most : ℕ) : Type 0 where
  pub ring : RingWithin r
  pub events : EventsWithin most (queued r)

-- what number 14 lets through: no time of the control is above this one, and its counters, indices, ring and interval are in range
pub record ControlWithin (c : Control) (most : ℕ) : Type 0 where
  pub timers : TimersWithin c.timers most
  pub handshake : HandshakeWithin c.handshake most
  pub first : TimeWithin c.first_initiation_at most
  pub sessions : SessionsWithin c.sessions most
  pub events : QueueWithin c.events most

-- number 14 lets the tunnel through
pub record Undamaged (t : Tunnel) : Type 0 where
  pub latest : t.greatest ≤ 4000000000000000000
  pub updated : t.last_update ≤ t.greatest
  pub control : ControlWithin t.control t.greatest

-- the test of number 14 is true just where the facts hold
pub record FactsOfUndamaged : Type 0 where
  pub facts : (t : Tunnel) → undamaged t ≡ true → Undamaged t
  pub holds : (t : Tunnel) → Undamaged t → undamaged t ≡ true
