-- The queue of the newest sixteen events, after src/ring_buffer.rs.
use Rattle.std.specs.Prelude.{◌≡◌, Bool, List, [], ◌∷◌, ◌++◌, ℕ, zero, suc, ◌+◌, ◌-◌, ◌%◌, ◌≤◌, eqb, length, get_or, set, drop, replicate, Option, Some, None}
use Rattle.base.specs.Choice.{choose}
use Rattle.tunnel.specs.declared.event.Event.{Event}
use Rattle.tunnel.specs.declared.ring_buffer.Popped.{Popped}
use Rattle.tunnel.specs.declared.ring_buffer.RingBuffer.{RingBuffer}
use Rattle.tunnel.specs.declared.ring_buffer.Slot.{Slot}

-- a place that holds this event, or none
abbrev pub holding : Option Event → Slot
holding event = record { event = event }

-- a ring of three fields
abbrev pub ring_of : List Slot → (head len : ℕ) → RingBuffer
ring_of slots head len = record { slots = slots; head = head; len = len }

-- the place at an offset from the head
unfoldable pub place_of : (head offset : ℕ) → ℕ
place_of head offset = (head + offset) % 16

-- the event at a place, if any
abbrev pub event_at : List Slot → ℕ → Option Event
event_at slots place = (get_or slots place (holding None)).event

-- the head and the length are in range
pub record RingWithin (r : RingBuffer) : Type 0 where
  pub head : r.head ≤ 15
  pub len : r.len ≤ 16

-- sixteen places without an event
unfoldable pub empty_places : List Slot
empty_places = replicate 16 (holding None)

-- a ring with no event
unfoldable pub new_ring : RingBuffer
new_ring = ring_of empty_places 0 0

-- whether no event is queued
unfoldable pub ring_is_empty : RingBuffer → Bool
ring_is_empty r = eqb r.len 0

-- an event, or none, stored at a place
unfoldable pub store_at : RingBuffer → ℕ → Option Event → RingBuffer
store_at r place event = ring_of (set r.slots place (holding event)) r.head r.len

-- an event appended, which overwrites the oldest one when the ring is full
unfoldable pub push_back : RingBuffer → Event → RingBuffer
push_back r event =
    choose (eqb r.len 16)
    (ring_of (store_at r (place_of r.head r.len) (Some event)).slots (place_of r.head 1) r.len)
    (ring_of (store_at r (place_of r.head r.len) (Some event)).slots r.head (r.len + 1))

-- the oldest event removed, whose place is left without an event
unfoldable pub pop_front : RingBuffer → Popped
pop_front r =
    choose (eqb r.len 0)
    (record { events = r; event = None })
    (record { events = ring_of (store_at r r.head None).slots (place_of r.head 1) (r.len - 1); event = event_at r.slots r.head })

-- what so many places from one on hold
unfoldable pub events_from : List Slot → (head len : ℕ) → List (Option Event)
events_from slots head zero = []
events_from slots head (suc len) = event_at slots (head % 16) ∷ events_from slots (suc head) len

-- what the queued places of a ring hold, the oldest first
unfoldable pub queued : RingBuffer → List (Option Event)
queued r = events_from r.slots r.head r.len

-- the last sixteen of a list
unfoldable pub newest : List (Option Event) → List (Option Event)
newest events = drop (length events - 16) events

-- the first event of a list, or none
unfoldable pub oldest : List (Option Event) → Option Event
oldest [] = None
oldest (event ∷ events) = event

-- a ring with sixteen places, whose head and length are in range
pub record Ring (r : RingBuffer) : Type 0 where
  pub places : length r.slots ≡ 16
  pub within : RingWithin r

-- the ring is a queue of the newest sixteen events
pub record QueueOfNewest : Type 0 where
  pub begun : queued new_ring ≡ []
  pub fresh : Ring new_ring
  pub pushed : (r : RingBuffer) (event : Event) → Ring r → queued (push_back r event) ≡ newest (queued r ++ Some event ∷ [])
  pub still : (r : RingBuffer) (event : Event) → Ring r → Ring (push_back r event)
  pub answered : (r : RingBuffer) → Ring r → (pop_front r).event ≡ oldest (queued r)
  pub left : (r : RingBuffer) → Ring r → queued (pop_front r).events ≡ drop 1 (queued r)
  pub stays : (r : RingBuffer) → Ring r → Ring (pop_front r).events
