-- The loop of number 14 over the queued events: where it begins, a turn, and where it ends.
-- Assumes nothing.
use mathlib.Core.Path.{◌≡◌, refl, sym, ◌∙◌}
use mathlib.Core.Bool.{Bool, true, false}
use Prim.Native.Nat.{ℕ, suc, ◌+◌, ◌-◌, ◌%◌, ◌≤◌, ◌<◌}
use native.Mathlib.Nat.{add-zero}
use native.Mathlib.Omega.{arith}
use Rattle.base.specs.Choice.{choose}
use Rattle.tunnel.specs.Damage.{event_holds, queue_holds}
use Rattle.tunnel.specs.RingBuffer.{event_at, RingWithin, events_from, queued}
use Rattle.tunnel.specs.declared.ring_buffer.RingBuffer.{RingBuffer}

-- a ring without an event holds
pub queue_empty : (r : RingBuffer) (greatest : ℕ) → r.len ≡ 0 → true ≡ queue_holds (queued r) greatest
unfolding queue_holds queued events_from
queue_empty r greatest e = rw e refl

-- the queue holds if the events from a place on do
pub record QueueYet (r : RingBuffer) (greatest i : ℕ) : Type 0 where
  pub ring : RingWithin r
  pub within : i ≤ r.len
  pub left : queue_holds (queued r) greatest ≡ queue_holds (events_from r.slots (r.head + i) (r.len - i)) greatest

module _ (r : RingBuffer) (greatest : ℕ) where
  pub queue_begins : RingWithin r → QueueYet r greatest 0
  unfolding queued
  queue_begins w =
      let e : r.len - 0 ≡ r.len = omega arith in
      record { ring = w; within = omega arith; left = rw (add-zero, e) }

  module _ (i : ℕ) (y : QueueYet r greatest i) where
    pub queue_ends : r.len ≤ i → true ≡ queue_holds (queued r) greatest
    unfolding queue_holds events_from
    queue_ends h =
        let e : r.len - i ≡ 0 = omega arith in
        sym (y.left ∙ rw e)

    module _ (place : ℕ) (f : Bool) (h : i < r.len) (at : place ≡ (r.head + i) % 16) (is : f ≡ event_holds (event_at r.slots place) greatest) where
      queue_step : queue_holds (queued r) greatest ≡ choose f (queue_holds (events_from r.slots (r.head + (i + 1)) (r.len - (i + 1))) greatest) false
      unfolding queue_holds events_from
      queue_step =
          let e : r.len - i ≡ suc (r.len - (i + 1)) = omega arith in
          let n : suc (r.head + i) ≡ r.head + (i + 1) = omega arith in
          y.left ∙ rw (e, n, ← at, ← is)

      pub queue_more : f ≡ true → QueueYet r greatest (i + 1)
      unfolding choose
      queue_more t = record { ring = y.ring; within = omega arith; left = queue_step ∙ rw t }

      pub queue_bad : f ≡ false → false ≡ queue_holds (queued r) greatest
      unfolding choose
      queue_bad t = sym (queue_step ∙ rw t)
