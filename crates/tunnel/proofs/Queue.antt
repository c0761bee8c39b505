-- The ring is a queue of the newest sixteen events.
-- Assumes nothing.
use mathlib.Core.Path.{◌≡◌, refl, ap, ◌∙◌}
use mathlib.Core.List.{List, [], ◌∷◌, ◌++◌}
use Prim.Native.Nat.{ℕ, zero, suc, ◌+◌, ◌-◌, ◌%◌, ◌≤◌, ◌<◌}
use native.Mathlib.Nat.{add-zero}
use native.Mathlib.Decide.{ℕ_discrete}
use native.Mathlib.Numerals.{add-one}
use native.Mathlib.Omega.{arith}
use lib.ListN.{length, set, drop, length-set, length-append}
use lib.Seq.{get_or-set_same, get_or-set_other}
use borrow.Author.Tests.{eq-eqb, ne_eqb}
use Rattle.base.specs.Choice.{choose}
use Rattle.tunnel.specs.RingBuffer.{holding, place_of, event_at, empty_places, new_ring, store_at, push_back, pop_front, events_from, queued, newest, oldest, Ring, QueueOfNewest}
use Rattle.tunnel.specs.declared.event.Event.{Event}
use Rattle.std.specs.Prelude.{Option, Some, None}
use Rattle.tunnel.specs.declared.ring_buffer.RingBuffer.{RingBuffer}
use Rattle.tunnel.specs.declared.ring_buffer.Slot.{Slot}

both : {a b : Option Event} {x y : List (Option Event)} → a ≡ b → x ≡ y → a ∷ x ≡ b ∷ y
both p q = cc

snoc : {a b : Option Event} {x y : List (Option Event)} → x ≡ y → a ≡ b → x ++ a ∷ [] ≡ y ++ b ∷ []
snoc p q = cc

module _ (slots : List Slot) where
  -- a place counts modulo 16
  turned : (n head first : ℕ) → head % 16 ≡ first % 16 → events_from slots head n ≡ events_from slots first n
  unfolding events_from
  turned zero head first e = refl
  turned (suc n) head first e = rw (e, turned n (suc head) (suc first) (omega arith))

  -- one more event at the end
  one_more : (n head : ℕ) → events_from slots head (suc n) ≡ events_from slots head n ++ event_at slots ((head + n) % 16) ∷ []
  unfolding events_from
  one_more zero head = rw add-zero
  one_more (suc n) head =
      let e : (suc head + n) % 16 ≡ (head + suc n) % 16 = omega arith in
      rw (one_more n (suc head), e)

  -- so many events are so long a list
  counted : (n head : ℕ) → length (events_from slots head n) ≡ n
  unfolding events_from
  counted zero head = refl
  counted (suc n) head = ap suc (counted n (suc head))

  -- a store at another place changes none of them
  untouched : (event : Option Event) (place n head : ℕ) → ((i : ℕ) → i < n → (head + i) % 16 ≡ place → ⊥)
      → events_from (set slots place (holding event)) head n ≡ events_from slots head n
  unfolding events_from
  untouched event place zero head other = refl
  untouched event place (suc n) head other =
      both (ap (λ (slot : Slot). slot.event) (get_or-set_other slots place (head % 16) (holding event) (holding None) (λ e. other 0 (omega arith) (omega arith))))
      (untouched event place n (suc head) (λ i h e. other (suc i) (omega arith) (omega arith)))

  -- what a store leaves at its place
  stored : (event : Option Event) (place : ℕ) → place < length slots → event_at (set slots place (holding event)) place ≡ event
  stored event place h = ap (λ (slot : Slot). slot.event) (get_or-set_same slots place (holding event) (holding None) h)

-- a push, where the ring has room and where it is full
module _ (slots : List Slot) (event : Option Event) (head place : ℕ) (long : length slots ≡ 16) where
  push_more : (len : ℕ) → len < 16 → place ≡ (head + len) % 16
      → events_from (set slots place (holding event)) head (suc len) ≡ events_from slots head len ++ event ∷ []
  push_more len h e =
      one_more (set slots place (holding event)) len head
      ∙ snoc (untouched slots event place len head (λ i l p. omega arith)) (rw (← e) (stored slots event place (omega arith)))

  push_full : place ≡ (head + 16) % 16
      → events_from (set slots place (holding event)) ((head + 1) % 16) 16 ≡ events_from slots (suc head) 15 ++ event ∷ []
  push_full e =
      let f : (suc head + 15) % 16 ≡ place = omega arith in
      turned (set slots place (holding event)) 16 ((head + 1) % 16) (suc head) (omega arith)
      ∙ one_more (set slots place (holding event)) 15 (suc head)
      ∙ snoc (untouched slots event place 15 (suc head) (λ i l p. omega arith)) (rw f (stored slots event place (omega arith)))

-- the newest sixteen of a list with one more event
newest_short : (xs : List (Option Event)) (event : Option Event) → length xs < 16 → newest (xs ++ event ∷ []) ≡ xs ++ event ∷ []
unfolding newest
newest_short xs event h =
    let e : length (xs ++ event ∷ []) - 16 ≡ 0 = omega (arith, length-append xs (event ∷ [])) in
    rw e

newest_full : (x : Option Event) (xs : List (Option Event)) (event : Option Event) → length xs ≡ 15 → newest ((x ∷ xs) ++ event ∷ []) ≡ xs ++ event ∷ []
unfolding newest
newest_full x xs event h =
    let e : length ((x ∷ xs) ++ event ∷ []) - 16 ≡ 1 = omega (arith, length-append xs (event ∷ [])) in
    rw e

-- a full ring's events, the oldest apart
first_apart : (slots : List Slot) (head len : ℕ) → len ≡ 16 → events_from slots head len ≡ event_at slots (head % 16) ∷ events_from slots (suc head) 15
unfolding events_from
first_apart slots head len h = rw h

module _ (r : RingBuffer) (event : Event) (ring : Ring r) where
  pushed : queued (push_back r event) ≡ newest (queued r ++ Some event ∷ [])
  unfolding queued push_back store_at place_of choose
  pushed = elim (ℕ_discrete r.len 16) [
    | yes h ↦ rw (eq-eqb r.len 16 h, first_apart r.slots r.head r.len h, newest_full _ _ (Some event) (counted r.slots 15 (suc r.head)), h)
        (push_full r.slots (Some event) r.head ((r.head + 16) % 16) ring.places refl)
    | no h ↦
        let l : length (events_from r.slots r.head r.len) < 16 = omega (arith, counted r.slots r.len r.head, ring.within.len) in
        rw (ne_eqb r.len 16 h, newest_short (events_from r.slots r.head r.len) (Some event) l, add-one)
        (push_more r.slots (Some event) r.head ((r.head + r.len) % 16) ring.places r.len (omega (arith, ring.within.len)) refl)
  ]

  still : Ring (push_back r event)
  unfolding push_back store_at place_of choose
  still = elim (ℕ_discrete r.len 16) [
    | yes h ↦
        rw (eq-eqb r.len 16 h)
        (record { places = rw length-set ring.places; within = record { head = omega arith; len = ring.within.len } })
    | no h ↦
        rw (ne_eqb r.len 16 h)
        (record { places = rw length-set ring.places; within = record { head = ring.within.head; len = omega (arith, ring.within.len) } })
  ]

-- a pop, where an event is queued
pop_one : (slots : List Slot) (head n : ℕ) → head ≤ 15 → n ≤ 15
    → events_from (set slots head (holding None)) ((head + 1) % 16) n ≡ events_from slots (suc head) n
pop_one slots head n h l =
    turned (set slots head (holding None)) n ((head + 1) % 16) (suc head) (omega arith)
    ∙ untouched slots None head n (suc head) (λ i k p. omega arith)

-- the events of a ring that is not empty, the oldest apart
some_apart : (slots : List Slot) (head len : ℕ) → (len ≡ 0 → ⊥) → events_from slots head len ≡ event_at slots (head % 16) ∷ events_from slots (suc head) (len - 1)
unfolding events_from
some_apart slots head zero h = absurd (h refl)
some_apart slots head (suc len) h =
    let e : suc len - 1 ≡ len = omega arith in
    rw e

module _ (r : RingBuffer) (ring : Ring r) where
  answered : (pop_front r).event ≡ oldest (queued r)
  unfolding pop_front queued oldest events_from choose
  answered = elim (ℕ_discrete r.len 0) [
    | yes h ↦ rw (eq-eqb r.len 0 h, h)
    | no h ↦
        let e : r.head % 16 ≡ r.head = omega (arith, ring.within.head) in
        rw (ne_eqb r.len 0 h, some_apart r.slots r.head r.len h, e)
  ]

  left : queued (pop_front r).events ≡ drop 1 (queued r)
  unfolding pop_front store_at place_of queued events_from choose
  left = elim (ℕ_discrete r.len 0) [
    | yes h ↦ rw (eq-eqb r.len 0 h, h)
    | no h ↦
        rw (ne_eqb r.len 0 h, some_apart r.slots r.head r.len h)
        (pop_one r.slots r.head (r.len - 1) ring.within.head (omega (arith, ring.within.len)))
  ]

  stays : Ring (pop_front r).events
  unfolding pop_front store_at place_of choose
  stays = elim (ℕ_discrete r.len 0) [
    | yes h ↦ rw (eq-eqb r.len 0 h) ring
    | no h ↦
        rw (ne_eqb r.len 0 h)
        (record { places = rw length-set ring.places; within = record { head = omega arith; len = omega (arith, ring.within.len) } })
  ]

begun : queued new_ring ≡ []
unfolding queued new_ring events_from
begun = refl

fresh : Ring new_ring
unfolding new_ring empty_places
fresh = record { places = refl; within = record { head = omega arith; len = omega arith } }

pub queue_of_newest : QueueOfNewest
queue_of_newest = record { begun = begun; fresh = fresh; pushed = pushed; still = still; answered = answered; left = left; stays = stays }
