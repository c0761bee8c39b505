-- The keepalives that were polled and those still in the ring are taken from the wakings' grants, in order; and the event put last into the ring is
-- the one that was pushed.
-- Assumes nothing.
use mathlib.Core.Path.{◌≡◌, refl, ap, sym, ◌∙◌}
use mathlib.Core.List.{List, [], ◌∷◌, ◌++◌, append_assoc, append-nil}
use Prim.Native.Nat.{ℕ, zero, suc, ◌+◌, ◌-◌, ◌%◌, ◌<◌}
use native.Mathlib.Decide.{ℕ_discrete}
use native.Mathlib.Omega.{arith}
use lib.ListN.{length, drop}
use lib.Seq.{get_or-set_same}
use borrow.Author.Tests.{eq-eqb, ne_eqb}
use Rattle.base.specs.Choice.{choose, case_option}
use Rattle.demands.specs.Sending.TakenFrom.{none, passed, taken}
use Rattle.demands.specs.Sending.{Grant, granting, still, put_last, PolledKeepalive, polling, polled_by, TakenFrom}
use Rattle.demands.specs.Made.{case_answer}
use Rattle.tunnel.proofs.Laws.{queue_law}
use Rattle.tunnel.specs.Cases.{case_event}
use Rattle.tunnel.specs.RingBuffer.{holding, place_of, event_at, new_ring, store_at, push_back, pop_front, queued, newest, oldest, Ring}
use Rattle.tunnel.specs.declared.answer.Answer.TheVariants.{Polled}
use Rattle.tunnel.specs.declared.event.Event.TheVariants.{SendKeepalive}
use Rattle.tunnel.specs.declared.event.Event.{Event}
use Rattle.tunnel.specs.declared.ring_buffer.RingBuffer.{RingBuffer}
use Rattle.tunnel.specs.declared.ring_buffer.Slot.{Slot}
use Rattle.std.specs.Prelude.{Option, None, Some, Ok}

-- the keepalive of an event, or of none
abbrev pub keepalive_in : Option Event → List PolledKeepalive
keepalive_in event = polled_by (Ok (Polled event))

-- the keepalives of events
unfoldable pub keepalives_in : List (Option Event) → List PolledKeepalive
keepalives_in [] = []
keepalives_in (event ∷ events) = keepalive_in event ++ keepalives_in events

keepalives_more : (events : List (Option Event)) (e : Option Event) → keepalives_in (events ++ e ∷ []) ≡ keepalives_in events ++ keepalive_in e
unfolding keepalives_in
keepalives_more [] e = append-nil (keepalive_in e)
keepalives_more (x ∷ events) e =
    ap (λ (l : List PolledKeepalive). keepalive_in x ++ l) (keepalives_more events e) ∙ sym (append_assoc (keepalive_in x) (keepalives_in events) (keepalive_in e))

-- the oldest event's, and those of the others
keepalives_first : (events : List (Option Event)) → keepalive_in (oldest events) ++ keepalives_in (drop 1 events) ≡ keepalives_in events
unfolding keepalives_in oldest polled_by case_answer case_option
keepalives_first [] = refl
keepalives_first (e ∷ events) = refl

-- fewer keepalives are taken where more are
taken_less : (before later : List PolledKeepalive) (x : PolledKeepalive) (k : List Grant) → TakenFrom (before ++ x ∷ later) k → TakenFrom (before ++ later) k
taken_less [] later x [] t = elim t [ ]
taken_less (y ∷ before) later x [] t = elim t [ ]
taken_less [] later x (grant ∷ k) (passed t) = passed (taken_less [] later x k t)
taken_less [] later x (grant ∷ k) (taken t) = passed t
taken_less (y ∷ before) later x (grant ∷ k) (passed t) = passed (taken_less (y ∷ before) later x k t)
taken_less (y ∷ before) later x (grant ∷ k) (taken t) = taken (taken_less before later x k t)

taken_fewer : (before between later : List PolledKeepalive) (k : List Grant) → TakenFrom (before ++ (between ++ later)) k → TakenFrom (before ++ later) k
taken_fewer before [] later k t = t
taken_fewer before (x ∷ between) later k t = taken_fewer before between later k (taken_less before (between ++ later) x k t)

taken_drop : (polls : List PolledKeepalive) (k : List Grant) (n : ℕ) (events : List (Option Event)) → TakenFrom (polls ++ keepalives_in events) k
    → TakenFrom (polls ++ keepalives_in (drop n events)) k
unfolding keepalives_in
taken_drop polls k zero events t = t
taken_drop polls k (suc n) [] t = t
taken_drop polls k (suc n) (e ∷ events) t = taken_drop polls k n events (taken_fewer polls (keepalive_in e) (keepalives_in events) k t)

-- a keepalive and its grant added
taken_more : {l : List PolledKeepalive} {k : List Grant} (id peer counter : ℕ) → TakenFrom l k
    → TakenFrom (l ++ polling peer counter ∷ []) (k ++ granting id peer counter 1 ∷ [])
taken_more id peer counter none = taken none
taken_more id peer counter (passed t) = passed (taken_more id peer counter t)
taken_more id peer counter (taken t) = taken (taken_more id peer counter t)

-- a ring whose keepalives, after those polled, are taken from these grants
pub record Queue (k : List Grant) (polls : List PolledKeepalive) (r : RingBuffer) : Type 0 where
  pub ring : Ring r
  pub all : TakenFrom (polls ++ keepalives_in (queued r)) k

pub queue_new : Queue [] [] new_ring
unfolding keepalives_in
queue_new = record { ring = queue_law.fresh; all = rw queue_law.begun none }

module _ (k : List Grant) (polls : List PolledKeepalive) (r : RingBuffer) (q : Queue k polls r) where
  -- the keepalives polled alone
  pub queue_polls : TakenFrom polls k
  queue_polls =
      let rest : List PolledKeepalive = keepalives_in (queued r) in
      let t : TakenFrom (polls ++ (rest ++ [])) k = rw (append-nil rest) q.all in
      let u : TakenFrom (polls ++ []) k = taken_fewer polls rest [] k t in
      rw (append-nil polls) at u

  -- an event pushed, with these grants
  pushed_with : (grants : List Grant) (e : Event) → TakenFrom (polls ++ (keepalives_in (queued r) ++ keepalive_in (Some e))) grants → Queue grants polls (push_back r e)
  unfolding newest
  pushed_with grants e t =
      let u : TakenFrom (polls ++ keepalives_in (queued r ++ Some e ∷ [])) grants = rw (keepalives_more (queued r) (Some e)) t in
      record {
        ring = queue_law.still r e q.ring;
        all = rw (queue_law.pushed r e q.ring) (taken_drop polls grants (length (queued r ++ Some e ∷ []) - 16) (queued r ++ Some e ∷ []) u);
      }

  -- one that is no keepalive, and one that is, with its grant
  pub queue_push : (e : Event) → keepalive_in (Some e) ≡ [] → Queue k polls (push_back r e)
  queue_push e p = pushed_with k e (rw (p, append-nil (keepalives_in (queued r))) q.all)

  keepalive_of : (peer counter : ℕ) → keepalive_in (Some (SendKeepalive peer counter)) ≡ polling peer counter ∷ []
  unfolding polled_by case_answer case_option case_event
  keepalive_of peer counter = refl

  pub queue_granted : (id peer counter : ℕ) → Queue (k ++ granting id peer counter 1 ∷ []) polls (push_back r (SendKeepalive peer counter))
  queue_granted id peer counter =
      let rest : List PolledKeepalive = keepalives_in (queued r) in
      pushed_with _ _
      (rw (keepalive_of peer counter, ← append_assoc polls rest (polling peer counter ∷ [])) (taken_more id peer counter q.all))

  -- the oldest event polled
  pub queue_pop : Queue k (polls ++ keepalive_in (pop_front r).event) (pop_front r).events
  queue_pop =
      record {
        ring = queue_law.stays r q.ring;
        all =
            rw (
              queue_law.left r q.ring,
              queue_law.answered r q.ring,
              append_assoc polls (keepalive_in (oldest (queued r))) (keepalives_in (drop 1 (queued r))),
              keepalives_first (queued r),
            ) q.all;
      }

-- nothing was put
pub put_none : (r last : RingBuffer) → last ≡ r → put_last r last ≡ None
unfolding put_last still choose
put_none r last e = rw (e, eq-eqb r.head r.head refl, eq-eqb r.len r.len refl)

-- an event was put
module _ (r : RingBuffer) (e : Event) (w : Ring r) where
  stored_at : (place : ℕ) → place < 16 → event_at (store_at r place (Some e)).slots place ≡ Some e
  unfolding store_at
  stored_at place low = ap (λ (s : Slot). s.event) (get_or-set_same r.slots place (holding (Some e)) (holding None) (omega (arith, w.places)))

  put_full : r.len ≡ 16 → put_last r (push_back r e) ≡ Some e
  unfolding put_last still push_back place_of choose
  put_full f =
      let d : (r.head + 1) % 16 ≡ r.head → ⊥ = λ q. omega (arith, q, w.within.head) in
      let p : ((r.head + 1) % 16 + (r.len - 1)) % 16 ≡ (r.head + r.len) % 16 = omega (arith, f, w.within.head) in
      rw (eq-eqb r.len 16 f, ne_eqb _ _ d, p) (stored_at _ (omega arith))

  put_more : (r.len ≡ 16 → ⊥) → put_last r (push_back r e) ≡ Some e
  unfolding put_last still push_back place_of choose
  put_more f =
      let d : r.len + 1 ≡ r.len → ⊥ = λ q. omega (arith, q) in
      let p : (r.head + (r.len + 1 - 1)) % 16 ≡ (r.head + r.len) % 16 = omega arith in
      rw (ne_eqb r.len 16 f, eq-eqb r.head r.head refl, ne_eqb _ _ d, p) (stored_at _ (omega arith))

  pub put_pushed : put_last r (push_back r e) ≡ Some e
  put_pushed = elim (ℕ_discrete r.len 16) [
    | yes f ↦ put_full f
    | no f ↦ put_more f
  ]
