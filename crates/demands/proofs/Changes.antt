-- The ways in which one slot changes keep what is known of all: its session is marked or grants counters, a batch is judged there, a session is
-- inserted there.
-- Assumes nothing.
use mathlib.Core.Path.{◌≡◌, refl, ap, sym, ◌∙◌}
use mathlib.Core.Bool.{Bool, true, false}
use mathlib.Core.List.{List, [], ◌∷◌, ◌++◌, append-nil}
use Prim.Native.Nat.{ℕ, ◌+◌, ◌%◌, ◌^◌, ◌≤◌, ◌<◌}
use native.Mathlib.Omega.{arith}
use lib.ListN.{length, length-set, length-append}
use lib.Seq.{get_or-append_seam}
use borrow.Author.Tests.{eq-eqb}
use Rattle.base.specs.Choice.{choose}
use Rattle.base.proofs.Counting.{join-up_from, length-up_from}
use Rattle.demands.proofs.Held.{Past, no_past, counters_on, counters_own, counters_other, Runs, message_in, insertion_at, longer_same, longer_on, SlotHeld, Held, found_filled, held_found, Changed, held_changed}
use Rattle.sessions.specs.Laws.{InSlot, Kept, commits}
use Rattle.sessions.proofs.Laws.{lookup_law, slot_law, whole_law, slots_apart, heard_law}
use Rattle.demands.proofs.Moves.{put_at, changed_put}
use Rattle.demands.specs.Made.{Insertion}
use Rattle.demands.specs.Sending.{Grant, granting, counters_of}
use Rattle.base.specs.Lists.{up_from, zeros}
use Rattle.demands.proofs.Judged.{batch_law, inserted_law, judged_stands, receive_judged, batch_of, session_after, store_after}
use Rattle.sessions.specs.Batch.{receiving_session, fits}
use Rattle.demands.specs.History.{recorded_all, BatchLaw, BatchCall, BatchFor}
use Rattle.sessions.specs.Index.{slot_of}
use Rattle.sessions.specs.Session.{with_id}
use Rattle.sessions.specs.Sessions.{slot_at, put, inserting, insert}
use Rattle.sessions.specs.Store.{slot_words, put_slot}
use Rattle.sessions.specs.declared.session.Session.{Session}
use Rattle.sessions.specs.declared.sessions.Sessions.{Sessions}
use Rattle.window.specs.Window.{limit}
use Rattle.std.specs.Prelude.{Some, unwrap_or}

-- two changes of one slot
pub changed_on : (s t u : Sessions) (store mid left : List ℕ) (j : ℕ) → Changed s t store mid j → Changed t u mid left j → Changed s u store left j
changed_on s t u store mid left j a b =
    record {
      eight = b.eight ∙ a.eight;
      size = b.size ∙ a.size;
      others = λ k low d. ((b.others k low d).0 ∙ (a.others k low d).0, (b.others k low d).1 ∙ (a.others k low d).1);
    }

-- a session that has the identity of another: its id, its index, its handshake message, its window's next and when it was last heard
pub record Alike (x y : Session) : Type 0 where
  pub id : y.id ≡ x.id
  pub index : y.receiving_index ≡ x.receiving_index
  pub message : message_in y ≡ message_in x
  pub next : y.next ≡ x.next
  pub heard : y.last_heard ≡ x.last_heard

module _ (ins : List Insertion) (h : ℕ → Past) (g : List Grant) (s last : Sessions) (store : List ℕ) (w : Held ins h g s store) (x y : Session)
    (found : InSlot s x.receiving_index x) (same : Alike x y) where
  abbrev j : ℕ
  j = slot_of x.receiving_index

  filled_slot : (slot_at s j).filled ≡ true
  filled_slot = found_filled ins h g s store w x.receiving_index x found

  own_slot : SlotHeld ins h g j x (slot_words store j)
  own_slot = held_found ins h g s store w x.receiving_index x found

  module _ (c : Changed s last store store j) (there : slot_at last j ≡ y) (count : last.inserted ≡ s.inserted) (below : y.sending_key_counter ≤ limit) where
    -- grants that give this session its counters up to where its send counter stands
    held_counted : (f : List Grant) → ((id : ℕ) → (id ≡ x.id → ⊥) → counters_of id f ≡ counters_of id g)
        → counters_of x.id f ≡ up_from 0 y.sending_key_counter → Held ins h f last store
    held_counted f others own =
        let id : (slot_at last j).id ≡ x.id = ap (λ (z : Session). z.id) there ∙ same.id in
        let mine : SlotHeld ins h f j y (slot_words store j) =
        record {
          placed = ap slot_of same.index;
          named = rw same.id own_slot.named;
          message = ap (λ (i : ℕ). insertion_at ins i) same.id ∙ own_slot.message ∙ sym same.message;
          stands = rw (same.id, same.next) own_slot.stands;
          heard = rw (same.id, same.heard, ap (λ (i : Insertion). i.at) same.message) own_slot.heard;
          granted = ap (λ (i : ℕ). counters_of i f) same.id ∙ own;
        } in
        held_changed ins ins h h g f s last store store j w c (longer_same ins) (count ∙ w.count) (rw there mine)
        (λ k low d q p. d (w.apart k j low (omega arith) q filled_slot (p ∙ id ∙ ap (λ (z : Session). z.id) (sym found.stored))))
        (λ i d. refl) (λ i d. others i (λ p. d (p ∙ sym id)))
        (record { count = y.sending_key_counter; are = ap (λ (i : ℕ). counters_of i f) id ∙ own; below = below })

    -- so many counters granted
    pub held_granted : (peer len : ℕ) → y.sending_key_counter ≡ x.sending_key_counter + len
        → Held ins h (g ++ granting x.id peer x.sending_key_counter len ∷ []) last store
    held_granted peer len e =
        let start : 0 + x.sending_key_counter ≡ x.sending_key_counter = omega arith in
        held_counted _
        (λ i d. counters_on i g _ ∙ ap (λ (l : List ℕ). counters_of i g ++ l) (counters_other i x.id peer _ len (λ p. d (sym p))) ∙ append-nil _)
        (counters_on x.id g _ ∙ ap (λ (l : List ℕ). l ++ counters_of x.id (granting x.id peer x.sending_key_counter len ∷ [])) own_slot.granted
        ∙ ap (λ (l : List ℕ). up_from 0 x.sending_key_counter ++ l) (counters_own x.id peer x.sending_key_counter len)
        ∙ ap (λ (i : ℕ). up_from 0 x.sending_key_counter ++ up_from i len) (sym start)
        ∙ join-up_from 0 x.sending_key_counter len ∙ ap (λ (i : ℕ). up_from 0 i) (sym e))

  -- the send counter is at most LIMIT
  counter_below : x.sending_key_counter ≤ limit
  counter_below =
      let r : Runs (counters_of x.id g) = w.runs x.id in
      let e : x.sending_key_counter ≡ r.count =
      sym (length-up_from 0 _) ∙ ap length (sym own_slot.granted ∙ r.are) ∙ length-up_from 0 r.count in
      omega (arith, e, r.below)

  -- nothing granted
  pub held_marked : Changed s last store store j → slot_at last j ≡ y → last.inserted ≡ s.inserted → y.sending_key_counter ≡ x.sending_key_counter
      → Held ins h g last store
  held_marked c there count e =
      held_counted c there count (rw e counter_below) g (λ i d. refl) (own_slot.granted ∙ ap (λ (i : ℕ). up_from 0 i) (sym e))

-- a session inserted
module _ (ins : List Insertion) (h : ℕ → Past) (g : List Grant) (s : Sessions) (store : List ℕ) (w : Held ins h g s store) (x : Session)
    (filled : x.filled ≡ true) (next : x.next ≡ 0) (counter : x.sending_key_counter ≡ 0)
    (heard : x.last_heard ≡ x.established_at) (few : length ins + 1 < 2 ^ 64) where
  abbrev slot : ℕ
  slot = slot_of x.receiving_index

  stored : (insert s store x).store ≡ put_slot store slot (zeros 128)
  unfolding insert choose
  stored = rw (eq-eqb (length store) 1024 w.size)

  inserted : (insert s store x).sessions ≡ inserting s x
  unfolding insert choose
  inserted = rw (eq-eqb (length store) 1024 w.size)

  inserted_at : slot_at (insert s store x).sessions slot ≡ with_id x s.inserted
  unfolding inserting
  inserted_at = rw inserted (put_at s (with_id x s.inserted) store w.eight)

  abbrev then : List Insertion
  then = ins ++ message_in x ∷ []

  one_more : length then ≡ length ins + 1
  one_more = length-append ins (message_in x ∷ [])

  count_more : (insert s store x).sessions.inserted ≡ length then
  unfolding inserting
  count_more = let e : (s.inserted + 1) % 2 ^ 64 ≡ length then = omega (arith, w.count, one_more) in rw inserted e

  long : length (insert s store x).sessions.slots ≡ length s.slots
  unfolding inserting put
  long = rw inserted (length-set s.slots slot (with_id x s.inserted))

  none_yet : [] ≡ up_from 0 0
  unfolding up_from
  none_yet = refl

  heard_inserted : (past : Past) (y : Session) → past ≡ no_past → y ≡ with_id x s.inserted → y.last_heard ≡ unwrap_or past.heard y.established_at
  heard_inserted past y e f = rw (e, f) heard

  pub held_inserted : Held then h g (insert s store x).sessions (insert s store x).store
  held_inserted =
      let id : (slot_at (insert s store x).sessions slot).id ≡ length ins = ap (λ (z : Session). z.id) inserted_at ∙ w.count in
      held_changed ins then h h g g s (insert s store x).sessions store (insert s store x).store slot w
      (record {
        eight = long;
        size = (whole_law s store w.size).insertion x ∙ sym w.size;
        others = λ k low d. (let y : Kept s _ store _ k = (slots_apart s store k).insertion x d in (y.session, y.words));
      })
      (longer_on ins (message_in x ∷ []))
      count_more
      (record {
        placed = ap (λ (z : Session). slot_of z.receiving_index) inserted_at;
        named = rw (id, one_more) (omega arith);
        message = ap (λ (i : ℕ). insertion_at then i) id ∙ get_or-append_seam ins (message_in x) [] _ ∙ ap message_in (sym inserted_at);
        stands = rw (id, w.unborn (length ins) (omega arith)) (inserted_law s store x w.eight w.size next).stands;
        heard = heard_inserted _ _ (ap h id ∙ w.unborn (length ins) (omega arith)) inserted_at;
        granted = ap (λ (i : ℕ). counters_of i g) id ∙ w.ungranted (length ins) (omega arith) ∙ none_yet
            ∙ ap (λ (i : ℕ). up_from 0 i) (sym (ap (λ (z : Session). z.sending_key_counter) inserted_at ∙ counter));
      })
      (λ k low d q p. let l : (slot_at s k).id < length ins = (w.slots k low q).named in omega (arith, l, p ∙ id))
      (λ i d. refl)
      (λ i d. refl)
      (w.runs _)

-- a batch judged
module _ (ins : List Insertion) (h : ℕ → Past) (g : List Grant) (s : Sessions) (store : List ℕ) (w : Held ins h g s store) (index id now : ℕ)
    (counters kinds verdicts skips : List ℕ) (x : Session) (fit : fits counters kinds verdicts skips ≡ true) (found : receiving_session s index id now ≡ Some x) where
  abbrev call : BatchCall
  call = record { sessions = s; store = store; index = index; id = id; now = now; counters = counters; kinds = kinds; verdicts = verdicts; skips = skips }

  in_slot : InSlot s index x
  in_slot = ((lookup_law s).receiving index id now x found).0

  named : x.id ≡ id
  named = ((lookup_law s).receiving index id now x found).1

  abbrev at : ℕ
  at = slot_of index

  filled_at : (slot_at s at).filled ≡ true
  filled_at = found_filled ins h g s store w index x in_slot

  own : SlotHeld ins h g at x (slot_words store at)
  own = held_found ins h g s store w index x in_slot

  live : BatchFor call x (h id).history
  live =
      record {
        eight = w.eight;
        size = w.size;
        batch = fit;
        found = found;
        stands = rw (in_slot.stored, ← named) own.stands;
      }

  pub batch_judged : BatchLaw call (h id).history
  batch_judged = batch_law call x (h id).history live

  abbrev left : Session
  left = session_after store x now counters kinds

  left_at : slot_at (put s left) at ≡ left
  left_at = ap (λ (i : ℕ). slot_at (put s left) (slot_of i)) (sym in_slot.named) ∙ put_at s left store w.eight

  inserted_same : (put s left).inserted ≡ s.inserted
  unfolding put
  inserted_same = refl

  size_left : length (store_after store x counters kinds) ≡ length store
  size_left = (slot_law store _ (slot_of x.receiving_index) w.size (omega arith)).whole ∙ sym w.size

  -- the session's past with what this batch committed
  abbrev past : Past
  past =
      record {
        history = recorded_all (h id).history counters (batch_of store x counters kinds).verdicts;
        heard = choose (commits (batch_of store x counters kinds).verdicts) (Some now) (h id).heard;
      }

  -- when the session was last heard then
  left_heard : left.last_heard ≡ unwrap_or past.heard x.established_at
  unfolding choose
  left_heard = go (commits (batch_of store x counters kinds).verdicts) refl
    where
      go : (b : Bool) → commits (batch_of store x counters kinds).verdicts ≡ b → left.last_heard ≡ unwrap_or past.heard x.established_at
      go true e =
          let goes = receive_judged s store index id now counters kinds verdicts skips x w.size fit found in
          (heard_law s store index id now counters kinds verdicts skips).committed left (batch_of store x counters kinds).out (rw goes refl) (rw goes e) ∙ rw e refl
      go false e =
          let goes = receive_judged s store index id now counters kinds verdicts skips x w.size fit found in
          (heard_law s store index id now counters kinds verdicts skips).uncommitted x left (batch_of store x counters kinds).out in_slot (rw goes refl) (rw goes e) ∙ own.heard ∙ rw (e, named) refl

  module _ (i : ℕ → Past) (mine : i id ≡ past) (others : (y : ℕ) → (y ≡ id → ⊥) → i y ≡ h y) where
    pub held_judged : Held ins i g (put s left) (store_after store x counters kinds)
    held_judged =
        let is : (slot_at (put s left) at).id ≡ id = ap (λ (z : Session). z.id) left_at ∙ named in
        held_changed ins ins h i g g s (put s left) store (store_after store x counters kinds) at w
        (record {
          eight = (changed_put s left store w.eight).eight;
          size = size_left;
          others = λ k low d.
              let other : k ≡ slot_of x.receiving_index → ⊥ = λ o. d (o ∙ ap slot_of in_slot.named) in
              (((changed_put s left store w.eight).others k low other).0, (slot_law store _ (slot_of x.receiving_index) w.size (omega arith)).other k other);
        })
        (longer_same ins)
        (inserted_same ∙ w.count)
        (record {
          placed = ap (λ (z : Session). slot_of z.receiving_index) left_at ∙ ap slot_of in_slot.named;
          named = rw (is, ← named) own.named;
          message = ap (λ (i : ℕ). insertion_at ins i) (is ∙ sym named) ∙ own.message ∙ ap message_in (sym left_at);
          stands = rw (is, mine, ← in_slot.named) (judged_stands call x (h id).history live);
          heard = rw (is, mine, left_at) left_heard;
          granted = ap (λ (k : ℕ). counters_of k g) (is ∙ sym named) ∙ own.granted
              ∙ ap (λ (k : ℕ). up_from 0 k) (sym (ap (λ (z : Session). z.sending_key_counter) left_at));
        })
        (λ k low d q p. d (w.apart k at low (omega arith) q filled_at (p ∙ is ∙ sym named ∙ ap (λ (z : Session). z.id) (sym in_slot.stored))))
        (λ y d. others y (λ q. d (q ∙ sym is)))
        (λ y d. refl)
        (w.runs _)
