-- What is known of the sessions and the store after any calls: each filled slot stands for its session's past and grants, and sessions are
-- told apart by id.
-- Assumes nothing.
use mathlib.Core.Path.{◌≡◌, refl, ap, sym, ◌∙◌}
use mathlib.Core.Bool.{true, false}
use mathlib.Core.List.{List, [], ◌∷◌, ◌++◌, append_assoc, append-nil}
use Prim.Native.Nat.{ℕ, ◌≤◌, ◌<◌}
use native.Mathlib.Decide.{ℕ_discrete}
use native.Mathlib.Omega.{arith}
use lib.Dec.{eqb}
use lib.ListN.{length, get_or, length-append, get_or-append}
use borrow.Author.Tests.{eq-eqb, ne_eqb}
use Rattle.base.specs.Choice.{choose}
use Rattle.base.specs.Lists.{up_from}
use Rattle.demands.specs.Made.{Insertion, insertion}
use Rattle.demands.specs.Sending.{Grant, granting, counters_of}
use Rattle.sessions.specs.Cases.{case_role}
use Rattle.sessions.specs.Index.{slot_of}
use Rattle.sessions.specs.Laws.{InSlot}
use Rattle.sessions.specs.Sessions.{slot_at}
use Rattle.sessions.specs.Store.{slot_words}
use Rattle.sessions.specs.declared.session.Session.{Session}
use Rattle.sessions.specs.declared.sessions.Sessions.{Sessions}
use Rattle.window.specs.History.{Represents}
use Rattle.window.specs.Window.{limit}
use Rattle.std.specs.Prelude.{None, Option, unwrap_or}

-- the counters of grants, and of those that follow
pub counters_on : (id : ℕ) (g h : List Grant) → counters_of id (g ++ h) ≡ counters_of id g ++ counters_of id h
unfolding counters_of
counters_on id [] h = refl
counters_on id (x ∷ g) h =
    ap (λ (l : List ℕ). choose (eqb x.id id) (up_from x.first x.len) [] ++ l) (counters_on id g h)
    ∙ sym (append_assoc (choose (eqb x.id id) (up_from x.first x.len) []) (counters_of id g) (counters_of id h))

pub counters_own : (id peer first n : ℕ) → counters_of id (granting id peer first n ∷ []) ≡ up_from first n
unfolding counters_of choose
counters_own id peer first n = rw (eq-eqb id id refl) (append-nil (up_from first n))

pub counters_other : (id own peer first n : ℕ) → (own ≡ id → ⊥) → counters_of id (granting own peer first n ∷ []) ≡ []
unfolding counters_of choose
counters_other id own peer first n d = rw (ne_eqb own id d)

-- counters 0, 1, 2 on, all below LIMIT
pub record Runs (counters : List ℕ) : Type 0 where
  pub count : ℕ
  pub are : counters ≡ up_from 0 count
  pub below : count ≤ limit

-- the handshake message that a session's record tells of
abbrev pub message_in : Session → Insertion
message_in x = insertion (case_role x.role true false) x.sending_index x.established_at

-- the insertion of an id
abbrev pub insertion_at : List Insertion → ℕ → Insertion
insertion_at ins id = get_or ins id (insertion false 0 0)

-- insertions that begin with others
pub record Longer (ins more : List Insertion) : Type 0 where
  pub long : length ins ≤ length more
  pub same : (id : ℕ) → id < length ins → insertion_at more id ≡ insertion_at ins id

pub longer_same : (ins : List Insertion) → Longer ins ins
longer_same ins = record { long = omega arith; same = λ id l. refl }

pub longer_on : (ins more : List Insertion) → Longer ins (ins ++ more)
longer_on ins more = record { long = rw (length-append ins more) (omega arith); same = λ id l. get_or-append ins more _ id l }

-- what calls committed to a session: its history, and the time of the last batch that committed
pub record Past : Type 0 where
  pub history : List ℕ
  pub heard : Option ℕ

-- the past of a session to which nothing was committed
abbrev pub no_past : Past
no_past = record { history = []; heard = None }

-- a filled slot's record and words, with the insertions, the pasts and the grants of all sessions
pub record SlotHeld (ins : List Insertion) (h : ℕ → Past) (g : List Grant) (slot : ℕ) (x : Session) (words : List ℕ) : Type 0 where
  pub placed : slot_of x.receiving_index ≡ slot
  pub named : x.id < length ins
  pub message : insertion_at ins x.id ≡ message_in x
  pub stands : Represents (h x.id).history words x.next
  pub heard : x.last_heard ≡ unwrap_or (h x.id).heard x.established_at
  pub granted : counters_of x.id g ≡ up_from 0 x.sending_key_counter

-- sessions and a store after insertions
pub record Held (ins : List Insertion) (h : ℕ → Past) (g : List Grant) (s : Sessions) (store : List ℕ) : Type 0 where
  pub eight : length s.slots ≡ 8
  pub size : length store ≡ 1024
  pub count : s.inserted ≡ length ins
  pub slots : (k : ℕ) → k < 8 → (slot_at s k).filled ≡ true → SlotHeld ins h g k (slot_at s k) (slot_words store k)
  pub apart : (j k : ℕ) → j < 8 → k < 8 → (slot_at s j).filled ≡ true → (slot_at s k).filled ≡ true → (slot_at s j).id ≡ (slot_at s k).id → j ≡ k
  pub unborn : (id : ℕ) → length ins ≤ id → h id ≡ no_past
  pub ungranted : (id : ℕ) → length ins ≤ id → counters_of id g ≡ []
  pub runs : (id : ℕ) → Runs (counters_of id g)

-- what is known of a session that is found in its slot
module _ (ins : List Insertion) (h : ℕ → Past) (g : List Grant) (s : Sessions) (store : List ℕ) (w : Held ins h g s store) (index : ℕ) (x : Session)
    (found : InSlot s index x) where
  pub found_filled : (slot_at s (slot_of index)).filled ≡ true
  found_filled = ap (λ (z : Session). z.filled) found.stored ∙ found.filled

  same_record : (z : Session) → z ≡ x → SlotHeld ins h g (slot_of index) z (slot_words store (slot_of index))
      → SlotHeld ins h g (slot_of index) x (slot_words store (slot_of index))
  same_record z e o = rw (← e) o

  pub held_found : SlotHeld ins h g (slot_of index) x (slot_words store (slot_of index))
  held_found = same_record (slot_at s (slot_of index)) found.stored (w.slots (slot_of index) (omega arith) found_filled)

-- sessions and a store of which every slot that is filled then was so before
pub record Carried (s last : Sessions) (store left : List ℕ) : Type 0 where
  pub eight : length last.slots ≡ length s.slots
  pub size : length left ≡ length store
  pub count : last.inserted ≡ s.inserted
  pub slots : (k : ℕ) → k < 8 → (slot_at last k).filled ≡ true → (slot_at last k ≡ slot_at s k) × (slot_words left k ≡ slot_words store k)

pub carried_same : (s : Sessions) (store : List ℕ) → Carried s s store store
carried_same s store = record { eight = refl; size = refl; count = refl; slots = λ k low f. (refl, refl) }

pub carried_on : (s t u : Sessions) (store mid left : List ℕ) → Carried s t store mid → Carried t u mid left → Carried s u store left
carried_on s t u store mid left a b =
    record {
      eight = b.eight ∙ a.eight;
      size = b.size ∙ a.size;
      count = b.count ∙ a.count;
      slots = λ k low f.
          let p : (slot_at u k ≡ slot_at t k) × (slot_words left k ≡ slot_words mid k) = b.slots k low f in
          let q : (slot_at t k ≡ slot_at s k) × (slot_words mid k ≡ slot_words store k) =
          a.slots k low (ap (λ (x : Session). x.filled) (sym p.0) ∙ f) in
          (p.0 ∙ q.0, p.1 ∙ q.1);
    }

module _ (ins : List Insertion) (h : ℕ → Past) (g : List Grant) (s last : Sessions) (store left : List ℕ) (w : Held ins h g s store) where
  was_filled : (k : ℕ) → (slot_at last k ≡ slot_at s k) × (slot_words left k ≡ slot_words store k) → (slot_at last k).filled ≡ true → (slot_at s k).filled ≡ true
  was_filled k p f = ap (λ (x : Session). x.filled) (sym p.0) ∙ f

  pub held_carried : Carried s last store left → Held ins h g last left
  held_carried c =
      record {
        eight = c.eight ∙ w.eight;
        size = c.size ∙ w.size;
        count = c.count ∙ w.count;
        slots = λ k low f.
            let p : (slot_at last k ≡ slot_at s k) × (slot_words left k ≡ slot_words store k) = c.slots k low f in
            rw (p.0, p.1) (w.slots k low (was_filled k p f));
        apart = λ j k a b e f q.
            let p : (slot_at last j ≡ slot_at s j) × (slot_words left j ≡ slot_words store j) = c.slots j a e in
            let r : (slot_at last k ≡ slot_at s k) × (slot_words left k ≡ slot_words store k) = c.slots k b f in
            w.apart j k a b (was_filled j p e) (was_filled k r f)
            (ap (λ (x : Session). x.id) (sym p.0) ∙ q ∙ ap (λ (x : Session). x.id) r.0);
        unborn = w.unborn;
        ungranted = w.ungranted;
        runs = w.runs;
      }

-- sessions and a store of which one slot changed
pub record Changed (s last : Sessions) (store left : List ℕ) (slot : ℕ) : Type 0 where
  pub eight : length last.slots ≡ length s.slots
  pub size : length left ≡ length store
  pub others : (k : ℕ) → k < 8 → (k ≡ slot → ⊥) → (slot_at last k ≡ slot_at s k) × (slot_words left k ≡ slot_words store k)

-- one slot changed: what is to be known of it and of its session
module _ (ins then : List Insertion) (h i : ℕ → Past) (g f : List Grant) (s last : Sessions) (store left : List ℕ) (j : ℕ) (w : Held ins h g s store)
    (c : Changed s last store left j) where
  abbrev id : ℕ
  id = (slot_at last j).id

  module _ (more : Longer ins then) (count : last.inserted ≡ length then) (mine : SlotHeld then i f j (slot_at last j) (slot_words left j))
      (distinct : (k : ℕ) → k < 8 → (k ≡ j → ⊥) → (slot_at s k).filled ≡ true → (slot_at s k).id ≡ id → ⊥)
      (pasts : (x : ℕ) → (x ≡ id → ⊥) → i x ≡ h x) (grants : (x : ℕ) → (x ≡ id → ⊥) → counters_of x f ≡ counters_of x g)
      (run : Runs (counters_of id f)) where
    other_slot : (k : ℕ) → k < 8 → (k ≡ j → ⊥) → (slot_at last k).filled ≡ true → SlotHeld then i f k (slot_at last k) (slot_words left k)
    other_slot k low d e =
        let p : (slot_at last k ≡ slot_at s k) × (slot_words left k ≡ slot_words store k) = c.others k low d in
        let e' : (slot_at s k).filled ≡ true = ap (λ (x : Session). x.filled) (sym p.0) ∙ e in
        let y : SlotHeld ins h g k (slot_at s k) (slot_words store k) = w.slots k low e' in
        let z : (slot_at s k).id ≡ id → ⊥ = distinct k low d e' in
        rw (p.0, p.1)
        (record {
          placed = y.placed;
          named = omega (arith, y.named, more.long);
          message = more.same (slot_at s k).id y.named ∙ y.message;
          stands = rw (pasts (slot_at s k).id z) y.stands;
          heard = rw (pasts (slot_at s k).id z) y.heard;
          granted = grants (slot_at s k).id z ∙ y.granted;
        })

    each_slot : (k : ℕ) → k < 8 → (slot_at last k).filled ≡ true → SlotHeld then i f k (slot_at last k) (slot_words left k)
    each_slot k low e = elim (ℕ_discrete k j) [
      | yes q ↦ rw q mine
      | no q ↦ other_slot k low q e
    ]

    -- another filled slot has another id
    differs : (k : ℕ) → k < 8 → (k ≡ j → ⊥) → (slot_at last k).filled ≡ true → (slot_at last k).id ≡ id → ⊥
    differs k low d e q =
        let p : (slot_at last k ≡ slot_at s k) × (slot_words left k ≡ slot_words store k) = c.others k low d in
        distinct k low d (ap (λ (x : Session). x.filled) (sym p.0) ∙ e) (ap (λ (x : Session). x.id) (sym p.0) ∙ q)

    both_others : (a b : ℕ) → a < 8 → b < 8 → (a ≡ j → ⊥) → (b ≡ j → ⊥) → (slot_at last a).filled ≡ true → (slot_at last b).filled ≡ true
        → (slot_at last a).id ≡ (slot_at last b).id → a ≡ b
    both_others a b la lb da db ea eb q =
        let p : (slot_at last a ≡ slot_at s a) × (slot_words left a ≡ slot_words store a) = c.others a la da in
        let r : (slot_at last b ≡ slot_at s b) × (slot_words left b ≡ slot_words store b) = c.others b lb db in
        w.apart a b la lb (ap (λ (x : Session). x.filled) (sym p.0) ∙ ea) (ap (λ (x : Session). x.filled) (sym r.0) ∙ eb)
        (ap (λ (x : Session). x.id) (sym p.0) ∙ q ∙ ap (λ (x : Session). x.id) r.0)

    each_apart : (a b : ℕ) → a < 8 → b < 8 → (slot_at last a).filled ≡ true → (slot_at last b).filled ≡ true
        → (slot_at last a).id ≡ (slot_at last b).id → a ≡ b
    each_apart a b la lb ea eb q = elim (ℕ_discrete a j) [
      | yes u ↦ elim (ℕ_discrete b j) [
        | yes v ↦ u ∙ sym v
        | no v ↦ absurd (differs b lb v eb (sym q ∙ ap (λ (k : ℕ). (slot_at last k).id) u))
      ]
      | no u ↦ elim (ℕ_discrete b j) [
        | yes v ↦ absurd (differs a la u ea (q ∙ ap (λ (k : ℕ). (slot_at last k).id) v))
        | no v ↦ both_others a b la lb u v ea eb q
      ]
    ]

    each_run : (x : ℕ) → Runs (counters_of x f)
    each_run x = elim (ℕ_discrete x id) [
      | yes q ↦ rw q run
      | no q ↦ rw (grants x q) (w.runs x)
    ]

    above : (x : ℕ) → length then ≤ x → x ≡ id → ⊥
    above x l q = omega (arith, q, mine.named)

    pub held_changed : Held then i f last left
    held_changed =
        record {
          eight = c.eight ∙ w.eight;
          size = c.size ∙ w.size;
          count = count;
          slots = each_slot;
          apart = each_apart;
          unborn = λ x l. pasts x (above x l) ∙ w.unborn x (omega (arith, l, more.long));
          ungranted = λ x l. grants x (above x l) ∙ w.ungranted x (omega (arith, l, more.long));
          runs = each_run;
        }
