-- What the steps of the sessions do to the slots: allocate, select, discard, mark, count, judge and insert.
-- Assumes nothing.
use mathlib.Core.Path.{◌≡◌, refl, ap, sym, ◌∙◌}
use mathlib.Core.Bool.{Bool, true, false}
use mathlib.Core.List.{List}
use Prim.Native.Nat.{ℕ, zero, suc, ◌≤◌, ◌<◌}
use native.Mathlib.Decide.{ℕ_discrete}
use native.Mathlib.Omega.{arith}
use lib.Dec.{eqb}
use lib.ListN.{length, get_or, set, length-set, get_or-replicate, length-replicate}
use lib.Seq.{get_or-set_same, get_or-set_other}
use Rattle.base.specs.Choice.{choose, case_option}
use Rattle.base.proofs.Choice.{of_choice, of_option}
use Rattle.demands.proofs.Held.{Carried, carried_same, carried_on, Changed}
use Rattle.base.proofs.Zeros.{length_zeros}
use Rattle.sessions.proofs.Laws.{slot_law, empty_law}
use Rattle.sessions.specs.Index.{slot_of}
use Rattle.sessions.specs.Session.{empty_session}
use Rattle.sessions.specs.Sessions.{slot_at, empty_slots, Held, in_slot_of, get, put, current_of, next_index, select, set_current, clear, emptied, Expiring, discard, expire_slot, expire_first, expire}
use Rattle.sessions.specs.Store.{put_slot}
use Rattle.base.specs.Lists.{zeros}
use Rattle.sessions.specs.declared.session.Session.{Session}
use Rattle.sessions.specs.declared.sessions.Expired.{Expired}
use Rattle.sessions.specs.declared.sessions.Sessions.{Sessions}
use Rattle.std.specs.Prelude.{None, Option, Some}

-- the same slots, whatever the current session and the index allocated last
carried_slots : (s last : Sessions) (store : List ℕ) → last.slots ≡ s.slots → last.inserted ≡ s.inserted → Carried s last store store
carried_slots s last store e i =
    record {
      eight = ap length e;
      size = refl;
      count = i;
      slots = λ k low f. (ap (λ (l : List Session). get_or l k empty_session) e, refl);
    }

-- an index allocated
pub carried_next : (s : Sessions) (store : List ℕ) → Carried s (next_index s).sessions store store
unfolding next_index
carried_next s store = carried_slots s _ store refl refl

-- a session selected
module _ (s : Sessions) (store : List ℕ) (index : ℕ) where
  selected : Carried s (select s index) store store
  unfolding select
  selected = carried_slots s _ store refl refl

  pub carried_current : Carried s (set_current s index) store store
  unfolding set_current
  carried_current =
      of_choice (λ (t : Sessions). Carried s t store store) _ _ _ (carried_same s store)
      (of_option (λ (t : Sessions). Carried s t store store) _ _ _ (carried_same s store)
      (λ fresh. of_option (λ (t : Sessions). Carried s t store store) _ _ _ selected
      (λ current. of_choice (λ (t : Sessions). Carried s t store store) _ _ _ (carried_same s store) selected)))

-- slots emptied, and the current session as it was or none
pub record Thinned (s last : Sessions) (store left : List ℕ) : Type 0 where
  pub carried : Carried s last store left
  pub current : (x : Session) → current_of last ≡ Some x → current_of s ≡ Some x

thinned_same : (s : Sessions) (store : List ℕ) → Thinned s s store store
thinned_same s store = record { carried = carried_same s store; current = λ x e. e }

thinned_on : (s t u : Sessions) (store mid left : List ℕ) → Thinned s t store mid → Thinned t u mid left → Thinned s u store left
thinned_on s t u store mid left a b =
    record { carried = carried_on s t u store mid left a.carried b.carried; current = λ x e. a.current x (b.current x e) }

-- a current session that is still there was current before
module _ (s last : Sessions) (store left : List ℕ) (c : Carried s last store left) where
  same_found : (i : ℕ) (f : Bool) (x : Session) → (slot_at last (slot_of i)).filled ≡ f
      → case_option (choose f (Some (slot_at last (slot_of i))) None) None (λ (y : Session). choose (eqb y.receiving_index i) (Some y) None) ≡ Some x
      → get s i ≡ Some x
  unfolding get in_slot_of choose case_option
  same_found i true x p e =
      let q : slot_at last (slot_of i) ≡ slot_at s (slot_of i) = (c.slots (slot_of i) (omega arith) p).0 in
      let f : (slot_at s (slot_of i)).filled ≡ true = ap (λ (y : Session). y.filled) (sym q) ∙ p in
      rw f (rw q at e)
  same_found i false x p e = cc

  still_current : (now was : Option ℕ) (x : Session) → now ≡ was → case_option now None (λ (i : ℕ). get last i) ≡ Some x
      → case_option was None (λ (i : ℕ). get s i) ≡ Some x
  unfolding case_option get in_slot_of
  still_current None was x q e = cc
  still_current (Some i) was x q e = rw (← q) (same_found i _ x refl e)

  kept_current : last.current ≡ s.current → Thinned s last store left
  unfolding current_of
  kept_current q = record { carried = c; current = λ x e. still_current last.current s.current x q e }

  no_current : last.current ≡ None → Thinned s last store left
  unfolding current_of case_option
  no_current q = record { carried = c; current = λ x e. cc }

-- a slot emptied and its words zeroed
module _ (s last : Sessions) (store : List ℕ) (k : ℕ) (eight : length s.slots ≡ 8) (size : length store ≡ 1024) (low : k < 8) where
  carried_emptied : last.slots ≡ set s.slots k empty_session → last.inserted ≡ s.inserted → Carried s last store (put_slot store k (zeros 128))
  carried_emptied e i =
      record {
        eight = ap length e ∙ length-set s.slots k empty_session;
        size = (slot_law store (zeros 128) k size low).whole ∙ sym size;
        count = i;
        slots = λ j high f. elim (ℕ_discrete j k) [
          | yes q ↦ absurd (empty_law.unfilled _ (ap (λ (n : ℕ). slot_at last n) q ∙ ap (λ (l : List Session). get_or l k empty_session) e ∙ get_or-set_same s.slots k empty_session empty_session (omega arith)) f)
          | no q ↦ (ap (λ (l : List Session). get_or l j empty_session) e ∙ get_or-set_other s.slots k j empty_session empty_session q, (slot_law store (zeros 128) k size low).other j q)
        ];
      }

-- an expiry under way
record Thinning (s : Sessions) (store : List ℕ) (e : Expiring) : Type 0 where
  thinned : Thinned s e.expired.sessions store e.store
  eight : length e.expired.sessions.slots ≡ 8
  size : length e.store ≡ 1024

module _ (s : Sessions) (store : List ℕ) (now : ℕ) where
  thinned_discard : (e : Expired) (left : List ℕ) (k : ℕ) → length e.sessions.slots ≡ 8 → length left ≡ 1024 → k < 8
      → Thinned e.sessions (discard e k).sessions left (put_slot left k (zeros 128))
  unfolding discard emptied
  thinned_discard e left k eight size low =
      of_choice (λ (y : Expired). Thinned e.sessions y.sessions left (put_slot left k (zeros 128))) _ _ _
      (no_current e.sessions _ left _ (carried_emptied e.sessions _ left k eight size low refl refl) refl)
      (kept_current e.sessions _ left _ (carried_emptied e.sessions _ left k eight size low refl refl) refl)

  thinning_slot : (e : Expiring) (k : ℕ) → k < 8 → Thinning s store e → Thinning s store (expire_slot e k now)
  unfolding expire_slot
  thinning_slot e k low y =
      let d : Thinned e.expired.sessions (discard e.expired k).sessions e.store (put_slot e.store k (zeros 128)) =
      thinned_discard e.expired e.store k y.eight y.size low in
      of_choice (λ (x : Expiring). Thinning s store x) _ _ _
      (record {
        thinned = thinned_on s e.expired.sessions _ store e.store _ y.thinned d;
        eight = d.carried.eight ∙ y.eight;
        size = d.carried.size ∙ y.size;
      })
      y

  thinning_first : (e : Expiring) (count : ℕ) → count ≤ 8 → Thinning s store e → Thinning s store (expire_first e count now)
  unfolding expire_first
  thinning_first e zero h y = y
  thinning_first e (suc count) h y = thinning_slot (expire_first e count now) count (omega arith) (thinning_first e count (omega arith) y)

  -- every expired session discarded
  pub thinned_expire : length s.slots ≡ 8 → length store ≡ 1024 → Thinned s (expire s store now).expired.sessions store (expire s store now).store
  unfolding expire
  thinned_expire eight size =
      of_choice (λ (x : Expiring). Thinned s x.expired.sessions store x.store) _ _ _
      (thinning_first _ 8 (omega arith) (record { thinned = thinned_same s store; eight = eight; size = size })).thinned
      (thinned_same s store)

  -- every session dropped
  pub thinned_clear : length s.slots ≡ 8 → length store ≡ 1024 → Thinned s (clear s store).sessions store (clear s store).store
  unfolding clear empty_slots
  thinned_clear eight size =
      of_choice (λ (x : Held). Thinned s x.sessions store x.store) _ _ _
      (no_current s _ store _
      (record {
        eight = length-replicate 8 empty_session ∙ sym eight;
        size = length_zeros 1024 ∙ sym size;
        count = refl;
        slots = λ k low f. absurd (empty_law.unfilled _ (get_or-replicate 8 k empty_session empty_session low) f);
      })
      refl)
      (thinned_same s store)

-- a session put into its slot
module _ (s : Sessions) (x : Session) (store : List ℕ) (eight : length s.slots ≡ 8) where
  pub put_at : slot_at (put s x) (slot_of x.receiving_index) ≡ x
  unfolding put
  put_at = get_or-set_same s.slots (slot_of x.receiving_index) x empty_session (omega arith)

  pub changed_put : Changed s (put s x) store store (slot_of x.receiving_index)
  unfolding put
  changed_put =
      record {
        eight = length-set s.slots (slot_of x.receiving_index) x;
        size = refl;
        others = λ k low d. (get_or-set_other s.slots (slot_of x.receiving_index) k x empty_session d, refl);
      }
