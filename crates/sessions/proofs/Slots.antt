-- What the code does to all slots or asks of them: a clearing, an expiry slot by slot, which changes nothing where none is due, and the tests that every slot passes.
-- Assumes nothing.
use Rattle.std.proofs.Common.{◌≡◌, ℕ, zero, suc, ◌+◌, ◌<◌, ◌≤◌, Bool, true, false, List, [], ◌∷◌, not, ◌&&◌, length, replicate, get_or, set, take, take_all, sym, refl, ap, ◌∙◌, zero-add, add-one, arith, eqb, eq-eqb, get_or-set_other}
use Rattle.std.proofs.lemmas.Bool.Decides.{nat_tests}
use Rattle.sessions.specs.Laws.{Kept}
use Rattle.sessions.proofs.Words.{length_put, slot_other}
use Rattle.std.specs.List.{list_all, list_any, enumerate_from}
use Rattle.std.proofs.lemmas.List.Folds.{list_all_more}
use Rattle.std.proofs.lemmas.List.FromFn.{length-enumerate_from, get_or-enumerate_from}
use Rattle.std.specs.Option.{option_eq}
use Rattle.base.specs.Choice.{choose, case_option}
use Rattle.base.specs.First.{none_of}
use Rattle.sessions.specs.declared.sessions.Sessions.{Sessions}
use Rattle.sessions.specs.declared.sessions.Expired.{Expired}
use Rattle.base.specs.Lists.{zeros}
use Rattle.sessions.specs.declared.session.Session.{Session}
use Rattle.sessions.specs.Store.{put_slot, Leaves}
use Rattle.sessions.specs.Session.{empty_session, expired_at}
use Rattle.sessions.specs.Damage.{slot_holds, slots_hold}
use Rattle.sessions.specs.Sessions.{ring, empty_slots, clear, with_slots, with_current, is_index, discard, emptied, expiring, slot_at, expired_slot, none_expired, Expiring, expire_slot, expire_first, expire}
use Rattle.std.specs.Prelude.{None, Some, Option}

-- every slot emptied, and the store zeroed
pub cleared : (s : Sessions) (store : List ℕ) → length store ≡ 1024 → (e : Session) (left : List ℕ) → left ≡ replicate (length store) 0 → e ≡ empty_session
    → Leaves (ring (e ∷ e ∷ e ∷ e ∷ e ∷ e ∷ e ∷ e ∷ []) None s.last_index s.inserted) (clear s store).sessions left (clear s store).store
unfolding clear empty_slots zeros choose
cleared s store l e left w p = rw (eq-eqb (length store) 1024 l) (record { out = rw p; words = w ∙ ap (λ (n : ℕ). replicate n 0) l })

-- the code's comparison with the selected index
same_index : (selected : Option ℕ) (index : ℕ) → option_eq eqb selected (Some index) ≡ is_index selected index
unfolding is_index case_option
same_index None index = refl
same_index (Some current) index = refl

-- an expiry that has come to the next slot goes past it, or discards its session
module _ (began : Expiring) (slot now : ℕ) (s : Sessions) (current : Option Session) (store : List ℕ)
    (gone : expiring (record { sessions = s; current = current }) store ≡ expire_first began slot now) where
  next : expire_first began (slot + 1) now ≡ expire_slot (expiring (record { sessions = s; current = current }) store) slot now
  unfolding expire_first
  next = rw (add-one, gone) refl

  pub past_empty : (slot_at s slot).filled ≡ false → expiring (record { sessions = s; current = current }) store ≡ expire_first began (slot + 1) now
  unfolding expire_slot expired_slot choose
  past_empty p = grind (arith, next)

  pub past_young : (due : Bool) → due ≡ expired_at (slot_at s slot) now → due ≡ false
      → expiring (record { sessions = s; current = current }) store ≡ expire_first began (slot + 1) now
  unfolding expire_slot expired_slot choose
  past_young due e q = grind (arith, next)

  module _ (p : (slot_at s slot).filled ≡ true) (due : Bool) (due_is : due ≡ expired_at (slot_at s slot) now) (q : due ≡ true)
      (e : Session) (empty : e ≡ empty_session) (left : List ℕ) (zeroed : left ≡ put_slot store slot (zeros 128))
      (same : Bool) (same_is : same ≡ option_eq eqb s.current (Some (slot_at s slot).receiving_index)) where
    pub discards_other : same ≡ false
        → expiring (record { sessions = with_slots s (set s.slots slot e); current = current }) left ≡ expire_first began (slot + 1) now
    unfolding expire_slot expired_slot discard emptied choose
    discards_other f = grind (arith, next, same_index)

    pub discards_current : same ≡ true
        → expiring (record { sessions = with_current (with_slots s (set s.slots slot e)) None; current = Some (slot_at s slot) }) left
        ≡ expire_first began (slot + 1) now
    unfolding expire_slot expired_slot discard emptied choose
    discards_current f = grind (arith, next, same_index)

pub gone_ends : (s : Sessions) (store : List ℕ) (now slot : ℕ) (e : Expired) (left : List ℕ)
    → expiring e left ≡ expire_first (expiring (record { sessions = s; current = None }) store) slot now → length store ≡ 1024 → slot ≤ 8 → 8 ≤ slot
    → Leaves e (expire s store now).expired left (expire s store now).store
unfolding expire choose
gone_ends s store now slot e left g l w h =
    let same : slot ≡ 8 = omega arith in
    let last : expiring e left ≡ expire_first (expiring (record { sessions = s; current = None }) store) 8 now = rw (← same) g in
    record { out = grind (arith, nat_tests, last); words = grind (arith, nat_tests, last) }

-- an expiry where no session is expired leaves all as it was
module _ (s : Sessions) (now : ℕ) where
  slots_stay : (e : Expiring) (count : ℕ) → e.expired.sessions ≡ s → none_of (λ slot. expired_slot s slot now) count ≡ true → expire_first e count now ≡ e
  unfolding expire_first expire_slot none_of choose
  slots_stay e zero same p = refl
  slots_stay e (suc count) same p = grind (arith, nat_tests, slots_stay e count)

  pub expire_none : (store : List ℕ) → none_expired s now ≡ true
      → expire s store now ≡ expiring (record { sessions = s; current = None }) store
  unfolding expire choose
  expire_none store p = grind (arith, nat_tests, slots_stay)

-- an expiry under way keeps so many words, and a slot that was not due at its beginning
pub whole_first : (e : Expiring) (count now : ℕ) → count ≤ 8 → length e.store ≡ 1024 → length (expire_first e count now).store ≡ 1024
unfolding expire_first expire_slot choose
whole_first e zero now h l = l
whole_first e (suc count) now h l = grind (arith, nat_tests, length_put, whole_first e count now)

-- what is due depends on the slot's record only, and a discarded slot is the only one that changes
same_due : (s last : Sessions) (slot now : ℕ) → slot_at last slot ≡ slot_at s slot → expired_slot last slot now ≡ expired_slot s slot now
unfolding expired_slot
same_due s last slot now e = rw e

discard_slots : (e : Expired) (k : ℕ) → (discard e k).sessions.slots ≡ set e.sessions.slots k empty_session
unfolding discard emptied choose
discard_slots e k = grind arith

module _ (s : Sessions) (store : List ℕ) (slot now : ℕ) (due : expired_slot s slot now ≡ false) where
  stays : (e : Expiring) (count : ℕ) → count ≤ 8 → length e.store ≡ 1024 → Kept s e.expired.sessions store e.store slot
      → Kept s (expire_first e count now).expired.sessions store (expire_first e count now).store slot
  unfolding expire_first expire_slot choose
  stays e zero h l y = y
  stays e (suc count) h l y =
      let z : Kept s (expire_first e count now).expired.sessions store (expire_first e count now).store slot = stays e count (omega arith) l y in
      let d : expired_slot (expire_first e count now).expired.sessions slot now ≡ false = same_due s _ slot now z.session ∙ due in
      grind (arith, nat_tests, slot_other, whole_first e count now (omega arith) l, get_or-set_other, discard_slots, d, z)

  pub kept_expire : Kept s (expire s store now).expired.sessions store (expire s store now).store slot
  unfolding expire choose
  kept_expire =
      grind (
        arith,
        nat_tests,
        stays (expiring (record { sessions = s; current = None }) store) 8 (omega arith),
        began,
      )
    where
      began : Kept s s store store slot
      began = record { session = refl; words = refl }

-- a test of each of the first elements is a recursion that asks for it of one more each turn
module _ {A : Type 0} (test : A → Bool) (xs : List A) (d : A) (F : ℕ → Bool) (none : F 0 ≡ true)
    (more : (n : ℕ) → n < length xs → F (suc n) ≡ (F n && test (get_or xs n d))) where
  all_first : (n : ℕ) → n ≤ length xs → list_all test (take n xs) ≡ F n
  all_first zero h = sym none
  all_first (suc n) h = rw (← add-one, list_all_more test xs n d h, all_first n (omega arith)) (rw (add-one) (sym (more n h)))

  all_same : length xs ≡ 8 → list_all test xs ≡ F 8
  all_same e = ap (list_all test) (sym (take_all 8 xs (omega arith))) ∙ all_first 8 (omega arith)

-- none passes a test if all fail it
none_any : {A : Type 0} (test : A → Bool) (xs : List A) → not (list_any test xs) ≡ list_all (λ x. not (test x)) xs
none_any test [] = refl
none_any test (x ∷ xs) = grind (arith, none_any test xs)

-- no session is expired, and every slot holds, as the code asks
module _ (s : Sessions) (l : length s.slots ≡ 8) where
  pub none_due : (now : ℕ) → not (list_any (λ x. x.filled && expired_at x now) s.slots) ≡ none_expired s now
  unfolding none_of expired_slot choose
  none_due now =
      none_any (λ x. x.filled && expired_at x now) s.slots
      ∙ all_same (λ x. not (x.filled && expired_at x now)) s.slots empty_session (none_of (λ k. expired_slot s k now)) refl (λ n h. grind arith) l

  pub all_hold : (greatest : ℕ) → list_all (λ p. slot_holds p.1 p.0 greatest) (enumerate_from 0 s.slots) ≡ slots_hold s 8 greatest
  unfolding slots_hold choose
  all_hold greatest =
      all_same (λ p. slot_holds p.1 p.0 greatest) (enumerate_from 0 s.slots) (0, empty_session) (λ n. slots_hold s n greatest) refl
      (λ n h. grind (arith, zero-add, length-enumerate_from, get_or-enumerate_from 0 s.slots n (0, empty_session))) (length-enumerate_from 0 s.slots ∙ l)
