-- After an expiry no session is due.
-- Assumes nothing.
use mathlib.Core.Path.{◌≡◌, refl, ap, ◌∙◌}
use mathlib.Core.Bool.{Bool, true, false}
use mathlib.Core.List.{List, [], ◌∷◌}
use Prim.Native.Nat.{ℕ, zero, suc}
use lib.Dec.{ltb, leb}
use lib.ListN.{length, get_or, set}
use borrow.Author.Tests.{eq-eqb}
use Rattle.base.proofs.Choice.{of_choice, known_choice}
use Rattle.base.specs.Choice.{choose, case_option}
use Rattle.sessions.specs.Session.{due_by, least, earlier, empty_session, expires_at, expired_at}
use Rattle.sessions.specs.Sessions.{Expiring, emptied, slot_at, expired_slot, discard, expire_slot, expire_first, expire, slot_expiry, first_expiry, next_expiry}
use Rattle.sessions.specs.declared.session.Session.{Session}
use Rattle.sessions.specs.declared.sessions.Expired.{Expired}
use Rattle.sessions.specs.declared.sessions.Sessions.{Sessions}
use Rattle.tunnel.proofs.Quiet.{neither}
use Rattle.tunnel.proofs.Steps.{still_filled}
use Rattle.std.specs.Prelude.{None, Option, Some}

-- where neither of two deadlines has come, the earlier has not
pub waits_both : (a b : Option ℕ) (now : ℕ) → due_by a now ≡ false → due_by b now ≡ false → due_by (earlier a b) now ≡ false
unfolding due_by earlier case_option least
waits_both None b now p q = q
waits_both (Some a) None now p q = p
waits_both (Some a) (Some b) now p q = of_choice (λ (x : ℕ). leb x now ≡ false) (ltb b a) b a q p

-- the sessions after an expiry: none is due
module _ (now : ℕ) where
  not_due : (filled : Bool) (x : Session) → choose filled (expired_at x now) false ≡ false → due_by (choose filled (Some (expires_at x)) None) now ≡ false
  unfolding choose due_by case_option expires_at expired_at
  not_due true x p = p
  not_due false x p = refl

  slot_waits : (s : Sessions) (slot : ℕ) → expired_slot s slot now ≡ false → due_by (slot_expiry s slot) now ≡ false
  unfolding slot_expiry expired_slot
  slot_waits s slot p = not_due (slot_at s slot).filled (slot_at s slot) p

  -- a slot's deadline, by the session in it
  abbrev Waits : Session → Type 0
  Waits x = due_by (choose x.filled (Some (expires_at x)) None) now ≡ false

  unfilled_waits : (x : Session) → x.filled ≡ false → Waits x
  unfolding choose due_by case_option
  unfilled_waits x e = rw e refl

  still_waits : (l : List Session) (slot k : ℕ) → Waits (get_or l k empty_session) → Waits (get_or (set l slot empty_session) k empty_session)
  still_waits l slot k p = go (get_or (set l slot empty_session) k empty_session).filled refl
    where
      go : (f : Bool) → (get_or (set l slot empty_session) k empty_session).filled ≡ f → Waits (get_or (set l slot empty_session) k empty_session)
      go true e = rw (still_filled l slot k e) p
      go false e = unfilled_waits _ e

  own_empty : (l : List Session) (slot : ℕ) → (get_or (set l slot empty_session) slot empty_session).filled ≡ false
  unfolding empty_session
  own_empty [] slot = refl
  own_empty (x ∷ l) zero = refl
  own_empty (x ∷ l) (suc slot) = own_empty l slot

  -- the first slots
  abbrev FirstWait : Sessions → ℕ → Type 0
  FirstWait s count = due_by (first_expiry s count) now ≡ false

  first_emptied : (s : Sessions) (slot count : ℕ) → FirstWait s count → FirstWait (emptied s slot) count
  unfolding first_expiry slot_expiry emptied
  first_emptied s slot zero p = p
  first_emptied s slot (suc count) p =
      let n = neither (first_expiry s count) (slot_expiry s count) now p in
      waits_both _ _ now (first_emptied s slot count n.first) (still_waits s.slots slot count n.second)

  pub first_same : (s t : Sessions) (count : ℕ) → s.slots ≡ t.slots → first_expiry s count ≡ first_expiry t count
  unfolding first_expiry slot_expiry
  first_same s t zero e = refl
  first_same s t (suc count) e = rw (first_same s t count e, e) refl

  first_own : (s : Sessions) (count : ℕ) → FirstWait s count → FirstWait (emptied s count) (suc count)
  unfolding first_expiry slot_expiry emptied
  first_own s count p = waits_both _ _ now (first_emptied s count count p) (unfilled_waits _ (own_empty s.slots count))

  first_discarded : (e : Expired) (count : ℕ) → FirstWait e.sessions count → FirstWait (discard e count).sessions (suc count)
  unfolding discard
  first_discarded e count p =
      of_choice (λ (x : Expired). FirstWait x.sessions (suc count)) _ _ _
      (ap (λ (x : Option ℕ). due_by x now) (first_same _ (emptied e.sessions count) (suc count) refl) ∙ first_own e.sessions count p)
      (first_own e.sessions count p)

  first_expired : (e : Expiring) (count : ℕ) → FirstWait (expire_first e count now).expired.sessions count
  unfolding first_expiry expire_first expire_slot due_by case_option
  first_expired e zero = refl
  first_expired e (suc count) =
      let p = first_expired e count in
      known_choice (λ (x : Expiring). FirstWait x.expired.sessions (suc count)) (expired_slot (expire_first e count now).expired.sessions count now) _ _
      (λ t. first_discarded (expire_first e count now).expired count p)
      (λ t. waits_both _ _ now p (slot_waits _ count t))

  pub expired_waits : (s : Sessions) (store : List ℕ) → length store ≡ 1024 → due_by (next_expiry (expire s store now).expired.sessions) now ≡ false
  unfolding expire choose
  expired_waits s store long = rw (eq-eqb (length store) 1024 long) (first_expired _ 8)
