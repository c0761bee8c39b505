-- A waking that comes early leaves all as it was: each test of the waking is one of the deadlines of which the next deadline is the earliest.
-- Assumes nothing.
use mathlib.Core.Path.{◌≡◌, refl, ap, sym, ◌∙◌}
use mathlib.Core.Bool.{Bool, true, false}
use mathlib.Core.List.{List}
use mathlib.Core.Logic.{inl, inr}
use Prim.Native.Nat.{ℕ, zero, suc, ◌≤◌, ◌<◌}
use native.Mathlib.Omega.{arith}
use lib.Dec.{ltb, leb}
use borrow.Author.Tests.{ltb-true, ltb-false, leb-false, lt-leb}
use Rattle.base.proofs.Choice.{no_flag}
use Rattle.base.specs.Choice.{choose, case_option}
use Rattle.base.specs.First.{none_of}
use Rattle.tunnel.specs.Control.{with_handshake}
use Rattle.tunnel.specs.PollTimeout.{scheduled_handshake, earliest_expiry, cookie_deadline, reject_deadline, attempt_deadline, handshake_rekey_timeout, rekey_on_send, rekey_on_messages, rekey_on_receive, response_deadline, passive_deadline, persistent_deadline, current_persistent_deadline, common_deadline, rekey_deadline, keepalive_deadline, unscheduled_deadline, next_deadline}
use Rattle.tunnel.specs.declared.control.Control.{Control}
use Rattle.tunnel.specs.Handshake.{expire_cookie}
use Rattle.tunnel.specs.Timers.{next_persistent_keepalive}
use Rattle.sessions.proofs.Laws.{expiry_law}
use Rattle.sessions.specs.Session.{due_by, least, earlier, expires_at, expired_at}
use Rattle.sessions.specs.Sessions.{current_of, slot_at, expired_slot, expire, slot_expiry, first_expiry, next_expiry}
use Rattle.sessions.specs.declared.session.Session.{Session}
use Rattle.sessions.specs.declared.sessions.Sessions.{Sessions}
use Rattle.tunnel.specs.Quiet.{Early}
use Rattle.tunnel.specs.HandleTimeout.{inner, keepalive_due, keepalive_if_due, rekey_due, rekey_or_keepalive, give_up_or_retry, maintain_connection, expire_sessions, handle_due}
use Rattle.std.specs.Prelude.{None, Option, Some}

-- a value picked by a test that fails
module _ {A : Type 0} where
  otherwise : (t : Bool) (x y v : A) → t ≡ false → y ≡ v → choose t x y ≡ v
  otherwise t x y v p q = sym (no_flag t v x y p (sym q))

-- where the earlier of two deadlines has not come, neither has come
pub record Neither (a b : Option ℕ) (now : ℕ) : Type 0 where
  pub first : due_by a now ≡ false
  pub second : due_by b now ≡ false

of_least : (t : Bool) (a b : ℕ) → ltb b a ≡ t → (now : ℕ) → leb (choose t b a) now ≡ false → (leb a now ≡ false) × (leb b now ≡ false)
unfolding choose
of_least true a b e now p = (lt-leb a now (let x : b < a = ltb-true b a e in let y : now < b = leb-false b now p in omega arith), p)
of_least false a b e now p = (p, lt-leb b now (let x : a ≤ b = ltb-false b a e in let y : now < a = leb-false a now p in omega arith))

pub neither : (a b : Option ℕ) (now : ℕ) → due_by (earlier a b) now ≡ false → Neither a b now
unfolding due_by earlier case_option least
neither None b now p = record { first = refl; second = p }
neither (Some a) None now p = record { first = p; second = refl }
neither (Some a) (Some b) now p = let q = of_least (ltb b a) a b refl now p in record { first = q.0; second = q.1 }

-- an expiry that finds no slot due leaves all as it was
module _ (s : Sessions) (now : ℕ) where
  not_expired : (filled : Bool) (x : Session) → due_by (choose filled (Some (expires_at x)) None) now ≡ false → choose filled (expired_at x now) false ≡ false
  unfolding choose due_by case_option expires_at expired_at
  not_expired true x p = p
  not_expired false x p = refl

  slot_quiet : (slot : ℕ) → due_by (slot_expiry s slot) now ≡ false → expired_slot s slot now ≡ false
  unfolding slot_expiry expired_slot
  slot_quiet slot p = not_expired (slot_at s slot).filled (slot_at s slot) p

  slots_quiet : (count : ℕ) → due_by (first_expiry s count) now ≡ false → none_of (λ slot. expired_slot s slot now) count ≡ true
  unfolding first_expiry none_of
  slots_quiet zero p = refl
  slots_quiet (suc count) p =
      let n = neither (first_expiry s count) (slot_expiry s count) now p in
      otherwise (expired_slot s count now) _ _ true (slot_quiet count n.second) (slots_quiet count n.first)

  expire_quiet : (store : List ℕ) → due_by (next_expiry s) now ≡ false
      → expire s store now ≡ record { expired = record { sessions = s; current = None }; store = store }
  expire_quiet store p = (expiry_law s store now).none (slots_quiet 8 p)

module _ (c : Control) (now : ℕ) where
  -- the persistent keepalive is not due: its deadline counts while a session is current, and without an interval there is none
  persistent_off : (interval : Option ℕ) (kept : ℕ → Option ℕ) → interval ≡ None → due_by (case_option interval None kept) now ≡ false
  unfolding case_option due_by
  persistent_off interval kept p = rw p refl

  persistent_current : (found : Option Session) (session : Session) (at : Option ℕ) → found ≡ Some session → due_by (case_option found None (λ s. at)) now ≡ false
      → due_by at now ≡ false
  unfolding case_option
  persistent_current found session at p q = rw p at q

  persistent_waits : Early c now → due_by (current_persistent_deadline c) now ≡ false → due_by (persistent_deadline c) now ≡ false
  unfolding current_persistent_deadline persistent_deadline next_persistent_keepalive
  persistent_waits h p = elim h.held [
    | inl g ↦ persistent_current (current_of c.sessions) g.0 _ g.1 p
    | inr o ↦ persistent_off c.timers.persistent_keepalive _ o
  ]

  -- no keepalive is queued
  no_keepalives : Early c now → due_by (keepalive_deadline c) now ≡ false → keepalive_if_due c now ≡ c
  unfolding keepalive_deadline keepalive_due keepalive_if_due
  no_keepalives h p =
      let n = neither (passive_deadline c) (current_persistent_deadline c) now p in
      otherwise _ _ _ c (otherwise _ _ _ false n.first (persistent_waits h n.second)) refl

  -- no handshake is required
  no_rekey : due_by (rekey_deadline c) now ≡ false → rekey_due c now ≡ false
  unfolding rekey_deadline rekey_due
  no_rekey p =
      let n = neither (earlier (rekey_on_send c) (rekey_on_messages c)) (earlier (rekey_on_receive c) (response_deadline c)) now p in
      let a = neither (rekey_on_send c) (rekey_on_messages c) now n.first in
      let b = neither (rekey_on_receive c) (response_deadline c) now n.second in
      otherwise _ _ _ false a.first (otherwise _ _ _ false a.second (otherwise _ _ _ false b.first b.second))

  -- the cookie stays
  cookie_stays : due_by (cookie_deadline c) now ≡ false → with_handshake c (expire_cookie c.handshake now) ≡ c
  unfolding expire_cookie cookie_deadline
  cookie_stays p = ap (with_handshake c) (otherwise _ _ _ c.handshake p refl)

  module _ (store : List ℕ) (jitter : ℕ) (h : Early c now) where
    idle_quiet : due_by (earlier (rekey_deadline c) (keepalive_deadline c)) now ≡ false → rekey_or_keepalive c false jitter now ≡ c
    unfolding rekey_or_keepalive
    idle_quiet p =
        let n = neither (rekey_deadline c) (keepalive_deadline c) now p in
        otherwise false _ _ c refl (otherwise _ _ _ c (no_rekey n.first) (no_keepalives h n.second))

    progress_quiet : due_by (attempt_deadline c) now ≡ false → due_by (handshake_rekey_timeout c) now ≡ false
        → give_up_or_retry c store false jitter now ≡ inner c store
    unfolding give_up_or_retry
    progress_quiet a r = otherwise _ _ _ (inner c store) a (otherwise _ _ _ (inner c store) r (otherwise false _ _ (inner c store) refl refl))

    -- the connection maintained, by whether an initiation awaits a response
    after_retry : (retry : Option ℕ) → handshake_rekey_timeout c ≡ retry
        → due_by (case_option retry (earlier (common_deadline c) (earlier (rekey_deadline c) (keepalive_deadline c)))
        (λ at. earlier (common_deadline c) (earlier (Some at) (attempt_deadline c)))) now ≡ false
        → (due_by (common_deadline c) now ≡ false)
        × (case_option retry (inner (rekey_or_keepalive c false jitter now) store) (λ at. give_up_or_retry c store false jitter now) ≡ inner c store)
    unfolding case_option
    after_retry None e p =
        let n = neither (common_deadline c) (earlier (rekey_deadline c) (keepalive_deadline c)) now p in
        (n.first, ap (λ (x : Control). inner x store) (idle_quiet n.second))
    after_retry (Some at) e p =
        let n = neither (common_deadline c) (earlier (Some at) (attempt_deadline c)) now p in
        let m = neither (Some at) (attempt_deadline c) now n.second in
        (n.first, progress_quiet m.second (ap (λ (x : Option ℕ). due_by x now) e ∙ m.first))

    -- the waking while no handshake is scheduled
    sessions_quiet : due_by (unscheduled_deadline c) now ≡ false → expire_sessions c store jitter now ≡ inner c store
    unfolding unscheduled_deadline expire_sessions case_option maintain_connection common_deadline earliest_expiry
    sessions_quiet p =
        let a = after_retry (handshake_rekey_timeout c) refl p in
        let n = neither (earlier (earliest_expiry c) (cookie_deadline c)) (reject_deadline c) now a.0 in
        let m = neither (earliest_expiry c) (cookie_deadline c) now n.first in
        rw (expire_quiet c.sessions now store m.first, cookie_stays m.second) (otherwise _ _ _ (inner c store) n.second a.1)

    -- the waking by whether a handshake is scheduled
    by_schedule : (at : Option ℕ) → due_by (case_option at (unscheduled_deadline c) (λ x. Some x)) now ≡ false
        → (due_by at now ≡ false) × (case_option at (expire_sessions c store jitter now) (λ x. inner c store) ≡ inner c store)
    unfolding case_option due_by
    by_schedule None p = (refl, sessions_quiet p)
    by_schedule (Some at) p = (p, refl)

    pub wake_quiet : handle_due c store jitter now ≡ inner c store
    unfolding handle_due next_deadline
    wake_quiet = let a = by_schedule (scheduled_handshake c) h.waits in otherwise _ _ _ (inner c store) a.0 a.1
