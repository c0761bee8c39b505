-- Every step of the operations keeps the facts of number 14, and the ring of events in range.
-- Assumes nothing.
use mathlib.Core.Path.{◌≡◌, refl}
use mathlib.Core.Bool.{true}
use mathlib.Core.List.{List, [], ◌∷◌}
use Prim.Native.Nat.{ℕ, zero, suc, ◌<◌}
use native.Mathlib.Omega.{arith}
use lib.ListN.{length, get_or, set, get_or-replicate}
use Rattle.sessions.proofs.Laws.{empty_law, expiry_law}
use Rattle.tunnel.proofs.Kept.{on_push, on_clear_cookie}
use Rattle.tunnel.specs.Control.{with_handshake, with_sessions, with_timers, queueing}
use Rattle.tunnel.specs.Facts.{SlotWithin, SessionsWithin, EventWithin, ControlWithin}
use Rattle.tunnel.specs.InitiateHandshake.{initiate, initiating}
use Rattle.tunnel.specs.declared.control.Control.{Control}
use Rattle.tunnel.specs.declared.initiate_handshake.Initiated.{Initiated}
use Rattle.tunnel.specs.Handshake.{HandshakeWithin, expire_cookie}
use Rattle.tunnel.specs.RingBuffer.{RingWithin}
use Rattle.tunnel.specs.Timers.{TimersWithin}
use Rattle.tunnel.specs.declared.event.Event.{Event}
use Rattle.tunnel.specs.declared.handshake.Handshake.{Handshake}
use Rattle.tunnel.specs.declared.timers.Timers.{Timers}
use Rattle.sessions.specs.Session.{empty_session}
use Rattle.sessions.specs.Sessions.{with_slots, with_current, Held, empty_slots, clear, slot_at, emptied, Expiring, discard, expire_slot, expire_first, expire, none_expired}
use Rattle.sessions.specs.Store.{Leaves}
use Rattle.sessions.specs.declared.session.Session.{Session}
use Rattle.sessions.specs.declared.sessions.Expired.{Expired}
use Rattle.sessions.specs.declared.sessions.Sessions.{Sessions}
use Rattle.base.proofs.Choice.{of_choice, of_option, of_pair}
use Rattle.std.specs.Prelude.{None, Option, Some}
use Rattle.tunnel.specs.HandleTimeout.{clear_all}
use Rattle.tunnel.specs.Encapsulate.{encrypt_keepalive}
use Rattle.tunnel.specs.declared.encapsulate.Encrypted.{Encrypted}

-- what emptying a slot and selecting none keep, an expiry keeps
module _ (P : Sessions → Type 0) (empty : (s : Sessions) (slot : ℕ) → P s → P (emptied s slot)) (unset : (s : Sessions) → P s → P (with_current s None)) where
  of_discard : (e : Expired) (slot : ℕ) → P e.sessions → P (discard e slot).sessions
  unfolding discard
  of_discard e slot w = of_choice (λ (x : Expired). P x.sessions) _ _ _ (unset _ (empty e.sessions slot w)) (empty e.sessions slot w)

  of_expire_slot : (e : Expiring) (slot now : ℕ) → P e.expired.sessions → P (expire_slot e slot now).expired.sessions
  unfolding expire_slot
  of_expire_slot e slot now w = of_choice (λ (x : Expiring). P x.expired.sessions) _ _ _ (of_discard e.expired slot w) w

  of_expire_first : (e : Expiring) (count now : ℕ) → P e.expired.sessions → P (expire_first e count now).expired.sessions
  unfolding expire_first
  of_expire_first e zero now w = w
  of_expire_first e (suc count) now w = of_expire_slot (expire_first e count now) count now (of_expire_first e count now w)

  pub of_expire : (s : Sessions) (store : List ℕ) (now : ℕ) → P s → P (expire s store now).expired.sessions
  unfolding expire
  of_expire s store now w = of_choice (λ (x : Expiring). P x.expired.sessions) _ _ _ (of_expire_first _ 8 now w) w

-- a slot that is filled after another one was emptied is what it was
pub still_filled : (l : List Session) (i k : ℕ) → (get_or (set l i empty_session) k empty_session).filled ≡ true
    → get_or (set l i empty_session) k empty_session ≡ get_or l k empty_session
unfolding empty_session
still_filled [] i k p = refl
still_filled (x ∷ l) zero zero p = let z : ◌≡◌ {A = ℕ} 0 1 = cc in absurd (omega arith)
still_filled (x ∷ l) zero (suc k) p = refl
still_filled (x ∷ l) (suc i) zero p = refl
still_filled (x ∷ l) (suc i) (suc k) p = still_filled l i k p

module _ (most : ℕ) where
  same_slot : (s : Sessions) (x : Session) (k : ℕ) → SessionsWithin s most → k < 8 → x ≡ slot_at s k → x.filled ≡ true → SlotWithin x k most
  same_slot s x k w h e f = let g : (slot_at s k).filled ≡ true = cc in rw e (w.slots k h g)

  on_emptied : (s : Sessions) (slot : ℕ) → SessionsWithin s most → SessionsWithin (emptied s slot) most
  unfolding emptied
  on_emptied s slot w = record { slots = λ k h f. same_slot s _ k w h (still_filled s.slots slot k f) f }

  on_selected : (s : Sessions) (x : Option ℕ) → SessionsWithin s most → SessionsWithin (with_current s x) most
  on_selected s x w = record { slots = w.slots }

  pub on_expire : (s : Sessions) (store : List ℕ) (now : ℕ) → SessionsWithin s most → SessionsWithin (expire s store now).expired.sessions most
  on_expire s store now w = of_expire (λ (x : Sessions). SessionsWithin x most) on_emptied (λ x v. on_selected x None v) s store now w

-- eight empty slots hold no session
module _ (most : ℕ) where
  pub all_empty : (s : Sessions) → SessionsWithin (with_slots s empty_slots) most
  unfolding empty_slots
  all_empty s = record { slots = λ k h f. absurd (empty_law.unfilled _ (get_or-replicate 8 k empty_session empty_session h) f) }

  pub on_clear_sessions : (s : Sessions) (store : List ℕ) → SessionsWithin s most → SessionsWithin (clear s store).sessions most
  unfolding clear
  on_clear_sessions s store w =
      of_choice (λ (x : Held). SessionsWithin x.sessions most) _ _ _ (on_selected most (with_slots s empty_slots) None (all_empty s)) w

-- a control with one part given anew
module _ (c : Control) (most : ℕ) (w : ControlWithin c most) where
  pub with_timers_lem : (t : Timers) → TimersWithin t most → ControlWithin (with_timers c t) most
  with_timers_lem t v = record { timers = v; handshake = w.handshake; first = w.first; sessions = w.sessions; events = w.events }

  pub with_handshake_lem : (h : Handshake) → HandshakeWithin h most → ControlWithin (with_handshake c h) most
  with_handshake_lem h v = record { timers = w.timers; handshake = v; first = w.first; sessions = w.sessions; events = w.events }

  pub with_sessions_lem : (s : Sessions) → SessionsWithin s most → ControlWithin (with_sessions c s) most
  with_sessions_lem s v = record { timers = w.timers; handshake = w.handshake; first = w.first; sessions = v; events = w.events }

  -- the steps of the waking, as the code has them in locals
  pub cookie_within : (h : Handshake) (now : ℕ) → h ≡ expire_cookie c.handshake now → ControlWithin (with_handshake c h) most
  unfolding expire_cookie
  cookie_within h now e =
      with_handshake_lem h
      (rw e (of_choice (λ (y : Handshake). HandshakeWithin y most) _ _ c.handshake (on_clear_cookie c.handshake most w.handshake) w.handshake))

  pub expiry_within : (e : Expired) (store left : List ℕ) (now : ℕ)
      → Leaves e (expire c.sessions store now).expired left (expire c.sessions store now).store → ControlWithin (with_sessions c e.sessions) most
  expiry_within e store left now l = with_sessions_lem e.sessions (rw l.out (on_expire most c.sessions store now w.sessions))

  pub queued_within : (event : Event) → length c.events.slots ≡ 16 → EventWithin (Some event) most → ControlWithin (queueing c event) most
  unfolding queueing
  queued_within event long v =
      record {
        timers = w.timers;
        handshake = w.handshake;
        first = w.first;
        sessions = w.sessions;
        events = on_push most c.events long w.events event v;
      }

-- no session is due
pub undiscarded : (s : Sessions) (store : List ℕ) (now : ℕ) → none_expired s now ≡ true
    → expire s store now ≡ record { expired = record { sessions = s; current = None }; store = store }
undiscarded s store now p = (expiry_law s store now).none p

-- the ring of events stays in range where a keepalive is taken
pub encrypted_ring : (c : Control) (now : ℕ) → RingWithin c.events → RingWithin (encrypt_keepalive c now).control.events
unfolding encrypt_keepalive
encrypted_ring c now r = of_option (λ (e : Encrypted). RingWithin e.control.events) _ _ _ r (λ s. of_pair (λ (e : Encrypted). RingWithin e.control.events) _ _ _ r (λ n x. r))

-- the ring of events stays in range where an initiation is sent
module _ (c : Control) (now : ℕ) (r : RingWithin c.events) where
  pub initiated_ring : (x : Initiated) → x ≡ initiate c now → RingWithin x.control.events
  unfolding initiate initiating
  initiated_ring x e = rw e r

-- the ring of events stays in range where a control is cleared
pub cleared_ring : (c : Control) (now : ℕ) → RingWithin c.events → (x : Control) (store left : List ℕ)
    → Leaves x (clear_all c store now).control left (clear_all c store now).store → RingWithin x.events
unfolding clear_all
cleared_ring c now r x store left l = rw l.out r
