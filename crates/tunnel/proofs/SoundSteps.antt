-- A sound control and the steps that keep it sound: of its sessions, its timers and its events.
-- Assumes nothing.
use mathlib.Core.Path.{◌≡◌, refl, ap}
use mathlib.Core.Bool.{Bool, true, false}
use mathlib.Core.List.{List, [], ◌∷◌}
use Prim.Native.Nat.{ℕ, zero, suc, ◌+◌, ◌≤◌}
use native.Mathlib.Omega.{arith}
use lib.Dec.{leb}
use lib.ListN.{length, get_or, set, length-set, length-replicate}
use borrow.Author.Tests.{leb-true}
use Rattle.base.specs.Choice.{choose}
use Rattle.tunnel.proofs.Later.{current_within, control_later, slot_within}
use Rattle.base.proofs.Choice.{of_choice, known_option, of_option, ok_parts}
use Rattle.tunnel.proofs.Steps.{with_timers_lem, with_handshake_lem, with_sessions_lem, of_expire, on_expire, on_clear_sessions, queued_within}
use Rattle.tunnel.specs.Control.{with_handshake, with_sessions, with_timers, queueing}
use Rattle.tunnel.specs.Facts.{SlotWithin, SessionsWithin, EventWithin, ControlWithin}
use Rattle.tunnel.specs.declared.control.Control.{Control}
use Rattle.tunnel.proofs.Queue.{queue_of_newest}
use Rattle.tunnel.specs.Handshake.{HandshakeWithin}
use Rattle.tunnel.specs.Timers.{TimersWithin}
use Rattle.tunnel.specs.declared.event.Event.{Event}
use Rattle.tunnel.specs.declared.handshake.Handshake.{Handshake}
use Rattle.tunnel.specs.declared.timers.Timers.{Timers}
use Rattle.sessions.proofs.Laws.{lookup_law, next_law}
use Rattle.sessions.specs.Batch.{receiving_session, receive, Batched}
use Rattle.sessions.specs.Index.{slot_of}
use Rattle.sessions.specs.Session.{reject_after_messages, new_session, with_counter, with_id, reserve_counters, empty_session}
use Rattle.sessions.specs.Sessions.{Held, empty_slots, put, current_of, inserting, insert, select, set_current, next_index, sending_session, clear, emptied, expire}
use Rattle.sessions.specs.declared.batch.Progress.{Progress}
use Rattle.sessions.specs.declared.session.Role.{Role}
use Rattle.sessions.specs.declared.session.Session.{Session}
use Rattle.sessions.specs.declared.sessions.Sessions.{Sessions}
use Rattle.std.specs.Prelude.{Err, None, Ok, Result, Some, Option}
use Rattle.error.specs.declared.Error.{Error}

-- sessions that number 14 lets through, in eight slots
pub record SoundSessions (s : Sessions) (most : ℕ) : Type 0 where
  pub within : SessionsWithin s most
  pub eight : length s.slots ≡ 8

-- a control that number 14 lets through, with its eight slots and its sixteen places for events
pub record SoundControl (c : Control) (most : ℕ) : Type 0 where
  pub within : ControlWithin c most
  pub eight : length c.sessions.slots ≡ 8
  pub sixteen : length c.events.slots ≡ 16

-- a reservation changes the send counter only, and keeps it in range
of_granted : (f : Bool) (m n : ℕ) (x y : Session) → choose {A = Option (ℕ × Session)} f (Some (m, x)) None ≡ Some (n, y) → (f ≡ true) × (x ≡ y)
unfolding choose
of_granted true m n x y p = let e : ◌≡◌ {A = ℕ × Session} (m, x) (n, y) = cc in (refl, ap (λ (z : ℕ × Session). z.1) e)
of_granted false m n x y p = let z : ◌≡◌ {A = ℕ} 0 1 = cc in absurd (omega arith)

-- a session that number 14 lets through in its own slot
abbrev pub OwnSlot : Session → ℕ → Type 0
OwnSlot x most = SlotWithin x (slot_of x.receiving_index) most

module _ (most : ℕ) where
  pub counted_within : (x y : Session) (count n : ℕ) → OwnSlot x most → reserve_counters x count ≡ Some (n, y) → OwnSlot y most
  unfolding reserve_counters
  counted_within x y count n w p =
      let q : (leb (x.sending_key_counter + count) reject_after_messages ≡ true) × (with_counter x (x.sending_key_counter + count) ≡ y) = of_granted _ _ _ _ _ p in
      rw (← q.1) (record { established = w.established; onward = w.onward; heard = w.heard; counter = leb-true _ _ q.0; next = w.next; index = refl })

  pub new_within : (local peer now id : ℕ) (role : Role) → now ≤ most → OwnSlot (with_id (new_session local peer role now) id) most
  unfolding new_session
  new_within local peer now id role h = record { established = h; onward = omega arith; heard = h; counter = omega arith; next = omega arith; index = refl }

  pub sending_within : (s : Sessions) (now : ℕ) (x : Session) → SessionsWithin s most → sending_session s now ≡ Some x → OwnSlot x most
  sending_within s now x w p = current_within s most w (current_of s) x ((lookup_law s).sending now x p).0 refl

  -- what holds of a session put into a slot and of every other one holds of each
  of_set : (Q : ℕ → Session → Type 0) (l : List Session) (i k : ℕ) (x e : Session) → Q i x → Q k (get_or l k e) → Q k (get_or (set l i x) k e)
  of_set Q [] i k x e p q = q
  of_set Q (y ∷ l) zero zero x e p q = p
  of_set Q (y ∷ l) zero (suc k) x e p q = q
  of_set Q (y ∷ l) (suc i) zero x e p q = q
  of_set Q (y ∷ l) (suc i) (suc k) x e p q = of_set (λ (j : ℕ) (z : Session). Q (suc j) z) l i k x e p q

  -- a session put into its slot, inserted, and selected
  pub put_sound : (s : Sessions) (x : Session) → SoundSessions s most → OwnSlot x most → SoundSessions (put s x) most
  unfolding put
  put_sound s x w v =
      record {
        within = record {
          slots = λ k h f.
              of_set (λ (j : ℕ) (y : Session). y.filled ≡ true → SlotWithin y j most) s.slots _ k x empty_session (λ g. v) (w.within.slots k h) f;
        };
        eight = rw length-set w.eight;
      }

  pub insert_sound : (s : Sessions) (store : List ℕ) (x : Session) → SoundSessions s most → OwnSlot (with_id x s.inserted) most
      → SoundSessions (insert s store x).sessions most
  unfolding insert inserting
  insert_sound s store x w v =
      let u : SoundSessions (put s (with_id x s.inserted)) most = put_sound s _ w v in
      of_choice (λ (y : Held). SoundSessions y.sessions most) _ _ _ (record { within = record { slots = u.within.slots }; eight = u.eight }) w

  select_sound : (s : Sessions) (index : ℕ) → SoundSessions s most → SoundSessions (select s index) most
  unfolding select
  select_sound s index w = record { within = record { slots = w.within.slots }; eight = w.eight }

  pub current_sound : (s : Sessions) (index : ℕ) → SoundSessions s most → SoundSessions (set_current s index) most
  unfolding set_current
  current_sound s index w =
      of_choice (λ (y : Sessions). SoundSessions y most) _ _ _ w
      (of_option (λ (y : Sessions). SoundSessions y most) _ _ _ w
      (λ x. of_option (λ (y : Sessions). SoundSessions y most) _ _ _ (select_sound s index w)
      (λ z. of_choice (λ (y : Sessions). SoundSessions y most) _ _ _ w (select_sound s index w))))

  pub index_sound : (s : Sessions) → SoundSessions s most → SoundSessions (next_index s).sessions most
  unfolding next_index
  index_sound s w = record { within = record { slots = w.within.slots }; eight = w.eight }

-- eight slots, of which one is emptied
abbrev Eight : Sessions → Type 0
Eight s = length s.slots ≡ 8

emptied_eight : (s : Sessions) (slot : ℕ) → Eight s → Eight (emptied s slot)
unfolding emptied
emptied_eight s slot w = rw length-set w

pub eight_empty : length empty_slots ≡ 8
unfolding empty_slots
eight_empty = length-replicate 8 empty_session

module _ (most : ℕ) where
  pub expire_sound : (s : Sessions) (store : List ℕ) (now : ℕ) → SoundSessions s most → SoundSessions (expire s store now).expired.sessions most
  expire_sound s store now w =
      record { within = on_expire most s store now w.within; eight = of_expire Eight emptied_eight (λ x p. p) s store now w.eight }

  pub clear_sound : (s : Sessions) (store : List ℕ) → SoundSessions s most → SoundSessions (clear s store).sessions most
  unfolding clear
  clear_sound s store w =
      record {
        within = on_clear_sessions most s store w.within;
        eight = of_choice (λ (x : Held). length x.sessions.slots ≡ 8) _ _ _ eight_empty w.eight;
      }

-- the session that a judged batch leaves is one that number 14 lets through
abbrev SoundReceived : Result (Session × Progress) Error → ℕ → Type 0
SoundReceived r most = (x : Session) (p : Progress) → r ≡ Ok (x, p) → OwnSlot x most

module _ (most : ℕ) where
  rejected_sound : (error : Error) → SoundReceived (Err error) most
  rejected_sound error x p e = absurd (cc)

  judged_sound : (x : Session) (p : Progress) → OwnSlot x most → SoundReceived (Ok (x, p)) most
  judged_sound x p w y q e = let same : x ≡ y = (ok_parts x y p q e).0 in rw (← same) w

-- one that was sound below the batch's own time
pub receive_sound : (s : Sessions) (store : List ℕ) (index id now : ℕ) (counters kinds verdicts skips : List ℕ) → SessionsWithin s now
    → SoundReceived (receive s store index id now counters kinds verdicts skips).out now
unfolding receive
receive_sound s store index id now counters kinds verdicts skips w =
    of_choice (λ (y : Batched (Result (Session × Progress) Error)). SoundReceived y.out now) _ _ _
    (of_choice (λ (y : Batched (Result (Session × Progress) Error)). SoundReceived y.out now) _ _ _
    (known_option (λ (y : Batched (Result (Session × Progress) Error)). SoundReceived y.out now) (receiving_session s index id now) _ _ (rejected_sound now _)
    (λ x p.
    let v : SlotWithin x (slot_of index) now = slot_within s now w index x ((lookup_law s).receiving index id now x p).0 in
    judged_sound now _ _
    (record {
      established = v.established;
      onward = of_choice (λ (time : ℕ). x.established_at ≤ time) _ now x.last_heard v.established v.onward;
      heard = of_choice (λ (time : ℕ). time ≤ now) _ now x.last_heard (omega arith) v.heard;
      counter = v.counter;
      next = (next_law _ _ counters kinds).within v.next;
      index = refl;
    })))
    (rejected_sound now _))
    (rejected_sound now _)

-- a control that is sound below one time is sound below every later one
pub sound_later : (a b : ℕ) → a ≤ b → (c : Control) → SoundControl c a → SoundControl c b
sound_later a b l c w = record { within = control_later a b l c w.within; eight = w.eight; sixteen = w.sixteen }

-- a control with one part given anew, or with an event queued
module _ (c : Control) (most : ℕ) (w : SoundControl c most) where
  pub its_sessions : SoundSessions c.sessions most
  its_sessions = record { within = w.within.sessions; eight = w.eight }

  pub sound_timers : (t : Timers) → TimersWithin t most → SoundControl (with_timers c t) most
  sound_timers t v = record { within = with_timers_lem c most w.within t v; eight = w.eight; sixteen = w.sixteen }

  pub sound_handshake : (h : Handshake) → HandshakeWithin h most → SoundControl (with_handshake c h) most
  sound_handshake h v = record { within = with_handshake_lem c most w.within h v; eight = w.eight; sixteen = w.sixteen }

  pub sound_sessions : (s : Sessions) → SoundSessions s most → SoundControl (with_sessions c s) most
  sound_sessions s v = record { within = with_sessions_lem c most w.within s v.within; eight = v.eight; sixteen = w.sixteen }

  still_long : (event : Event) → length (queueing c event).events.slots ≡ 16
  unfolding queueing
  still_long event = (queue_of_newest.still c.events event (record { places = w.sixteen; within = w.within.events.ring })).places

  still_eight : (event : Event) → length (queueing c event).sessions.slots ≡ 8
  unfolding queueing
  still_eight event = w.eight

  pub sound_queued : (event : Event) → EventWithin (Some event) most → SoundControl (queueing c event) most
  sound_queued event v = record { within = queued_within c most w.within event w.sixteen v; eight = still_eight event; sixteen = still_long event }
