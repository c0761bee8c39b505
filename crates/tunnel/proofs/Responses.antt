-- A response that opened is answered by the first counter of its session, since no stored session is newer.
-- Assumes nothing.
use mathlib.Core.Path.{◌≡◌, refl, ap, sym, ◌∙◌}
use mathlib.Core.Bool.{true, true≢false}
use mathlib.Core.List.{List}
use Prim.Native.Nat.{ℕ, ◌+◌, ◌%◌, ◌≤◌}
use native.Mathlib.Omega.{arith}
use lib.Dec.{ltb}
use lib.ListN.{length}
use lib.Seq.{get_or-set_same}
use borrow.Author.Tests.{le-leb, lt-leb, le-ltb, eqb-true, eq-eqb}
use Rattle.base.specs.Choice.{choose, case_option, case_pair}
use Rattle.tunnel.proofs.Later.{current_established}
use Rattle.base.proofs.Choice.{known_choice, of_choice, known_option}
use Rattle.tunnel.proofs.SoundSteps.{SoundSessions, SoundControl, new_within, insert_sound, its_sessions}
use Rattle.tunnel.specs.Control.{with_handshake, with_sessions, done, queueing}
use Rattle.tunnel.specs.HandleHandshake.{confirming, establish, complete}
use Rattle.tunnel.specs.Encapsulate.{encrypt_keepalive}
use Rattle.tunnel.specs.Decapsulate.{confirm_first_session}
use Rattle.tunnel.specs.declared.answer.Answer.TheVariants.{Keepalive}
use Rattle.tunnel.specs.declared.control.Control.{Control}
use Rattle.tunnel.specs.declared.encapsulate.Encrypted.{Encrypted}
use Rattle.tunnel.specs.declared.handshake.Handshake.{Handshake}
use Rattle.sessions.specs.Session.{new_session, with_id, with_counter, reserve_counters, expired_at, should_use_at, sending_counter_exhausted, empty_session, reject_after_time, keepalive_timeout}
use Rattle.sessions.specs.Sessions.{in_slot_of, get, put, current_of, inserting, insert, is_index, select, set_current, usable, sending_session}
use Rattle.sessions.specs.declared.session.Role.TheVariants.{Initiator}
use Rattle.sessions.specs.declared.session.Role.{Role}
use Rattle.sessions.specs.declared.session.Session.{Session}
use Rattle.sessions.specs.declared.sessions.Sessions.{Sessions}
use Rattle.std.specs.Prelude.{None, Option, Some}

-- the session of a completed handshake, at whose time no stored one is newer, is current, and has its first counter to send
found_or : {A : Type 0} (found : Option Session) (x : Session) (y : A) (f : Session → A) → found ≡ Some x → case_option found y f ≡ f x
unfolding case_option
found_or found x y f e = rw e

current_select : (s : Sessions) (index : ℕ) → current_of (select s index) ≡ get s index
unfolding current_of select case_option get in_slot_of
current_select s index = refl

current_index : (selected : Option ℕ) (index : ℕ) (s : Sessions) → is_index selected index ≡ true → case_option selected None (λ k. get s k) ≡ get s index
unfolding is_index case_option
current_index None index s e = absurd (true≢false (sym e))
current_index (Some k) index s e = ap (get s) (eqb-true k index e)

already_current : (s : Sessions) (index : ℕ) → is_index s.current index ≡ true → current_of s ≡ get s index
unfolding current_of
already_current s index e = current_index s.current index s e

module _ (s : Sessions) (index : ℕ) (x : Session) (found : get s index ≡ Some x)
    (newest : (y : Session) → current_of s ≡ Some y → y.established_at ≤ x.established_at) where
  not_newer : (y : Session) → current_of s ≡ Some y → choose (ltb x.established_at y.established_at) s (select s index) ≡ select s index
  unfolding choose
  not_newer y p = rw (le-ltb x.established_at y.established_at (newest y p))

  selects : case_option (current_of s) (select s index) (λ current. choose (ltb x.established_at current.established_at) s (select s index)) ≡ select s index
  selects = known_option (λ (z : Sessions). z ≡ select s index) (current_of s) _ _ refl not_newer

  newest_current : current_of (set_current s index) ≡ Some x
  unfolding set_current
  newest_current =
      known_choice (λ (z : Sessions). current_of z ≡ Some x) (is_index s.current index) _ _ (λ e. already_current s index e ∙ found)
      (λ e. ap current_of (found_or (get s index) x s _ found ∙ selects) ∙ current_select s index ∙ found)

-- a session just inserted is found by its index
pub inserted_found : (s : Sessions) (store : List ℕ) (local peer : ℕ) (role : Role) (now : ℕ) → length s.slots ≡ 8 → length store ≡ 1024
    → get (insert s store (new_session local peer role now)).sessions local ≡ Some (with_id (new_session local peer role now) s.inserted)
unfolding get in_slot_of insert inserting put new_session choose case_option
inserted_found s store local peer role now n l =
    rw (
      eq-eqb (length store) 1024 l,
      get_or-set_same s.slots (local % 8) (with_id (new_session local peer role now) s.inserted) empty_session (omega arith),
      eq-eqb local local refl,
    )

-- a session established now with no counter sent is usable
fresh_usable : (x : Session) (now : ℕ) → x.established_at ≡ now → x.sending_key_counter ≡ 0
    → choose (sending_counter_exhausted x) None (choose (expired_at x now) None (usable x now)) ≡ Some x
unfolding sending_counter_exhausted expired_at usable should_use_at choose
fresh_usable x now e z =
    rw (z, e, lt-leb (now + reject_after_time) now (omega arith), le-leb (now + keepalive_timeout) (now + reject_after_time) (omega arith))

fresh_sending : (s : Sessions) (x : Session) (now : ℕ) → current_of s ≡ Some x → x.established_at ≡ now → x.sending_key_counter ≡ 0
    → sending_session s now ≡ Some x
unfolding sending_session
fresh_sending s x now c e z = found_or (current_of s) x _ _ c ∙ fresh_usable x now e z

fresh_reserved : (x : Session) → x.sending_key_counter ≡ 0 → reserve_counters x 1 ≡ Some (0, (with_counter x 1))
unfolding reserve_counters choose
fresh_reserved x z = rw z

reserved_or : {A : Type 0} (r : Option (ℕ × Session)) (n : ℕ) (x : Session) (y : A) (f : ℕ → Session → A) → r ≡ Some (n, x) → case_pair r y f ≡ f n x
unfolding case_pair
reserved_or r n x y f e = rw e

datagram_or : {A : Type 0} (d : Option (ℕ × ℕ)) (peer counter : ℕ) (y : A) (f : ℕ → ℕ → A) → d ≡ Some (peer, counter) → case_pair d y f ≡ f peer counter
unfolding case_pair
datagram_or d peer counter y f e = rw e

-- the keepalive of a current session established now with no counter sent
pub keepalive_sent : (c : Control) (x : Session) (now : ℕ) → current_of c.sessions ≡ Some x → x.established_at ≡ now → x.sending_key_counter ≡ 0
    → (encrypt_keepalive c now).keepalive ≡ Some (x.sending_index, 0)
unfolding encrypt_keepalive
keepalive_sent c x now p e z =
    ap (λ (y : Encrypted). y.keepalive) (found_or (sending_session c.sessions now) x _ _ (fresh_sending c.sessions x now p e z)
    ∙ reserved_or (reserve_counters x 1) 0 (with_counter x 1) _ _ (fresh_reserved x z))

confirmed_sessions : (c : Control) (start now : ℕ) → (confirm_first_session c start now).sessions ≡ c.sessions
unfolding confirm_first_session queueing
confirmed_sessions c start now = of_choice (λ (y : Control). y.sessions ≡ c.sessions) _ _ _ refl refl

pub confirming_sessions : (c : Control) (local now : ℕ) → (confirming c local now).sessions ≡ set_current c.sessions local
unfolding confirming
confirming_sessions c local now = confirmed_sessions _ _ now

established_good : (c : Control) (x : Session) (local now : ℕ) → current_of (set_current c.sessions local) ≡ Some x
    → x.established_at ≡ now → x.sending_key_counter ≡ 0
    → establish c local now ≡ done (encrypt_keepalive (confirming c local now) now).control (Keepalive x.sending_index 0)
unfolding establish
established_good c x local now p e z =
    datagram_or _ x.sending_index 0 _ _ (keepalive_sent (confirming c local now) x now (ap current_of (confirming_sessions c local now) ∙ p) e z)

-- a response that opened is answered by the first counter of its session
module _ (c : Control) (handshake : Handshake) (store : List ℕ) (receiver peer now : ℕ) (w : SoundControl c now) (l : length store ≡ 1024) where
  abbrev its : Session
  its = new_session receiver peer Initiator now

  abbrev pub stored : Control
  stored = with_sessions (with_handshake c handshake) (insert c.sessions store its).sessions

  stored_sound : SoundSessions stored.sessions now
  stored_sound = insert_sound now c.sessions store its (its_sessions c now w) (new_within now receiver peer now _ Initiator (omega arith))

  newest : (y : Session) → current_of stored.sessions ≡ Some y → y.established_at ≤ (with_id its c.sessions.inserted).established_at
  unfolding new_session
  newest y p = current_established stored.sessions now stored_sound.within (current_of stored.sessions) y p refl

  pub response_current : current_of (set_current stored.sessions receiver) ≡ Some (with_id its c.sessions.inserted)
  response_current = newest_current stored.sessions receiver _ (inserted_found c.sessions store receiver peer Initiator now w.eight l) newest

  pub response_good : complete c handshake store its receiver now
      ≡ done (encrypt_keepalive (confirming stored receiver now) now).control (Keepalive peer 0)
  unfolding complete new_session
  response_good = established_good stored (with_id its c.sessions.inserted) receiver now response_current refl refl
