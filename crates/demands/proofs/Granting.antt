-- What is known after the operations that grant counters of the current session: a send, and a keepalive.
-- Assumes nothing.
use mathlib.Core.Path.{◌≡◌, refl, ap, sym, ◌∙◌}
use mathlib.Core.Bool.{Bool, true, false}
use mathlib.Core.List.{List, [], ◌∷◌, ◌++◌}
use Prim.Native.Nat.{ℕ, ◌+◌, ◌≤◌}
use lib.Dec.{leb}
use lib.ListN.{length}
use borrow.Author.Tests.{leb-true}
use Rattle.base.specs.Choice.{choose, case_pair}
use Rattle.sessions.proofs.Laws.{lookup_law}
use Rattle.base.proofs.Choice.{of_choice, known_option, known_pair}
use Rattle.tunnel.specs.Control.{out_of, done, with_sessions, with_timers}
use Rattle.tunnel.specs.Encapsulate.{begin_encapsulate, finish_encapsulate, grant, send, encrypted, encrypt_keepalive}
use Rattle.tunnel.specs.declared.answer.Answer.TheVariants.{Granted}
use Rattle.tunnel.specs.declared.control.Control.{Control}
use Rattle.tunnel.specs.declared.control.Out.{Out}
use Rattle.tunnel.specs.declared.encapsulate.Encrypted.{Encrypted}
use Rattle.demands.proofs.Changes.{Alike, changed_on, held_marked, held_granted}
use Rattle.demands.proofs.Held.{Past, Changed}
use Rattle.demands.proofs.Known.{Known, plain_of, Idle, idle_refused}
use Rattle.sessions.specs.Laws.{InSlot}
use Rattle.demands.proofs.Moves.{put_at, changed_put}
use Rattle.demands.specs.Made.{case_answer, Insertion}
use Rattle.demands.specs.Sending.{Grant, granting, PolledKeepalive}
use Rattle.tunnel.specs.Timers.{tick_last_packet_sent}
use Rattle.sessions.specs.Index.{slot_of}
use Rattle.sessions.specs.Range.{range}
use Rattle.sessions.specs.Session.{with_counter, reserve_counters, prepare_packet_data}
use Rattle.sessions.specs.Sessions.{slot_at, put, current_of, sending_session}
use Rattle.sessions.specs.declared.session.Session.{Session}
use Rattle.sessions.specs.declared.sessions.Sessions.{Sessions}
use Rattle.window.specs.Window.{limit}
use Rattle.std.specs.Prelude.{Err, None, Ok, Option, Some}
use Rattle.error.specs.declared.Error.TheVariants.{ConnectionExpired, NoCurrentSession}

-- what a reservation grants
pub record Reserves (x : Session) (len first : ℕ) (y : Session) : Type 0 where
  pub first_is : first ≡ x.sending_key_counter
  pub counted : y ≡ with_counter x (x.sending_key_counter + len)
  pub below : x.sending_key_counter + len ≤ limit

-- pairs that are one have equal parts
pub some_parts : {B : Type 0} (a x : ℕ) (b y : B) → ◌≡◌ {A = Option (ℕ × B)} (Some (a, b)) (Some (x, y)) → (a ≡ x) × (b ≡ y)
unfolding case_pair
some_parts {B} a x b y e = (ap (λ (o : Option (ℕ × B)). case_pair o a (λ m c. m)) e, ap (λ (o : Option (ℕ × B)). case_pair o b (λ m c. c)) e)

of_granted : (f : Bool) (m n : ℕ) (x y : Session) → choose {A = Option (ℕ × Session)} f (Some (m, x)) None ≡ Some (n, y) → (f ≡ true) × (n ≡ m) × (y ≡ x)
unfolding choose
of_granted true m n x y p = (refl, sym (some_parts m n x y p).0, sym (some_parts m n x y p).1)
of_granted false m n x y p = cc

pub reserved : (x : Session) (len first : ℕ) (y : Session) → reserve_counters x len ≡ Some (first, y) → Reserves x len first y
unfolding reserve_counters
reserved x len first y e =
    let p : (leb (x.sending_key_counter + len) limit ≡ true) × (first ≡ x.sending_key_counter) × (y ≡ with_counter x (x.sending_key_counter + len)) =
    of_granted _ _ _ _ _ e in
    record { first_is = p.1; counted = p.2; below = leb-true _ _ p.0 }

-- counters granted by the current session
pub record Grants (c : Control) (store : List ℕ) (d : Control) (peer first len : ℕ) (x : Session) : Type 0 where
  pub current : current_of c.sessions ≡ Some x
  pub peer_is : x.sending_index ≡ peer
  pub known : (ins : List Insertion) (h : ℕ → Past) (g k : List Grant) (polls : List PolledKeepalive) → Known ins h g k polls c store
      → Known ins h (g ++ granting x.id peer first len ∷ []) k polls d store

-- the current session's counter moved on
module _ (c d : Control) (store : List ℕ) (x : Session) (len : ℕ) (current : current_of c.sessions ≡ Some x)
    (below : x.sending_key_counter + len ≤ limit) (ring : d.events ≡ c.events) where
  abbrev at : ℕ
  at = slot_of x.receiving_index

  in_slot : InSlot c.sessions x.receiving_index x
  in_slot = (lookup_law c.sessions).current x current

  grants_at : (y : Session) → Alike x y → y.sending_key_counter ≡ x.sending_key_counter + len
      → ((n : ℕ) → length c.sessions.slots ≡ n → n ≡ 8 → Changed c.sessions d.sessions store store at × (slot_at d.sessions at ≡ y))
      → d.sessions.inserted ≡ c.sessions.inserted → Grants c store d x.sending_index x.sending_key_counter len x
  grants_at y same counted there count =
      record {
        current = current;
        peer_is = refl;
        known = λ ins h g k polls w.
            (let t : Changed c.sessions d.sessions store store at × (slot_at d.sessions at ≡ y) = there _ refl w.held.eight in
            record {
              held = held_granted ins h g c.sessions d.sessions store w.held x y in_slot same t.0 t.1 count (rw counted below) x.sending_index len counted;
              queue = rw ring w.queue;
            });
      }

  abbrev then : Session
  then = with_counter x (x.sending_key_counter + len)

  grants_once : d.sessions ≡ put c.sessions then → Grants c store d x.sending_index x.sending_key_counter len x
  unfolding put
  grants_once e =
      grants_at then (record { id = refl; index = refl; message = refl; next = refl; heard = refl }) refl
      (λ n p q. rw e (changed_put c.sessions then store (p ∙ q), put_at c.sessions then store (p ∙ q))) (ap (λ (s : Sessions). s.inserted) e)

  abbrev prepared : Session
  prepared = prepare_packet_data x

  grants_prepared : d.sessions ≡ put (put c.sessions prepared) (with_counter prepared (x.sending_key_counter + len))
      → Grants c store d x.sending_index x.sending_key_counter len x
  unfolding put prepare_packet_data
  grants_prepared e =
      grants_at (with_counter prepared (x.sending_key_counter + len)) (record { id = refl; index = refl; message = refl; next = refl; heard = refl }) refl
      (λ n p q.
      (let a : Changed c.sessions (put c.sessions prepared) store store at = changed_put c.sessions prepared store (p ∙ q) in
      rw e (
        changed_on c.sessions (put c.sessions prepared) _ store store store at a (changed_put (put c.sessions prepared) _ store (a.eight ∙ p ∙ q)),
        put_at (put c.sessions prepared) _ store (a.eight ∙ p ∙ q),
      )))
      (ap (λ (s : Sessions). s.inserted) e)

-- a keepalive skipped or granted
pub data Encrypts (c : Control) (store : List ℕ) (e : Encrypted) : Type 0 where
  skips : e.control ≡ c → e.keepalive ≡ None → Encrypts c store e
  sends : (x : Session) (peer first : ℕ) → Grants c store e.control peer first 1 x → e.keepalive ≡ Some (peer, first) → e.control.events ≡ c.events
      → Encrypts c store e

module _ (c : Control) (store : List ℕ) (now : ℕ) where
  sends_counted : (x y : Session) (first : ℕ) → current_of c.sessions ≡ Some x → Reserves x 1 first y
      → Encrypts c store (encrypted (with_timers (with_sessions c (put c.sessions y)) (tick_last_packet_sent c.timers now)) (Some (y.sending_index, first)))
  sends_counted x y first p r =
      rw (r.counted, r.first_is)
      (sends x x.sending_index x.sending_key_counter (grants_once c _ store x 1 p r.below refl refl) refl refl)

  pub encrypts : Encrypts c store (encrypt_keepalive c now)
  unfolding encrypt_keepalive
  encrypts =
      known_option (λ (e : Encrypted). Encrypts c store e) (sending_session c.sessions now) _ _ (skips refl refl)
      (λ x p. known_pair (λ (e : Encrypted). Encrypts c store e) (reserve_counters x 1) _ _ (skips refl refl)
      (λ first y q. sends_counted x y first ((lookup_law c.sessions).sending now x p).0 (reserved x 1 first y q)))

-- a send that grants nothing, or a range of the current session
pub data Sends (c : Control) (store : List ℕ) (out : Out) : Type 0 where
  none : Idle c store out store → Sends c store out
  some : (x : Session) (peer first len : ℕ) → Grants c store out.control peer first len x → out.answer ≡ Ok (Granted (range peer first len)) → Sends c store out

module _ (c : Control) (store : List ℕ) (x : Session) (count now : ℕ) (current : current_of c.sessions ≡ Some x) where
  abbrev begun : Control
  begun = begin_encapsulate c (prepare_packet_data x) now

  marked : Idle c store (out_of begun (Err NoCurrentSession) true false) store
  unfolding begin_encapsulate put prepare_packet_data case_answer
  marked =
      record {
        known = λ ins h g k polls w.
            record {
              held = held_marked ins h g c.sessions _ store w.held x (prepare_packet_data x) ((lookup_law c.sessions).current x current)
                  (record { id = refl; index = refl; message = refl; next = refl; heard = refl }) (changed_put c.sessions (prepare_packet_data x) store w.held.eight)
                  (put_at c.sessions (prepare_packet_data x) store w.held.eight) refl refl;
              queue = w.queue;
            };
        plain = plain_of _ refl;
      }

  granted : (y : Session) (first : ℕ) → Reserves (prepare_packet_data x) count first y
      → Sends c store (done (with_sessions begun (put begun.sessions y)) (Granted (range y.sending_index first count)))
  unfolding begin_encapsulate prepare_packet_data done
  granted y first r =
      rw (r.counted, r.first_is)
      (some x x.sending_index x.sending_key_counter count (grants_prepared c _ store x count current r.below refl refl) refl)

  sends_grant : Sends c store (grant c x count now)
  unfolding grant finish_encapsulate
  sends_grant =
      known_pair (λ (o : Out). Sends c store o) (reserve_counters (prepare_packet_data x) count) _ _ (none marked)
      (λ first y q. granted y first (reserved (prepare_packet_data x) count first y q))

pub sends_some : (c : Control) (store : List ℕ) (count now : ℕ) → Sends c store (send c count now)
unfolding send
sends_some c store count now =
    of_choice (λ (o : Out). Sends c store o) _ _ _ (none (idle_refused c store ConnectionExpired))
    (known_option (λ (o : Out). Sends c store o) (sending_session c.sessions now) _ _ (none (idle_refused c store NoCurrentSession))
    (λ x p. sends_grant c store x count now ((lookup_law c.sessions).sending now x p).0))
