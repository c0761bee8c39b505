-- What is known after the operations that insert a session: an incoming initiation, and a response, which also grants the session's first counter.
-- Assumes nothing.
use mathlib.Core.Path.{◌≡◌, refl, ap, sym, ◌∙◌}
use mathlib.Core.Bool.{true, false}
use mathlib.Core.List.{List, [], ◌∷◌, ◌++◌}
use Prim.Native.Nat.{ℕ, ◌+◌, ◌^◌, ◌<◌}
use lib.ListN.{length}
use Rattle.sessions.specs.Cases.{case_role}
use Rattle.tunnel.specs.Answer.{number_of}
use Rattle.tunnel.specs.Laws.{establishing, confirmed_by, ResponseLaw}
use Rattle.base.proofs.Choice.{of_choice, of_result}
use Rattle.tunnel.specs.Control.{Turn, refuse, done, with_sessions, with_handshake}
use Rattle.tunnel.specs.HandleHandshake.{responding, respond, handle_handshake_initiation, confirming, complete, handle_handshake_response}
use Rattle.tunnel.specs.Encapsulate.{encrypt_keepalive}
use Rattle.tunnel.specs.declared.answer.Answer.TheVariants.{Response, Keepalive}
use Rattle.tunnel.specs.declared.control.Control.{Control}
use Rattle.tunnel.specs.declared.control.Out.{Out}
use Rattle.tunnel.specs.declared.encapsulate.Encrypted.{Encrypted}
use Rattle.demands.proofs.Changes.{held_inserted}
use Rattle.demands.proofs.Granting.Encrypts.{skips, sends}
use Rattle.demands.proofs.Granting.{some_parts, Encrypts, encrypts}
use Rattle.demands.proofs.Known.{Known, turned_number, known_as, Idle, idle_refused, known_carried, known_confirmed}
use Rattle.demands.proofs.Moves.{carried_next, carried_current}
use Rattle.demands.proofs.Held.{Past, message_in}
use Rattle.demands.specs.Made.{Insertion, insertion}
use Rattle.demands.specs.Sending.{Grant, granting, PolledKeepalive}
use Rattle.tunnel.specs.Handshake.{receive_handshake_initialization, receive_handshake_response}
use Rattle.tunnel.specs.declared.handshake.Handshake.{Handshake}
use Rattle.sessions.specs.Session.{new_session, with_id}
use Rattle.sessions.specs.Sessions.{insert, next_index}
use Rattle.sessions.specs.declared.session.Role.TheVariants.{Initiator, Responder}
use Rattle.sessions.specs.declared.session.Session.{Session}
use Rattle.base.specs.Choice.{case_results}
use Rattle.std.specs.Prelude.{Err, Ok, Result, Some}
use Rattle.error.specs.declared.Error.{Error}
use Rattle.error.specs.declared.Error.TheVariants.{UnexpectedPacket, ConnectionExpired}

-- what a handshake message does: it is turned down and nothing is inserted, a session is inserted, or one is inserted that grants its first counter
pub data Inserts (c : Control) (store : List ℕ) (message : Insertion) (t : Turn) : Type 0 where
  nothing : Idle c store t.out t.store → (number_of t.out.answer ≡ 0 → ⊥) → Inserts c store message t
  responds : (local peer : ℕ) → t.out.answer ≡ Ok (Response local peer)
      → ((ins : List Insertion) (h : ℕ → Past) (g k : List Grant) (polls : List PolledKeepalive) → length ins + 1 < 2 ^ 64 → Known ins h g k polls c store
      → Known (ins ++ message ∷ []) h g k polls t.out.control t.store)
      → Inserts c store message t
  completes : (peer counter : ℕ) → t.out.answer ≡ Ok (Keepalive peer counter)
      → ((ins : List Insertion) (h : ℕ → Past) (g k : List Grant) (polls : List PolledKeepalive) → length ins + 1 < 2 ^ 64 → Known ins h g k polls c store
      → Known (ins ++ message ∷ []) h (g ++ granting (length ins) peer counter 1 ∷ []) k polls t.out.control t.store)
      → Inserts c store message t

-- a new session inserted
module _ (ins : List Insertion) (h : ℕ → Past) (g k : List Grant) (polls : List PolledKeepalive) (c d : Control) (store : List ℕ)
    (few : length ins + 1 < 2 ^ 64) (w : Known ins h g k polls c store) where
  known_inserted : (x : Session) → x.filled ≡ true → x.next ≡ 0 → x.sending_key_counter ≡ 0 → x.last_heard ≡ x.established_at → d.sessions ≡ (insert c.sessions store x).sessions
      → d.events ≡ c.events → Known (ins ++ message_in x ∷ []) h g k polls d (insert c.sessions store x).store
  known_inserted x a b e i p q =
      record { held = rw p (held_inserted ins h g c.sessions store w.held x a b e i few); queue = rw q w.queue }

-- a message turned down
refuses : (c : Control) (store : List ℕ) (message : Insertion) (e : Error) → Inserts c store message (record { out = refuse c e; store = store })
unfolding refuse
refuses c store message e = nothing (idle_refused c store e) (turned_number e)

-- an incoming initiation
module _ (c : Control) (store : List ℕ) (peer : ℕ) (outcome : Result Unit Error) (now : ℕ) where
  abbrev ready : Control
  ready = with_sessions c (next_index c.sessions).sessions

  idle_ready : (e : Error) → Idle c store (refuse ready e) store
  unfolding refuse
  idle_ready e =
      record {
        known = λ ins h g k polls w. known_carried ins h g k polls c _ store store (carried_next c.sessions store) refl w;
        plain = (idle_refused ready store e).plain;
      }

  -- the peer initiated
  abbrev message : Insertion
  message = insertion false peer now

  inserted_ready : (local : ℕ) (handshake : Handshake) (ins : List Insertion) (h : ℕ → Past) (g k : List Grant) (polls : List PolledKeepalive)
      → length ins + 1 < 2 ^ 64 → Known ins h g k polls c store
      → Known (ins ++ message ∷ []) h g k polls (responding ready handshake store (new_session local peer Responder now) now)
      (insert ready.sessions store (new_session local peer Responder now)).store
  unfolding responding new_session case_role
  inserted_ready local handshake ins h g k polls few w =
      known_inserted ins h g k polls ready _ store few (known_carried ins h g k polls c ready store store (carried_next c.sessions store) refl w) _ refl refl refl refl refl refl

  -- by what the handshake makes of it
  abbrev of_message : (local : ℕ) → Result (Handshake × Session) Error → Turn
  of_message local x =
      case_results x (λ error. record { out = refuse ready error; store = store })
      (λ handshake session. record {
        out = done (responding ready handshake store session now) (Response local peer);
        store = (insert ready.sessions store session).store;
      })

  opened : (local : ℕ) (handshake : Handshake) → Inserts c store message (of_message local (Ok (handshake, new_session local peer Responder now)))
  unfolding case_results done
  opened local handshake = responds local peer refl (inserted_ready local handshake)

  failed : (local : ℕ) (e : Error) → Inserts c store message (of_message local (Err e))
  unfolding case_results refuse
  failed local e = nothing (idle_ready e) (turned_number e)

  responded : (local : ℕ) → Inserts c store message (respond ready store local peer outcome now)
  unfolding respond receive_handshake_initialization
  responded local =
      of_result (λ (x : Result (Handshake × Session) Error). Inserts c store message (of_message local x)) outcome _ _ (failed local)
      (λ good. opened local _)

  pub inserts_initiation : Inserts c store message (handle_handshake_initiation c store peer outcome now)
  unfolding handle_handshake_initiation
  inserts_initiation = of_choice (λ (t : Turn). Inserts c store message t) _ _ _ (refuses c store message ConnectionExpired) (responded _)

got_same : (x y : Session) → Some x ≡ Some y → x ≡ y
got_same x y e = cc

same_grant : (g : List Grant) (i j a b x y : ℕ) → i ≡ j → a ≡ b → x ≡ y → g ++ granting i a x 1 ∷ [] ≡ g ++ granting j b y 1 ∷ []
same_grant g i j a b x y p q r = cc

-- a response
module _ (c : Control) (store : List ℕ) (receiver peer now : ℕ) (handshake : Handshake) (law : ResponseLaw c handshake store receiver peer now) where
  abbrev new : Session
  new = establishing receiver peer now

  abbrev ended : Control
  ended = confirmed_by c handshake store receiver peer now

  abbrev left : List ℕ
  left = (insert c.sessions store new).store

  -- this tunnel initiated
  abbrev own : Insertion
  own = insertion true peer now

  known_confirming : (ins : List Insertion) (h : ℕ → Past) (g k : List Grant) (polls : List PolledKeepalive) → length ins + 1 < 2 ^ 64
      → Known ins h g k polls c store → Known (ins ++ own ∷ []) h g k polls ended left
  unfolding confirming new_session case_role
  known_confirming ins h g k polls few w =
      let more : List Insertion = ins ++ own ∷ [] in
      let a : Known more h g k polls (with_sessions (with_handshake c handshake) (insert c.sessions store new).sessions) left =
      known_inserted ins h g k polls c _ store few w new refl refl refl refl refl refl in
      known_confirmed more h g k polls _ _ now left (known_carried more h g k polls _ _ left left (carried_current _ left receiver) refl a)

  -- the keepalive is the new session's first counter
  of_encrypted : (e : Encrypted) → Encrypts ended left e → e.keepalive ≡ Some (peer, 0)
      → (ins : List Insertion) (h : ℕ → Past) (g k : List Grant) (polls : List PolledKeepalive) → length ins + 1 < 2 ^ 64 → Known ins h g k polls c store
      → Known (ins ++ own ∷ []) h (g ++ granting (length ins) peer 0 1 ∷ []) k polls e.control left
  of_encrypted e (skips p q) s ins h g k polls few w = cc
  of_encrypted e (sends x to first v q r) s ins h g k polls few w =
      let p : x ≡ with_id new c.sessions.inserted = got_same _ _ (sym v.current ∙ law.current) in
      let a : to ≡ peer = (some_parts to peer first 0 (sym q ∙ s)).0 in
      let b : first ≡ 0 = (some_parts to peer first 0 (sym q ∙ s)).1 in
      let i : x.id ≡ length ins = ap (λ (y : Session). y.id) p ∙ w.held.count in
      let more : List Insertion = ins ++ own ∷ [] in
      let o : Known more h (g ++ granting x.id to first 1 ∷ []) k polls e.control left =
      v.known more h g k polls (known_confirming ins h g k polls few w) in
      known_as more _ h _ _ k _ polls _ e.control left refl (same_grant g _ _ _ _ _ _ (sym i) (sym a) (sym b)) refl refl o

  completed : Inserts c store own (record { out = complete c handshake store new receiver now; store = left })
  unfolding done
  completed =
      completes peer 0 (ap (λ (o : Out). o.answer) law.answer)
      (λ ins h g k polls few w.
      rw law.answer (of_encrypted (encrypt_keepalive ended now) (encrypts ended left now) law.first ins h g k polls few w))

-- the handshake completed by a response, or not
module _ (c : Control) (store : List ℕ) (receiver peer : ℕ) (outcome : Result Unit Error) (now : ℕ)
    (law : (handshake : Handshake) → ResponseLaw c handshake store receiver peer now) where
  abbrev of_answer : Result (Handshake × Session) Error → Turn
  of_answer x =
      case_results x (λ error. record { out = refuse c error; store = store })
      (λ handshake session. record { out = complete c handshake store session receiver now; store = (insert c.sessions store session).store })

  response_opened : (handshake : Handshake) → Inserts c store (insertion true peer now) (of_answer (Ok (handshake, new_session receiver peer Initiator now)))
  unfolding case_results
  response_opened handshake = completed c store receiver peer now handshake (law handshake)

  response_failed : (e : Error) → Inserts c store (insertion true peer now) (of_answer (Err e))
  unfolding case_results
  response_failed e = refuses c store (insertion true peer now) e

  pub inserts_response : Inserts c store (insertion true peer now) (handle_handshake_response c store receiver peer outcome now)
  unfolding handle_handshake_response receive_handshake_response
  inserts_response =
      of_choice (λ (t : Turn). Inserts c store (insertion true peer now) t) _ _ _ (refuses c store (insertion true peer now) ConnectionExpired)
      (of_choice (λ (x : Result (Handshake × Session) Error). Inserts c store (insertion true peer now) (of_answer x)) _ _ _
      (of_result (λ (x : Result (Handshake × Session) Error). Inserts c store (insertion true peer now) (of_answer x)) outcome _ _ response_failed
      (λ good. response_opened _))
      (response_failed UnexpectedPacket))
