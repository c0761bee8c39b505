-- Local indices told ahead: what each call that allocates one gives and uses up.
-- Assumes nothing.
use mathlib.Core.Path.{◌≡◌, refl, ap, sym}
use mathlib.Core.Bool.{Bool, true, false, true≢false}
use mathlib.Core.List.{List, [], ◌∷◌, ◌++◌}
use Prim.Native.Nat.{ℕ, ◌≤◌}
use native.Mathlib.Omega.{arith}
use lib.ListN.{length}
use borrow.Author.Tests.{leb-true, le-leb}
use Rattle.base.proofs.Choice.{known_choice, of_choice, known_results, of_result}
use Rattle.base.specs.Choice.{choose, case_option}
use Rattle.sessions.proofs.Laws.{lookup_law}
use Rattle.sessions.specs.Laws.{InSlot}
use Rattle.sessions.specs.Session.{due_by, new_session, with_id}
use Rattle.sessions.specs.Sessions.{new_sessions, ahead, next_index}
use Rattle.sessions.specs.declared.session.Role.TheVariants.{Responder}
use Rattle.sessions.specs.declared.session.Session.{Session}
use Rattle.tunnel.proofs.Exceptions.{incoming_down, incoming_failed}
use Rattle.tunnel.proofs.Facts.{undamaged_facts}
use Rattle.tunnel.proofs.Framed.{gate_good, gate_whole}
use Rattle.tunnel.proofs.Lasting.{on_insert, on_unsent}
use Rattle.tunnel.proofs.Numbers.{Living, is_dead, is_living}
use Rattle.tunnel.proofs.Opened.{initiation_opened}
use Rattle.tunnel.proofs.Queue.{queue_of_newest}
use Rattle.tunnel.proofs.Responses.{inserted_found}
use Rattle.tunnel.proofs.SoundCalls.{good_store}
use Rattle.tunnel.proofs.TurnedDown.{refused_counts, of_timed}
use Rattle.tunnel.specs.AfterStates.{TurnedDown, OfOutcome}
use Rattle.tunnel.specs.Ahead.{told_index, last_index, events_of, SentWith, AnsweredWith, Initiates, HandshakeDue}
use Rattle.tunnel.specs.Answer.{number_of}
use Rattle.tunnel.specs.Arguments.{bad_outcome, bad_jitter, initiation_outcome, creation_number, named_of}
use Rattle.tunnel.specs.Control.{Turn, with_sessions, new_control, refuse, done, expired_control, queueing}
use Rattle.tunnel.specs.HandleHandshake.{responding, respond, handle_handshake_initiation}
use Rattle.tunnel.specs.HandleTimeout.{send_scheduled, handle_due, handle_timeout}
use Rattle.tunnel.specs.Handshake.{append_mac1_and_mac2, initiate_handshake}
use Rattle.tunnel.specs.InitiateHandshake.{initiating, initiate, restart_handshake, start_handshake}
use Rattle.tunnel.specs.PollTimeout.{scheduled_handshake}
use Rattle.tunnel.specs.RingBuffer.{Ring, queued, newest}
use Rattle.tunnel.specs.Tunnel.{new_tunnel, gate, refused, let_through, timed, Called, timed_turn, call_new, call_start, call_restart, call_initiation, call_timeout}
use Rattle.tunnel.specs.declared.answer.Answer.TheVariants.{NoAnswer, Initiation, Response}
use Rattle.tunnel.specs.declared.control.Control.{Control}
use Rattle.tunnel.specs.declared.control.Out.{Out}
use Rattle.tunnel.specs.declared.event.Event.TheVariants.{SendHandshakeInitiation}
use Rattle.tunnel.specs.declared.handshake.Handshake.{Handshake}
use Rattle.tunnel.specs.declared.handshake.HandshakeState.TheVariants.{InitSent}
use Rattle.tunnel.specs.declared.tunnel.Answered.{Answered}
use Rattle.tunnel.specs.declared.tunnel.Tunnel.{Tunnel}
use Rattle.std.specs.Prelude.{None, Option, Some, Ok, Result}
use Rattle.error.specs.declared.Error.{Error}

-- the index told of a control, and the one last used up
abbrev told_of : Control → ℕ
told_of c = (ahead c.sessions).index

abbrev last_of : Control → ℕ
last_of c = c.sessions.last_index

-- starting and restarting
module _ (c : Control) (now : ℕ) where
  -- an initiation was sent with the index told
  record SentOut (last : Control) : Type 0 where
    used : last_of last ≡ told_of c
    awaited : last.handshake.state ≡ InitSent (told_of c) now

  initiated : (last : Control) → last.sessions ≡ (initiate c now).control.sessions → last.handshake ≡ (initiate c now).control.handshake → SentOut last
  unfolding initiate initiating initiate_handshake append_mac1_and_mac2 next_index
  initiated last s h = record { used = rw s refl; awaited = rw h refl }

  record InitiatesOut (out : Out) : Type 0 where
    given : (index : ℕ) → out.answer ≡ Ok (Initiation index) → (index ≡ told_of c) × SentOut out.control
    none : ((index : ℕ) → out.answer ≡ Ok (Initiation index) → ⊥) → last_of out.control ≡ last_of c

  nothing : InitiatesOut (done c NoAnswer)
  unfolding done
  nothing = record { given = λ index e. let z : ◌≡◌ {A = ℕ} 0 1 = cc in absurd (omega arith); none = λ f. refl }

  initiates : InitiatesOut (done (initiate c now).control (Initiation (initiate c now).local_index))
  unfolding done initiate next_index
  initiates = record { given = λ index e. ((cc), initiated _ refl refl); none = λ f. absurd (f _ refl) }

  restart_gives : InitiatesOut (restart_handshake c now)
  unfolding restart_handshake
  restart_gives = of_choice InitiatesOut _ _ _ nothing initiates

  start_gives : InitiatesOut (start_handshake c now)
  unfolding start_handshake
  start_gives = of_choice InitiatesOut _ _ _ nothing restart_gives

-- the tunnel after it
sent_with : (t last : Tunnel) (now : ℕ) → SentOut t.control now last.control → SentWith t last now
sent_with t last now k = record { used = k.used; awaited = k.awaited }

module _ (t : Tunnel) (now : ℕ) where
  timed_gives : (out : Out) → InitiatesOut t.control now out → Initiates t (timed t false now out) now
  unfolding let_through refused
  timed_gives out k =
      of_timed t false now (λ (a : Answered). Initiates t a now) out
      (λ z. record { given = λ index e. (let g = k.given index e in (g.0, sent_with t _ now g.1)); none = k.none })
      (λ error z. record { given = λ index e. absurd (cc); none = λ f. refl })

  pub call_start_gives : Initiates t (call_start t now) now
  unfolding call_start
  call_start_gives = timed_gives _ (start_gives t.control now)

  pub call_restart_gives : Initiates t (call_restart t now) now
  unfolding call_restart
  call_restart_gives = timed_gives _ (restart_gives t.control now)

-- an incoming initiation that is answered
module _ (c : Control) (store : List ℕ) (long : length store ≡ 1024) (eight : length c.sessions.slots ≡ 8) where
  record AnsweredOut (last : Control) : Type 0 where
    used : last_of last ≡ told_of c
    session : Session
    stored : InSlot last.sessions (told_of c) session

  abbrev Answers : Turn → Type 0
  Answers turn = (index remote : ℕ) → turn.out.answer ≡ Ok (Response index remote) → (index ≡ told_of c) × AnsweredOut turn.out.control

  new_stored : (peer now : ℕ) (x : Handshake) (s : Session) → new_session (told_of c) peer Responder now ≡ s
      → AnsweredOut (responding (with_sessions c (next_index c.sessions).sessions) x store s now)
  unfolding responding next_index new_session
  new_stored peer now x s e =
      rw (← e)
      (record {
        used = on_insert (told_of c) _ store _ refl;
        session = with_id (new_session (told_of c) peer Responder now) c.sessions.inserted;
        stored = (lookup_law _).found (told_of c) _ (inserted_found _ store (told_of c) peer Responder now eight long);
      })

  incoming_gives : (peer : ℕ) (outcome : Result Unit Error) (now : ℕ) → Answers (handle_handshake_initiation c store peer outcome now)
  unfolding handle_handshake_initiation respond refuse done next_index
  incoming_gives peer outcome now =
      of_choice Answers _ _ _
      (λ index remote e. let z : ◌≡◌ {A = ℕ} 0 1 = cc in absurd (omega arith))
      (known_results Answers _ _ _
      (λ n index remote e. let z : ◌≡◌ {A = ℕ} 0 1 = cc in absurd (omega arith))
      (λ x s p index remote e. ((cc), new_stored peer now x s (initiation_opened c.handshake x outcome (told_of c) peer now s p).1)))

module _ (t : Tunnel) (store : List ℕ) (peer outcome now : ℕ) where
  abbrev came : Called
  came = call_initiation t store peer outcome now

  pub initiation_gives : length t.control.sessions.slots ≡ 8 → (index remote : ℕ) → came.answered.answer ≡ Ok (Response index remote)
      → (index ≡ told_index t) × AnsweredWith t came.answered.tunnel
  unfolding call_initiation timed_turn let_through refused
  initiation_gives eight =
      of_timed t (bad_outcome (initiation_outcome outcome) store) now
      (λ (a : Answered). (index remote : ℕ) → a.answer ≡ Ok (Response index remote) → (index ≡ told_index t) × AnsweredWith t a.tunnel) _
      (λ z index remote e.
      (let g =
      incoming_gives t.control store (good_store (initiation_outcome outcome) store (gate_good t _ now z)) eight peer (named_of (initiation_outcome outcome)) now index remote e in
      (g.0, record { used = g.1.used; session = g.1.session; stored = g.1.stored })))
      (λ error z index remote e. absurd (cc))

  pub initiation_failed_lem : OfOutcome (number_of came.answered.answer) → last_index came.answered.tunnel ≡ told_index t
  unfolding next_index
  initiation_failed_lem o = ap last_index (incoming_failed t store peer outcome now o)

  pub initiation_refused : TurnedDown came.answered.answer → (OfOutcome (number_of came.answered.answer) → ⊥)
      → last_index came.answered.tunnel ≡ last_index t
  initiation_refused d o = ap last_index (incoming_down t store peer outcome now d o)

-- a deadline that has come
record Come (time : Option ℕ) (now : ℕ) : Type 0 where
  at : ℕ
  is : time ≡ Some at
  by : at ≤ now

come_of : (time : Option ℕ) (now : ℕ) → due_by time now ≡ true → Come time now
unfolding due_by case_option
come_of None now e = absurd (true≢false (sym e))
come_of (Some at) now e = record { at = at; is = refl; by = leb-true at now e }

due_of : (time : Option ℕ) (now at : ℕ) → time ≡ Some at → at ≤ now → due_by time now ≡ true
unfolding due_by case_option
due_of time now at e l = rw e (le-leb at now l)

-- a waking that sends a scheduled handshake
module _ (c : Control) where
  alive : (b : Bool) → expired_control c ≡ b → Living c → expired_control c ≡ false
  alive true e l = absurd (l (is_dead c e))
  alive false e l = e

  sending : (store : List ℕ) (jitter now : ℕ) → Living c → due_by (scheduled_handshake c) now ≡ true
      → (handle_timeout c store jitter now).out.control ≡ send_scheduled c now
  unfolding handle_timeout handle_due choose
  sending store jitter now l d = rw (alive (expired_control c) refl l, d) refl

  queues : (now : ℕ) → Ring c.events
      → (queued (send_scheduled c now).events ≡ newest (queued c.events ++ Some (SendHandshakeInitiation (told_of c)) ∷ [])) × SentOut c now (send_scheduled c now)
  unfolding send_scheduled queueing initiate initiating next_index
  queues now ring = (queue_of_newest.pushed c.events (SendHandshakeInitiation (told_of c)) ring, initiated c now _ refl refl)

module _ (t : Tunnel) (store : List ℕ) (jitter now : ℕ) where
  abbrev woken : Answered
  woken = (call_timeout t store jitter now).answered

  abbrev bad : Bool
  bad = bad_jitter jitter store

  its_ring : length t.control.events.slots ≡ 16 → gate t bad now ≡ Ok tt → Ring t.control.events
  its_ring long z = record { places = long; within = (undamaged_facts t (gate_whole t bad now z)).control.events.ring }

  pub waking_gives : length t.control.events.slots ≡ 16 → number_of woken.answer ≡ 0 → HandshakeDue t now
      → (events_of woken.tunnel ≡ newest (events_of t ++ Some (SendHandshakeInitiation (told_index t)) ∷ [])) × SentWith t woken.tunnel now
  unfolding call_timeout timed_turn let_through scheduled_handshake
  waking_gives long =
      of_timed t bad now
      (λ (a : Answered). number_of a.answer ≡ 0 → HandshakeDue t now
      → (events_of a.tunnel ≡ newest (events_of t ++ Some (SendHandshakeInitiation (told_index t)) ∷ [])) × SentWith t a.tunnel now) _
      (λ z e d.
      rw (sending t.control store jitter now d.living (due_of _ now d.at d.scheduled d.come))
      (let q = queues t.control now (its_ring long z) in (q.0, sent_with t _ now q.1)))
      (λ error z e d. absurd (refused_counts t error e))

  -- and one that sends none
  due_not : (HandshakeDue t now → ⊥) → Living t.control → (b : Bool) → due_by (scheduled_handshake t.control) now ≡ b
      → due_by (scheduled_handshake t.control) now ≡ false
  unfolding scheduled_handshake
  due_not n l true e = let m : Come _ now = come_of _ now e in absurd (n (record { living = l; at = m.at; scheduled = m.is; come = m.by }))
  due_not n l false e = e

  unsent_control : (HandshakeDue t now → ⊥) → last_of (handle_timeout t.control store jitter now).out.control ≡ last_index t
  unfolding handle_timeout done
  unsent_control n =
      known_choice (λ (turn : Turn). last_of turn.out.control ≡ last_index t) (expired_control t.control) _ _ (λ e. refl)
      (λ e. (on_unsent _ (last_index t) t.control store jitter now (refl, refl)
      (due_not n (is_living t.control e) (due_by (scheduled_handshake t.control) now) refl)).1)

  answers_nothing : number_of (handle_timeout t.control store jitter now).out.answer ≡ 0
  unfolding handle_timeout done number_of
  answers_nothing = of_choice (λ (turn : Turn). number_of turn.out.answer ≡ 0) _ _ _ refl refl

  pub waking_unsent : (number_of woken.answer ≡ 0 → HandshakeDue t now → ⊥) → last_index woken.tunnel ≡ last_index t
  unfolding call_timeout timed_turn let_through refused
  waking_unsent =
      of_timed t bad now (λ (a : Answered). (number_of a.answer ≡ 0 → HandshakeDue t now → ⊥) → last_index a.tunnel ≡ last_index t) _
      (λ z n. unsent_control (n answers_nothing))
      (λ error z n. refl)

-- a creation
pub new_gives : (store : List ℕ) (index keepalive now : ℕ) → number_of (call_new store index keepalive now).answered.answer ≡ 0
    → last_index (call_new store index keepalive now).answered.tunnel ≡ index
unfolding call_new new_tunnel new_control new_sessions
new_gives store index keepalive now =
    of_result (λ (a : Called). number_of a.answered.answer ≡ 0 → last_index a.answered.tunnel ≡ index) (creation_number store keepalive now) _ _
    (λ error z. absurd (refused_counts (new_tunnel 0 0 0) error z))
    (λ good z. refl)
