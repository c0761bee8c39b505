-- The two calls that may change the tunnel where they are turned down: a send that finds a session with too few counters left, and an incoming
-- initiation that its outcome turns down.
-- Assumes nothing.
use mathlib.Core.Path.{◌≡◌, refl}
use mathlib.Core.Bool.{Bool, true, false, true≢false}
use mathlib.Core.List.{List}
use mathlib.Core.Logic.{inl, inr, ⊎_elim}
use Prim.Native.Nat.{ℕ, ◌≤◌}
use native.Mathlib.Omega.{arith}
use lib.Dec.{eqb}
use Rattle.base.proofs.Choice.{of_choice}
use Rattle.base.specs.Choice.{choose, case_option, case_pair, case_results, case_result}
use Rattle.sessions.proofs.Laws.{lookup_law}
use Rattle.sessions.specs.Laws.{MaySend}
use Rattle.sessions.specs.Session.{with_sent_data, prepare_packet_data, reserve_counters}
use Rattle.sessions.specs.Sessions.{next_index, insert, current_of, put, sending_session}
use Rattle.sessions.specs.declared.session.Session.{Session}
use Rattle.tunnel.proofs.AfterStates.{refuse_same}
use Rattle.tunnel.proofs.Framed.{gate_good}
use Rattle.tunnel.proofs.TurnedDown.{Untouched, let_through_same, gate_beside, of_timed, of_turn, timed_up, error_counts}
use Rattle.tunnel.specs.AfterStates.{TurnedDown, FoundTooFew, OfOutcome, with_send_ticked, with_data_marked, with_index_used}
use Rattle.tunnel.specs.Answer.{number_of}
use Rattle.tunnel.specs.Arguments.{initiation_outcome, bad_outcome, unnamed, named_of}
use Rattle.tunnel.specs.Control.{Turn, with_sessions, with_timers, out_of, refuse, done}
use Rattle.tunnel.specs.Encapsulate.{begin_encapsulate, finish_encapsulate, grant, send}
use Rattle.tunnel.specs.HandleHandshake.{responding, respond, handle_handshake_initiation}
use Rattle.tunnel.specs.Handshake.{receive_handshake_initialization}
use Rattle.tunnel.specs.Timers.{tick_last_data_packet_sent, tick_last_packet_sent}
use Rattle.tunnel.specs.Tunnel.{gate, refused, let_through, Called, timed_turn, call_send, call_initiation}
use Rattle.tunnel.specs.declared.answer.Answer.TheVariants.{Response}
use Rattle.tunnel.specs.declared.control.Control.{Control}
use Rattle.tunnel.specs.declared.control.Out.{Out}
use Rattle.tunnel.specs.declared.tunnel.Answered.{Answered}
use Rattle.tunnel.specs.declared.tunnel.Tunnel.{Tunnel}
use Rattle.std.specs.Prelude.{Err, None, Ok, Option, Result, Some}
use Rattle.error.specs.declared.Error.TheVariants.{ConnectionExpired, NoCurrentSession}
use Rattle.error.specs.Error.{error_number}
use Rattle.error.specs.declared.Error.{Error}
use Rattle.tunnel.specs.declared.handshake.Handshake.{Handshake}

-- what a send that finds a session with too few counters leaves
abbrev too_few : Control → Session → ℕ → Out
too_few c session now =
    out_of (with_sessions (with_timers c (with_send_ticked c.timers now)) (put c.sessions (with_sent_data session true))) (Err NoCurrentSession) true false

-- a send: it leaves all as it came where it answers by a number, unless a session was found
pub record SendWays (c : Control) (now : ℕ) (out : Out) : Type 0 where
  pub up : number_of out.answer ≡ 0 → out.raises ≡ true
  pub same : TurnedDown out.answer
      → ((session : Session) → number_of out.answer ≡ 12 → current_of c.sessions ≡ Some session → MaySend session now → ⊥) → Untouched c out
  pub marked : (session : Session) → number_of out.answer ≡ 12 → current_of c.sessions ≡ Some session → MaySend session now
      → out ≡ too_few c session now

module _ (c : Control) (count now : ℕ) where
  -- it refuses, or finds a session with counters left or without
  refused_send : (error : Error) → ((session : Session) → error_number error ≡ 12 → current_of c.sessions ≡ Some session → MaySend session now → ⊥)
      → SendWays c now (refuse c error)
  unfolding refuse number_of
  refused_send error f = record { up = λ e. absurd (error_counts error e); same = λ d k. refuse_same c error; marked = λ x e p m. absurd (f x e p m) }

  same_found : (x y : Session) → current_of c.sessions ≡ Some x → current_of c.sessions ≡ Some y → x ≡ y
  same_found x y p q = cc

  granted_ways : (x : Session) → current_of c.sessions ≡ Some x → MaySend x now → (r : Option (ℕ × Session)) → reserve_counters (prepare_packet_data x) count ≡ r
      → SendWays c now (grant c x count now)
  unfolding grant finish_encapsulate begin_encapsulate case_pair prepare_packet_data tick_last_data_packet_sent tick_last_packet_sent done number_of
  granted_ways x p m None e =
      rw e
      (record {
        up = λ z. absurd (omega arith);
        same = λ d k. absurd (k x refl p m);
        marked = λ y n q o. rw (same_found x y p q) refl;
      })
  granted_ways x p m (Some (first, y)) e =
      rw e (record { up = λ z. refl; same = λ d k. absurd (d refl); marked = λ y n q o. absurd (omega arith) })

  pub send_ways : SendWays c now (send c count now)
  unfolding send case_option
  send_ways = of_choice (SendWays c now) _ _ _ (refused_send ConnectionExpired (λ x e p m. omega arith)) (go (sending_session c.sessions now) refl)
    where
      go : (found : Option Session) → sending_session c.sessions now ≡ found
          → SendWays c now (case_option (sending_session c.sessions now) (refuse c NoCurrentSession) (λ session. grant c session count now))
      go None e =
          rw e
          (refused_send NoCurrentSession
          (λ x n p m. (let q = (lookup_law c.sessions).sends now x p m in let z : ◌≡◌ {A = ℕ} 0 1 = cc in absurd (omega arith))))
      go (Some x) e =
          let l = (lookup_law c.sessions).sending now x e in
          rw e (granted_ways x l.0 l.1 (reserve_counters (prepare_packet_data x) count) refl)

-- the call of a send
module _ (t : Tunnel) (count now : ℕ) where
  abbrev Finds : Answered → Session → Type 0
  Finds a session = (number_of a.answer ≡ 12) × (current_of t.control.sessions ≡ Some session) × MaySend session now

  send_same : TurnedDown (call_send t count now).answer → ((session : Session) → Finds (call_send t count now) session → ⊥) → (call_send t count now).tunnel ≡ t
  unfolding call_send let_through refused
  send_same =
      of_timed t _ now (λ (a : Answered). TurnedDown a.answer → ((session : Session) → Finds a session → ⊥) → a.tunnel ≡ t) _
      (λ z d k. let_through_same t now _ ((send_ways t.control count now).same d (λ x n p m. k x (n, p, m))))
      (λ error z d k. refl)

  send_finds : (session : Session) → Finds (call_send t count now) session → (call_send t count now).tunnel ≡ with_data_marked t session now
  unfolding call_send let_through refused number_of choose
  send_finds session =
      of_timed t _ now (λ (a : Answered). Finds a session → a.tunnel ≡ with_data_marked t session now) _
      (λ z f. rw ((send_ways t.control count now).marked session f.0 f.1 f.2) refl)
      (λ error z f. let n : error_number error ≡ 12 = f.0 in absurd (gate_beside t (eqb count 0) now error z (omega arith) (omega arith)))

  pub send_down : TurnedDown (call_send t count now).answer → ((session : Session) → FoundTooFew t count now session → ⊥) → (call_send t count now).tunnel ≡ t
  send_down d k = send_same d (λ x f. k x (record { number = f.0; current = f.1; may = f.2 }))

  pub send_marked : (session : Session) → FoundTooFew t count now session → (call_send t count now).tunnel ≡ with_data_marked t session now
  send_marked session f = send_finds session (f.number, f.current, f.may)

-- the named outcomes of an incoming initiation
abbrev Failing : Result Unit Error → Type 0
Failing outcome = (error : Error) → outcome ≡ Err error → OfOutcome (error_number error)

abbrev Fails : Option (Result Unit Error) → Type 0
Fails found = unnamed found ≡ false → Failing (named_of found)

failing_by : (why error : Error) → ◌≡◌ {A = Result Unit Error} (Err why) (Err error) → OfOutcome (error_number why) → OfOutcome (error_number error)
failing_by why error e o = let p : why ≡ error = cc in rw (← p) o

outcome_named : (n : ℕ) → Fails (initiation_outcome n)
unfolding initiation_outcome unnamed named_of case_option
outcome_named n =
    of_choice Fails _ _ _ (λ a error e. absurd (cc))
    (of_choice Fails _ _ _ (λ a error e. failing_by _ error e (inl refl))
    (of_choice Fails _ _ _ (λ a error e. failing_by _ error e (inr (inl refl)))
    (of_choice Fails _ _ _ (λ a error e. failing_by _ error e (inr (inr (inl refl))))
    (of_choice Fails _ _ _ (λ a error e. failing_by _ error e (inr (inr (inr refl)))) (λ a error e. absurd (true≢false a))))))

good_first : (bad other : Bool) → choose bad true other ≡ false → bad ≡ false
unfolding choose
good_first true other e = e
good_first false other e = refl

good_outcome : (n : ℕ) (store : List ℕ) → bad_outcome (initiation_outcome n) store ≡ false → Failing (named_of (initiation_outcome n))
unfolding bad_outcome
good_outcome n store e = outcome_named n (good_first _ _ e)

-- an incoming initiation: one that an outcome turns down has used up its local index
record IncomingWays (c : Control) (store : List ℕ) (turn : Turn) : Type 0 where
  up : number_of turn.out.answer ≡ 0 → turn.out.raises ≡ true
  words : TurnedDown turn.out.answer → turn.store ≡ store
  same : TurnedDown turn.out.answer → (OfOutcome (number_of turn.out.answer) → ⊥) → Untouched c turn.out
  failed : OfOutcome (number_of turn.out.answer) → Untouched (with_sessions c (next_index c.sessions).sessions) turn.out

-- an outcome's number is from 3 to 7, so neither a check's nor 0 nor 11
from_three : (n : ℕ) → OfOutcome n → (3 ≤ n) × (n ≤ 7)
from_three n o =
    ⊎_elim (λ e. (omega arith, omega arith))
    (⊎_elim (λ e. (omega arith, omega arith)) (⊎_elim (λ e. (omega arith, omega arith)) (λ e. (omega arith, omega arith)))) o

beside : (n : ℕ) → OfOutcome n → (3 ≤ n → n ≤ 12 → ⊥) → ⊥
beside n o k = let b = from_three n o in k b.0 (omega (arith, b.1))

not_nothing : OfOutcome 0 → ⊥
not_nothing o = omega (arith, (from_three 0 o).0)

not_eleven : OfOutcome 11 → ⊥
not_eleven o = omega (arith, (from_three 11 o).1)

incoming_ways : (c : Control) (store : List ℕ) (peer : ℕ) (outcome : Result Unit Error) (now : ℕ) → Failing outcome
    → IncomingWays c store (handle_handshake_initiation c store peer outcome now)
unfolding handle_handshake_initiation respond receive_handshake_initialization case_result case_results refuse done number_of
incoming_ways c store peer outcome now f =
    of_choice (IncomingWays c store) _ _ _
    (record {
      up = λ e. absurd (omega arith);
      words = λ d. refl;
      same = λ d k. record { control = refl; raises = refl; updates = refl };
      failed = λ o. absurd (not_eleven o);
    })
    (go outcome f)
  where
    d : Control
    d = with_sessions c (next_index c.sessions).sessions

    Answers : Result (Handshake × Session) Error → Type 0
    Answers x =
        IncomingWays c store
        (case_results x (λ error. record { out = refuse d error; store = store })
        (λ handshake session. record {
          out = done (responding d handshake store session now) (Response (next_index c.sessions).index peer);
          store = (insert d.sessions store session).store;
        }))

    go : (o : Result Unit Error) → Failing o → Answers (receive_handshake_initialization d.handshake (next_index c.sessions).index peer o now)
    go (Ok good) g = record { up = λ z. refl; words = λ d. absurd (d refl); same = λ d k. absurd (d refl); failed = λ o. absurd (not_nothing o) }
    go (Err error) g =
        record {
          up = λ z. absurd (error_counts error z);
          words = λ d. refl;
          same = λ d k. absurd (k (g error refl));
          failed = λ o. record { control = refl; raises = refl; updates = refl };
        }

-- the call of an incoming initiation
module _ (t : Tunnel) (store : List ℕ) (peer outcome now : ℕ) where
  abbrev bad : Bool
  bad = bad_outcome (initiation_outcome outcome) store

  abbrev came : Turn
  came = handle_handshake_initiation t.control store peer (named_of (initiation_outcome outcome)) now

  passed : gate t bad now ≡ Ok tt → IncomingWays t.control store came
  passed z = incoming_ways t.control store peer (named_of (initiation_outcome outcome)) now (good_outcome outcome store (gate_good t bad now z))

  pub incoming_up : number_of (call_initiation t store peer outcome now).answered.answer ≡ 0
      → (call_initiation t store peer outcome now).answered.tunnel.greatest ≡ now
  unfolding call_initiation timed_turn
  incoming_up = timed_up t bad now came.out (λ z. (passed z).up)

  pub incoming_store : TurnedDown (call_initiation t store peer outcome now).answered.answer → (call_initiation t store peer outcome now).store ≡ store
  unfolding call_initiation let_through
  incoming_store =
      of_turn t bad now (λ (a : Called). TurnedDown a.answered.answer → a.store ≡ store) store came (λ z d. (passed z).words d) (λ error z d. refl)

  pub incoming_down : TurnedDown (call_initiation t store peer outcome now).answered.answer
      → (OfOutcome (number_of (call_initiation t store peer outcome now).answered.answer) → ⊥)
      → (call_initiation t store peer outcome now).answered.tunnel ≡ t
  unfolding call_initiation timed_turn let_through refused
  incoming_down =
      of_timed t bad now (λ (a : Answered). TurnedDown a.answer → (OfOutcome (number_of a.answer) → ⊥) → a.tunnel ≡ t) came.out
      (λ z d k. let_through_same t now came.out ((passed z).same d k))
      (λ error z d k. refl)

  pub incoming_failed : OfOutcome (number_of (call_initiation t store peer outcome now).answered.answer)
      → (call_initiation t store peer outcome now).answered.tunnel ≡ with_index_used t (next_index t.control.sessions).index
  unfolding call_initiation timed_turn let_through refused number_of choose next_index
  incoming_failed =
      of_timed t bad now (λ (a : Answered). OfOutcome (number_of a.answer) → a.tunnel ≡ with_index_used t (next_index t.control.sessions).index) came.out
      (λ z o. let u = (passed z).failed o in rw (u.control, u.raises, u.updates) refl)
      (λ error z o. absurd (beside (error_number error) o (gate_beside t bad now error z)))
