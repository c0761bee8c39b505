-- What each operation leaves: all as it came where it answers by a number, and else a greatest time that is raised; and what the calls without a
-- time and a creation leave.
-- Assumes nothing.
use mathlib.Core.Path.{◌≡◌, refl, sym}
use mathlib.Core.Bool.{Bool, true, false}
use mathlib.Core.List.{List}
use Prim.Native.Nat.{ℕ}
use lib.ListN.{length}
use Rattle.base.proofs.Choice.{of_choice, of_option, of_pair, of_result}
use Rattle.base.specs.Lists.{zeros}
use Rattle.sessions.specs.Batch.{Batched, untouched, receive}
use Rattle.sessions.specs.Session.{new_session}
use Rattle.sessions.specs.Sessions.{insert}
use Rattle.sessions.specs.declared.batch.Progress.{Progress}
use Rattle.sessions.specs.declared.session.Role.TheVariants.{Initiator}
use Rattle.sessions.specs.declared.session.Session.{Session}
use Rattle.tunnel.proofs.Framed.{gate_onward, gate_whole}
use Rattle.tunnel.proofs.Responses.{response_good}
use Rattle.tunnel.proofs.SoundCalls.{its_control}
use Rattle.tunnel.proofs.SoundSteps.{SoundControl, sound_later}
use Rattle.tunnel.proofs.TurnedDown.{Untouched, Ways, TurnWays, BatchWays, of_timeless, error_counts}
use Rattle.tunnel.specs.AfterStates.{TurnedDown}
use Rattle.tunnel.specs.Answer.{number_of}
use Rattle.tunnel.specs.Arguments.{creation_number}
use Rattle.tunnel.specs.Control.{Turn, refuse, done, poll_event, missing_report}
use Rattle.tunnel.specs.Decapsulate.{accept, commit_decapsulate, begin_decapsulate}
use Rattle.tunnel.specs.HandleHandshake.{establish, complete, handle_handshake_response, handle_cookie_reply}
use Rattle.tunnel.specs.HandleTimeout.{handle_timeout}
use Rattle.tunnel.specs.Handshake.{receive_handshake_response, receive_cookie_reply}
use Rattle.tunnel.specs.InitiateHandshake.{restart_handshake, start_handshake}
use Rattle.tunnel.specs.Settle.{settle}
use Rattle.tunnel.specs.Tunnel.{new_tunnel, gate, refused, let_through, Called, call_new, call_event}
use Rattle.tunnel.specs.declared.answer.Answer.TheVariants.{Done, NoAnswer}
use Rattle.tunnel.specs.declared.answer.Answer.{Answer}
use Rattle.tunnel.specs.declared.control.Control.{Control}
use Rattle.tunnel.specs.declared.control.Out.{Out}
use Rattle.tunnel.specs.declared.handshake.Handshake.{Handshake}
use Rattle.tunnel.specs.declared.tunnel.Answered.{Answered}
use Rattle.tunnel.specs.declared.tunnel.Tunnel.{Tunnel}
use Rattle.base.specs.Choice.{case_results}
use Rattle.std.specs.Prelude.{Result, Ok}
use Rattle.error.specs.declared.Error.{Error}

-- an operation that refuses, and one that is done
pub refuse_same : (c : Control) (error : Error) → Untouched c (refuse c error)
unfolding refuse
refuse_same c error = record { control = refl; raises = refl; updates = refl }

refuse_ways : (c : Control) (error : Error) → Ways c (refuse c error)
unfolding refuse number_of
refuse_ways c error = record { down = λ d. refuse_same c error; up = λ e. absurd (error_counts error e) }

done_ways : (c last : Control) (answer : Answer) → Ways c (done last answer)
unfolding done number_of
done_ways c last given = record { down = λ d. absurd (d refl); up = λ e. refl }

abbrev refusing : Control → List ℕ → Error → Turn
refusing c store error = record { out = refuse c error; store = store }

refusing_ways : (c : Control) (store : List ℕ) (error : Error) → TurnWays c store (refusing c store error)
refusing_ways c store error = record { out = refuse_ways c error; words = λ d. refl }

doing_ways : (c last : Control) (store left : List ℕ) (answer : Answer) → TurnWays c store (record { out = done last answer; store = left })
unfolding done number_of
doing_ways c last store left answer = record { out = done_ways c last answer; words = λ d. absurd (d refl) }

module _ (c : Control) where
  -- initiations sent
  pub restart_ways : (now : ℕ) → Ways c (restart_handshake c now)
  unfolding restart_handshake
  restart_ways now = of_choice (Ways c) _ _ _ (done_ways c _ _) (done_ways c _ _)

  pub start_ways : (now : ℕ) → Ways c (start_handshake c now)
  unfolding start_handshake
  start_ways now = of_choice (Ways c) _ _ _ (done_ways c _ _) (restart_ways now)

  -- a cookie reply
  pub cookie_ways : (receiver : ℕ) (outcome : Result Unit Error) (now : ℕ) → Ways c (handle_cookie_reply c receiver outcome now)
  unfolding handle_cookie_reply
  cookie_ways receiver outcome now =
      of_choice (Ways c) _ _ _ (refuse_ways c _)
      (of_result (Ways c) (receive_cookie_reply c.handshake receiver outcome now) _ _ (refuse_ways c) (λ h. done_ways c _ _))

  -- a waking
  pub timeout_ways : (store : List ℕ) (jitter now : ℕ) → TurnWays c store (handle_timeout c store jitter now)
  unfolding handle_timeout done number_of
  timeout_ways store jitter now =
      of_choice (TurnWays c store) _ _ _ (doing_ways c c store store NoAnswer)
      (record { out = record { down = λ d. absurd (d refl); up = λ e. refl }; words = λ d. absurd (d refl) })

  -- settling
  pub settle_ways : (store : List ℕ) (jitter now : ℕ) → TurnWays c store (settle c store jitter now)
  unfolding settle number_of
  settle_ways store jitter now = record { out = record { down = λ d. absurd (d refl); up = λ e. refl }; words = λ d. absurd (d refl) }

  -- a batch
  pub batch_ways : (store : List ℕ) (index id now : ℕ) (counters kinds verdicts skips : List ℕ)
      → BatchWays c store verdicts skips (commit_decapsulate c store index id now counters kinds verdicts skips)
  unfolding commit_decapsulate receive case_results done number_of
  batch_ways store index id now counters kinds verdicts skips =
      of_choice (BatchWays c store verdicts skips) _ _ _ (turned _)
      (of_choice Judges _ _ _ (of_choice Judges _ _ _ (of_option Judges _ _ _ (turned _) (λ x. judged _ _ _ _ _)) (turned _)) (turned _))
    where
      Judges : Batched (Result (Session × Progress) Error) → Type 0
      Judges r =
          BatchWays c store verdicts skips
          (record {
            out = case_results r.out (refuse c) (λ session progress. done (accept c session progress index now) Done);
            store = r.store;
            verdicts = r.verdicts;
            skips = r.skips;
          })

      turned : (error : Error) → BatchWays c store verdicts skips (untouched (refuse c error) store verdicts skips)
      turned error = record { out = refuse_ways c error; words = λ d. refl; list = λ d. refl; skip_list = λ d. refl }

      judged : (x : Session) (p : Progress) (left list passed : List ℕ)
          → BatchWays c store verdicts skips (record { out = done (accept c x p index now) Done; store = left; verdicts = list; skips = passed })
      judged x p left list passed =
          record { out = done_ways c _ Done; words = λ d. absurd (d refl); list = λ d. absurd (d refl); skip_list = λ d. absurd (d refl) }

  -- a response, whose session is never stored without its keepalive
  pub response_ways : (store : List ℕ) (receiver peer : ℕ) (outcome : Result Unit Error) (now : ℕ) → SoundControl c now → length store ≡ 1024
      → TurnWays c store (handle_handshake_response c store receiver peer outcome now)
  unfolding handle_handshake_response receive_handshake_response case_results number_of
  response_ways store receiver peer outcome now w l =
      of_choice (TurnWays c store) _ _ _ (refusing_ways c store _)
      (of_choice Completes _ _ _ (of_result Completes outcome _ _ (refusing_ways c store) (λ good. completed _ _)) (refusing_ways c store _))
    where
      Completes : Result (Handshake × Session) Error → Type 0
      Completes x =
          TurnWays c store
          (case_results x (refusing c store)
          (λ handshake session. record { out = complete c handshake store session receiver now; store = (insert c.sessions store session).store }))

      completed : (handshake : Handshake) (left : List ℕ)
          → TurnWays c store (record { out = complete c handshake store (new_session receiver peer Initiator now) receiver now; store = left })
      completed handshake left = rw (response_good c handshake store receiver peer now w l) (doing_ways c _ store left _)

  -- a response that is not turned down, whatever the control
  abbrev Raises : Out → Type 0
  Raises out = number_of out.answer ≡ 0 → out.raises ≡ true

  done_raises : (last : Control) (answer : Answer) → Raises (done last answer)
  unfolding done
  done_raises last given z = refl

  pub response_up : (store : List ℕ) (receiver peer : ℕ) (outcome : Result Unit Error) (now : ℕ) → Raises (handle_handshake_response c store receiver peer outcome now).out
  unfolding handle_handshake_response receive_handshake_response case_results complete establish
  response_up store receiver peer outcome now =
      of_choice (λ (turn : Turn). Raises turn.out) _ _ _ (refuse_ways c _).up
      (of_choice Completes _ _ _
      (of_result Completes outcome _ _ (λ error. (refuse_ways c error).up)
      (λ good. of_pair Raises _ _ _ (refuse_ways _ _).up (λ a b. done_raises _ _)))
      (refuse_ways c _).up)
    where
      Completes : Result (Handshake × Session) Error → Type 0
      Completes x =
          Raises
          (case_results {A = Turn} x (refusing c store)
          (λ handshake session. record { out = complete c handshake store session receiver now; store = (insert c.sessions store session).store })).out

  -- the early look and the missing report
  pub look_same : (store : List ℕ) (index counter now : ℕ) → Untouched c (begin_decapsulate c store index counter now)
  unfolding begin_decapsulate
  look_same store index counter now =
      of_choice (Untouched c) _ _ _ (refuse_same c _)
      (of_option (Untouched c) _ _ _ (refuse_same c _)
      (λ x. of_choice (Untouched c) _ _ _ (refuse_same c _)
      (of_result (Untouched c) _ _ _ (refuse_same c) (λ good. record { control = refl; raises = refl; updates = refl }))))

  pub missing_same : (store : List ℕ) (index : ℕ) → Untouched c (missing_report c store index)
  unfolding missing_report
  missing_same store index =
      of_result (Untouched c) _ _ _ (refuse_same c) (λ n. record { control = refl; raises = refl; updates = refl })

-- the oldest event
pub event_down : (t : Tunnel) → TurnedDown (call_event t).answer → (call_event t).tunnel ≡ t
unfolding call_event let_through poll_event refused number_of
event_down t = of_timeless t false (λ (a : Answered). TurnedDown a.answer → a.tunnel ≡ t) _ (λ z d. absurd (d refl)) (λ error z d. refl)

-- what a check that lets a tunnel of eight slots and sixteen places through says of its control
pub sound_passed : (t : Tunnel) (bad : Bool) (now : ℕ) → length t.control.sessions.slots ≡ 8 → length t.control.events.slots ≡ 16
    → gate t bad now ≡ Ok tt → SoundControl t.control now
sound_passed t bad now eight sixteen z =
    sound_later t.greatest now (gate_onward t bad now z) t.control
    (its_control t (record { holds = gate_whole t bad now z; eight = eight; sixteen = sixteen }))

-- a creation
pub new_down : (store : List ℕ) (index keepalive now : ℕ) → TurnedDown (call_new store index keepalive now).answered.answer
    → ((call_new store index keepalive now).answered.tunnel ≡ (call_new (zeros 1024) 0 0 0).answered.tunnel)
    × ((call_new store index keepalive now).store ≡ store)
unfolding call_new refused number_of
new_down store index keepalive now =
    of_result
    (λ (a : Called). TurnedDown a.answered.answer → (a.answered.tunnel ≡ (call_new (zeros 1024) 0 0 0).answered.tunnel) × (a.store ≡ store))
    (creation_number store keepalive now) _ _
    (λ error d. (sym (of_result (λ (a : Called). a.answered.tunnel ≡ new_tunnel 0 0 0) _ _ _ (λ e. refl) (λ good. refl)), refl))
    (λ good d. absurd (d refl))

pub new_up : (store : List ℕ) (index keepalive now : ℕ) → number_of (call_new store index keepalive now).answered.answer ≡ 0
    → (call_new store index keepalive now).answered.tunnel.greatest ≡ now
unfolding call_new new_tunnel refused number_of
new_up store index keepalive now =
    of_result (λ (a : Called). number_of a.answered.answer ≡ 0 → a.answered.tunnel.greatest ≡ now) (creation_number store keepalive now) _ _
    (λ error n. absurd (error_counts error n))
    (λ good n. refl)
