-- Which number turns a call down: what stands beneath the frames gives 11 first and else none of the five.
-- Assumes nothing.
use mathlib.Core.Path.{◌≡◌, refl, ap, sym, ◌∙◌}
use mathlib.Core.Bool.{true, false, true≢false}
use mathlib.Core.List.{List}
use mathlib.Core.Logic.{inl, inr}
use Prim.Native.Nat.{ℕ}
use native.Mathlib.Omega.{arith}
use lib.ListN.{length}
use borrow.Author.Tests.{eq-eqb}
use Rattle.base.proofs.Choice.{known_choice, of_choice, of_option, of_pair}
use Rattle.base.specs.Choice.{choose, case_option, case_result, case_results}
use Rattle.sessions.proofs.Laws.{fits_law, look_law}
use Rattle.sessions.specs.Batch.{Batched, fits, receive}
use Rattle.sessions.specs.Laws.{IsBatch}
use Rattle.sessions.specs.Session.{will_receive}
use Rattle.sessions.specs.Sessions.{insert, missing}
use Rattle.sessions.specs.Store.{whole}
use Rattle.sessions.specs.declared.session.Session.{Session}
use Rattle.tunnel.specs.Answer.{number_of}
use Rattle.tunnel.specs.Arguments.{opening_outcome, initiation_outcome, named_of, bad_batch}
use Rattle.tunnel.specs.Cases.{case_state}
use Rattle.tunnel.specs.Control.{Turn, with_handshake, out_of, refuse, done, expired_control, poll_event, missing_report}
use Rattle.tunnel.specs.Decapsulate.{accept, commit_decapsulate, begin_decapsulate}
use Rattle.tunnel.specs.Encapsulate.{finish_encapsulate, grant, send}
use Rattle.tunnel.specs.HandleHandshake.{responding, respond, handle_handshake_initiation, establish, complete, handle_handshake_response, handle_cookie_reply}
use Rattle.tunnel.specs.HandleTimeout.{handle_timeout}
use Rattle.tunnel.specs.Settle.{settle}
use Rattle.tunnel.specs.Handshake.{is_expired, receive_handshake_initialization, receive_handshake_response, receive_cookie_reply}
use Rattle.tunnel.specs.InitiateHandshake.{restart_handshake, start_handshake}
use Rattle.tunnel.specs.Numbers.{Always, IsStore, OpeningNamed, InitiationNamed, NumbersLaw}
use Rattle.tunnel.specs.Tunnel.{timed_turn, timed_batch, call_start, call_restart, call_send, call_receive, call_look, call_initiation, call_response, call_cookie, call_timeout, call_settle, call_event, call_deadline, call_missing}
use Rattle.tunnel.specs.declared.answer.Answer.TheVariants.{Done, Response, Deadline, Report}
use Rattle.tunnel.specs.declared.control.Control.{Control}
use Rattle.tunnel.specs.declared.control.Out.{Out}
use Rattle.tunnel.specs.declared.handshake.Handshake.{Handshake}
use Rattle.tunnel.specs.declared.handshake.HandshakeState.TheVariants.{None as NoHandshake, InitSent, Expired}
use Rattle.tunnel.specs.declared.handshake.HandshakeState.{HandshakeState}
use Rattle.tunnel.specs.declared.tunnel.Tunnel.{Tunnel}
use Rattle.tunnel.proofs.FirstFailing.{Beneath, never_fails, timed_first, timeless_first, of_five, Other, not_of, beneath_always}
use Rattle.tunnel.proofs.BadArguments.{jittered, counted, stored, batched, opening_named, initiation_named, of_outcome, new_first}
use Rattle.std.specs.Prelude.{Option, Result, Ok, Err}
use Rattle.error.specs.Error.{error_number, verdict_number}
use Rattle.error.specs.declared.Error.{Error}
use Rattle.sessions.specs.declared.batch.Progress.{Progress}

-- whether the connection has expired
expired_by : (s : HandshakeState) → case_state s false (λ local sent. false) true ≡ true → s ≡ Expired
unfolding case_state
expired_by NoHandshake e = absurd (true≢false (sym e))
expired_by (InitSent local sent) e = absurd (true≢false (sym e))
expired_by Expired e = refl

module _ (c : Control) where
  abbrev pub Living : Type 0
  Living = c.handshake.state ≡ Expired → ⊥

  pub is_dead : expired_control c ≡ true → c.handshake.state ≡ Expired
  unfolding expired_control is_expired
  is_dead e = expired_by _ e

  pub is_living : expired_control c ≡ false → Living
  unfolding expired_control is_expired case_state
  is_living e x = true≢false (rw x at e)

  -- an operation that the expired state turns down first
  module _ {A : Type 0} (number : A → ℕ) where
    beneath_living : (x y : A) → number x ≡ 11 → Other (number y) → Beneath (number (choose (expired_control c) x y)) Living
    beneath_living x y e o =
        known_choice (λ (a : A). Beneath (number a) Living) (expired_control c) x y
        (λ z. record {
          one = λ f. omega arith;
          two = λ f. omega arith;
          fourteen = λ f. omega arith;
          thirteen = λ f. omega arith;
          dead = λ f l. l (is_dead z);
          dies = λ f. e;
        })
        (λ z. record {
          one = not_of (number y) 1 refl o;
          two = not_of (number y) 2 refl o;
          fourteen = not_of (number y) 14 refl o;
          thirteen = not_of (number y) 13 refl o;
          dead = λ f l. not_of (number y) 11 refl o f;
          dies = λ f. absurd (f (is_living z));
        })

-- the number of what an operation hands back
abbrev number_in : Out → ℕ
number_in out = number_of out.answer

abbrev OtherOut : Out → Type 0
OtherOut out = Other (number_in out)

abbrev OtherTurn : Turn → Type 0
OtherTurn turn = OtherOut turn.out

-- starting and restarting
restart_other : (c : Control) (now : ℕ) → OtherOut (restart_handshake c now)
unfolding restart_handshake done number_of
restart_other c now = of_choice OtherOut _ _ _ refl refl

restart_beneath : (c : Control) (now : ℕ) → Beneath (number_in (restart_handshake c now)) Always
restart_beneath c now = beneath_always _ (restart_other c now)

start_beneath : (c : Control) (now : ℕ) → Beneath (number_in (start_handshake c now)) Always
unfolding start_handshake done number_of
start_beneath c now = beneath_always _ (of_choice OtherOut _ _ _ refl (restart_other c now))

-- sending
grant_other : (c : Control) (s : Session) (count now : ℕ) → OtherOut (grant c s count now)
unfolding grant finish_encapsulate done number_of
grant_other c s count now = of_pair OtherOut _ _ _ refl (λ n x. refl)

send_beneath : (c : Control) (count now : ℕ) → Beneath (number_in (send c count now)) (Living c)
unfolding send refuse number_of
send_beneath c count now = beneath_living c number_in _ _ refl (of_option OtherOut _ _ _ refl (λ s. grant_other c s count now))

-- receiving
module _ (c : Control) (store : List ℕ) where
  receive_beneath : (index id now : ℕ) (counters kinds verdicts skips : List ℕ) → bad_batch store counters kinds verdicts skips ≡ false
      → Beneath (number_in (commit_decapsulate c store index id now counters kinds verdicts skips).out) (Living c)
  unfolding commit_decapsulate receive refuse done number_of case_results
  receive_beneath index id now counters kinds verdicts skips b =
      let good : IsStore store × IsBatch counters kinds verdicts skips = (batched store counters kinds verdicts skips).to b in
      beneath_living c (λ (y : Batched Out). number_in y.out) _ _ refl
      (known_choice Judging (whole store) _ _
      (λ e. known_choice Judging (fits counters kinds verdicts skips) _ _
      (λ f. of_option Judging _ _ _ refl (λ s. refl))
      (λ f. absurd (true≢false (sym ((fits_law counters kinds verdicts skips).fitting good.1) ∙ f))))
      (λ e. absurd (true≢false (sym (eq-eqb (length store) 1024 good.0) ∙ e))))
    where
      Judging : Batched (Result (Session × Progress) Error) → Type 0
      Judging y = OtherOut (case_results y.out (refuse c) (λ session progress. done (accept c session progress index now) Done))

  -- the early look
  look_other : (s : Session) (index counter : ℕ) → length store ≡ 1024 → Other (verdict_number (will_receive s store index counter))
  look_other s index counter l = elim (look_law s store index counter l).numbers [
    | inl e ↦ ap of_five e
    | inr (inl e) ↦ ap of_five e
    | inr (inr (inl e)) ↦ ap of_five e
    | inr (inr (inr e)) ↦ ap of_five e
  ]

  looked_other : (r : Result Unit Error) → Other (verdict_number r) → OtherOut (case_result r (refuse c) (λ good. out_of c (Ok Done) false false))
  unfolding refuse number_of case_result
  looked_other (Ok good) o = refl
  looked_other (Err error) o = o

  look_beneath : (index counter now : ℕ) → length store ≡ 1024 → Beneath (number_in (begin_decapsulate c store index counter now)) (Living c)
  unfolding begin_decapsulate refuse number_of
  look_beneath index counter now l =
      beneath_living c number_in _ _ refl
      (of_option OtherOut _ _ _ refl (λ s. of_choice OtherOut _ _ _ refl (looked_other _ (look_other s index counter l))))

  -- the missing report
  missing_beneath : (index : ℕ) → length store ≡ 1024 → Beneath (number_in (missing_report c store index)) Always
  unfolding missing_report missing refuse number_of case_result
  missing_beneath index l =
      beneath_always _
      (known_choice Reporting (whole store) _ _ (λ e. of_option Reporting _ _ _ refl (λ s. refl))
      (λ e. absurd (true≢false (sym (eq-eqb (length store) 1024 l) ∙ e))))
    where
      Reporting : Result ℕ Error → Type 0
      Reporting m = OtherOut (case_result m (refuse c) (λ count. out_of c (Ok (Report count)) false false))

-- an outcome that number 2 lets through
opening_other : (n : ℕ) → OpeningNamed n → Other (verdict_number (named_of (opening_outcome n)))
unfolding opening_outcome named_of case_option choose
opening_other n p = elim p [
  | inl e ↦ rw e refl
  | inr e ↦ rw e refl
]

initiation_other : (n : ℕ) → InitiationNamed n → Other (verdict_number (named_of (initiation_outcome n)))
unfolding initiation_outcome named_of case_option choose
initiation_other n p = elim p [
  | inl e ↦ rw e refl
  | inr (inl e) ↦ rw e refl
  | inr (inr (inl e)) ↦ rw e refl
  | inr (inr (inr (inl e))) ↦ rw e refl
  | inr (inr (inr (inr e))) ↦ rw e refl
]

-- handshake messages, with an outcome that number 2 lets through
module _ (c : Control) (outcome : Result Unit Error) (now : ℕ) (o : Other (verdict_number outcome)) where
  -- what a message that an outcome turns down or not answers
  of_opened : {A : Type 0} (P : A → Type 0) (bad : Error → A) (good : Unit → A) → ((error : Error) → Other (error_number error) → P (bad error))
      → ((u : Unit) → P (good u)) → P (case_result outcome bad good)
  unfolding case_result
  of_opened P bad good p q = go outcome o
    where
      go : (r : Result Unit Error) → Other (verdict_number r) → P (case_result r bad good)
      go (Ok u) x = q u
      go (Err error) x = p error x

  respond_other : (d : Control) (store : List ℕ) (local peer : ℕ) → OtherTurn (respond d store local peer outcome now)
  unfolding respond receive_handshake_initialization refuse done number_of case_results
  respond_other d store local peer = of_opened Answering _ _ (λ error x. x) (λ u. refl)
    where
      Answering : Result (Handshake × Session) Error → Type 0
      Answering x =
          OtherTurn
          (case_results x (λ error. record { out = refuse d error; store = store })
          (λ handshake session. record {
            out = done (responding d handshake store session now) (Response local peer);
            store = (insert d.sessions store session).store;
          }))

  initiation_beneath : (store : List ℕ) (peer : ℕ) → Beneath (number_in (handle_handshake_initiation c store peer outcome now).out) (Living c)
  unfolding handle_handshake_initiation refuse number_of
  initiation_beneath store peer = beneath_living c (λ (y : Turn). number_in y.out) _ _ refl (respond_other _ store _ peer)

  complete_other : (handshake : Handshake) (store : List ℕ) (session : Session) (receiver : ℕ) → OtherOut (complete c handshake store session receiver now)
  unfolding complete establish refuse done number_of
  complete_other handshake store session receiver = of_pair OtherOut _ _ _ refl (λ a b. refl)

  response_beneath : (store : List ℕ) (receiver peer : ℕ) → Beneath (number_in (handle_handshake_response c store receiver peer outcome now).out) (Living c)
  unfolding handle_handshake_response receive_handshake_response refuse number_of case_results
  response_beneath store receiver peer =
      beneath_living c (λ (y : Turn). number_in y.out) _ _ refl
      (of_choice Completing _ _ _ (of_opened Completing _ _ (λ error x. x) (λ u. complete_other _ store _ receiver)) refl)
    where
      Completing : Result (Handshake × Session) Error → Type 0
      Completing x =
          OtherTurn
          (case_results x (λ error. record { out = refuse c error; store = store })
          (λ handshake session. record {
            out = complete c handshake store session receiver now;
            store = (insert c.sessions store session).store;
          }))

  cookie_beneath : (receiver : ℕ) → Beneath (number_in (handle_cookie_reply c receiver outcome now)) (Living c)
  unfolding handle_cookie_reply receive_cookie_reply refuse done number_of case_result
  cookie_beneath receiver =
      beneath_living c number_in _ _ refl
      (of_choice Storing _ _ _ (of_choice Storing _ _ _ (of_opened Storing _ _ (λ error x. x) (λ u. refl)) refl) refl)
    where
      Storing : Result Handshake Error → Type 0
      Storing x = OtherOut (case_result x (refuse c) (λ handshake. done (with_handshake c handshake) Done))

-- the waking, settling, the oldest event and the deadline
timeout_beneath : (c : Control) (store : List ℕ) (jitter now : ℕ) → Beneath (number_in (handle_timeout c store jitter now).out) Always
unfolding handle_timeout done number_of
timeout_beneath c store jitter now = beneath_always _ (of_choice OtherTurn _ _ _ refl refl)

settle_beneath : (c : Control) (store : List ℕ) (jitter now : ℕ) → Beneath (number_in (settle c store jitter now).out) Always
unfolding settle number_of
settle_beneath c store jitter now = beneath_always 0 refl

event_beneath : (c : Control) → Beneath (number_in (poll_event c)) Always
unfolding poll_event number_of
event_beneath c = beneath_always 0 refl

deadline_beneath : (time : Option ℕ) → Beneath (number_of (Ok (Deadline time))) Always
unfolding number_of
deadline_beneath time = beneath_always 0 refl

-- the number that turns each call down
pub first_numbers : (t : Tunnel) (store : List ℕ) → NumbersLaw t store
unfolding call_start call_restart call_send call_receive call_look call_initiation call_response call_cookie call_timeout call_settle call_event call_deadline call_missing timed_turn timed_batch
first_numbers t store =
    record {
      new = new_first store;
      start = λ now. timed_first t _ _ _ _ never_fails (λ b. start_beneath t.control now) now;
      restart = λ now. timed_first t _ _ _ _ never_fails (λ b. restart_beneath t.control now) now;
      send = λ count now. timed_first t _ _ _ _ (counted count) (λ b. send_beneath t.control count now) now;
      receive = λ index id now counters kinds verdicts skips.
          timed_first t _ _ _ _ (batched store counters kinds verdicts skips) (receive_beneath t.control store index id now counters kinds verdicts skips) now;
      look = λ index counter now. timed_first t _ _ _ _ (stored store) (λ b. look_beneath t.control store index counter now ((stored store).to b)) now;
      initiation = λ peer outcome now.
          timed_first t _ _ _ _ (of_outcome _ store _ (initiation_named outcome))
          (λ b. initiation_beneath t.control _ now (initiation_other outcome ((of_outcome _ store _ (initiation_named outcome)).to b).1) store peer) now;
      response = λ receiver peer outcome now.
          timed_first t _ _ _ _ (of_outcome _ store _ (opening_named outcome))
          (λ b. response_beneath t.control _ now (opening_other outcome ((of_outcome _ store _ (opening_named outcome)).to b).1) store receiver peer) now;
      cookie = λ receiver outcome now.
          timed_first t _ _ _ _ (opening_named outcome)
          (λ b. cookie_beneath t.control _ now (opening_other outcome ((opening_named outcome).to b)) receiver) now;
      timeout = λ jitter now. timed_first t _ _ _ _ (jittered jitter store) (λ b. timeout_beneath t.control store jitter now) now;
      settle = λ jitter now. timed_first t _ _ _ _ (jittered jitter store) (λ b. settle_beneath t.control store jitter now) now;
      event = timeless_first t _ _ _ _ never_fails (λ b. event_beneath t.control);
      deadline = timeless_first t _ _ _ _ never_fails (λ b. deadline_beneath _);
      missing = λ index. timeless_first t _ _ _ _ (stored store) (λ b. missing_beneath t.control store index ((stored store).to b));
    }
