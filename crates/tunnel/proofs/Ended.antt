-- An expired tunnel has no current session: an operation on one that is not expired leaves it so, save the waking, which ends it with none selected.
-- Assumes nothing.
use mathlib.Core.Path.{◌≡◌, refl, sym, ◌∙◌}
use mathlib.Core.Bool.{Bool, false, true≢false}
use mathlib.Core.List.{List}
use Prim.Native.Nat.{ℕ}
use native.Mathlib.Omega.{arith}
use lib.ListN.{length}
use borrow.Author.Tests.{eq-eqb}
use Rattle.base.proofs.Choice.{known_choice, of_choice, known_result, known_results, of_option, of_pair, of_result}
use Rattle.base.specs.Choice.{choose, case_option}
use Rattle.sessions.proofs.Laws.{whole_law}
use Rattle.sessions.specs.Batch.{Batched}
use Rattle.sessions.specs.Sessions.{Held, put, current_of, new_sessions, emptied, clear, expire}
use Rattle.sessions.specs.Store.{whole}
use Rattle.sessions.specs.declared.batch.Progress.{Progress}
use Rattle.sessions.specs.declared.session.Session.{Session}
use Rattle.sessions.specs.declared.sessions.Sessions.{Sessions}
use Rattle.tunnel.proofs.Framed.{gate_good}
use Rattle.tunnel.proofs.BadArguments.{jittered}
use Rattle.tunnel.proofs.Numbers.{Living, is_living}
use Rattle.tunnel.proofs.Opened.{initiation_opened, response_opened, cookie_stored}
use Rattle.tunnel.proofs.Steps.{of_expire}
use Rattle.tunnel.proofs.Stores.{timeout_store}
use Rattle.tunnel.proofs.Wakings.{WakingKeeps, of_wake, of_repeat}
use Rattle.tunnel.specs.AfterStates.{NoneCurrent, ExpiredLaw}
use Rattle.tunnel.specs.Arguments.{opening_outcome, initiation_outcome, named_of}
use Rattle.tunnel.specs.Control.{Turn, with_handshake, new_control, refuse, done, expired_control, queueing, poll_event, missing_report}
use Rattle.tunnel.specs.Decapsulate.{confirm_first_session, accept, commit_decapsulate, begin_decapsulate}
use Rattle.tunnel.specs.Encapsulate.{begin_encapsulate, finish_encapsulate, grant, encrypt_keepalive, send}
use Rattle.tunnel.specs.HandleHandshake.{responding, respond, handle_handshake_initiation, confirming, establish, complete, handle_handshake_response, handle_cookie_reply}
use Rattle.tunnel.specs.HandleTimeout.{clear_all, expire_control, scheduling, queue_keepalive, send_keepalive, keepalive_if_due, send_scheduled, handle_timeout}
use Rattle.tunnel.specs.Settle.{settle}
use Rattle.tunnel.specs.Handshake.{with_states, clear_cookie, expire_cookie, append_mac1_and_mac2, initiate_handshake, receive_handshake_initialization, receive_handshake_response, receive_cookie_reply}
use Rattle.tunnel.specs.InitiateHandshake.{initiating, initiate, restart_handshake, start_handshake}
use Rattle.tunnel.specs.Tunnel.{new_tunnel, gate, refused, let_through, timed, timeless, Called, timed_turn, timed_batch, call_new, call_start, call_restart, call_send, call_receive, call_look, call_initiation, call_response, call_cookie, call_timeout, call_settle, call_event, call_deadline, call_missing}
use Rattle.tunnel.specs.declared.control.Control.{Control}
use Rattle.tunnel.specs.declared.control.Out.{Out}
use Rattle.tunnel.specs.declared.encapsulate.Encrypted.{Encrypted}
use Rattle.tunnel.specs.declared.handshake.Handshake.{Handshake}
use Rattle.tunnel.specs.declared.handshake.HandshakeState.TheVariants.{None as NoHandshake, Expired}
use Rattle.tunnel.specs.declared.tunnel.Answered.{Answered}
use Rattle.tunnel.specs.declared.tunnel.Tunnel.{Tunnel}
use Rattle.std.specs.Prelude.{None, Ok, Result}
use Rattle.error.specs.declared.Error.{Error}

-- a control, if expired, has no current session; what an operation hands back has such a one, or one that is not expired
abbrev Ended : Control → Type 0
Ended c = c.handshake.state ≡ Expired → current_of c.sessions ≡ None

abbrev EndedOut : Out → Type 0
EndedOut out = Ended out.control

abbrev LivingOut : Out → Type 0
LivingOut out = Living out.control

abbrev LivingTurn : Turn → Type 0
LivingTurn turn = Living turn.out.control

-- an operation that does nothing to an expired control and does not end a living one
module _ {A : Type 0} (control_of : A → Control) (c : Control) where
  unless_expired : (x y : A) → Ended (control_of x) → (Living c → Living (control_of y)) → Ended (control_of (choose (expired_control c) x y))
  unless_expired x y h l =
      known_choice (λ (a : A). Ended (control_of a)) (expired_control c) x y (λ e. h) (λ e f. absurd (l (is_living c e) f))

-- the initiation
initiated : (c : Control) (now : ℕ) → Living (initiate c now).control
unfolding initiate initiating initiate_handshake append_mac1_and_mac2
initiated c now e = let z : ◌≡◌ {A = ℕ} 0 1 = cc in omega arith

restart_ended : (c : Control) (now : ℕ) → Ended c → EndedOut (restart_handshake c now)
unfolding restart_handshake done
restart_ended c now h = unless_expired (λ (y : Out). y.control) c _ _ h (λ l. initiated c now)

start_ended : (c : Control) (now : ℕ) → Ended c → EndedOut (start_handshake c now)
unfolding start_handshake done
start_ended c now h = of_choice EndedOut _ _ _ h (restart_ended c now h)

-- data sent
grant_living : (c : Control) (s : Session) (count now : ℕ) → Living c → LivingOut (grant c s count now)
unfolding grant finish_encapsulate begin_encapsulate done
grant_living c s count now l = of_pair LivingOut _ _ _ l (λ n x. l)

send_ended : (c : Control) (count now : ℕ) → Ended c → EndedOut (send c count now)
unfolding send refuse
send_ended c count now h =
    unless_expired (λ (y : Out). y.control) c _ _ h (λ l. of_option LivingOut _ _ _ l (λ s. grant_living c s count now l))

-- data received
confirm_living : (c : Control) (started now : ℕ) → Living c → Living (confirm_first_session c started now)
unfolding confirm_first_session queueing
confirm_living c started now l = of_choice Living _ _ _ l l

accept_living : (c : Control) (x : Session) (p : Progress) (index now : ℕ) → Living c → Living (accept c x p index now)
unfolding accept
accept_living c x p index now l = of_choice Living _ _ _ (confirm_living _ _ now l) l

receive_ended : (c : Control) (store : List ℕ) (index id now : ℕ) (counters kinds verdicts skips : List ℕ) → Ended c
    → EndedOut (commit_decapsulate c store index id now counters kinds verdicts skips).out
unfolding commit_decapsulate refuse done
receive_ended c store index id now counters kinds verdicts skips h =
    unless_expired (λ (y : Batched Out). y.out.control) c _ _ h
    (λ l. known_results LivingOut _ _ _ (λ n. l) (λ x p e. accept_living c x p index now l))

look_ended : (c : Control) (store : List ℕ) (index counter now : ℕ) → Ended c → EndedOut (begin_decapsulate c store index counter now)
unfolding begin_decapsulate refuse
look_ended c store index counter now h =
    of_choice EndedOut _ _ _ h (of_option EndedOut _ _ _ h (λ s. of_choice EndedOut _ _ _ h (of_result EndedOut _ _ _ (λ e. h) (λ good. h))))

missing_ended : (c : Control) (store : List ℕ) (index : ℕ) → Ended c → EndedOut (missing_report c store index)
unfolding missing_report refuse
missing_ended c store index h = of_result EndedOut _ _ _ (λ n. h) (λ n. h)

-- handshake messages
answered_living : (h x : Handshake) (local peer : ℕ) (outcome : Result Unit Error) (now : ℕ) (y : Session) → receive_handshake_initialization h local peer outcome now ≡ Ok (x, y)
    → (h.state ≡ Expired → ⊥) → x.state ≡ Expired → ⊥
unfolding append_mac1_and_mac2
answered_living h x local peer outcome now y e l f = l (rw (← (initiation_opened h x outcome local peer now y e).0) at f)

respond_living : (c : Control) (store : List ℕ) (local peer : ℕ) (outcome : Result Unit Error) (now : ℕ) → Living c → LivingTurn (respond c store local peer outcome now)
unfolding respond responding refuse done
respond_living c store local peer outcome now l =
    known_results LivingTurn _ _ _ (λ n. l) (λ x s e. answered_living c.handshake x local peer outcome now s e l)

initiation_ended : (c : Control) (store : List ℕ) (peer : ℕ) (outcome : Result Unit Error) (now : ℕ) → Ended c → EndedOut (handle_handshake_initiation c store peer outcome now).out
unfolding handle_handshake_initiation refuse
initiation_ended c store peer outcome now h =
    unless_expired (λ (y : Turn). y.out.control) c _ _ h (λ l. respond_living _ store _ peer outcome now l)

keepalive_living : (c : Control) (now : ℕ) → Living c → Living (encrypt_keepalive c now).control
unfolding encrypt_keepalive
keepalive_living c now l =
    of_option (λ (e : Encrypted). Living e.control) _ _ _ l (λ s. of_pair (λ (e : Encrypted). Living e.control) _ _ _ l (λ n x. l))

establish_living : (c : Control) (local now : ℕ) → Living c → LivingOut (establish c local now)
unfolding establish confirming refuse done
establish_living c local now l =
    of_pair LivingOut _ _ _ (keepalive_living _ now (confirm_living _ _ now l)) (λ a b. keepalive_living _ now (confirm_living _ _ now l))

opened_living : (h x : Handshake) (receiver peer : ℕ) (outcome : Result Unit Error) (now : ℕ) (y : Session) → receive_handshake_response h receiver peer outcome now ≡ Ok (x, y)
    → x.state ≡ Expired → ⊥
opened_living h x receiver peer outcome now y e f =
    let g : with_states h NoHandshake NoHandshake ≡ x = (response_opened h x outcome receiver peer now y e).0 in
    let k : NoHandshake ≡ Expired = rw (← g) at f in cc

response_ended : (c : Control) (store : List ℕ) (receiver peer : ℕ) (outcome : Result Unit Error) (now : ℕ) → Ended c
    → EndedOut (handle_handshake_response c store receiver peer outcome now).out
unfolding handle_handshake_response complete refuse
response_ended c store receiver peer outcome now h =
    unless_expired (λ (y : Turn). y.out.control) c _ _ h
    (λ l. known_results LivingTurn _ _ _ (λ n. l)
    (λ x s e. establish_living _ receiver now (opened_living c.handshake x receiver peer outcome now s e)))

stored_living : (h x : Handshake) (receiver : ℕ) (outcome : Result Unit Error) (now : ℕ) → receive_cookie_reply h receiver outcome now ≡ Ok x → (h.state ≡ Expired → ⊥)
    → x.state ≡ Expired → ⊥
stored_living h x receiver outcome now e l f = l (rw (← cookie_stored h x outcome receiver now e) at f)

cookie_ended : (c : Control) (receiver : ℕ) (outcome : Result Unit Error) (now : ℕ) → Ended c → EndedOut (handle_cookie_reply c receiver outcome now)
unfolding handle_cookie_reply refuse done
cookie_ended c receiver outcome now h =
    unless_expired (λ (y : Out). y.control) c _ _ h
    (λ l. known_result LivingOut _ _ _ (λ n. l) (λ x e. stored_living c.handshake x receiver outcome now e l))

-- the waking: with a store of 1,024 words the steps leave an expired control with none selected
abbrev Unselected : Control → Type 0
Unselected c = c.handshake.state ≡ Expired → c.sessions.current ≡ None

record Waking (c : Control) (store : List ℕ) : Type 0 where
  long : length store ≡ 1024
  unselected : Unselected c

cleared : (s : Sessions) (store : List ℕ) → length store ≡ 1024 → (clear s store).sessions.current ≡ None
unfolding clear
cleared s store long =
    known_choice (λ (y : Held). y.sessions.current ≡ None) (whole store) _ _ (λ e. refl)
    (λ e. absurd (true≢false (sym (eq-eqb (length store) 1024 long) ∙ e)))

ends_unselected : (c : Control) (store : List ℕ) (now : ℕ) → Waking c store → Waking (expire_control c store now).control (expire_control c store now).store
unfolding expire_control clear_all queueing
ends_unselected c store now w =
    record { long = (whole_law c.sessions store w.long).clearing; unselected = λ e. cleared c.sessions store w.long }

keepalive_unselected : (c : Control) (now : ℕ) → Unselected c → Unselected (encrypt_keepalive c now).control
unfolding encrypt_keepalive put
keepalive_unselected c now u =
    of_option (λ (e : Encrypted). Unselected e.control) _ _ _ u
    (λ s. of_pair (λ (e : Encrypted). Unselected e.control) _ _ _ u (λ n x. u))

keepalives_unselected : (c : Control) (now : ℕ) → Unselected c → Unselected (keepalive_if_due c now)
unfolding keepalive_if_due send_keepalive queue_keepalive queueing
keepalives_unselected c now u =
    of_choice Unselected _ _ _ (of_pair Unselected _ _ _ (keepalive_unselected _ now u) (λ a b. keepalive_unselected _ now u)) u

cookie_unselected : (c : Control) (now : ℕ) → Unselected c → Unselected (with_handshake c (expire_cookie c.handshake now))
unfolding expire_cookie clear_cookie
cookie_unselected c now u = of_choice (λ (h : Handshake). Unselected (with_handshake c h)) _ _ _ u u

expire_unselected : (s : Sessions) (store : List ℕ) (now : ℕ) → s.current ≡ None → (expire s store now).expired.sessions.current ≡ None
unfolding emptied
expire_unselected s store now u = of_expire (λ (x : Sessions). x.current ≡ None) (λ x slot v. v) (λ x v. refl) s store now u

sends_living : (c : Control) (now : ℕ) → Living (send_scheduled c now)
unfolding send_scheduled queueing
sends_living c now = initiated _ now

waking_ends : (jitter now : ℕ) → WakingKeeps Waking jitter now
unfolding scheduling
waking_ends jitter now =
    record {
      schedules = λ c store w. record { long = w.long; unselected = w.unselected };
      keeps_alive = λ c store w. record { long = w.long; unselected = keepalives_unselected c now w.unselected };
      drops = λ c store w. record { long = w.long; unselected = cookie_unselected c now w.unselected };
      ends = λ c store w. ends_unselected c store now w;
      expires = λ c store w. record {
        long = (whole_law c.sessions store w.long).expiry now;
        unselected = λ e. expire_unselected c.sessions store now (w.unselected e);
      };
    }

none_current : (s : Sessions) → s.current ≡ None → current_of s ≡ None
unfolding current_of case_option
none_current s u = rw u refl

timeout_ended : (c : Control) (store : List ℕ) (jitter now : ℕ) → Ended c → length store ≡ 1024 → EndedOut (handle_timeout c store jitter now).out
unfolding handle_timeout done
timeout_ended c store jitter now h long =
    known_choice (λ (y : Turn). EndedOut y.out) (expired_control c) _ _ (λ e. h)
    (λ e f.
    let w : Waking c store = record { long = long; unselected = λ x. absurd (is_living c e x) } in
    let sent : Waking (send_scheduled c now) store = record { long = long; unselected = λ x. absurd (sends_living c now x) } in
    none_current _ ((of_wake Waking jitter now (waking_ends jitter now) c store w sent).unselected f))

-- and settling
settle_ended : (c : Control) (store : List ℕ) (jitter now : ℕ) → Ended c → length store ≡ 1024 → EndedOut (settle c store jitter now).out
unfolding settle
settle_ended c store jitter now h long =
    (of_repeat (λ (x : Control) (words : List ℕ). Ended x × (length words ≡ 1024)) jitter now
    (λ x words p. (timeout_ended x words jitter now p.0 p.1, timeout_store x words p.1 jitter now)) _ c store (h, long)).0

-- a creation
new_ended : (index keepalive now : ℕ) → NoneCurrent (new_tunnel index keepalive now)
unfolding new_tunnel new_control new_sessions current_of case_option
new_ended index keepalive now e = refl

-- the frames
module _ (t : Tunnel) (h : NoneCurrent t) where
  timed_ended : (bad : Bool) (now : ℕ) (out : Out) → (bad ≡ false → EndedOut out) → NoneCurrent (timed t bad now out).tunnel
  unfolding timed let_through refused
  timed_ended bad now out o =
      known_result (λ (a : Answered). NoneCurrent a.tunnel) (gate t bad now) _ _ (λ error. h) (λ passed z. o (gate_good t bad now z))

  timeless_ended : (bad : Bool) (out : Out) → EndedOut out → NoneCurrent (timeless t bad out).tunnel
  unfolding timeless let_through refused
  timeless_ended bad out o = of_result (λ (a : Answered). NoneCurrent a.tunnel) _ _ _ (λ error. h) (λ passed. o)

-- each call
pub stays_ended : (t : Tunnel) (store : List ℕ) → NoneCurrent t → ExpiredLaw t store
unfolding call_new call_start call_restart call_send call_receive call_look call_initiation call_response call_cookie call_timeout call_settle call_event call_deadline call_missing timed_turn timed_batch refused poll_event
stays_ended t store h =
    record {
      new = λ index keepalive now. of_result (λ (y : Called). NoneCurrent y.answered.tunnel) _ _ _ (λ error. new_ended 0 0 0) (λ good. new_ended index keepalive now);
      start = λ now. timed_ended t h _ now _ (λ b. start_ended t.control now h);
      restart = λ now. timed_ended t h _ now _ (λ b. restart_ended t.control now h);
      send = λ count now. timed_ended t h _ now _ (λ b. send_ended t.control count now h);
      receive = λ index id now counters kinds verdicts skips.
          timed_ended t h _ now _ (λ b. receive_ended t.control store index id now counters kinds verdicts skips h);
      look = λ index counter now. timed_ended t h _ now _ (λ b. look_ended t.control store index counter now h);
      initiation = λ peer outcome now. timed_ended t h _ now _ (λ b. initiation_ended t.control store peer (named_of (initiation_outcome outcome)) now h);
      response = λ receiver peer outcome now.
          timed_ended t h _ now _ (λ b. response_ended t.control store receiver peer (named_of (opening_outcome outcome)) now h);
      cookie = λ receiver outcome now. timed_ended t h _ now _ (λ b. cookie_ended t.control receiver (named_of (opening_outcome outcome)) now h);
      timeout = λ jitter now. timed_ended t h _ now _ (λ b. timeout_ended t.control store jitter now h ((jittered jitter store).to b).0);
      settle = λ jitter now. timed_ended t h _ now _ (λ b. settle_ended t.control store jitter now h ((jittered jitter store).to b).0);
      event = timeless_ended t h _ _ h;
      deadline = timeless_ended t h _ _ h;
      missing = λ index. timeless_ended t h _ _ (missing_ended t.control store index h);
    }
