-- What lasts: the persistent keepalive's setting through every operation, and the index last allocated through those that allocate none.
-- Assumes nothing.
use mathlib.Core.Path.{◌≡◌, refl}
use mathlib.Core.Bool.{Bool, true, false}
use mathlib.Core.List.{List}
use Prim.Native.Nat.{ℕ}
use Rattle.base.proofs.Choice.{of_choice, known_result, known_results, of_option, of_pair, of_result}
use Rattle.base.specs.Choice.{choose}
use Rattle.tunnel.specs.PollTimeout.{scheduled_handshake}
use Rattle.tunnel.specs.Control.{Turn, refuse, done, queueing, missing_report, with_timers}
use Rattle.tunnel.specs.HandleHandshake.{responding, respond, handle_handshake_initiation, confirming, establish, complete, handle_handshake_response, handle_cookie_reply}
use Rattle.tunnel.specs.InitiateHandshake.{initiating, initiate, restart_handshake, start_handshake}
use Rattle.tunnel.specs.Encapsulate.{begin_encapsulate, finish_encapsulate, grant, encrypt_keepalive, send}
use Rattle.tunnel.specs.Decapsulate.{confirm_first_session, accept, commit_decapsulate, begin_decapsulate}
use Rattle.sessions.specs.Batch.{Batched}
use Rattle.sessions.specs.Session.{due_by}
use Rattle.sessions.specs.Sessions.{Held, put, inserting, insert, select, set_current, clear, emptied, expire}
use Rattle.tunnel.specs.declared.control.Control.{Control}
use Rattle.tunnel.specs.declared.control.Out.{Out}
use Rattle.tunnel.specs.declared.encapsulate.Encrypted.{Encrypted}
use Rattle.tunnel.specs.Timers.{clear_timers, tick_last_handshake_completed, tick_last_handshake_started, tick_last_packet_received, tick_last_packet_sent, tick_last_data_packet_received, tick_last_data_packet_sent, tick_persistent_keepalive, schedule_handshake, cancel_scheduled_handshake, consume_passive_keepalive, tick_response, tick_completed, tick_initiation, tick_accepted}
use Rattle.tunnel.specs.declared.timers.Timers.{Timers}
use Rattle.sessions.specs.declared.batch.Progress.{Progress}
use Rattle.sessions.specs.declared.session.Session.{Session}
use Rattle.sessions.specs.declared.sessions.Sessions.{Sessions}
use Rattle.tunnel.specs.Tunnel.{refused, let_through, timed, timeless}
use Rattle.tunnel.specs.declared.tunnel.Answered.{Answered}
use Rattle.tunnel.specs.declared.tunnel.Tunnel.{Tunnel}
use Rattle.tunnel.proofs.Steps.{of_expire}
use Rattle.tunnel.proofs.Wakings.{WakingKeeps, of_unsent, of_repeat}
use Rattle.tunnel.specs.HandleTimeout.{clear_all, expire_control, scheduling, queue_keepalive, passive_timers, keepalive_timers, send_keepalive, keepalive_if_due, send_scheduled, handle_due, handle_timeout}
use Rattle.tunnel.specs.Settle.{settle}
use Rattle.std.specs.Prelude.{Option, Result}
use Rattle.error.specs.declared.Error.{Error}

-- the persistent keepalive's setting, in timers, in a control and in what holds one
module _ (interval : Option ℕ) where
  abbrev pub OfTimers : Timers → Type 0
  OfTimers t = t.persistent_keepalive ≡ interval

  abbrev pub Set : Control → Type 0
  Set c = OfTimers c.timers

  abbrev SetOut : Out → Type 0
  SetOut out = Set out.control

  abbrev SetTurn : Turn → Type 0
  SetTurn turn = Set turn.out.control

  -- the initiation
  on_initiation : (t : Timers) (b : Bool) (now : ℕ) → OfTimers t → OfTimers (tick_initiation t b now)
  unfolding tick_initiation tick_last_packet_sent tick_last_handshake_started
  on_initiation t b now h = of_choice OfTimers b _ _ h h

  on_initiate : (c : Control) (now : ℕ) → Set c → Set (initiate c now).control
  unfolding initiate initiating
  on_initiate c now h = on_initiation c.timers _ now h

  pub on_restart : (c : Control) (now : ℕ) → Set c → SetOut (restart_handshake c now)
  unfolding restart_handshake done
  on_restart c now h = of_choice SetOut _ _ _ h (on_initiate c now h)

  pub on_start : (c : Control) (now : ℕ) → Set c → SetOut (start_handshake c now)
  unfolding start_handshake done
  on_start c now h = of_choice SetOut _ _ _ h (on_restart c now h)

  on_scheduled : (c : Control) (now : ℕ) → Set c → Set (send_scheduled c now)
  unfolding send_scheduled queueing cancel_scheduled_handshake
  on_scheduled c now h = on_initiate _ now h

  pub on_incoming : (c : Control) (store : List ℕ) (peer : ℕ) (outcome : Result Unit Error) (now : ℕ) → Set c → SetTurn (handle_handshake_initiation c store peer outcome now)
  unfolding handle_handshake_initiation respond responding refuse done tick_response tick_last_handshake_completed tick_last_packet_sent tick_last_packet_received
  on_incoming c store peer outcome now h = of_choice SetTurn _ _ _ h (known_results SetTurn _ _ _ (λ n. h) (λ x s e. h))

-- the index last allocated, in sessions
module _ (last : ℕ) where
  abbrev pub Last : Sessions → Type 0
  Last s = s.last_index ≡ last

  pub on_insert : (s : Sessions) (store : List ℕ) (x : Session) → Last s → Last (insert s store x).sessions
  unfolding insert inserting put
  on_insert s store x h = of_choice (λ (y : Held). Last y.sessions) _ _ _ h h

  on_current : (s : Sessions) (index : ℕ) → Last s → Last (set_current s index)
  unfolding set_current select
  on_current s index h = of_choice Last _ _ _ h (of_option Last _ _ _ h (λ x. of_option Last _ _ _ h (λ y. of_choice Last _ _ _ h h)))

  on_clear : (s : Sessions) (store : List ℕ) → Last s → Last (clear s store).sessions
  unfolding clear
  on_clear s store h = of_choice (λ (y : Held). Last y.sessions) _ _ _ h h

  on_expire : (s : Sessions) (store : List ℕ) (now : ℕ) → Last s → Last (expire s store now).expired.sessions
  unfolding emptied
  on_expire s store now h = of_expire Last (λ x slot v. v) (λ x v. v) s store now h

-- both, in a control and in what holds one
module _ (interval : Option ℕ) (last : ℕ) where
  abbrev pub Lasts : Control → Type 0
  Lasts c = Set interval c × Last last c.sessions

  abbrev LastsOut : Out → Type 0
  LastsOut out = Lasts out.control

  abbrev LastsTurn : Turn → Type 0
  LastsTurn turn = Lasts turn.out.control

  -- data sent
  on_grant : (c : Control) (s : Session) (count now : ℕ) → Lasts c → LastsOut (grant c s count now)
  unfolding grant finish_encapsulate begin_encapsulate done put tick_last_data_packet_sent tick_last_packet_sent
  on_grant c s count now h = of_pair LastsOut _ _ _ h (λ n x. h)

  pub on_send : (c : Control) (count now : ℕ) → Lasts c → LastsOut (send c count now)
  unfolding send refuse
  on_send c count now h = of_choice LastsOut _ _ _ h (of_option LastsOut _ _ _ h (λ s. on_grant c s count now h))

  on_keepalive : (c : Control) (now : ℕ) → Lasts c → Lasts (encrypt_keepalive c now).control
  unfolding encrypt_keepalive put tick_last_packet_sent
  on_keepalive c now h =
      of_option (λ (e : Encrypted). Lasts e.control) _ _ _ h (λ s. of_pair (λ (e : Encrypted). Lasts e.control) _ _ _ h (λ n x. h))

  -- data received
  on_confirm : (c : Control) (started now : ℕ) → Lasts c → Lasts (confirm_first_session c started now)
  unfolding confirm_first_session queueing
  on_confirm c started now h = of_choice Lasts _ _ _ h h

  on_accepted : (t : Timers) (b : Bool) (now : ℕ) → OfTimers interval t → OfTimers interval (tick_accepted t b now)
  unfolding tick_accepted tick_last_packet_received tick_last_data_packet_received
  on_accepted t b now h = of_choice (OfTimers interval) b _ _ h h

  on_accept : (c : Control) (x : Session) (p : Progress) (index now : ℕ) → Lasts c → Lasts (accept c x p index now)
  unfolding accept put
  on_accept c x p index now h =
      of_choice Lasts _ _ _ (on_confirm _ _ now (on_accepted c.timers _ now h.0, on_current last _ index h.1)) h

  pub on_receive : (c : Control) (store : List ℕ) (index id now : ℕ) (counters kinds verdicts skips : List ℕ) → Lasts c
      → LastsOut (commit_decapsulate c store index id now counters kinds verdicts skips).out
  unfolding commit_decapsulate refuse done
  on_receive c store index id now counters kinds verdicts skips h =
      of_choice (λ (b : Batched Out). LastsOut b.out) _ _ _ h (known_results LastsOut _ _ _ (λ n. h) (λ x p e. on_accept c x p index now h))

  pub on_look : (c : Control) (store : List ℕ) (index counter now : ℕ) → Lasts c → LastsOut (begin_decapsulate c store index counter now)
  unfolding begin_decapsulate refuse
  on_look c store index counter now h =
      of_choice LastsOut _ _ _ h (of_option LastsOut _ _ _ h (λ s. of_choice LastsOut _ _ _ h (of_result LastsOut _ _ _ (λ e. h) (λ good. h))))

  -- a response and a cookie reply
  on_establish : (c : Control) (local now : ℕ) → Lasts c → LastsOut (establish c local now)
  unfolding establish confirming refuse done tick_completed cancel_scheduled_handshake tick_last_handshake_completed tick_last_packet_received
  on_establish c local now h =
      let k : Lasts (encrypt_keepalive (confirming c local now) now).control =
      on_keepalive _ now (on_confirm _ _ now (h.0, on_current last c.sessions local h.1)) in
      of_pair LastsOut _ _ _ k (λ a b. k)

  pub on_response : (c : Control) (store : List ℕ) (receiver peer : ℕ) (outcome : Result Unit Error) (now : ℕ) → Lasts c
      → LastsTurn (handle_handshake_response c store receiver peer outcome now)
  unfolding handle_handshake_response complete refuse
  on_response c store receiver peer outcome now h =
      of_choice LastsTurn _ _ _ h
      (known_results LastsTurn _ _ _ (λ n. h) (λ x s e. on_establish _ receiver now (h.0, on_insert last c.sessions store s h.1)))

  pub on_cookie : (c : Control) (receiver : ℕ) (outcome : Result Unit Error) (now : ℕ) → Lasts c → LastsOut (handle_cookie_reply c receiver outcome now)
  unfolding handle_cookie_reply refuse done
  on_cookie c receiver outcome now h = of_choice LastsOut _ _ _ h (known_result LastsOut _ _ _ (λ n. h) (λ x e. h))

  -- the waking, save where it sends a scheduled handshake
  on_expired : (c : Control) (store : List ℕ) (now : ℕ) → Lasts c → Lasts (expire_control c store now).control
  unfolding expire_control clear_all queueing clear_timers
  on_expired c store now h = (h.0, on_clear last c.sessions store h.1)

  on_queue_keepalive : (c : Control) (now : ℕ) → Lasts c → Lasts (queue_keepalive c now)
  unfolding queue_keepalive queueing
  on_queue_keepalive c now h = of_pair Lasts _ _ _ (on_keepalive c now h) (λ a b. on_keepalive c now h)

  on_passive : (c : Control) (now : ℕ) → Lasts c → Lasts (with_timers c (passive_timers c now))
  unfolding passive_timers consume_passive_keepalive
  on_passive c now h = of_choice (λ (t : Timers). Lasts (with_timers c t)) _ _ _ h h

  on_keepalives : (c : Control) (now : ℕ) → Lasts c → Lasts (keepalive_if_due c now)
  unfolding keepalive_if_due send_keepalive keepalive_timers tick_persistent_keepalive
  on_keepalives c now h =
      of_choice Lasts _ _ _
      (on_queue_keepalive _ now (of_choice (λ (t : Timers). Lasts (with_timers c t)) _ _ _ (on_passive c now h) (on_passive c now h)))
      h

  waking_keeps : (jitter now : ℕ) → WakingKeeps (λ (c : Control) (store : List ℕ). Lasts c) jitter now
  unfolding scheduling schedule_handshake
  waking_keeps jitter now =
      record {
        schedules = λ c store h. h;
        keeps_alive = λ c store h. on_keepalives c now h;
        drops = λ c store h. h;
        ends = λ c store h. on_expired c store now h;
        expires = λ c store h. (h.0, on_expire last c.sessions store now h.1);
      }

  pub on_unsent : (c : Control) (store : List ℕ) (jitter now : ℕ) → Lasts c → due_by (scheduled_handshake c) now ≡ false
      → Lasts (handle_due c store jitter now).control
  on_unsent c store jitter now h n = of_unsent (λ (x : Control) (left : List ℕ). Lasts x) jitter now (waking_keeps jitter now) c store h n

  -- the missing report
  pub on_missing : (c : Control) (store : List ℕ) (index : ℕ) → Lasts c → LastsOut (missing_report c store index)
  unfolding missing_report refuse
  on_missing c store index h = of_result LastsOut _ _ _ (λ n. h) (λ n. h)

-- the waking keeps the setting
module _ (interval : Option ℕ) (c : Control) (store : List ℕ) (jitter now : ℕ) (h : Set interval c) where
  on_due : (b : Bool) → due_by (scheduled_handshake c) now ≡ b → Set interval (handle_due c store jitter now).control
  unfolding handle_due choose
  on_due true e = rw e (on_scheduled interval c now h)
  on_due false e = (on_unsent interval c.sessions.last_index c store jitter now (h, refl) e).0

  pub on_timeout : SetTurn interval (handle_timeout c store jitter now)
  unfolding handle_timeout done
  on_timeout = of_choice (SetTurn interval) _ _ _ h (on_due (due_by (scheduled_handshake c) now) refl)

pub on_settle : (interval : Option ℕ) (c : Control) (store : List ℕ) (jitter now : ℕ) → Set interval c → SetTurn interval (settle c store jitter now)
unfolding settle
on_settle interval c store jitter now h =
    of_repeat (λ (x : Control) (words : List ℕ). Set interval x) jitter now (λ x words. on_timeout interval x words jitter now) _ c store h

-- the frames: what holds of the control before a call and of what its operation hands back holds of the control after it
module _ (P : Control → Type 0) (t : Tunnel) (h : P t.control) where
  pub on_timed : (bad : Bool) (now : ℕ) (out : Out) → P out.control → P (timed t bad now out).tunnel.control
  unfolding timed let_through refused
  on_timed bad now out k = of_result (λ (a : Answered). P a.tunnel.control) _ _ _ (λ error. h) (λ passed. k)

  pub on_timeless : (bad : Bool) (out : Out) → P out.control → P (timeless t bad out).tunnel.control
  unfolding timeless let_through refused
  on_timeless bad out k = of_result (λ (a : Answered). P a.tunnel.control) _ _ _ (λ error. h) (λ passed. k)
