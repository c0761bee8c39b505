-- Three wakings at one time are enough: what a waking leaves due at its own time.
-- Assumes nothing.
use mathlib.Core.Path.{◌≡◌, refl, ap, sym, ◌∙◌}
use mathlib.Core.Bool.{Bool, true, false, true≢false}
use mathlib.Core.List.{List}
use Prim.Native.Nat.{ℕ, zero, suc, ◌+◌, ◌*◌, ◌≤◌, ◌<◌}
use native.Mathlib.Omega.{arith}
use lib.ListN.{length}
use borrow.Author.Tests.{lt-leb}
use Rattle.base.proofs.Choice.{of_choice, known_choice, of_option, of_pair}
use Rattle.base.specs.Choice.{choose, case_option}
use Rattle.sessions.specs.Cases.{case_role}
use Rattle.sessions.specs.Session.{due_by, rekey_timeout}
use Rattle.sessions.specs.Sessions.{expire, next_index, current_of}
use Rattle.sessions.specs.declared.session.Role.TheVariants.{Initiator, Responder}
use Rattle.sessions.specs.declared.session.Role.{Role}
use Rattle.sessions.specs.declared.session.Session.{Session}
use Rattle.tunnel.proofs.Expired.{waits_both, first_same, expired_waits}
use Rattle.tunnel.proofs.Stores.{wake_whole}
use Rattle.tunnel.specs.Cases.{case_state}
use Rattle.tunnel.specs.Control.{with_handshake, with_sessions, expired_control, queueing}
use Rattle.tunnel.specs.Encapsulate.{encrypt_keepalive}
use Rattle.tunnel.specs.HandleTimeout.{Inner, inner, clear_all, expire_control, scheduling, queue_keepalive, keepalive_due, passive_timers, keepalive_timers, send_keepalive, keepalive_if_due, rekey_due, rekey_or_keepalive, give_up_or_retry, maintain_connection, is_replaced, expire_sessions, send_scheduled, handle_due, handle_timeout}
use Rattle.tunnel.specs.Handshake.{is_in_progress, in_flight_initiation, is_expired, set_expired, cookie_expiration, clear_cookie, expire_cookie, append_mac1_and_mac2, initiate_handshake}
use Rattle.tunnel.specs.InitiateHandshake.{initiating, initiate}
use Rattle.tunnel.specs.PollTimeout.{scheduled_handshake, earliest_expiry, cookie_deadline, reject_deadline, attempt_deadline, handshake_rekey_timeout, passive_deadline, persistent_deadline, current_persistent_deadline, common_deadline, rekey_deadline, keepalive_deadline, unscheduled_deadline, next_deadline}
use Rattle.tunnel.specs.Settle.{waking_due, repeat_waking}
use Rattle.tunnel.specs.Timers.{IntervalWithin, reject_after_time_of, rekey_attempt_deadline, keepalive_after_time_without_send, next_persistent_keepalive, tick_last_handshake_started, tick_last_packet_sent, tick_persistent_keepalive, rekey_timeout_of, schedule_handshake, cancel_scheduled_handshake, consume_passive_keepalive, tick_initiation}
use Rattle.tunnel.specs.declared.control.Control.{Control}
use Rattle.tunnel.specs.declared.encapsulate.Encrypted.{Encrypted}
use Rattle.tunnel.specs.declared.handshake.Handshake.{Handshake}
use Rattle.tunnel.specs.declared.handshake.HandshakeState.TheVariants.{None as NoHandshake, InitSent}
use Rattle.tunnel.specs.declared.handshake.HandshakeState as states
use Rattle.tunnel.specs.declared.handshake.HandshakeState.{HandshakeState}
use Rattle.tunnel.specs.declared.timers.Timers.{Timers}
use Rattle.std.specs.Prelude.{None, Option, Some}

-- both tests of an alternative fail
of_none : (a b : Bool) → choose a true b ≡ false → (a ≡ false) × (b ≡ false)
unfolding choose
of_none true b e = absurd (true≢false e)
of_none false b e = (refl, e)

-- an initiation that awaits a response has a deadline for its retry
retry_of : (state : HandshakeState) → case_state state false (λ local sent. true) false ≡ true
    → rekey_timeout_of (case_state state None (λ local sent. Some sent) None) ≡ None → ⊥
unfolding case_state rekey_timeout_of case_option
retry_of NoHandshake p e = true≢false (sym p)
retry_of (InitSent local sent) p e = let z : ◌≡◌ {A = ℕ} 0 1 = cc in omega arith
retry_of states.TheVariants.Expired p e = true≢false (sym p)

module _ (jitter now : ℕ) where
  -- nothing is due
  abbrev Rests : Control → Type 0
  Rests c = waking_due c now ≡ false

  rests_ended : (c : Control) → expired_control c ≡ true → Rests c
  unfolding waking_due choose
  rests_ended c e = rw e refl

  rests_by : (c : Control) → due_by (next_deadline c) now ≡ false → Rests c
  unfolding waking_due
  rests_by c p = of_choice (λ (b : Bool). b ≡ false) _ _ _ refl p

  -- the deadlines that count at all times have not come
  record Clean (c : Control) : Type 0 where
    expiry : due_by (earliest_expiry c) now ≡ false
    cookie : due_by (cookie_deadline c) now ≡ false
    reject : due_by (reject_deadline c) now ≡ false

  common_waits : (c : Control) → Clean c → due_by (common_deadline c) now ≡ false
  unfolding common_deadline
  common_waits c k = waits_both _ _ now (waits_both _ _ now k.expiry k.cookie) k.reject

  -- no handshake is scheduled, and an initiation awaits a response whose deadlines have not come
  rests_progress : (c : Control) (retry : ℕ) → scheduled_handshake c ≡ None → Clean c → handshake_rekey_timeout c ≡ Some retry
      → due_by (Some retry) now ≡ false → due_by (attempt_deadline c) now ≡ false → Rests c
  unfolding next_deadline unscheduled_deadline case_option
  rests_progress c retry s k e r a = rests_by c (rw (s, e) (waits_both _ _ now (common_waits c k) (waits_both _ _ now r a)))

  -- none awaits one, and neither a handshake nor a keepalive is due
  rekey_waits : (c : Control) → rekey_due c now ≡ false → due_by (rekey_deadline c) now ≡ false
  unfolding rekey_due rekey_deadline
  rekey_waits c p =
      let a = of_none _ _ p in
      let b = of_none _ _ a.1 in
      let d = of_none _ _ b.1 in
      waits_both _ _ now (waits_both _ _ now a.0 b.0) (waits_both _ _ now d.0 d.1)

  keepalive_waits : (c : Control) → keepalive_due c now ≡ false → due_by (keepalive_deadline c) now ≡ false
  unfolding keepalive_due keepalive_deadline current_persistent_deadline due_by case_option
  keepalive_waits c p =
      let a = of_none _ _ p in
      waits_both _ _ now a.0 (of_option (λ (t : Option ℕ). due_by t now ≡ false) (current_of c.sessions) _ _ refl (λ session. a.1))

  rests_idle : (c : Control) → scheduled_handshake c ≡ None → Clean c → handshake_rekey_timeout c ≡ None → rekey_due c now ≡ false
      → keepalive_due c now ≡ false → Rests c
  unfolding next_deadline unscheduled_deadline case_option
  rests_idle c s k e r a =
      rests_by c (rw (s, e) (waits_both _ _ now (common_waits c k) (waits_both _ _ now (rekey_waits c r) (keepalive_waits c a))))

  -- after so many wakings nothing is due
  abbrev AtMost : ℕ → Control → List ℕ → Type 0
  AtMost n c store = Rests (repeat_waking n c store jitter now).control

  rests_most : (n : ℕ) (c : Control) (store : List ℕ) → Rests c → AtMost n c store
  unfolding repeat_waking choose
  rests_most zero c store r = r
  rests_most (suc n) c store r = rw r r

  pub living : (c : Control) → waking_due c now ≡ true → expired_control c ≡ false
  unfolding waking_due
  living c = known_choice (λ (b : Bool). b ≡ true → expired_control c ≡ false) (expired_control c) _ _ (λ e p. absurd (true≢false (sym p))) (λ e p. e)

  abbrev MostAfter : ℕ → Inner → Type 0
  MostAfter n y = AtMost n y.control y.store

  one_more : (n : ℕ) (c : Control) (store : List ℕ) → MostAfter n (handle_due c store jitter now) → AtMost (suc n) c store
  unfolding repeat_waking handle_timeout choose
  one_more n c store p = go (waking_due c now) refl
    where
      go : (d : Bool) → waking_due c now ≡ d → AtMost (suc n) c store
      go true e = rw (e, living c e) p
      go false e = rw e e

  -- timers in which neither keepalive is due, with this scheduled handshake and this setting
  record Kept (scheduled : Option ℕ) (interval : Option ℕ) (t : Timers) : Type 0 where
    passive : due_by (keepalive_after_time_without_send t) now ≡ false
    persistent : due_by (next_persistent_keepalive t) now ≡ false
    scheduled_is : t.send_handshake_at ≡ scheduled
    interval_is : t.persistent_keepalive ≡ interval

  never_due : due_by None now ≡ false
  unfolding due_by case_option
  never_due = refl

  above_waits : (a : ℕ) → now < a → due_by (Some a) now ≡ false
  unfolding due_by case_option
  above_waits a l = lt-leb a now l

  -- the persistent keepalive ticked
  ticked_waits : (i : Option ℕ) → IntervalWithin i → due_by (case_option i None (λ seconds. Some (now + seconds * 1000000000))) now ≡ false
  unfolding case_option
  ticked_waits None w = never_due
  ticked_waits (Some seconds) w = above_waits _ (let l : 1 ≤ seconds = w.least seconds refl in omega arith)

  module _ (c : Control) (w : IntervalWithin c.timers.persistent_keepalive) where
    abbrev KeptHere : Timers → Type 0
    KeptHere = Kept (scheduled_handshake c) c.timers.persistent_keepalive

    -- the timers with the passive keepalive's deadline dropped if it has come
    record Passed (t : Timers) : Type 0 where
      passive : due_by (keepalive_after_time_without_send t) now ≡ false
      same : next_persistent_keepalive t ≡ persistent_deadline c
      scheduled_is : t.send_handshake_at ≡ scheduled_handshake c
      interval_is : t.persistent_keepalive ≡ c.timers.persistent_keepalive

    passed : Passed (passive_timers c now)
    unfolding passive_timers passive_deadline persistent_deadline keepalive_after_time_without_send next_persistent_keepalive consume_passive_keepalive scheduled_handshake case_option
    passed =
        known_choice Passed (due_by (passive_deadline c) now) _ _ (λ d. record { passive = never_due; same = refl; scheduled_is = refl; interval_is = refl })
        (λ d. record { passive = d; same = refl; scheduled_is = refl; interval_is = refl })

    after_passed : (t : Timers) → Passed t → KeptHere (choose (due_by (persistent_deadline c) now) (tick_persistent_keepalive t now) t)
    unfolding tick_persistent_keepalive keepalive_after_time_without_send next_persistent_keepalive
    after_passed t p =
        known_choice KeptHere (due_by (persistent_deadline c) now) _ _
        (λ d. record {
          passive = p.passive;
          persistent = rw p.interval_is (ticked_waits _ w);
          scheduled_is = p.scheduled_is;
          interval_is = p.interval_is;
        })
        (λ d. record { passive = p.passive; persistent = ap (λ (x : Option ℕ). due_by x now) p.same ∙ d; scheduled_is = p.scheduled_is; interval_is = p.interval_is })

    ticked : KeptHere (keepalive_timers c now)
    unfolding keepalive_timers
    ticked = after_passed (passive_timers c now) passed

    sent : (t : Timers) → KeptHere t → KeptHere (tick_last_packet_sent t now)
    unfolding tick_last_packet_sent keepalive_after_time_without_send next_persistent_keepalive case_option
    sent t k = record { passive = never_due; persistent = k.persistent; scheduled_is = k.scheduled_is; interval_is = k.interval_is }

    encrypted : (d : Control) → KeptHere d.timers → KeptHere (encrypt_keepalive d now).control.timers
    unfolding encrypt_keepalive
    encrypted d k =
        of_option (λ (e : Encrypted). KeptHere e.control.timers) _ _ _ k
        (λ s. of_pair (λ (e : Encrypted). KeptHere e.control.timers) _ _ _ k (λ n x. sent d.timers k))

    -- a keepalive that was sent is not due again
    kept : KeptHere (send_keepalive c now).timers
    unfolding send_keepalive queue_keepalive queueing
    kept = of_pair (λ (y : Control). KeptHere y.timers) _ _ _ (encrypted _ ticked) (λ a b. encrypted _ ticked)

  undue : (c : Control) (scheduled : Option ℕ) (i : Option ℕ) → Kept scheduled i c.timers → keepalive_due c now ≡ false
  unfolding keepalive_due passive_deadline persistent_deadline choose
  undue c scheduled i k = rw k.passive k.persistent

  -- an initiation was sent at this time
  abbrev Fresh : Handshake → Type 0
  Fresh h = (local : ℕ) × (h.state ≡ InitSent local now)

  fresh_retry : (h : Handshake) → Fresh h → rekey_timeout_of (in_flight_initiation h) ≡ Some (now + rekey_timeout)
  unfolding in_flight_initiation case_state rekey_timeout_of case_option
  fresh_retry h f = rw f.1 refl

  fresh_deadline : (d : Control) → Fresh d.handshake → handshake_rekey_timeout d ≡ Some (now + rekey_timeout)
  unfolding handshake_rekey_timeout
  fresh_deadline d f = fresh_retry d.handshake f

  fresh_waits : (d : Control) → Fresh d.handshake → due_by (handshake_rekey_timeout d) now ≡ false
  fresh_waits d f = rw (fresh_deadline d f) (above_waits (now + rekey_timeout) (omega arith))

  never_at : (at : ℕ) → None ≡ Some at → ⊥
  never_at at e = let z : ◌≡◌ {A = ℕ} 0 1 = cc in omega arith

  -- the scheduled handshake sent
  record Begun (t u : Timers) (was : Bool) : Type 0 where
    scheduled_is : u.send_handshake_at ≡ t.send_handshake_at
    completed_is : u.time_last_handshake_completed ≡ t.time_last_handshake_completed
    interval_is : u.persistent_keepalive ≡ t.persistent_keepalive
    started : (was ≡ true → due_by (rekey_attempt_deadline t) now ≡ false) → due_by (rekey_attempt_deadline u) now ≡ false

  begun : (t : Timers) (was : Bool) → Begun t (tick_initiation t was now) was
  unfolding tick_initiation tick_last_packet_sent tick_last_handshake_started rekey_attempt_deadline
  begun t was =
      known_choice (λ (u : Timers). Begun t u was) was _ _
      (λ y. record { scheduled_is = refl; completed_is = refl; interval_is = refl; started = λ a. a y })
      (λ y. record { scheduled_is = refl; completed_is = refl; interval_is = refl; started = λ a. above_waits _ (omega arith) })

  module _ (c : Control) where
    abbrev cancelled : Timers
    cancelled = cancel_scheduled_handshake c.timers

    initiation : Begun cancelled (tick_initiation cancelled (is_in_progress c.handshake) now) (is_in_progress c.handshake)
    initiation = begun cancelled (is_in_progress c.handshake)

    sent_fresh : Fresh (send_scheduled c now).handshake
    unfolding send_scheduled queueing initiate initiating initiate_handshake append_mac1_and_mac2
    sent_fresh = (_, refl)

    sent_unscheduled : scheduled_handshake (send_scheduled c now) ≡ None
    unfolding send_scheduled queueing initiate initiating scheduled_handshake cancel_scheduled_handshake
    sent_unscheduled = initiation.scheduled_is

    sent_interval : (send_scheduled c now).timers.persistent_keepalive ≡ c.timers.persistent_keepalive
    unfolding send_scheduled queueing initiate initiating cancel_scheduled_handshake
    sent_interval = initiation.interval_is

    sent_clean : Clean c → Clean (send_scheduled c now)
    unfolding send_scheduled queueing initiate initiating initiate_handshake append_mac1_and_mac2 earliest_expiry cookie_deadline cookie_expiration reject_deadline reject_after_time_of cancel_scheduled_handshake next_index
    sent_clean k =
        record {
          expiry = ap (λ (x : Option ℕ). due_by x now) (first_same now _ c.sessions 8 refl) ∙ k.expiry;
          cookie = k.cookie;
          reject = rw initiation.completed_is k.reject;
        }

    sent_attempt : (is_in_progress c.handshake ≡ true → due_by (attempt_deadline c) now ≡ false) → due_by (attempt_deadline (send_scheduled c now)) now ≡ false
    unfolding send_scheduled queueing initiate initiating attempt_deadline rekey_attempt_deadline cancel_scheduled_handshake
    sent_attempt a = initiation.started a

    sent_rests : Clean c → (is_in_progress c.handshake ≡ true → due_by (attempt_deadline c) now ≡ false) → Rests (send_scheduled c now)
    unfolding handshake_rekey_timeout
    sent_rests k a =
        rests_progress (send_scheduled c now) (now + rekey_timeout) sent_unscheduled (sent_clean k) (fresh_retry _ sent_fresh) (above_waits _ (omega arith)) (sent_attempt a)

  -- a handshake scheduled for this time or later, while nothing else is due
  scheduled_rests : (c : Control) (at : ℕ) → scheduled_handshake c ≡ Some at → due_by (Some at) now ≡ false → Rests c
  unfolding next_deadline case_option
  scheduled_rests c at e p = rests_by c (rw e p)

  -- a waking, by the scheduled handshake
  module _ (Q : Inner → Type 0) (c : Control) (store : List ℕ) where
    of_scheduled : (at : ℕ) → scheduled_handshake c ≡ Some at → Q (inner (send_scheduled c now) store) → (due_by (Some at) now ≡ false → Q (inner c store))
        → Q (handle_due c store jitter now)
    unfolding handle_due case_option
    of_scheduled at e p q = known_choice Q (due_by (scheduled_handshake c) now) _ _ (λ d. p) (λ d. rw e (q (rw e at d)))

    of_unscheduled : scheduled_handshake c ≡ None → Q (expire_sessions c store jitter now) → Q (handle_due c store jitter now)
    unfolding handle_due case_option due_by choose
    of_unscheduled e p = rw e p

  scheduled_most : (n : ℕ) (c : Control) (store : List ℕ) (at : ℕ) → scheduled_handshake c ≡ Some at → Clean c
      → (is_in_progress c.handshake ≡ true → due_by (attempt_deadline c) now ≡ false) → AtMost (suc n) c store
  scheduled_most n c store at e k a =
      one_more n c store
      (of_scheduled (MostAfter n) c store at e (rests_most n _ store (sent_rests c k a)) (λ d. rests_most n c store (scheduled_rests c at e d)))

  -- what a waking of an unscheduled control leaves: nothing is due; or a handshake is scheduled, where no initiation of this time awaits its response;
  -- or a keepalive was sent that was due
  data Left (c d : Control) : Type 0 where
    rests : Rests d → Left c d
    schedules : (Fresh c.handshake → ⊥) → (at : ℕ) → scheduled_handshake d ≡ Some at → Clean d
        → (is_in_progress d.handshake ≡ true → due_by (attempt_deadline d) now ≡ false) → Left c d
    keeps : (Fresh c.handshake → ⊥) → keepalive_due c now ≡ true → Kept None c.timers.persistent_keepalive d.timers → Left c d

  abbrev LeftInner : Control → Inner → Type 0
  LeftInner c y = Left c y.control

  ended : (c : Control) (store : List ℕ) → Rests (expire_control c store now).control
  unfolding expire_control clear_all queueing set_expired expired_control is_expired case_state
  ended c store = rests_ended _ refl

  -- the connection maintained, after the sessions expired: the timers and the handshake's state are still those of `c`
  module _ (c : Control) (unscheduled : scheduled_handshake c ≡ None) (w : IntervalWithin c.timers.persistent_keepalive) where
    record Same (d : Control) : Type 0 where
      timers : d.timers ≡ c.timers
      state : d.handshake.state ≡ c.handshake.state
      clean : Clean d

    module _ (d : Control) (m : Same d) where
      its_schedule : scheduled_handshake d ≡ None
      unfolding scheduled_handshake
      its_schedule = ap (λ (t : Timers). t.send_handshake_at) m.timers ∙ unscheduled

      its_fresh : Fresh c.handshake → Fresh d.handshake
      its_fresh f = (f.0, m.state ∙ f.1)

      -- a handshake scheduled
      schedule : (Fresh c.handshake → ⊥) → (is_in_progress d.handshake ≡ true → due_by (attempt_deadline d) now ≡ false) → Left c (scheduling d jitter now)
      unfolding scheduling scheduled_handshake schedule_handshake attempt_deadline rekey_attempt_deadline earliest_expiry cookie_deadline reject_deadline reject_after_time_of
      schedule f a =
          schedules f (now + jitter) refl (record { expiry = m.clean.expiry; cookie = m.clean.cookie; reject = m.clean.reject }) a

      -- no initiation awaits a response
      module _ (retry : handshake_rekey_timeout d ≡ None) where
        not_fresh : Fresh c.handshake → ⊥
        not_fresh f = never_at _ (sym retry ∙ fresh_deadline d (its_fresh f))

        not_progress : is_in_progress d.handshake ≡ true → ⊥
        unfolding handshake_rekey_timeout is_in_progress in_flight_initiation
        not_progress p = retry_of d.handshake.state p retry

        schedule_idle : Left c (scheduling d jitter now)
        schedule_idle = schedule not_fresh (λ p. absurd (not_progress p))

        keepalive_same : keepalive_due d now ≡ keepalive_due c now
        unfolding keepalive_due passive_deadline persistent_deadline
        keepalive_same = rw m.timers refl

        keepalives : rekey_due d now ≡ false → Left c (keepalive_if_due d now)
        unfolding keepalive_if_due
        keepalives r =
            known_choice (Left c) (keepalive_due d now) _ _ (λ k. keeps not_fresh (sym keepalive_same ∙ k) sent_kept)
            (λ k. rests (rests_idle d its_schedule m.clean retry r k))
          where
            within : IntervalWithin d.timers.persistent_keepalive
            within = rw m.timers w

            sent_kept : Kept None c.timers.persistent_keepalive (send_keepalive d now).timers
            sent_kept =
                let k = kept d within in
                record {
                  passive = k.passive;
                  persistent = k.persistent;
                  scheduled_is = k.scheduled_is ∙ its_schedule;
                  interval_is = k.interval_is ∙ ap (λ (t : Timers). t.persistent_keepalive) m.timers;
                }

        idle : (required : Bool) → Left c (rekey_or_keepalive d required jitter now)
        unfolding rekey_or_keepalive
        idle required =
            of_choice (Left c) _ _ _ schedule_idle (known_choice (Left c) (rekey_due d now) _ _ (λ r. schedule_idle) (λ r. keepalives r))

      -- an initiation awaits one
      progress : (store : List ℕ) (retry : ℕ) (required : Bool) → handshake_rekey_timeout d ≡ Some retry → (required ≡ true → Fresh c.handshake → ⊥)
          → LeftInner c (give_up_or_retry d store required jitter now)
      unfolding give_up_or_retry
      progress store retry required e f =
          known_choice (LeftInner c) (due_by (attempt_deadline d) now) _ _ (λ a. rests (ended d store))
          (λ a. known_choice (LeftInner c) (due_by (handshake_rekey_timeout d) now) _ _ (λ r. schedule (late r) (λ p. a))
          (λ r. known_choice (LeftInner c) required _ _ (λ q. schedule (f q) (λ p. a))
          (λ q. rests (rests_progress d retry its_schedule m.clean e (ap (λ (x : Option ℕ). due_by x now) (sym e) ∙ r) a))))
        where
          late : due_by (handshake_rekey_timeout d) now ≡ true → Fresh c.handshake → ⊥
          late r x = true≢false (sym r ∙ fresh_waits d (its_fresh x))

      -- either
      of_retry : (store : List ℕ) (required : Bool) (retry : Option ℕ) → handshake_rekey_timeout d ≡ retry → (required ≡ true → Fresh c.handshake → ⊥)
          → LeftInner c (case_option retry (inner (rekey_or_keepalive d required jitter now) store) (λ at. give_up_or_retry d store required jitter now))
      unfolding case_option
      of_retry store required None e f = idle e required
      of_retry store required (Some at) e f = progress store at required e f

    -- a control whose sessions have expired, and then its cookie
    record Aged (d : Control) : Type 0 where
      timers : d.timers ≡ c.timers
      state : d.handshake.state ≡ c.handshake.state
      expiry : due_by (earliest_expiry d) now ≡ false

    dropped : (d : Control) → Aged d → (h : Handshake) → h.state ≡ d.handshake.state → due_by (cookie_expiration h) now ≡ false
        → due_by (reject_deadline (with_handshake d h)) now ≡ false → Same (with_handshake d h)
    unfolding earliest_expiry cookie_deadline
    dropped d x h e k r =
        record { timers = x.timers; state = e ∙ x.state; clean = record { expiry = x.expiry; cookie = k; reject = r } }

    cookie_state : (h : Handshake) → (expire_cookie h now).state ≡ h.state
    unfolding expire_cookie clear_cookie
    cookie_state h = of_choice (λ (x : Handshake). x.state ≡ h.state) _ _ _ refl refl

    cookie_waits : (h : Handshake) → due_by (cookie_expiration (expire_cookie h now)) now ≡ false
    unfolding expire_cookie clear_cookie cookie_expiration case_option
    cookie_waits h = known_choice (λ (x : Handshake). due_by (cookie_expiration x) now ≡ false) (due_by (cookie_expiration h) now) _ _ (λ p. never_due) (λ p. p)

    maintained : (d : Control) (store : List ℕ) (required : Bool) → Aged d → (required ≡ true → Fresh c.handshake → ⊥)
        → LeftInner c (maintain_connection d store required jitter now)
    unfolding maintain_connection
    maintained d store required x f =
        known_choice (LeftInner c) (due_by (reject_deadline (with_handshake d (expire_cookie d.handshake now))) now) _ _ (λ r. rests (ended _ store))
        (λ r. of_retry (with_handshake d (expire_cookie d.handshake now))
        (dropped d x (expire_cookie d.handshake now) (cookie_state d.handshake) (cookie_waits d.handshake) r) store required _ refl f)

    -- the sessions expired
    replaced : (role : Role) (progress : Bool) → case_role role (choose progress false true) false ≡ true → progress ≡ false
    unfolding case_role choose
    replaced Initiator true e = absurd (true≢false (sym e))
    replaced Initiator false e = refl
    replaced Responder progress e = absurd (true≢false (sym e))

    fresh_progress : (h : Handshake) → Fresh h → is_in_progress h ≡ true
    unfolding is_in_progress case_state
    fresh_progress h f = rw f.1 refl

    unreplaced : (d : Control) (session : Session) → d.handshake ≡ c.handshake → is_replaced d session ≡ true → Fresh c.handshake → ⊥
    unfolding is_replaced
    unreplaced d session e p f =
        true≢false (sym (fresh_progress d.handshake (rw e f)) ∙ replaced session.role (is_in_progress d.handshake) p)

    waked : (store : List ℕ) → length store ≡ 1024 → LeftInner c (expire_sessions c store jitter now)
    unfolding expire_sessions earliest_expiry
    waked store long =
        let d : Control = with_sessions c (expire c.sessions store now).expired.sessions in
        let x : Aged d = record { timers = refl; state = refl; expiry = expired_waits now c.sessions store long } in
        of_option (LeftInner c) _ _ _ (maintained d _ false x (λ e. absurd (true≢false (sym e))))
        (λ session. of_choice (LeftInner c) _ _ _ (rests (ended d _)) (maintained d _ _ x (λ e. unreplaced d session refl e)))

  -- three are enough
  module _ (c : Control) (store : List ℕ) (long : length store ≡ 1024) (w : IntervalWithin c.timers.persistent_keepalive) where
    -- one, for a control whose initiation was sent at this time
    fresh_most : scheduled_handshake c ≡ None → Fresh c.handshake → AtMost 2 c store
    fresh_most e f = one_more 1 c store (of_unscheduled (MostAfter 1) c store e (go _ (waked c e w store long)))
      where
        go : (y : Inner) → LeftInner c y → MostAfter 1 y
        go y (rests r) = rests_most 1 y.control y.store r
        go y (schedules n at p k a) = absurd (n f)
        go y (keeps n d k) = absurd (n f)

    -- two, where no keepalive is due
    unkept_most : scheduled_handshake c ≡ None → keepalive_due c now ≡ false → AtMost 2 c store
    unkept_most e d = one_more 1 c store (of_unscheduled (MostAfter 1) c store e (go _ (waked c e w store long)))
      where
        go : (y : Inner) → LeftInner c y → MostAfter 1 y
        go y (rests r) = rests_most 1 y.control y.store r
        go y (schedules n at p k a) = scheduled_most 0 y.control y.store at p k a
        go y (keeps n k l) = absurd (true≢false (sym k ∙ d))

  its_store : (c : Control) (store : List ℕ) → length store ≡ 1024 → scheduled_handshake c ≡ None → length (expire_sessions c store jitter now).store ≡ 1024
  unfolding handle_due case_option due_by choose
  its_store c store long e = let l : length (handle_due c store jitter now).store ≡ 1024 = wake_whole c store jitter now long in rw e at l

  kept_unscheduled : (d : Control) (i : Option ℕ) → Kept None i d.timers → scheduled_handshake d ≡ None
  unfolding scheduled_handshake
  kept_unscheduled d i k = k.scheduled_is

  pub three_most : (c : Control) (store : List ℕ) → length store ≡ 1024 → IntervalWithin c.timers.persistent_keepalive → AtMost 3 c store
  three_most c store long w = go (scheduled_handshake c) refl
    where
      left : (y : Inner) → length y.store ≡ 1024 → LeftInner c y → MostAfter 2 y
      left y l (rests r) = rests_most 2 y.control y.store r
      left y l (schedules n at p k a) = scheduled_most 1 y.control y.store at p k a
      left y l (keeps n d k) =
          unkept_most y.control y.store l (rw k.interval_is w) (kept_unscheduled y.control _ k) (undue y.control None _ k)

      go : (at : Option ℕ) → scheduled_handshake c ≡ at → AtMost 3 c store
      go None e = one_more 2 c store (of_unscheduled (MostAfter 2) c store e (left _ (its_store c store long e) (waked c e w store long)))
      go (Some at) e =
          one_more 2 c store
          (of_scheduled (MostAfter 2) c store at e
          (fresh_most (send_scheduled c now) store long (rw (sent_interval c) w) (sent_unscheduled c) (sent_fresh c))
          (λ d. rests_most 2 c store (scheduled_rests c at e d)))
