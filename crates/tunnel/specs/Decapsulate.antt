-- Data and keepalives received, after `commit_decapsulate`, `confirm_first_session` and `begin_decapsulate` of src/tunnel.rs.
use Rattle.std.specs.Prelude.{true, false, List, ℕ, Result, Ok}
use Rattle.base.specs.Choice.{choose, case_option, case_result, case_results}
use Rattle.tunnel.specs.Control.{with_sessions, with_timers, with_established, out_of, refuse, done, expired_control, queueing}
use Rattle.tunnel.specs.declared.answer.Answer.TheVariants.{Done}
use Rattle.tunnel.specs.declared.control.Control.{Control}
use Rattle.tunnel.specs.declared.control.Out.{Out}
use Rattle.tunnel.specs.Timers.{tick_accepted}
use Rattle.tunnel.specs.declared.event.Event.TheVariants.{Established}
use Rattle.sessions.specs.Batch.{Batched, untouched, receive}
use Rattle.sessions.specs.Session.{expired_at, will_receive}
use Rattle.sessions.specs.Sessions.{in_slot_of, set_current, put}
use Rattle.sessions.specs.declared.batch.Progress.{Progress}
use Rattle.sessions.specs.declared.session.Session.{Session}
use Rattle.sessions.specs.declared.sessions.Sessions.{Sessions}
use Rattle.error.specs.declared.Error.TheVariants.{ConnectionExpired, NoCurrentSession}
use Rattle.error.specs.declared.Error.{Error}

-- the event of the first session's confirmation queued
unfoldable pub confirm_first_session : Control → (started now : ℕ) → Control
confirm_first_session c started now = choose c.established c (with_established (queueing c (Established started now)) true)

-- the session of a judged batch stored; an accepted message selects it, ticks the timers and confirms the first session
unfoldable pub accept : Control → Session → Progress → (index now : ℕ) → Control
accept c session progress index now =
    let stored : Sessions = put c.sessions session in
    choose progress.accepted
    (confirm_first_session
    (with_timers (with_sessions c (set_current stored index)) (tick_accepted c.timers progress.«data» now))
    session.established_at
    now)
    (with_sessions c stored)

-- the messages of a batch accepted after a check of its session and of their counters
unfoldable pub commit_decapsulate : Control → List ℕ → (index id now : ℕ) → (counters kinds verdicts skips : List ℕ) → Batched Out
commit_decapsulate c store index id now counters kinds verdicts skips =
    let received : Batched (Result (Session × Progress) Error) = receive c.sessions store index id now counters kinds verdicts skips in
    choose (expired_control c) (untouched (refuse c ConnectionExpired) store verdicts skips)
    (record {
      out = case_results received.out (refuse c) (λ session progress. done (accept c session progress index now) Done);
      store = received.store;
      verdicts = received.verdicts;
      skips = received.skips;
    })

-- the early look at a data message
unfoldable pub begin_decapsulate : Control → List ℕ → (index counter now : ℕ) → Out
begin_decapsulate c store index counter now =
    choose (expired_control c) (refuse c ConnectionExpired)
    (case_option (in_slot_of c.sessions index) (refuse c NoCurrentSession)
    (λ session. choose (expired_at session now) (refuse c NoCurrentSession)
    (case_result (will_receive session store index counter) (refuse c) (λ good. out_of c (Ok Done) false false))))
