-- The calls: the checks 1, 2, 14 and 13 as one frame around what the Rust does, then the answer.
use Rattle.std.specs.Prelude.{Bool, false, List, ℕ, ltb, eqb, Result, Ok, Err}
use Rattle.base.specs.Choice.{choose, case_result}
use Rattle.error.specs.declared.Error.{Error}
use Rattle.error.specs.declared.Error.TheVariants.{InvalidTime, InvalidArgument, ClockWentBack, DamagedState}
use Rattle.tunnel.specs.Control.{Turn, new_control, out_of, poll_event, missing_report}
use Rattle.tunnel.specs.PollTimeout.{poll_timeout}
use Rattle.tunnel.specs.InitiateHandshake.{start_handshake, restart_handshake}
use Rattle.tunnel.specs.HandleHandshake.{handle_handshake_initiation, handle_handshake_response, handle_cookie_reply}
use Rattle.tunnel.specs.Decapsulate.{commit_decapsulate, begin_decapsulate}
use Rattle.tunnel.specs.Encapsulate.{send}
use Rattle.tunnel.specs.HandleTimeout.{handle_timeout}
use Rattle.tunnel.specs.Settle.{settle}
use Rattle.tunnel.specs.declared.answer.Answer.TheVariants.{Done, Deadline}
use Rattle.tunnel.specs.declared.answer.Answer.{Answer}
use Rattle.tunnel.specs.declared.control.Out.{Out}
use Rattle.sessions.specs.Batch.{Batched}
use Rattle.sessions.specs.Session.{time_limit}
use Rattle.base.specs.Lists.{zeros}
use Rattle.tunnel.specs.Arguments.{interval_of, opening_outcome, initiation_outcome, unnamed, named_of, lacking, bad_outcome, bad_jitter, bad_batch, creation_number}
use Rattle.tunnel.specs.Damage.{undamaged}
use Rattle.tunnel.specs.declared.tunnel.Answered.{Answered}
use Rattle.tunnel.specs.declared.tunnel.Tunnel.{Tunnel}

-- a tunnel and an answer
abbrev pub answered : Tunnel → Result Answer Error → Answered
answered t answer = record { tunnel = t; answer = answer }

-- the tunnel that a creation makes
unfoldable pub new_tunnel : (index keepalive now : ℕ) → Tunnel
new_tunnel index keepalive now = record { control = new_control index (interval_of keepalive) now; last_update = now; greatest = now }

-- what turns down a call at a time, if anything
unfoldable pub gate : Tunnel → Bool → ℕ → Result Unit Error
gate t bad now =
    choose (ltb time_limit now) (Err InvalidTime)
    (choose bad (Err InvalidArgument) (choose (undamaged t) (choose (ltb now t.greatest) (Err ClockWentBack) (Ok tt)) (Err DamagedState)))

-- what turns down a call without a time, if anything
unfoldable pub timeless_gate : Tunnel → Bool → Result Unit Error
timeless_gate t bad = choose bad (Err InvalidArgument) (choose (undamaged t) (Ok tt) (Err DamagedState))

-- a call that a check turns down
unfoldable pub refused : Tunnel → Error → Answered
refused t error = answered t (Err error)

-- a call that the checks let through
unfoldable pub let_through : Tunnel → ℕ → Out → Answered
let_through t now out =
    answered
    (record {
      control = out.control;
      last_update = choose out.updates now t.last_update;
      greatest = choose out.raises now t.greatest;
    })
    out.answer

-- the frame of a call at a time
unfoldable pub timed : Tunnel → Bool → ℕ → Out → Answered
timed t bad now out = case_result (gate t bad now) (refused t) (λ good. let_through t now out)

-- the frame of a call without a time
unfoldable pub timeless : Tunnel → Bool → Out → Answered
timeless t bad out = case_result (timeless_gate t bad) (refused t) (λ good. let_through t 0 out)

-- a list or store as a call at a time leaves it: as it came where the call is turned down by a check
unfoldable pub kept : Tunnel → Bool → ℕ → (came left : List ℕ) → List ℕ
kept t bad now came left = case_result (gate t bad now) (λ error. came) (λ good. left)

-- what a call with a store hands back
pub record Called : Type 0 where
  pub answered : Answered
  pub store : List ℕ

-- the frame of a call at a time with a store
unfoldable pub timed_turn : Tunnel → Bool → ℕ → List ℕ → Turn → Called
timed_turn t bad now store turn = record { answered = timed t bad now turn.out; store = kept t bad now store turn.store }

-- the frame of a batch
unfoldable pub timed_batch : Tunnel → Bool → ℕ → (store verdicts skips : List ℕ) → Batched Out → Batched Answered
timed_batch t bad now store verdicts skips batch =
    record {
      out = timed t bad now batch.out;
      store = kept t bad now store batch.store;
      verdicts = kept t bad now verdicts batch.verdicts;
      skips = kept t bad now skips batch.skips;
    }

-- creation: turned down, the tunnel made from index 0, no keepalive and time 0, and the store as it came
unfoldable pub call_new : List ℕ → (index keepalive now : ℕ) → Called
call_new store index keepalive now =
    case_result (creation_number store keepalive now)
    (λ error. record { answered = refused (new_tunnel 0 0 0) error; store = store })
    (λ good. record { answered = answered (new_tunnel index keepalive now) (Ok Done); store = zeros 1024 })

-- starting
unfoldable pub call_start : Tunnel → ℕ → Answered
call_start t now = timed t false now (start_handshake t.control now)

-- restarting
unfoldable pub call_restart : Tunnel → ℕ → Answered
call_restart t now = timed t false now (restart_handshake t.control now)

-- sending
unfoldable pub call_send : Tunnel → (count now : ℕ) → Answered
call_send t count now = timed t (eqb count 0) now (send t.control count now)

-- receiving
unfoldable pub call_receive : Tunnel → List ℕ → (index id now : ℕ) → (counters kinds verdicts skips : List ℕ) → Batched Answered
call_receive t store index id now counters kinds verdicts skips =
    timed_batch t (bad_batch store counters kinds verdicts skips) now store verdicts skips
    (commit_decapsulate t.control store index id now counters kinds verdicts skips)

-- the early look
unfoldable pub call_look : Tunnel → List ℕ → (index counter now : ℕ) → Answered
call_look t store index counter now = timed t (lacking store) now (begin_decapsulate t.control store index counter now)

-- an incoming initiation
unfoldable pub call_initiation : Tunnel → List ℕ → (peer n now : ℕ) → Called
call_initiation t store peer n now =
    timed_turn t (bad_outcome (initiation_outcome n) store) now store
    (handle_handshake_initiation t.control store peer (named_of (initiation_outcome n)) now)

-- a response
unfoldable pub call_response : Tunnel → List ℕ → (receiver peer n now : ℕ) → Called
call_response t store receiver peer n now =
    timed_turn t (bad_outcome (opening_outcome n) store) now store
    (handle_handshake_response t.control store receiver peer (named_of (opening_outcome n)) now)

-- a cookie reply
unfoldable pub call_cookie : Tunnel → (receiver n now : ℕ) → Answered
call_cookie t receiver n now =
    timed t (unnamed (opening_outcome n)) now (handle_cookie_reply t.control receiver (named_of (opening_outcome n)) now)

-- a waking
unfoldable pub call_timeout : Tunnel → List ℕ → (jitter now : ℕ) → Called
call_timeout t store jitter now = timed_turn t (bad_jitter jitter store) now store (handle_timeout t.control store jitter now)

-- settling
unfoldable pub call_settle : Tunnel → List ℕ → (jitter now : ℕ) → Called
call_settle t store jitter now = timed_turn t (bad_jitter jitter store) now store (settle t.control store jitter now)

-- the oldest event
unfoldable pub call_event : Tunnel → Answered
call_event t = timeless t false (poll_event t.control)

-- the deadline
unfoldable pub call_deadline : Tunnel → Answered
call_deadline t = timeless t false (out_of t.control (Ok (Deadline (poll_timeout t.control t.last_update))) false false)

-- the missing report
unfoldable pub call_missing : Tunnel → List ℕ → ℕ → Answered
call_missing t store index = timeless t (lacking store) (missing_report t.control store index)
