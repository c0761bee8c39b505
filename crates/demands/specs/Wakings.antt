-- Demand 3: extra wakings that come early change nothing. Two tunnels are created alike and given the same calls, one of them extra wakings among
-- these; under three conditions every shared call gives both the same.
use Rattle.std.specs.Prelude.{◌≡◌, Bool, true, false, List, [], ◌∷◌, ◌++◌, ◌⊎◌, ℕ, ◌≤◌, ◌<◌, ltb, eqb, None, Option, Some, Result, Ok}
use Rattle.base.specs.Choice.{choose}
use Rattle.tunnel.specs.Control.{new_control, poll_event}
use Rattle.tunnel.specs.InitiateHandshake.{start_handshake, restart_handshake}
use Rattle.tunnel.specs.HandleHandshake.{handle_handshake_initiation, handle_handshake_response, handle_cookie_reply}
use Rattle.tunnel.specs.Encapsulate as encapsulate
use Rattle.tunnel.specs.Decapsulate as decapsulate
use Rattle.tunnel.specs.HandleTimeout.{handle_timeout}
use Rattle.tunnel.specs.Settle as settling
use Rattle.tunnel.specs.declared.answer.Answer.TheVariants.{Deadline}
use Rattle.tunnel.specs.declared.answer.Answer.{Answer}
use Rattle.tunnel.specs.declared.control.Control.{Control}
use Rattle.tunnel.specs.declared.control.Out.{Out}
use Rattle.demands.specs.Calls.Call.{start, restart, send, receive, look, initiation, response, cookie, timeout, settle, event, deadline, missing}
use Rattle.demands.specs.Calls.{Call, World, Reply, step, after, Creation, created, Good, Expired}
use Rattle.sessions.specs.Session.{time_limit}
use Rattle.sessions.specs.Sessions.{slot_at, current_of}
use Rattle.base.specs.Lists.{zeros}
use Rattle.sessions.specs.declared.session.Session.{Session}
use Rattle.error.specs.declared.Error.{Error}
use Rattle.tunnel.specs.Arguments.{interval_of, opening_outcome, initiation_outcome, unnamed, named_of, lacking, bad_outcome, bad_jitter, bad_batch}

-- a shared call, or an extra waking of the woken tunnel
pub data Step : Type 0 where
  shared : (call : Call) → Step
  extra : (jitter now : ℕ) → Step

-- the calls of the plain tunnel: the shared ones
unfoldable pub plain_calls : List Step → List Call
plain_calls [] = []
plain_calls (shared call ∷ steps) = call ∷ plain_calls steps
plain_calls (extra jitter now ∷ steps) = plain_calls steps

-- the calls of the woken tunnel: all
unfoldable pub woken_calls : List Step → List Call
woken_calls [] = []
woken_calls (shared call ∷ steps) = call ∷ woken_calls steps
woken_calls (extra jitter now ∷ steps) = timeout jitter now ∷ woken_calls steps

-- what the Rust holds, and the greatest time that it took
pub record Ran : Type 0 where
  pub control : Control
  pub store : List ℕ
  pub clock : ℕ

-- a call at a time, left out where 1 (time above the limit), 2 (bad arguments) or 13 (earlier than the clock) turns it down
unfoldable pub took : Ran → (bad : Bool) (now : ℕ) → Out → List ℕ → Ran
took r bad now out store =
    choose (ltb time_limit now) r
    (choose bad r
    (choose (ltb now r.clock) r
    (record { control = out.control; store = store; clock = choose out.raises now r.clock })))

-- the Rust after a call; it has no missing report; of a settling it gets the single wakings of the plain repetition, and the time also where that
-- wakes nothing
unfoldable pub ran : Ran → Call → Ran
ran r (start now) = took r false now (start_handshake r.control now) r.store
ran r (restart now) = took r false now (restart_handshake r.control now) r.store
ran r (send count now) = took r (eqb count 0) now (encapsulate.send r.control count now) r.store
ran r (receive index id now counters kinds verdicts skips) =
    took r (bad_batch r.store counters kinds verdicts skips) now
    (decapsulate.commit_decapsulate r.control r.store index id now counters kinds verdicts skips).out
    (decapsulate.commit_decapsulate r.control r.store index id now counters kinds verdicts skips).store
ran r (look index counter now) =
    took r (lacking r.store) now (decapsulate.begin_decapsulate r.control r.store index counter now) r.store
ran r (initiation peer outcome now) =
    took r (bad_outcome (initiation_outcome outcome) r.store) now
    (handle_handshake_initiation r.control r.store peer (named_of (initiation_outcome outcome)) now).out
    (handle_handshake_initiation r.control r.store peer (named_of (initiation_outcome outcome)) now).store
ran r (response receiver peer outcome now) =
    took r (bad_outcome (opening_outcome outcome) r.store) now
    (handle_handshake_response r.control r.store receiver peer (named_of (opening_outcome outcome)) now).out
    (handle_handshake_response r.control r.store receiver peer (named_of (opening_outcome outcome)) now).store
ran r (cookie receiver outcome now) =
    took r (unnamed (opening_outcome outcome)) now (handle_cookie_reply r.control receiver (named_of (opening_outcome outcome)) now) r.store
ran r (timeout jitter now) =
    took r (bad_jitter jitter r.store) now (handle_timeout r.control r.store jitter now).out
    (handle_timeout r.control r.store jitter now).store
ran r (settle jitter now) =
    took r (bad_jitter jitter r.store) now (settling.settle r.control r.store jitter now).out
    (settling.settle r.control r.store jitter now).store
ran r event = record { control = (poll_event r.control).control; store = r.store; clock = r.clock }
ran r deadline = r
ran r (missing index) = r

-- the Rust after a list of calls
unfoldable pub ran_after : Ran → List Call → Ran
ran_after r [] = r
ran_after r (call ∷ calls) = ran_after (ran r call) calls

-- the Rust at a creation
abbrev pub ran_new : Creation → Ran
ran_new c = record { control = new_control c.index (interval_of c.keepalive) c.now; store = zeros 1024; clock = c.now }

-- current: the Rust has a current session, its slot still filled
abbrev pub Current : Ran → Type 0
Current r = (session : Session) × (current_of r.control.sessions ≡ Some session)

-- earlier than the deadline that the tunnel would report just then
abbrev pub BeforeDeadline : World → ℕ → Type 0
BeforeDeadline w now = (due : ℕ) × ((step w deadline).answer ≡ Ok (Deadline (Some due))) × (now < due)

-- the time of a call that has one
unfoldable pub time_of : Call → Option ℕ
time_of (start now) = Some now
time_of (restart now) = Some now
time_of (send count now) = Some now
time_of (receive index id now counters kinds verdicts skips) = Some now
time_of (look index counter now) = Some now
time_of (initiation peer outcome now) = Some now
time_of (response receiver peer outcome now) = Some now
time_of (cookie receiver outcome now) = Some now
time_of (timeout jitter now) = Some now
time_of (settle jitter now) = Some now
time_of _ = None

-- a call is not earlier than a time: if it has a time, that is at least this one
abbrev pub NotEarlier : ℕ → Call → Type 0
NotEarlier time call = (now : ℕ) → time_of call ≡ Some now → time ≤ now

-- each extra waking is earlier than the deadline that this tunnel would report just then, or finds it expired
abbrev pub ComesEarly : World → List Step → Type 0
ComesEarly w steps = (before later : List Step) (jitter now : ℕ) → steps ≡ before ++ extra jitter now ∷ later
    → BeforeDeadline (after w (woken_calls before)) now ⊎ Expired (after w (woken_calls before))

-- wherever one finds it not expired, a session is current or no persistent keepalive is set
abbrev pub CurrentOrUnset : (keepalive : ℕ) → Ran → World → List Step → Type 0
CurrentOrUnset keepalive r w steps = (before later : List Step) (jitter now : ℕ) → steps ≡ before ++ extra jitter now ∷ later
    → (Expired (after w (woken_calls before)) → ⊥) → Current (ran_after r (woken_calls before)) ⊎ (keepalive ≡ 0)

-- no shared call is earlier than an extra waking ahead of it
abbrev pub InOrder : List Step → Type 0
InOrder steps = (before between later : List Step) (jitter now : ℕ) (call : Call)
    → steps ≡ before ++ extra jitter now ∷ (between ++ shared call ∷ later) → NotEarlier now call

-- the three conditions on the steps of a tunnel that a creation made
pub record Admissible (c : Creation) (steps : List Step) : Type 0 where
  pub early : ComesEarly (created c) steps
  pub held : CurrentOrUnset c.keepalive (ran_new c) (created c) steps
  pub order : InOrder steps

-- two answers are equal, or deadlines that have both come by the latest time given
pub data Alike (latest : ℕ) : Result Answer Error → Result Answer Error → Type 0 where
  equal : (answer : Result Answer Error) → Alike latest answer answer
  come : (a b : ℕ) → a ≤ latest → b ≤ latest → Alike latest (Ok (Deadline (Some a))) (Ok (Deadline (Some b)))

-- a slot of both tunnels: filled in both or in none, and where it is, last heard at the same time
pub record HeardAlike (plain woken : Session) : Type 0 where
  pub filled : plain.filled ≡ woken.filled
  pub heard : woken.filled ≡ true → plain.last_heard ≡ woken.last_heard

-- a call gives both tunnels the same answer, verdicts, skips and store, and leaves each slot last heard at the same time; the latest time given
-- is the woken tunnel's greatest time
pub record Same (plain woken : Reply) : Type 0 where
  pub answers : Alike woken.world.tunnel.greatest plain.answer woken.answer
  pub verdicts : plain.verdicts ≡ woken.verdicts
  pub skips : plain.skips ≡ woken.skips
  pub stores : plain.world.store ≡ woken.world.store
  pub heard : (slot : ℕ) → slot < 8
      → HeardAlike (slot_at plain.world.tunnel.control.sessions slot) (slot_at woken.world.tunnel.control.sessions slot)

-- every shared call gives both tunnels the same
abbrev pub Agree : (plain woken : Creation) → List Step → Type 0
Agree plain woken steps = (before later : List Step) (call : Call) → steps ≡ before ++ shared call ∷ later
    → Same (step (after (created plain) (plain_calls before)) call) (step (after (created woken) (woken_calls before)) call)

-- two creations alike, each over a store of its own, and not turned down
pub record CreatedAlike (plain woken : Creation) : Type 0 where
  pub index : plain.index ≡ woken.index
  pub keepalive : plain.keepalive ≡ woken.keepalive
  pub now : plain.now ≡ woken.now
  pub plainly : Good plain
  pub wakingly : Good woken

-- Demand 3.
abbrev pub ExtraWakingsLaw : Type 0
ExtraWakingsLaw =
    (plain woken : Creation) (steps : List Step) → CreatedAlike plain woken → Admissible woken steps → Agree plain woken steps
