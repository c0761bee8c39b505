-- The calls of the desk's users: 20 for an operation outside the user's rights, before anything else; else the unguarded call.
use Rattle.std.specs.Prelude.{List, ℕ, eqb, Err}
use Rattle.base.specs.Choice.{choose}
use Rattle.access.specs.Rights.{allowed, send_operation, receive_operation, wake_operation, settle_operation, event_operation, deadline_operation, missing_operation, log_operation, trainer}
use Rattle.callout_log.specs.Read.{Lists, Reading, reading}
use Rattle.callout_log.specs.View.{Viewing, viewing, view_log, read_seen}
use Rattle.error.specs.declared.Error.TheVariants.{OutsideRights}
use Rattle.sessions.specs.Batch.{Batched, untouched}
use Rattle.tunnel.specs.Tunnel.{Called, refused, call_send, call_receive, call_timeout, call_settle, call_event, call_deadline, call_missing}
use Rattle.tunnel.specs.declared.tunnel.Answered.{Answered}
use Rattle.tunnel.specs.declared.tunnel.Tunnel.{Tunnel}

module _ {A : Type 0} where
  -- what a guarded call hands back: what the call does, if the operation is in the user's rights, else what number 20 leaves
  unfoldable pub guard : (user operation : ℕ) → (through outside : A) → A
  guard user operation through outside = choose (allowed user operation) through outside

-- a call without a store that 20 turns down
abbrev pub outside : Tunnel → Answered
outside t = refused t OutsideRights

-- a call with a store that 20 turns down
abbrev pub outside_stored : Tunnel → List ℕ → Called
outside_stored t store = record { answered = outside t; store = store }

-- sending
unfoldable pub send_as : (user : ℕ) → Tunnel → (count now : ℕ) → Answered
send_as user t count now = guard user send_operation (call_send t count now) (outside t)

-- receiving
unfoldable pub receive_as : (user : ℕ) → Tunnel → List ℕ → (index id now : ℕ) → (counters kinds verdicts skips : List ℕ) → Batched Answered
receive_as user t store index id now counters kinds verdicts skips =
    guard user receive_operation (call_receive t store index id now counters kinds verdicts skips) (untouched (outside t) store verdicts skips)

-- a waking
unfoldable pub timeout_as : (user : ℕ) → Tunnel → List ℕ → (jitter now : ℕ) → Called
timeout_as user t store jitter now = guard user wake_operation (call_timeout t store jitter now) (outside_stored t store)

-- settling
unfoldable pub settle_as : (user : ℕ) → Tunnel → List ℕ → (jitter now : ℕ) → Called
settle_as user t store jitter now = guard user settle_operation (call_settle t store jitter now) (outside_stored t store)

-- the oldest event
unfoldable pub event_as : (user : ℕ) → Tunnel → Answered
event_as user t = guard user event_operation (call_event t) (outside t)

-- the deadline
unfoldable pub deadline_as : (user : ℕ) → Tunnel → Answered
deadline_as user t = guard user deadline_operation (call_deadline t) (outside t)

-- the missing report
unfoldable pub missing_as : (user : ℕ) → Tunnel → List ℕ → (index : ℕ) → Answered
missing_as user t store index = guard user missing_operation (call_missing t store index) (outside t)

-- the log copied into lent bytes: a trainer sees it with its fields hidden
unfoldable pub view_as : (user : ℕ) → (log : List ℕ) → (used : ℕ) → (bytes : List ℕ) → Viewing
view_as user log used bytes = guard user log_operation (view_log (eqb user trainer) log used bytes) (viewing (Err OutsideRights) bytes)

-- the log read into lent lists: for a trainer the reader on what he sees
unfoldable pub read_as : (user : ℕ) → (log : List ℕ) → (used : ℕ) → Lists → Reading
read_as user log used l = guard user log_operation (read_seen (eqb user trainer) log used l) (reading (Err OutsideRights) l)
