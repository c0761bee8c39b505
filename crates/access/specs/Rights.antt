-- The rights: which operations each kind of user has.
use Rattle.std.specs.Prelude.{◌≡◌, Bool, true, false, ℕ, ◌<◌, eqb, Result, Ok, Err}
use Rattle.error.specs.declared.Error.{Error}
use Rattle.error.specs.declared.Error.TheVariants.{OutsideRights}
use Rattle.base.specs.Choice.{choose}
use Rattle.access.specs.declared.rights.Kind.{Kind}
use Rattle.access.specs.declared.rights.Kind.TheVariants.{Operator, Controller, Trainer}
use Rattle.access.specs.declared.rights.Operation.{Operation}
use Rattle.access.specs.declared.rights.Operation.TheVariants.{Send, Receive, Wake, Settle, Event, Deadline, Missing, Log}

-- the kind of user that sends, receives, wakes, settles and takes events
abbrev pub operator : ℕ
operator = 0

-- the kind that reads the deadline, the missing reports and the whole log
abbrev pub controller : ℕ
controller = 1

-- the kind that reads the log with its fields hidden
abbrev pub trainer : ℕ
trainer = 2

-- to send
abbrev pub send_operation : ℕ
send_operation = 0

-- to receive
abbrev pub receive_operation : ℕ
receive_operation = 1

-- to wake
abbrev pub wake_operation : ℕ
wake_operation = 2

-- to settle
abbrev pub settle_operation : ℕ
settle_operation = 3

-- to take events
abbrev pub event_operation : ℕ
event_operation = 4

-- to read the deadline
abbrev pub deadline_operation : ℕ
deadline_operation = 5

-- to read the missing reports
abbrev pub missing_operation : ℕ
missing_operation = 6

-- to read the log
abbrev pub log_operation : ℕ
log_operation = 7

-- an operation that is in nobody's rights
abbrev pub other_operation : ℕ
other_operation = 8

-- the number of a kind of user
abbrev pub kind_number : Kind → ℕ
kind_number Operator = operator
kind_number Controller = controller
kind_number Trainer = trainer

-- the number of an operation
abbrev pub operation_number : Operation → ℕ
operation_number Send = send_operation
operation_number Receive = receive_operation
operation_number Wake = wake_operation
operation_number Settle = settle_operation
operation_number Event = event_operation
operation_number Deadline = deadline_operation
operation_number Missing = missing_operation
operation_number Log = log_operation

-- a number names this kind of user, or none and has no rights
abbrev pub NamesKind : ℕ → Result Kind Error → Type 0
NamesKind n (Ok kind) = kind_number kind ≡ n
NamesKind n (Err error) = (error ≡ OutsideRights) × (trainer < n)

-- a number names this operation, or none and is in nobody's rights
abbrev pub NamesOperation : ℕ → Result Operation Error → Type 0
NamesOperation n (Ok operation) = operation_number operation ≡ n
NamesOperation n (Err error) = (error ≡ OutsideRights) × (log_operation < n)

-- an operator may send, receive, wake, settle and take events
unfoldable pub operator_may : ℕ → Bool
operator_may operation =
    choose (eqb operation send_operation) true
    (choose (eqb operation receive_operation) true
    (choose (eqb operation wake_operation) true (choose (eqb operation settle_operation) true (eqb operation event_operation))))

-- a controller may read the deadline, the missing reports and the log
unfoldable pub controller_may : ℕ → Bool
controller_may operation =
    choose (eqb operation deadline_operation) true (choose (eqb operation missing_operation) true (eqb operation log_operation))

-- whether an operation is in the rights of a kind of user: a trainer may read only the log, and an unknown kind has no rights
unfoldable pub allowed : (user operation : ℕ) → Bool
allowed user operation =
    choose (eqb user operator) (operator_may operation)
    (choose (eqb user controller) (controller_may operation)
    (choose (eqb user trainer) (eqb operation log_operation) false))
