-- The number of each reason to turn a call down.
use Rattle.std.specs.Prelude.{ℕ, ◌<◌, Result, Ok, Err}
use Rattle.error.specs.declared.Error.{Error}
use Rattle.error.specs.declared.Error.TheVariants.{InvalidTime, InvalidArgument, WrongKey, ReplayedHandshakeInitiation, InitiationPredatesTunnel, WrongIndex, InvalidAeadTag, UnexpectedPacket, InvalidCounter, DuplicateCounter, ConnectionExpired, NoCurrentSession, ClockWentBack, DamagedState, UnknownType, WrongLength, BrokenTrailer, BrokenRecord, StoreFull, OutsideRights}

-- the number
abbrev pub error_number : Error → ℕ
error_number InvalidTime = 1
error_number InvalidArgument = 2
error_number WrongKey = 3
error_number ReplayedHandshakeInitiation = 4
error_number InitiationPredatesTunnel = 5
error_number WrongIndex = 6
error_number InvalidAeadTag = 7
error_number UnexpectedPacket = 8
error_number InvalidCounter = 9
error_number DuplicateCounter = 10
error_number ConnectionExpired = 11
error_number NoCurrentSession = 12
error_number ClockWentBack = 13
error_number DamagedState = 14
error_number UnknownType = 15
error_number WrongLength = 16
error_number BrokenTrailer = 17
error_number BrokenRecord = 18
error_number StoreFull = 19
error_number OutsideRights = 20

-- the number of a verdict: 0 where it is good
abbrev pub verdict_number : Result Unit Error → ℕ
verdict_number (Ok good) = 0
verdict_number (Err error) = error_number error

-- no error has the number 0 of a good verdict
abbrev pub PositiveLaw : Type 0
PositiveLaw = (e : Error) → 0 < error_number e
