-- The calls that were made, each with what it was handed and what it handed back.
use Rattle.std.specs.Prelude.{Bool, true, false, List, [], ◌∷◌, ◌++◌, ℕ, eqb, length, get_or, Option, Result, Ok}
use Rattle.base.specs.Choice.{choose}
use Rattle.tunnel.specs.Answer.{number_of}
use Rattle.tunnel.specs.declared.answer.Answer.TheVariants.{Keepalive, Granted, Polled, Woke}
use Rattle.tunnel.specs.declared.answer.Answer.{Answer}
use Rattle.demands.specs.Calls.Call.{receive, initiation, response, timeout, settle}
use Rattle.demands.specs.Calls.{Call, World, Reply, step}
use Rattle.sessions.specs.declared.range.Range.{Range}
use Rattle.tunnel.specs.declared.event.Event.{Event}
use Rattle.error.specs.declared.Error.{Error}

-- a call that was made: the tunnel and the store just before it, the call, and what it handed back
pub record Made : Type 0 where
  pub before : World
  pub call : Call
  pub reply : Reply

-- a call made
abbrev pub making : World → Call → Made
making w call = record { before = w; call = call; reply = step w call }

-- the calls of a list as they are made one after the other
unfoldable pub made : World → List Call → List Made
made w [] = []
made w (call ∷ calls) = making w call ∷ made (step w call).world calls

module _ {A : Type 0} where
  -- one value for each batch's session id, time and counters, one for every other call
  unfoldable pub case_batch : Call → ((id now : ℕ) → List ℕ → A) → A → A
  case_batch (receive index id now counters kinds verdicts skips) f x = f id now counters
  case_batch _ f x = x

  -- one value for each batch for this session id that was answered good, by its time and counters, one for every other call
  abbrev pub good_batch : (id : ℕ) → Call → Reply → ((now : ℕ) → List ℕ → A) → A → A
  good_batch id call reply f x =
      case_batch call (λ named now counters. choose (eqb named id) (choose (eqb (number_of reply.answer) 0) (f now counters) x) x) x

  -- one value for each waking's jitter and time, one for each settling's, one for every other call
  unfoldable pub case_waking : Call → ((jitter now : ℕ) → A) → ((jitter now : ℕ) → A) → A → A
  case_waking (timeout jitter now) f g x = f jitter now
  case_waking (settle jitter now) f g x = g jitter now
  case_waking _ f g x = x

  -- one value for each response's peer and time, one for each incoming initiation's, one for every other call
  unfoldable pub case_message : Call → (ℕ → ℕ → A) → (ℕ → ℕ → A) → A → A
  case_message (response receiver peer outcome now) f g x = f peer now
  case_message (initiation peer outcome now) f g x = g peer now
  case_message _ f g x = x

  -- one value for each range granted by a send, one for each keepalive that a response was answered with, one for each event or none that the
  -- event call answered, one for every other answer
  unfoldable pub case_answer : Result Answer Error → (Range → A) → (ℕ → ℕ → A) → (Option Event → A) → A → A
  case_answer (Ok (Granted range)) f g e x = f range
  case_answer (Ok (Keepalive peer counter)) f g e x = g peer counter
  case_answer (Ok (Polled answered)) f g e x = e answered
  case_answer _ f g e x = x

-- the number of wakings that a settling answered, 0 for every other answer
unfoldable pub wakings_of : Result Answer Error → ℕ
wakings_of (Ok (Woke wakings)) = wakings
wakings_of _ = 0

-- a handshake message that inserted a session: whether this tunnel had initiated, the peer's index given with it, and its time
pub record Insertion : Type 0 where
  pub initiated : Bool
  pub peer : ℕ
  pub at : ℕ

-- an insertion of these
abbrev pub insertion : Bool → (peer at : ℕ) → Insertion
insertion initiated peer at = record { initiated = initiated; peer = peer; at = at }

-- the insertion of a call: a response or an incoming initiation that was answered good
unfoldable pub insertion_by : Call → Result Answer Error → List Insertion
insertion_by call answer =
    choose (eqb (number_of answer) 0)
    (case_message call (λ peer now. insertion true peer now ∷ []) (λ peer now. insertion false peer now ∷ []) [])
    []

-- the insertions in the order of the calls; a session's id is its place
unfoldable pub inserted : List Made → List Insertion
inserted [] = []
inserted (m ∷ later) = insertion_by m.call m.reply.answer ++ inserted later

-- the number of insertions
abbrev pub insertions : List Made → ℕ
insertions calls = length (inserted calls)

-- the handshake message that inserted the session of an id
abbrev pub message_of : ℕ → List Made → Insertion
message_of id calls = get_or (inserted calls) id (insertion false 0 0)
