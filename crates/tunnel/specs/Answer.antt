-- What an answer says in document 01's terms: its number, its word and its values.
use Rattle.std.specs.Prelude.{List, [], ◌∷◌, ℕ, None, Option, Some, Result, Ok, Err}
use Rattle.tunnel.specs.declared.answer.Answer.TheVariants.{Done, NoAnswer, Initiation, Response, Keepalive, Granted, Polled, Deadline, Report, Woke}
use Rattle.tunnel.specs.declared.answer.Answer.{Answer}
use Rattle.tunnel.specs.declared.event.Event.TheVariants.{SendHandshakeInitiation, SendKeepalive, Established, ConnectionExpired}
use Rattle.tunnel.specs.declared.event.Event.{Event}
use Rattle.error.specs.Error.{error_number}
use Rattle.error.specs.declared.Error.{Error}

-- the word after `ok`: `bare` where there is none, `turned` where the answer is a number that turns the call down
pub data Word : Type 0 where
  turned bare none init resp key range est exp at missing woke : Word

-- the number that turns a call down, or 0
unfoldable pub number_of : Result Answer Error → ℕ
number_of (Ok good) = 0
number_of (Err error) = error_number error

-- the word of an event, or of none
unfoldable pub event_word : Option Event → Word
event_word None = none
event_word (Some (SendHandshakeInitiation local)) = init
event_word (Some (SendKeepalive peer counter)) = key
event_word (Some (Established started confirmed)) = est
event_word (Some ConnectionExpired) = exp

-- the values of an event: local index; peer and counter; started and confirmed
unfoldable pub event_values : Option Event → List ℕ
event_values None = []
event_values (Some (SendHandshakeInitiation local)) = local ∷ []
event_values (Some (SendKeepalive peer counter)) = peer ∷ counter ∷ []
event_values (Some (Established started confirmed)) = started ∷ confirmed ∷ []
event_values (Some ConnectionExpired) = []

-- the word of a deadline
unfoldable pub time_word : Option ℕ → Word
time_word None = none
time_word (Some time) = at

-- the value of a deadline
unfoldable pub time_values : Option ℕ → List ℕ
time_values None = []
time_values (Some time) = time ∷ []

-- the word of an answer
unfoldable pub answer_word : Result Answer Error → Word
answer_word (Err error) = turned
answer_word (Ok Done) = bare
answer_word (Ok NoAnswer) = none
answer_word (Ok (Initiation local)) = init
answer_word (Ok (Response local peer)) = resp
answer_word (Ok (Keepalive peer counter)) = key
answer_word (Ok (Granted granted)) = range
answer_word (Ok (Polled event)) = event_word event
answer_word (Ok (Deadline time)) = time_word time
answer_word (Ok (Report count)) = missing
answer_word (Ok (Woke wakings)) = woke

-- the values of an answer, in the order in which drive writes them
unfoldable pub values_of : Result Answer Error → List ℕ
values_of (Err error) = error_number error ∷ []
values_of (Ok Done) = []
values_of (Ok NoAnswer) = []
values_of (Ok (Initiation local)) = local ∷ []
values_of (Ok (Response local peer)) = local ∷ peer ∷ []
values_of (Ok (Keepalive peer counter)) = peer ∷ counter ∷ []
values_of (Ok (Granted granted)) = granted.peer ∷ granted.first ∷ granted.len ∷ []
values_of (Ok (Polled event)) = event_values event
values_of (Ok (Deadline time)) = time_values time
values_of (Ok (Report count)) = count ∷ []
values_of (Ok (Woke wakings)) = wakings ∷ []
