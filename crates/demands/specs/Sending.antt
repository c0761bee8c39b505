-- Demand 2, sending: the counters that a session grants, to data and to keepalives, said of the calls made and their answers.
use Rattle.std.specs.Prelude.{◌≡◌, Bool, true, false, List, [], ◌∷◌, ◌++◌, ℕ, zero, suc, ◌+◌, ◌-◌, ◌^◌, ◌≤◌, ◌<◌, eqb, length, get_or, Option, None, Some, Result, Ok}
use Rattle.base.specs.Choice.{choose, case_option}
use Rattle.base.specs.Lists.{up_from}
use Rattle.tunnel.specs.declared.answer.Answer.TheVariants.{Granted}
use Rattle.tunnel.specs.declared.answer.Answer.{Answer}
use Rattle.demands.specs.Calls.Call.{send, timeout}
use Rattle.demands.specs.Calls.{Call, World, Reply, step, after, Creation, created, Good, Expired}
use Rattle.demands.specs.Made.{Made, made, case_waking, case_answer, wakings_of, insertion_by, insertions, message_of}
use Rattle.demands.specs.Wakings.{ran_new, ran_after, Current}
use Rattle.tunnel.specs.Answer.{number_of, values_of}
use Rattle.tunnel.specs.Cases.{case_event}
use Rattle.tunnel.specs.RingBuffer.{place_of, event_at}
use Rattle.tunnel.specs.declared.event.Event.TheVariants.{SendKeepalive}
use Rattle.tunnel.specs.declared.event.Event.{Event}
use Rattle.tunnel.specs.declared.ring_buffer.RingBuffer.{RingBuffer}
use Rattle.sessions.specs.Sessions.{current_of}
use Rattle.sessions.specs.declared.range.Range.{Range}
use Rattle.sessions.specs.declared.session.Session.{Session}
use Rattle.error.specs.declared.Error.{Error}

-- a grant: a session's id, its peer's index, and consecutive counters
pub record Grant : Type 0 where
  pub id : ℕ
  pub peer : ℕ
  pub first : ℕ
  pub len : ℕ

-- a grant of these
abbrev pub granting : (id peer first len : ℕ) → Grant
granting id peer first len = record { id = id; peer = peer; first = first; len = len }

-- the session that is current
abbrev pub current_in : World → Option Session
current_in w = current_of w.tunnel.control.sessions

-- whether nothing was put into a ring
unfoldable pub still : RingBuffer → RingBuffer → Bool
still before left = choose (eqb left.head before.head) (eqb left.len before.len) false

-- the event that a call put last into the ring, if it put any
unfoldable pub put_last : RingBuffer → RingBuffer → Option Event
put_last before left = choose (still before left) None (event_at left.slots (place_of left.head (left.len - 1)))

-- the event that a call puts last into the ring, if it puts any
abbrev pub put_by : World → Call → Option Event
put_by w call = put_last w.tunnel.control.events (step w call).world.tunnel.control.events

-- the grant of a keepalive event, of this session
unfoldable pub keepalive_by : Option Session → Option Event → List Grant
keepalive_by found put =
    case_option put []
    (λ event. case_event event (λ local. []) (λ peer counter. case_option found [] (λ session. granting session.id peer counter 1 ∷ []))
    (λ started confirmed. []) [])

-- the grant of a single waking: the keepalive that it puts last into the ring, of the session current just before
unfoldable pub waking_grant : World → (jitter now : ℕ) → List Grant
waking_grant w jitter now = keepalive_by (current_in w) (put_by w (timeout jitter now))

-- the grants of so many single wakings made one after the other, each of the tunnel and the store just before it
unfoldable pub waking_grants : (wakings : ℕ) → World → (jitter now : ℕ) → List Grant
waking_grants zero w jitter now = []
waking_grants (suc wakings) w jitter now =
    waking_grant w jitter now ++ waking_grants wakings (step w (timeout jitter now)).world jitter now

-- the grants of a waking and of a settling, which are those of so many single wakings as it answered
unfoldable pub woken_grant : World → Call → Reply → List Grant
woken_grant w call reply = case_waking call (waking_grant w) (waking_grants (wakings_of reply.answer) w) []

-- the grant of an answer, after n insertions: a send's is the range it answered, of the session current just before; a response's is the
-- counter it answered, of the session it inserted, whose id is the number of insertions before
unfoldable pub answered_grant : (n : ℕ) → World → Result Answer Error → List Grant
answered_grant n w answer =
    case_answer answer
    (λ range. case_option (current_in w) [] (λ session. granting session.id range.peer range.first range.len ∷ []))
    (λ peer counter. granting n peer counter 1 ∷ [])
    (λ event. [])
    []

-- the grants of wakings and settlings, in the order of the calls
unfoldable pub woken_grants : List Made → List Grant
woken_grants [] = []
woken_grants (m ∷ later) = woken_grant m.before m.call m.reply ++ woken_grants later

-- the grants of calls, in their order, after n insertions
unfoldable pub grants_from : (n : ℕ) → List Made → List Grant
grants_from n [] = []
grants_from n (m ∷ later) =
    answered_grant n m.before m.reply.answer
    ++ (woken_grant m.before m.call m.reply ++ grants_from (n + length (insertion_by m.call m.reply.answer)) later)

-- every grant, in the order of the calls
abbrev pub grants : List Made → List Grant
grants calls = grants_from 0 calls

-- the counters that a session was granted
unfoldable pub counters_of : ℕ → List Grant → List ℕ
counters_of id [] = []
counters_of id (grant ∷ later) = choose (eqb grant.id id) (up_from grant.first grant.len) [] ++ counters_of id later

-- a keepalive that the event call answered: its peer's index and its counter
pub record PolledKeepalive : Type 0 where
  pub peer : ℕ
  pub counter : ℕ

-- a keepalive of these
abbrev pub polling : (peer counter : ℕ) → PolledKeepalive
polling peer counter = record { peer = peer; counter = counter }

-- the keepalive of an answered event
unfoldable pub polled_by : Result Answer Error → List PolledKeepalive
polled_by answer =
    case_answer answer (λ range. []) (λ peer counter. [])
    (λ answered. case_option answered []
    (λ event. case_event event (λ local. []) (λ peer counter. polling peer counter ∷ []) (λ started confirmed. []) []))
    []

-- the keepalives that event calls answered, in the order of the calls
unfoldable pub polled : List Made → List PolledKeepalive
polled [] = []
polled (m ∷ later) = polled_by m.reply.answer ++ polled later

-- keepalives taken from grants in order, each grant once at most: a grant is left out, or it is the next keepalive
pub data TakenFrom : List PolledKeepalive → List Grant → Type 0 where
  none : TakenFrom [] []
  passed : {keepalives : List PolledKeepalive} {grant : Grant} {later : List Grant} → TakenFrom keepalives later → TakenFrom keepalives (grant ∷ later)
  taken : {peer counter id : ℕ} {keepalives : List PolledKeepalive} {later : List Grant}
      → TakenFrom keepalives later → TakenFrom (polling peer counter ∷ keepalives) (granting id peer counter 1 ∷ later)

-- the tunnel and the store after calls on a tunnel that a creation made
abbrev pub world_after : Creation → List Call → World
world_after c calls = after (created c) calls

-- the calls on it as they were made
abbrev pub made_by : Creation → List Call → List Made
made_by c calls = made (created c) calls

-- how many counters a session was granted
abbrev pub granted_to : ℕ → List Made → ℕ
granted_to id calls = length (counters_of id (grants calls))

-- a send that a session can meet: so many counters at a time, after a list of calls
pub record CanSend (c : Creation) (calls : List Call) (count now : ℕ) : Type 0 where
  -- a count of at least 1, and a time that 1 and 13 let through
  pub some : 1 ≤ count
  pub timely : now ≤ 4000000000000000000
  pub onward : (world_after c calls).tunnel.greatest ≤ now
  -- a session is current, by the Rust's calls
  pub current : Current (ran_after (ran_new c) calls)
  -- its handshake message: this tunnel's own handshake at most 170 s before, or the peer's less than 180 s
  pub prompt : (message_of current.0.id (made_by c calls)).initiated ≡ true → now - (message_of current.0.id (made_by c calls)).at ≤ 170000000000
  pub young : (message_of current.0.id (made_by c calls)).initiated ≡ false → now - (message_of current.0.id (made_by c calls)).at < 180000000000
  -- with the counters granted so far it stays at the limit or below
  pub left : granted_to current.0.id (made_by c calls) + count ≤ 2 ^ 64 - 8193

-- the answer of a send after a list of calls
abbrev pub send_after : Creation → List Call → (count now : ℕ) → Result Answer Error
send_after c calls count now = (step (world_after c calls) (send count now)).answer

-- After a list of calls:
pub record SendingLaw (c : Creation) (calls : List Call) : Type 0 where
  -- the counters that a session granted are 0, 1, 2 on, none missing or repeated
  pub counts : (id : ℕ) → counters_of id (grants (made_by c calls)) ≡ up_from 0 (granted_to id (made_by c calls))
  -- each is below 2^64 - 8,193
  pub below : (id i : ℕ) → i < granted_to id (made_by c calls) → get_or (counters_of id (grants (made_by c calls))) i 0 < 2 ^ 64 - 8193
  -- each is granted by a current session, to the peer given with its handshake message: those of a send
  pub sends : (count now : ℕ) (range : Range) → send_after c calls count now ≡ Ok (Granted range)
      → (session : Session) × (current_in (world_after c calls) ≡ Some session) × ((message_of session.id (made_by c calls)).peer ≡ range.peer)
  -- and that of a waking, so also of each single waking of a settling, which comes after the calls and the wakings before it
  pub wakes : (jitter now peer counter : ℕ) → put_by (world_after c calls) (timeout jitter now) ≡ Some (SendKeepalive peer counter)
      → (session : Session) × (current_in (world_after c calls) ≡ Some session) × ((message_of session.id (made_by c calls)).peer ≡ peer)
  -- the keepalives that event calls answered are those that wakings and settlings granted, in order, none twice, some overwritten or still queued
  pub polls : TakenFrom (polled (made_by c calls)) (woken_grants (made_by c calls))
  -- a send that a session can meet answers the peer of its handshake message, the counters granted so far as the first, and the count
  pub met : (count now : ℕ) (can : CanSend c calls count now) → (number_of (send_after c calls count now) ≡ 0)
      × (values_of (send_after c calls count now) ≡
      (message_of can.current.0.id (made_by c calls)).peer ∷ granted_to can.current.0.id (made_by c calls) ∷ count ∷ [])
  -- 11 is for an expired tunnel only
  pub eleven : (count now : ℕ) → number_of (send_after c calls count now) ≡ 11 → Expired (world_after c calls)
  -- 12 is for a send that no session can meet, and for every such one that 1, 2, 13 and 11 let through
  pub twelve : (count now : ℕ) → number_of (send_after c calls count now) ≡ 12 → CanSend c calls count now → ⊥
  pub otherwise : (count now : ℕ) → 1 ≤ count → now ≤ 4000000000000000000 → (world_after c calls).tunnel.greatest ≤ now
      → (Expired (world_after c calls) → ⊥) → (CanSend c calls count now → ⊥) → number_of (send_after c calls count now) ≡ 12

-- For every creation that is not turned down and every list of calls with fewer than 2^64 insertions.
abbrev pub Sending : Type 0
Sending = (c : Creation) → Good c → (calls : List Call) → insertions (made_by c calls) < 2 ^ 64 → SendingLaw c calls
