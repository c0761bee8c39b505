-- What document 02's note 9 says of the rights, of the guarded calls and of what a trainer sees, in its own numbers.
use Rattle.std.specs.Prelude.{◌≡◌, true, false, List, [], ℕ, Result}
use Rattle.access.specs.Rights.{allowed}
use Rattle.access.specs.User.{send_as, receive_as, timeout_as, settle_as, event_as, deadline_as, missing_as, view_as, read_as}
use Rattle.error.specs.declared.Error.{Error}
use Rattle.endian.specs.LittleEndian.{Bytes}
use Rattle.callout_log.specs.Log.{answer_number}
use Rattle.callout_log.specs.Read.{Lists, Reading, read_log}
use Rattle.callout_log.specs.View.{Viewing, view_log, read_seen}
use Rattle.callout_log.specs.ViewLaws.{DifferHidden}
use Rattle.sessions.specs.Batch.{Batched}
use Rattle.tunnel.specs.Answer.{number_of}
use Rattle.tunnel.specs.Tunnel.{Called, call_send, call_receive, call_timeout, call_settle, call_event, call_deadline, call_missing}
use Rattle.tunnel.specs.declared.answer.Answer.{Answer}
use Rattle.tunnel.specs.declared.tunnel.Answered.{Answered}
use Rattle.tunnel.specs.declared.tunnel.Tunnel.{Tunnel}

-- The table of rights, by the numbers of user and operation.
pub data Right : (user operation : ℕ) → Type 0 where
  operator_sends : Right 0 0
  operator_receives : Right 0 1
  operator_wakes : Right 0 2
  operator_settles : Right 0 3
  operator_takes_events : Right 0 4
  controller_reads_deadline : Right 1 5
  controller_reads_missing : Right 1 6
  controller_reads_log : Right 1 7
  trainer_reads_log : Right 2 7

-- An operation is in a user's rights exactly if the table has it.
pub record RightsLaw : Type 0 where
  pub may : (user operation : ℕ) → Right user operation → allowed user operation ≡ true
  pub only : (user operation : ℕ) → allowed user operation ≡ true → Right user operation

-- A call is turned down by 20, and the tunnel is as it came.
pub record Outside (t : Tunnel) (a : Answered) : Type 0 where
  pub number : number_of a.answer ≡ 20
  pub tunnel : a.tunnel ≡ t

-- So is one with a store, which is as it came.
pub record OutsideStored (t : Tunnel) (came : List ℕ) (c : Called) : Type 0 where
  pub call : Outside t c.answered
  pub store : c.store ≡ came

-- So is a batch, whose store and lists are as they came.
pub record OutsideBatch (t : Tunnel) (came v s : List ℕ) (b : Batched Answered) : Type 0 where
  pub call : Outside t b.out
  pub store : b.store ≡ came
  pub verdicts : b.verdicts ≡ v
  pub skips : b.skips ≡ s

-- A view is turned down by 20, and the lent bytes are as they came.
pub record OutsideView (came : List ℕ) (v : Viewing) : Type 0 where
  pub number : answer_number v.answer ≡ 20
  pub bytes : v.bytes ≡ came

-- A read is turned down by 20, and the lent lists are as they came.
pub record OutsideRead (came : Lists) (r : Reading) : Type 0 where
  pub number : answer_number r.answer ≡ 20
  pub lists : r.lists ≡ came

-- A guarded call that is in the user's rights is the unguarded one; a controller sees the log whole, a trainer with its fields hidden.
pub record ThroughLaw : Type 0 where
  pub send : (user : ℕ) (t : Tunnel) (count now : ℕ) → Right user 0 → send_as user t count now ≡ call_send t count now
  pub receive : (user : ℕ) (t : Tunnel) (store : List ℕ) (index id now : ℕ) (counters kinds verdicts skips : List ℕ) → Right user 1
      → receive_as user t store index id now counters kinds verdicts skips ≡ call_receive t store index id now counters kinds verdicts skips
  pub wake : (user : ℕ) (t : Tunnel) (store : List ℕ) (jitter now : ℕ) → Right user 2 → timeout_as user t store jitter now ≡ call_timeout t store jitter now
  pub settle : (user : ℕ) (t : Tunnel) (store : List ℕ) (jitter now : ℕ) → Right user 3 → settle_as user t store jitter now ≡ call_settle t store jitter now
  pub event : (user : ℕ) (t : Tunnel) → Right user 4 → event_as user t ≡ call_event t
  pub deadline : (user : ℕ) (t : Tunnel) → Right user 5 → deadline_as user t ≡ call_deadline t
  pub missing : (user : ℕ) (t : Tunnel) (store : List ℕ) (index : ℕ) → Right user 6 → missing_as user t store index ≡ call_missing t store index
  pub controller_views : (log : List ℕ) (used : ℕ) (bytes : List ℕ) → view_as 1 log used bytes ≡ view_log false log used bytes
  pub controller_reads : (log : List ℕ) (used : ℕ) (l : Lists) → read_as 1 log used l ≡ read_log log used l
  pub trainer_views : (log : List ℕ) (used : ℕ) (bytes : List ℕ) → view_as 2 log used bytes ≡ view_log true log used bytes
  pub trainer_reads : (log : List ℕ) (used : ℕ) (l : Lists) → read_as 2 log used l ≡ read_seen true log used l

-- A guarded call that is not in the user's rights is turned down by 20 whatever its arguments and its tunnel are, and changes nothing.
pub record OutsideLaw : Type 0 where
  pub send : (user : ℕ) (t : Tunnel) (count now : ℕ) → (Right user 0 → ⊥) → Outside t (send_as user t count now)
  pub receive : (user : ℕ) (t : Tunnel) (store : List ℕ) (index id now : ℕ) (counters kinds verdicts skips : List ℕ) → (Right user 1 → ⊥)
      → OutsideBatch t store verdicts skips (receive_as user t store index id now counters kinds verdicts skips)
  pub wake : (user : ℕ) (t : Tunnel) (store : List ℕ) (jitter now : ℕ) → (Right user 2 → ⊥) → OutsideStored t store (timeout_as user t store jitter now)
  pub settle : (user : ℕ) (t : Tunnel) (store : List ℕ) (jitter now : ℕ) → (Right user 3 → ⊥) → OutsideStored t store (settle_as user t store jitter now)
  pub event : (user : ℕ) (t : Tunnel) → (Right user 4 → ⊥) → Outside t (event_as user t)
  pub deadline : (user : ℕ) (t : Tunnel) → (Right user 5 → ⊥) → Outside t (deadline_as user t)
  pub missing : (user : ℕ) (t : Tunnel) (store : List ℕ) (index : ℕ) → (Right user 6 → ⊥) → Outside t (missing_as user t store index)
  pub view : (user : ℕ) (log : List ℕ) (used : ℕ) (bytes : List ℕ) → (Right user 7 → ⊥) → OutsideView bytes (view_as user log used bytes)
  pub read : (user : ℕ) (log : List ℕ) (used : ℕ) (l : Lists) → (Right user 7 → ⊥) → OutsideRead l (read_as user log used l)

-- what a user can ask for, with all that he hands in and lends
pub data Request : Type 0 where
  send : (count now : ℕ) → Request
  receive : (index id now : ℕ) (counters kinds verdicts skips : List ℕ) → Request
  wake settle : (jitter now : ℕ) → Request
  event deadline : Request
  missing : (index : ℕ) → Request
  view : (bytes : List ℕ) → Request
  read : (lists : Lists) → Request

-- what stands behind the desk: the tunnel with the store of its windows, and the log's store with its used length
pub record Desk : Type 0 where
  pub tunnel : Tunnel
  pub store : List ℕ
  pub log : List ℕ
  pub used : ℕ

-- what a user is given: an answer with the verdicts and skips of a batch, a view, or lists that were read
pub data Given : Type 0 where
  answered : Result Answer Error → (verdicts skips : List ℕ) → Given
  viewed : Viewing → Given
  listed : Reading → Given

-- what a request gives a user
unfoldable pub given : (user : ℕ) → Desk → Request → Given
given user d (send count now) = answered (send_as user d.tunnel count now).answer [] []
given user d (receive index id now counters kinds verdicts skips) =
    let batch : Batched Answered = receive_as user d.tunnel d.store index id now counters kinds verdicts skips in
    answered batch.out.answer batch.verdicts batch.skips
given user d (wake jitter now) = answered (timeout_as user d.tunnel d.store jitter now).answered.answer [] []
given user d (settle jitter now) = answered (settle_as user d.tunnel d.store jitter now).answered.answer [] []
given user d event = answered (event_as user d.tunnel).answer [] []
given user d deadline = answered (deadline_as user d.tunnel).answer [] []
given user d (missing index) = answered (missing_as user d.tunnel d.store index).answer [] []
given user d (view bytes) = viewed (view_as user d.log d.used bytes)
given user d (read lists) = listed (read_as user d.log d.used lists)

-- Non-interference: behind two desks whose logs differ only in hidden bytes, whatever their tunnels are, every request gives a trainer the same.
pub record TrainerLaw : Type 0 where
  pub same : (a b : Desk) (request : Request) → Bytes a.log → a.used ≡ b.used → DifferHidden a.log b.log a.used → given 2 a request ≡ given 2 b request
