-- Lists of calls on one tunnel: each call is handed the tunnel and the store just as the call before handed them back.
use Rattle.std.specs.Prelude.{◌≡◌, List, [], ◌∷◌, ℕ, Result}
use Rattle.error.specs.declared.Error.{Error}
use Rattle.sessions.specs.Batch.{Batched}
use Rattle.tunnel.specs.Answer.{number_of}
use Rattle.tunnel.specs.declared.answer.Answer.{Answer}
use Rattle.tunnel.specs.Tunnel.{Called, call_new, call_start, call_restart, call_send, call_receive, call_look, call_initiation, call_response, call_cookie, call_timeout, call_settle, call_event, call_deadline, call_missing}
use Rattle.tunnel.specs.declared.tunnel.Answered.{Answered}
use Rattle.tunnel.specs.declared.tunnel.Tunnel.{Tunnel}

-- a call that takes a tunnel, with all its arguments: `initiation` is an incoming one, `timeout` a waking, `settle` a settling
pub data Call : Type 0 where
  start restart : (now : ℕ) → Call
  send : (count now : ℕ) → Call
  receive : (index id now : ℕ) (counters kinds verdicts skips : List ℕ) → Call
  look : (index counter now : ℕ) → Call
  initiation : (peer outcome now : ℕ) → Call
  response : (receiver peer outcome now : ℕ) → Call
  cookie : (receiver outcome now : ℕ) → Call
  timeout settle : (jitter now : ℕ) → Call
  event deadline : Call
  missing : (index : ℕ) → Call

-- a tunnel and the store of its windows
pub record World : Type 0 where
  pub tunnel : Tunnel
  pub store : List ℕ

-- what a call hands back: the tunnel and the store, the answer, and the verdict list and the skip list of a batch
pub record Reply : Type 0 where
  pub world : World
  pub answer : Result Answer Error
  pub verdicts : List ℕ
  pub skips : List ℕ

-- what a call without a store hands back
abbrev pub plain : List ℕ → Answered → Reply
plain store a = record { world = record { tunnel = a.tunnel; store = store }; answer = a.answer; verdicts = []; skips = [] }

-- what a call with a store hands back
abbrev pub stored : Called → Reply
stored c = plain c.store c.answered

-- what a batch hands back
abbrev pub batched : Batched Answered → Reply
batched c =
    record { world = record { tunnel = c.out.tunnel; store = c.store }; answer = c.out.answer; verdicts = c.verdicts; skips = c.skips }

-- what a call hands back
unfoldable pub step : World → Call → Reply
step w (start now) = plain w.store (call_start w.tunnel now)
step w (restart now) = plain w.store (call_restart w.tunnel now)
step w (send count now) = plain w.store (call_send w.tunnel count now)
step w (receive index id now counters kinds verdicts skips) =
    batched (call_receive w.tunnel w.store index id now counters kinds verdicts skips)
step w (look index counter now) = plain w.store (call_look w.tunnel w.store index counter now)
step w (initiation peer outcome now) = stored (call_initiation w.tunnel w.store peer outcome now)
step w (response receiver peer outcome now) = stored (call_response w.tunnel w.store receiver peer outcome now)
step w (cookie receiver outcome now) = plain w.store (call_cookie w.tunnel receiver outcome now)
step w (timeout jitter now) = stored (call_timeout w.tunnel w.store jitter now)
step w (settle jitter now) = stored (call_settle w.tunnel w.store jitter now)
step w event = plain w.store (call_event w.tunnel)
step w deadline = plain w.store (call_deadline w.tunnel)
step w (missing index) = plain w.store (call_missing w.tunnel w.store index)

-- the tunnel and the store after a list of calls, the first call first
unfoldable pub after : World → List Call → World
after w [] = w
after w (call ∷ calls) = after (step w call).world calls

-- the arguments of a creation
pub record Creation : Type 0 where
  pub store : List ℕ
  pub index : ℕ
  pub keepalive : ℕ
  pub now : ℕ

-- what a creation hands back
abbrev pub creating : Creation → Called
creating c = call_new c.store c.index c.keepalive c.now

-- the tunnel and the store that a creation hands back
abbrev pub created : Creation → World
created c = record { tunnel = (creating c).answered.tunnel; store = (creating c).store }

-- a creation that is not turned down
abbrev pub Good : Creation → Type 0
Good c = number_of (creating c).answered.answer ≡ 0

-- expired: a send of one counter at the greatest time would give 11
abbrev pub Expired : World → Type 0
Expired w = number_of (step w (send 1 w.tunnel.greatest)).answer ≡ 11
