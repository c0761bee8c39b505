-- Soundness of the calls: what number 14 lets through is handed back so that it lets it through again.
use Rattle.std.specs.Prelude.{◌≡◌, true, List, ℕ, length, Ok}
use Rattle.tunnel.specs.declared.answer.Answer.TheVariants.{Done}
use Rattle.tunnel.specs.Damage.{undamaged}
use Rattle.tunnel.specs.Tunnel.{call_new, call_start, call_restart, call_send, call_receive, call_look, call_initiation, call_response, call_cookie, call_timeout, call_settle, call_event, call_deadline, call_missing}
use Rattle.tunnel.specs.declared.tunnel.Tunnel.{Tunnel}

-- a tunnel that number 14 lets through, with the eight slots and the sixteen places for events that its arrays have
pub record Sound (t : Tunnel) : Type 0 where
  pub holds : undamaged t ≡ true
  pub eight : length t.control.sessions.slots ≡ 8
  pub sixteen : length t.control.events.slots ≡ 16

-- Every call that is handed a sound tunnel hands back a sound one, turned down or not.
pub record SoundLaw (t : Tunnel) : Type 0 where
  pub start : (now : ℕ) → Sound (call_start t now).tunnel
  pub restart : (now : ℕ) → Sound (call_restart t now).tunnel
  pub send : (count now : ℕ) → Sound (call_send t count now).tunnel
  pub receive : (store : List ℕ) (index id now : ℕ) (counters kinds verdicts skips : List ℕ)
      → Sound (call_receive t store index id now counters kinds verdicts skips).out.tunnel
  pub look : (store : List ℕ) (index counter now : ℕ) → Sound (call_look t store index counter now).tunnel
  pub initiation : (store : List ℕ) (peer outcome now : ℕ) → Sound (call_initiation t store peer outcome now).answered.tunnel
  pub response : (store : List ℕ) (receiver peer outcome now : ℕ) → Sound (call_response t store receiver peer outcome now).answered.tunnel
  pub cookie : (receiver outcome now : ℕ) → Sound (call_cookie t receiver outcome now).tunnel
  pub timeout : (store : List ℕ) (jitter now : ℕ) → Sound (call_timeout t store jitter now).answered.tunnel
  pub settle : (store : List ℕ) (jitter now : ℕ) → Sound (call_settle t store jitter now).answered.tunnel
  pub event : Sound (call_event t).tunnel
  pub deadline : Sound (call_deadline t).tunnel
  pub missing : (store : List ℕ) (index : ℕ) → Sound (call_missing t store index).tunnel

-- Every call that changes the store hands it back with 1,024 words if it came with so many, whatever the tunnel.
pub record StoreLaw (t : Tunnel) (store : List ℕ) : Type 0 where
  pub receive : (index id now : ℕ) (counters kinds verdicts skips : List ℕ)
      → length (call_receive t store index id now counters kinds verdicts skips).store ≡ 1024
  pub initiation : (peer outcome now : ℕ) → length (call_initiation t store peer outcome now).store ≡ 1024
  pub response : (receiver peer outcome now : ℕ) → length (call_response t store receiver peer outcome now).store ≡ 1024
  pub timeout : (jitter now : ℕ) → length (call_timeout t store jitter now).store ≡ 1024
  pub settle : (jitter now : ℕ) → length (call_settle t store jitter now).store ≡ 1024

-- A creation hands back a sound tunnel, turned down or not, and a store of 1,024 words where it is not turned down.
pub record CreatedLaw (store : List ℕ) (index keepalive now : ℕ) : Type 0 where
  pub tunnel : Sound (call_new store index keepalive now).answered.tunnel
  pub words : (call_new store index keepalive now).answered.answer ≡ Ok Done → length (call_new store index keepalive now).store ≡ 1024
