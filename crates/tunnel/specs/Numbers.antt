-- Which of the numbers 1, 2, 14, 13 and 11 turns a call down: the first, in this order, whose condition in document 01 holds.
use Rattle.std.specs.Prelude.{◌≡◌, List, ◌⊎◌, ℕ, ◌≤◌, length}
use Rattle.sessions.specs.Laws.{IsBatch}
use Rattle.tunnel.specs.Answer.{number_of}
use Rattle.tunnel.specs.Facts.{Undamaged}
use Rattle.tunnel.specs.Tunnel.{call_new, call_start, call_restart, call_send, call_receive, call_look, call_initiation, call_response, call_cookie, call_timeout, call_settle, call_event, call_deadline, call_missing}
use Rattle.tunnel.specs.declared.handshake.HandshakeState.TheVariants.{Expired}
use Rattle.tunnel.specs.declared.tunnel.Tunnel.{Tunnel}

-- one holds just where the other does
abbrev pub Just : Type 0 → Type 0 → Type 0
Just a b = (a → b) × (b → a)

-- a condition that a call cannot fail
abbrev pub Always : Type 0
Always = Unit

-- The number is 1, 2, 14, 13 or 11 just where the first of five conditions that fails is the number's own.
pub record FirstFailing (number : ℕ) (timely good sound onward alive : Type 0) : Type 0 where
  pub one : Just (number ≡ 1) (timely → ⊥)
  pub two : Just (number ≡ 2) (timely × (good → ⊥))
  pub fourteen : Just (number ≡ 14) (timely × good × (sound → ⊥))
  pub thirteen : Just (number ≡ 13) (timely × good × sound × (onward → ⊥))
  pub eleven : Just (number ≡ 11) (timely × good × sound × onward × (alive → ⊥))

-- 1: the time is at most its limit
abbrev pub Timely : ℕ → Type 0
Timely now = now ≤ 4000000000000000000

-- 2: the window store is of 1,024 words
abbrev pub IsStore : List ℕ → Type 0
IsStore store = length store ≡ 1024

-- 2: the outcome is named for a response and a cookie reply
abbrev pub OpeningNamed : ℕ → Type 0
OpeningNamed outcome = (outcome ≡ 0) ⊎ (outcome ≡ 7)

-- 2: the outcome is named for an incoming initiation
abbrev pub InitiationNamed : ℕ → Type 0
InitiationNamed outcome = (outcome ≡ 0) ⊎ (outcome ≡ 3) ⊎ (outcome ≡ 4) ⊎ (outcome ≡ 5) ⊎ (outcome ≡ 7)

-- 13: the time is not earlier than the greatest time
abbrev pub Onward : Tunnel → ℕ → Type 0
Onward t now = t.greatest ≤ now

-- 11: the tunnel is not expired
abbrev pub Alive : Tunnel → Type 0
Alive t = t.control.handshake.state ≡ Expired → ⊥

-- Which number turns each call down; 14's condition is `Undamaged`.
pub record NumbersLaw (t : Tunnel) (store : List ℕ) : Type 0 where
  pub new : (index keepalive now : ℕ)
      → FirstFailing (number_of (call_new store index keepalive now).answered.answer) (Timely now) ((keepalive ≤ 65535) × IsStore store) Always Always Always
  pub start : (now : ℕ) → FirstFailing (number_of (call_start t now).answer) (Timely now) Always (Undamaged t) (Onward t now) Always
  pub restart : (now : ℕ) → FirstFailing (number_of (call_restart t now).answer) (Timely now) Always (Undamaged t) (Onward t now) Always
  pub send : (count now : ℕ)
      → FirstFailing (number_of (call_send t count now).answer) (Timely now) (1 ≤ count) (Undamaged t) (Onward t now) (Alive t)
  pub receive : (index id now : ℕ) (counters kinds verdicts skips : List ℕ)
      → FirstFailing (number_of (call_receive t store index id now counters kinds verdicts skips).out.answer) (Timely now)
      (IsStore store × IsBatch counters kinds verdicts skips) (Undamaged t) (Onward t now) (Alive t)
  pub look : (index counter now : ℕ)
      → FirstFailing (number_of (call_look t store index counter now).answer) (Timely now) (IsStore store) (Undamaged t) (Onward t now) (Alive t)
  pub initiation : (peer outcome now : ℕ)
      → FirstFailing (number_of (call_initiation t store peer outcome now).answered.answer) (Timely now) (IsStore store × InitiationNamed outcome)
      (Undamaged t) (Onward t now) (Alive t)
  pub response : (receiver peer outcome now : ℕ)
      → FirstFailing (number_of (call_response t store receiver peer outcome now).answered.answer) (Timely now) (IsStore store × OpeningNamed outcome)
      (Undamaged t) (Onward t now) (Alive t)
  pub cookie : (receiver outcome now : ℕ)
      → FirstFailing (number_of (call_cookie t receiver outcome now).answer) (Timely now) (OpeningNamed outcome) (Undamaged t) (Onward t now) (Alive t)
  pub timeout : (jitter now : ℕ)
      → FirstFailing (number_of (call_timeout t store jitter now).answered.answer) (Timely now) (IsStore store × (jitter ≤ 333000000))
      (Undamaged t) (Onward t now) Always
  pub settle : (jitter now : ℕ)
      → FirstFailing (number_of (call_settle t store jitter now).answered.answer) (Timely now) (IsStore store × (jitter ≤ 333000000))
      (Undamaged t) (Onward t now) Always
  pub event : FirstFailing (number_of (call_event t).answer) Always Always (Undamaged t) Always Always
  pub deadline : FirstFailing (number_of (call_deadline t).answer) Always Always (Undamaged t) Always Always
  pub missing : (index : ℕ) → FirstFailing (number_of (call_missing t store index).answer) Always (IsStore store) (Undamaged t) Always Always
