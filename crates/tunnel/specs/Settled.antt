-- What settling comes to: the plain repetition of single wakings, without a bound, said of the calls.
use Rattle.std.specs.Prelude.{◌≡◌, List, [], ◌∷◌, ℕ, suc, ◌-◌, ◌^◌, ◌≤◌, ◌<◌, None, Some, Ok}
use Rattle.base.specs.Lists.{zeros}
use Rattle.sessions.specs.Session.{new_session, with_counter}
use Rattle.sessions.specs.Sessions.{new_sessions, put, select}
use Rattle.sessions.specs.declared.session.Role.TheVariants.{Initiator}
use Rattle.tunnel.specs.AfterStates.{with_control, with_greatest}
use Rattle.tunnel.specs.Ahead.{events_of}
use Rattle.tunnel.specs.Answer.{number_of}
use Rattle.tunnel.specs.Control.{with_events, with_sessions}
use Rattle.tunnel.specs.RingBuffer.{new_ring}
use Rattle.tunnel.specs.Tunnel.{new_tunnel, call_timeout, call_settle, call_deadline}
use Rattle.tunnel.specs.declared.answer.Answer.TheVariants.{Deadline, Woke}
use Rattle.tunnel.specs.declared.event.Event.TheVariants.{SendHandshakeInitiation, SendKeepalive}
use Rattle.tunnel.specs.declared.tunnel.Answered.{Answered}
use Rattle.tunnel.specs.declared.tunnel.Tunnel.{Tunnel}

-- a tunnel without its queued events
abbrev pub without_events : Tunnel → Tunnel
without_events t = with_control t (with_events t.control new_ring)

-- the next deadline, queued events disregarded, is at or before a time
pub record HasCome (t : Tunnel) (now : ℕ) : Type 0 where
  pub at : ℕ
  pub deadline : (call_deadline (without_events t)).answer ≡ Ok (Deadline (Some at))
  pub come : at ≤ now

-- it is later or none
pub data IsLater (t : Tunnel) (now : ℕ) : Type 0 where
  none : (call_deadline (without_events t)).answer ≡ Ok (Deadline None) → IsLater t now
  later : (at : ℕ) → (call_deadline (without_events t)).answer ≡ Ok (Deadline (Some at)) → now < at → IsLater t now

-- The plain repetition at one time with one jitter: so many wakings, each made where the deadline has come, lead from a tunnel and a store to others
-- where it is later or none.
pub data Repeats (jitter now : ℕ) : Tunnel → List ℕ → ℕ → Tunnel → List ℕ → Type 0 where
  rests : {t : Tunnel} {store : List ℕ} → IsLater t now → Repeats jitter now t store 0 t store
  wakes : {t last : Tunnel} {store left : List ℕ} {wakings : ℕ} → HasCome t now
      → Repeats jitter now (call_timeout t store jitter now).answered.tunnel (call_timeout t store jitter now).store wakings last left
      → Repeats jitter now t store (suc wakings) last left

-- what a settling is to leave that made so many wakings and came to a tunnel and a store: these, with the greatest time raised
pub record ComesTo (t : Tunnel) (store : List ℕ) (jitter now wakings : ℕ) (last : Tunnel) (left : List ℕ) : Type 0 where
  pub answer : (call_settle t store jitter now).answered.answer ≡ Ok (Woke wakings)
  pub tunnel : (call_settle t store jitter now).answered.tunnel ≡ with_greatest last now
  pub words : (call_settle t store jitter now).store ≡ left

-- the repetition that a settling stands for
pub record Settles (t : Tunnel) (store : List ℕ) (jitter now : ℕ) : Type 0 where
  pub wakings : ℕ
  pub last : Tunnel
  pub left : List ℕ
  pub repeats : Repeats jitter now t store wakings last left
  pub most : wakings ≤ 3
  pub comes : ComesTo t store jitter now wakings last left

-- Settling that is not turned down:
pub record SettleLaw (t : Tunnel) (store : List ℕ) (jitter now : ℕ) : Type 0 where
  -- the repetition ends, after three wakings at most, and settling comes to it
  pub ends : number_of (call_settle t store jitter now).answered.answer ≡ 0 → Settles t store jitter now
  -- and to no other
  pub only : number_of (call_settle t store jitter now).answered.answer ≡ 0 → (wakings : ℕ) (last : Tunnel) (left : List ℕ)
      → Repeats jitter now t store wakings last left → ComesTo t store jitter now wakings last left

-- a tunnel of time 0 with a persistent keepalive of 1 s and a current session with local index 257 and peer 9, established at time 0, that has granted
-- so many counters
unfoldable pub granted : ℕ → Tunnel
granted counters =
    with_control (new_tunnel 257 1 0)
    (with_sessions (new_tunnel 257 1 0).control (select (put (new_sessions 257) (with_counter (new_session 257 9 Initiator 0) counters)) 257))

-- what settling it over a store of zeros hands back
abbrev pub settling : (counters jitter now : ℕ) → Answered
settling counters jitter now = (call_settle (granted counters) (zeros 1024) jitter now).answered

-- There are settlings that wake never, once, twice and three times: before the keepalive; for the keepalive; for the keepalive whose counter brings
-- the session to 2^60, and to schedule the handshake that is then required for later; and also to send it at once. The events are those of single wakings.
pub record SettleExample : Type 0 where
  pub never : (settling 1 0 999999999).answer ≡ Ok (Woke 0)
  pub once : (settling 1 0 1000000000).answer ≡ Ok (Woke 1)
  pub twice : (settling (2 ^ 60 - 1) 1 1000000000).answer ≡ Ok (Woke 2)
  pub thrice : (settling (2 ^ 60 - 1) 0 1000000000).answer ≡ Ok (Woke 3)
  pub queue : events_of (settling (2 ^ 60 - 1) 0 1000000000).tunnel ≡ Some (SendKeepalive 9 (2 ^ 60 - 1)) ∷ Some (SendHandshakeInitiation 258) ∷ []
