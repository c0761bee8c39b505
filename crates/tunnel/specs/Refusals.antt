-- Which number turns a handshake message or an early look down that 1, 2, 14, 13 and 11 let through.
use Rattle.std.specs.Prelude.{◌≡◌, true, false, List, ◌⊎◌, ℕ, ◌+◌, ◌<◌}
use Rattle.sessions.specs.Index.{slot_of}
use Rattle.sessions.specs.Sessions.{slot_at}
use Rattle.sessions.specs.declared.session.Session.{Session}
use Rattle.tunnel.specs.Answer.{number_of}
use Rattle.tunnel.specs.Facts.{Undamaged}
use Rattle.tunnel.specs.Numbers.{Timely, IsStore, OpeningNamed, InitiationNamed, Onward, Alive}
use Rattle.tunnel.specs.Tunnel.{call_look, call_initiation, call_response, call_cookie}
use Rattle.tunnel.specs.declared.handshake.HandshakeState.TheVariants.{InitSent}
use Rattle.tunnel.specs.declared.handshake.HandshakeState.{HandshakeState}
use Rattle.tunnel.specs.declared.tunnel.Tunnel.{Tunnel}

-- 1, 2, 14, 13 and 11 let a call through: what 2 asks of its arguments is given
pub record LetThrough (t : Tunnel) (arguments : Type 0) (now : ℕ) : Type 0 where
  pub timely : Timely now
  pub good : arguments
  pub sound : Undamaged t
  pub onward : Onward t now
  pub alive : Alive t

-- a state is an initiation with this local index
abbrev pub Awaits : HandshakeState → ℕ → Type 0
Awaits state index = (time : ℕ) × (state ≡ InitSent index time)

-- the present or the previous initiation has this local index
abbrev pub Awaited : Tunnel → ℕ → Type 0
Awaited t index = Awaits t.control.handshake.state index ⊎ Awaits t.control.handshake.previous index

-- the record in the slot of an index
abbrev pub slot_record : Tunnel → ℕ → Session
slot_record t index = slot_at t.control.sessions (slot_of index)

-- the slot of an index holds a session younger than 180 s
pub record YoungInSlot (t : Tunnel) (index now : ℕ) : Type 0 where
  pub filled : (slot_record t index).filled ≡ true
  pub young : now < (slot_record t index).established_at + 180000000000

-- Which number turns down a message or a look that those five let through:
pub record RefusalsLaw (t : Tunnel) (store : List ℕ) : Type 0 where
  -- an incoming initiation: its outcome's own
  pub initiation : (peer outcome now : ℕ) → LetThrough t (IsStore store × InitiationNamed outcome) now
      → number_of (call_initiation t store peer outcome now).answered.answer ≡ outcome
  -- a response to neither of the two initiations: 8
  pub unexpected : (receiver peer outcome now : ℕ) → LetThrough t (IsStore store × OpeningNamed outcome) now → (Awaited t receiver → ⊥)
      → number_of (call_response t store receiver peer outcome now).answered.answer ≡ 8
  -- a response to one of them that failed to open: 7
  pub unopened : (receiver peer now : ℕ) → LetThrough t (IsStore store) now → Awaited t receiver
      → number_of (call_response t store receiver peer 7 now).answered.answer ≡ 7
  -- a cookie reply where none is awaited: 8
  pub no_cookie : (receiver outcome now : ℕ) → LetThrough t (OpeningNamed outcome) now → t.control.handshake.cookies.last_mac1 ≡ false
      → number_of (call_cookie t receiver outcome now).answer ≡ 8
  -- a cookie reply for another index than that of the message: 6
  pub other_cookie : (receiver outcome now : ℕ) → LetThrough t (OpeningNamed outcome) now → t.control.handshake.cookies.last_mac1 ≡ true
      → (receiver ≡ t.control.handshake.cookies.index → ⊥) → number_of (call_cookie t receiver outcome now).answer ≡ 6
  -- an awaited cookie reply: its outcome's own
  pub cookie : (receiver outcome now : ℕ) → LetThrough t (OpeningNamed outcome) now → t.control.handshake.cookies.last_mac1 ≡ true
      → receiver ≡ t.control.handshake.cookies.index → number_of (call_cookie t receiver outcome now).answer ≡ outcome
  -- a look where the index's slot holds no session younger than 180 s: 12
  pub no_session : (index counter now : ℕ) → LetThrough t (IsStore store) now → (YoungInSlot t index now → ⊥)
      → number_of (call_look t store index counter now).answer ≡ 12
  -- a look where it holds such a session of another index: 6
  pub other_session : (index counter now : ℕ) → LetThrough t (IsStore store) now → YoungInSlot t index now
      → ((slot_record t index).receiving_index ≡ index → ⊥) → number_of (call_look t store index counter now).answer ≡ 6
