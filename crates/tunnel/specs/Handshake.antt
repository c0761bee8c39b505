-- Handshake state and cookie tracking, after src/handshake.rs, without key material.
use Rattle.std.specs.Prelude.{Bool, true, false, ◌≡◌, ℕ, ◌+◌, ◌≤◌, eqb, Err, None, Ok, Option, Result, Some}
use Rattle.base.specs.Choice.{choose, case_option, case_result}
use Rattle.tunnel.specs.Timers.{cookie_expiration_time, TimeWithin}
use Rattle.tunnel.specs.declared.handshake.Cookies.{Cookies}
use Rattle.tunnel.specs.declared.handshake.Handshake.{Handshake}
use Rattle.tunnel.specs.declared.handshake.HandshakeState.{HandshakeState}
use Rattle.tunnel.specs.declared.handshake.HandshakeState.TheVariants.{None as NoHandshake, InitSent, Expired}
use Rattle.sessions.specs.Session.{due_by, new_session}
use Rattle.sessions.specs.declared.session.Role.TheVariants.{Initiator, Responder}
use Rattle.tunnel.specs.Cases.{case_state}
use Rattle.error.specs.declared.Error.TheVariants.{UnexpectedPacket, WrongIndex}
use Rattle.error.specs.declared.Error.{Error}
use Rattle.sessions.specs.declared.session.Session.{Session}

-- a handshake's cookie tracking of three fields
abbrev pub tracking : Bool → ℕ → Option ℕ → Cookies
tracking awaited index received = record { last_mac1 = awaited; index = index; write_cookie = received }

-- a handshake with other states
abbrev pub with_states : Handshake → (previous state : HandshakeState) → Handshake
with_states h previous state = record { previous = previous; state = state; cookies = h.cookies }

-- a handshake with another cookie tracking
abbrev pub with_cookies : Handshake → Cookies → Handshake
with_cookies h cookies = record { previous = h.previous; state = h.state; cookies = cookies }

-- an initiation, if this is one, was sent at this time at most
pub record SentWithin (state : HandshakeState) (most : ℕ) : Type 0 where
  pub within : (local sent : ℕ) → state ≡ InitSent local sent → sent ≤ most

-- no time of the present and the previous initiation and of the cookie is above this time
pub record HandshakeWithin (h : Handshake) (most : ℕ) : Type 0 where
  pub present : SentWithin h.state most
  pub earlier : SentWithin h.previous most
  pub cookie : TimeWithin h.cookies.write_cookie most

-- no handshake yet, and no cookie
unfoldable pub new_handshake : Handshake
new_handshake = record { previous = NoHandshake; state = NoHandshake; cookies = tracking false 0 None }

-- whether a state is an initiation with this local index
unfoldable pub awaits : HandshakeState → ℕ → Bool
awaits state index = case_state state false (λ local sent. eqb local index) false

-- whether an initiation awaits a response
unfoldable pub is_in_progress : Handshake → Bool
is_in_progress h = case_state h.state false (λ local sent. true) false

-- when the initiation that awaits a response was sent
unfoldable pub in_flight_initiation : Handshake → Option ℕ
in_flight_initiation h = case_state h.state None (λ local sent. Some sent) None

-- neither initiation is accepted any more, and none can be sent
unfoldable pub set_expired : Handshake → Handshake
set_expired h = with_states h Expired Expired

-- whether the connection has expired
unfoldable pub is_expired : Handshake → Bool
is_expired h = case_state h.state false (λ local sent. false) true

-- when the stored cookie expires
unfoldable pub cookie_expiration : Handshake → Option ℕ
cookie_expiration h = case_option h.cookies.write_cookie None (λ at. Some (at + cookie_expiration_time))

-- the stored cookie dropped
unfoldable pub clear_cookie : Handshake → Handshake
clear_cookie h = with_cookies h (tracking h.cookies.last_mac1 h.cookies.index None)

-- the stored cookie dropped if it has expired
unfoldable pub expire_cookie : Handshake → ℕ → Handshake
expire_cookie h now = choose (due_by (cookie_expiration h) now) (clear_cookie h) h

-- a message with this local index was sent, whose cookie reply is then awaited
unfoldable pub append_mac1_and_mac2 : Handshake → ℕ → Handshake
append_mac1_and_mac2 h local = with_cookies h (tracking true local h.cookies.write_cookie)

-- a new handshake, with the present initiation kept as the previous one
unfoldable pub initiate_handshake : Handshake → (local now : ℕ) → Handshake
initiate_handshake h local now = append_mac1_and_mac2 (with_states h h.state (InitSent local now)) local

-- a handshake initiation answered: the handshake after it and the session with this local index, or what the outcome turns it down by
unfoldable pub receive_handshake_initialization : Handshake → (local peer : ℕ) → Result Unit Error → ℕ → Result (Handshake × Session) Error
receive_handshake_initialization h local peer outcome now =
    case_result outcome (λ error. Err error) (λ good. Ok (append_mac1_and_mac2 h local, new_session local peer Responder now))

-- whether a response is for one of the two latest initiations
unfoldable pub expects : Handshake → ℕ → Bool
expects h receiver = choose (awaits h.state receiver) true (awaits h.previous receiver)

-- the handshake completed by a response to either of the two latest initiations; one that fails to open leaves both in place
unfoldable pub receive_handshake_response : Handshake → (receiver peer : ℕ) → Result Unit Error → ℕ → Result (Handshake × Session) Error
receive_handshake_response h receiver peer outcome now =
    choose (expects h receiver)
    (case_result outcome (λ error. Err error) (λ good. Ok (with_states h NoHandshake NoHandshake, new_session receiver peer Initiator now)))
    (Err UnexpectedPacket)

-- the cookie of a reply stored
unfoldable pub receive_cookie_reply : Handshake → ℕ → Result Unit Error → ℕ → Result Handshake Error
receive_cookie_reply h receiver outcome now =
    choose h.cookies.last_mac1
    (choose (eqb receiver h.cookies.index)
    (case_result outcome (λ error. Err error) (λ good. Ok (with_cookies h (tracking false h.cookies.index (Some now)))))
    (Err WrongIndex))
    (Err UnexpectedPacket)
