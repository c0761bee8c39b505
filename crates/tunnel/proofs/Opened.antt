-- What a handshake message that opened and a cookie reply that was stored make of the handshake.
-- Assumes nothing.
use mathlib.Core.Path.{◌≡◌}
use mathlib.Core.Bool.{Bool, true, false}
use Prim.Native.Nat.{ℕ}
use Rattle.base.proofs.Choice.{ok_parts}
use Rattle.base.specs.Choice.{choose, case_result}
use Rattle.error.specs.declared.Error.{Error}
use Rattle.tunnel.specs.Handshake.{with_states, with_cookies, tracking, append_mac1_and_mac2, receive_handshake_initialization, receive_handshake_response, receive_cookie_reply}
use Rattle.tunnel.specs.declared.handshake.Handshake.{Handshake}
use Rattle.tunnel.specs.declared.handshake.HandshakeState.TheVariants.{None as NoHandshake}
use Rattle.sessions.specs.Session.{new_session}
use Rattle.sessions.specs.declared.session.Role.TheVariants.{Initiator, Responder}
use Rattle.sessions.specs.declared.session.Session.{Session}
use Rattle.std.specs.Prelude.{Err, Ok, Result, Some}

-- the handshake and the session of a message that opened
opened_by : (o : Result Unit Error) (h x : Handshake) (s y : Session)
    → case_result {A = Result (Handshake × Session) Error} o (λ error. Err error) (λ good. Ok (h, s)) ≡ Ok (x, y) → (h ≡ x) × (s ≡ y)
unfolding case_result
opened_by (Ok good) h x s y p = ok_parts h x s y p
opened_by (Err error) h x s y p = absurd (cc)

opened_if : (e : Bool) (o : Result Unit Error) (h x : Handshake) (s y : Session) (error : Error)
    → choose e (case_result {A = Result (Handshake × Session) Error} o (λ error. Err error) (λ good. Ok (h, s))) (Err error) ≡ Ok (x, y) → (h ≡ x) × (s ≡ y)
unfolding choose
opened_if true o h x s y error p = opened_by o h x s y p
opened_if false o h x s y error p = absurd (cc)

module _ (h x : Handshake) (outcome : Result Unit Error) where
  pub initiation_opened : (local peer now : ℕ) (y : Session) → receive_handshake_initialization h local peer outcome now ≡ Ok (x, y)
      → (append_mac1_and_mac2 h local ≡ x) × (new_session local peer Responder now ≡ y)
  unfolding receive_handshake_initialization
  initiation_opened local peer now y p = opened_by _ _ x _ y p

  pub response_opened : (receiver peer now : ℕ) (y : Session) → receive_handshake_response h receiver peer outcome now ≡ Ok (x, y)
      → (with_states h NoHandshake NoHandshake ≡ x) × (new_session receiver peer Initiator now ≡ y)
  unfolding receive_handshake_response
  response_opened receiver peer now y p = opened_if _ _ _ x _ y _ p

-- the handshake with a cookie that was stored
stored_by : (a b : Bool) (o : Result Unit Error) (h x : Handshake) (m n : Error)
    → choose a (choose b (case_result {A = Result Handshake Error} o (λ error. Err error) (λ good. Ok h)) (Err m)) (Err n) ≡ Ok x → h ≡ x
unfolding choose case_result
stored_by true true (Ok good) h x m n p = cc
stored_by true true (Err error) h x m n p = absurd (cc)
stored_by true false o h x m n p = absurd (cc)
stored_by false b o h x m n p = absurd (cc)

pub cookie_stored : (h x : Handshake) (outcome : Result Unit Error) (receiver now : ℕ) → receive_cookie_reply h receiver outcome now ≡ Ok x
    → with_cookies h (tracking false h.cookies.index (Some now)) ≡ x
unfolding receive_cookie_reply
cookie_stored h x outcome receiver now p = stored_by _ _ _ _ x _ _ p
