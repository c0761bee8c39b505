-- Handshake messages received, after `handle_handshake_initiation`, `handle_handshake_response` and `handle_cookie_reply` of src/tunnel.rs.
use Rattle.std.specs.Prelude.{List, ℕ, Result, unwrap_or}
use Rattle.base.specs.Choice.{choose, case_pair, case_result, case_results}
use Rattle.tunnel.specs.Control.{Turn, with_handshake, with_sessions, with_timers, refuse, done, expired_control}
use Rattle.tunnel.specs.Encapsulate.{encrypt_keepalive}
use Rattle.tunnel.specs.Decapsulate.{confirm_first_session}
use Rattle.tunnel.specs.declared.answer.Answer.TheVariants.{Done, Response, Keepalive}
use Rattle.tunnel.specs.declared.control.Control.{Control}
use Rattle.tunnel.specs.declared.control.Out.{Out}
use Rattle.tunnel.specs.Handshake.{receive_handshake_initialization, receive_handshake_response, receive_cookie_reply}
use Rattle.tunnel.specs.Timers.{tick_completed, tick_response}
use Rattle.tunnel.specs.declared.handshake.Handshake.{Handshake}
use Rattle.sessions.specs.Sessions.{next_index, insert, set_current}
use Rattle.sessions.specs.declared.session.Session.{Session}
use Rattle.error.specs.declared.Error.TheVariants.{ConnectionExpired, NoCurrentSession}
use Rattle.error.specs.declared.Error.{Error}

-- the control after an answered initiation
unfoldable pub responding : Control → Handshake → List ℕ → Session → ℕ → Control
responding c handshake store session now =
    with_timers (with_sessions (with_handshake c handshake) (insert c.sessions store session).sessions) (tick_response c.timers now)

-- an initiation answered with a local index already allocated
unfoldable pub respond : Control → List ℕ → (local peer : ℕ) → Result Unit Error → ℕ → Turn
respond c store local peer outcome now =
    case_results (receive_handshake_initialization c.handshake local peer outcome now)
    (λ error. record { out = refuse c error; store = store })
    (λ handshake session. record {
      out = done (responding c handshake store session now) (Response local peer);
      store = (insert c.sessions store session).store;
    })

-- an initiation answered; its local index is used up even where it is turned down
unfoldable pub handle_handshake_initiation : Control → List ℕ → ℕ → Result Unit Error → ℕ → Turn
handle_handshake_initiation c store peer outcome now =
    choose (expired_control c) (record { out = refuse c ConnectionExpired; store = store })
    (respond (with_sessions c (next_index c.sessions).sessions) store (next_index c.sessions).index peer outcome now)

-- the session of a completed handshake made the current one and confirmed
unfoldable pub confirming : Control → (local now : ℕ) → Control
confirming c local now =
    confirm_first_session
    (with_timers (with_sessions c (set_current c.sessions local)) (tick_completed c.timers now))
    (unwrap_or c.first_initiation_at now)
    now

-- the session made current and confirmed, and the keepalive that tells the responder
unfoldable pub establish : Control → (local now : ℕ) → Out
establish c local now =
    case_pair (encrypt_keepalive (confirming c local now) now).keepalive
    (refuse (encrypt_keepalive (confirming c local now) now).control NoCurrentSession)
    (λ peer counter. done (encrypt_keepalive (confirming c local now) now).control (Keepalive peer counter))

-- the session of a completed handshake stored and confirmed
unfoldable pub complete : Control → Handshake → List ℕ → Session → (receiver now : ℕ) → Out
complete c handshake store session receiver now =
    establish (with_sessions (with_handshake c handshake) (insert c.sessions store session).sessions) receiver now

-- a handshake that this tunnel initiated completed
unfoldable pub handle_handshake_response : Control → List ℕ → (receiver peer : ℕ) → Result Unit Error → ℕ → Turn
handle_handshake_response c store receiver peer outcome now =
    choose (expired_control c) (record { out = refuse c ConnectionExpired; store = store })
    (case_results (receive_handshake_response c.handshake receiver peer outcome now)
    (λ error. record { out = refuse c error; store = store })
    (λ handshake session. record {
      out = complete c handshake store session receiver now;
      store = (insert c.sessions store session).store;
    }))

-- the cookie from a reply stored
unfoldable pub handle_cookie_reply : Control → ℕ → Result Unit Error → ℕ → Out
handle_cookie_reply c receiver outcome now =
    choose (expired_control c) (refuse c ConnectionExpired)
    (case_result (receive_cookie_reply c.handshake receiver outcome now)
    (refuse c)
    (λ handshake. done (with_handshake c handshake) Done))
