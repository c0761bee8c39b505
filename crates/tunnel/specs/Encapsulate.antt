-- Data and keepalives sent, after `begin_encapsulate` and `encrypt_keepalive` of src/tunnel.rs.
use Rattle.std.specs.Prelude.{true, false, ℕ, Err, None, Option, Some}
use Rattle.base.specs.Choice.{choose, case_option, case_pair}
use Rattle.tunnel.specs.Control.{with_sessions, with_timers, out_of, refuse, done, expired_control}
use Rattle.tunnel.specs.declared.answer.Answer.TheVariants.{Granted}
use Rattle.tunnel.specs.declared.control.Control.{Control}
use Rattle.tunnel.specs.declared.control.Out.{Out}
use Rattle.tunnel.specs.declared.encapsulate.Encrypted.{Encrypted}
use Rattle.tunnel.specs.Timers.{tick_last_data_packet_sent, tick_last_packet_sent}
use Rattle.sessions.specs.Range.{range}
use Rattle.sessions.specs.Session.{prepare_packet_data, reserve_counters}
use Rattle.sessions.specs.Sessions.{put, sending_session}
use Rattle.sessions.specs.declared.session.Session.{Session}
use Rattle.error.specs.declared.Error.TheVariants.{ConnectionExpired, NoCurrentSession}

-- both send timers ticked, and the session put back
unfoldable pub begin_encapsulate : Control → Session → ℕ → Control
begin_encapsulate c session now =
    with_sessions (with_timers c (tick_last_data_packet_sent (tick_last_packet_sent c.timers now) now)) (put c.sessions session)

-- the counters of data messages reserved; too few left still raise the greatest time
unfoldable pub finish_encapsulate : Control → Session → ℕ → Out
finish_encapsulate c session count =
    case_pair (reserve_counters session count) (out_of c (Err NoCurrentSession) true false)
    (λ first counted. done (with_sessions c (put c.sessions counted)) (Granted (range counted.sending_index first count)))

-- consecutive counters of a session granted to data messages
unfoldable pub grant : Control → Session → (count now : ℕ) → Out
grant c session count now =
    finish_encapsulate (begin_encapsulate c (prepare_packet_data session) now) (prepare_packet_data session) count

-- consecutive counters of the current sending session granted to data messages
unfoldable pub send : Control → (count now : ℕ) → Out
send c count now =
    choose (expired_control c) (refuse c ConnectionExpired)
    (case_option (sending_session c.sessions now) (refuse c NoCurrentSession) (λ session. grant c session count now))

-- a control and a keepalive
abbrev pub encrypted : Control → Option (ℕ × ℕ) → Encrypted
encrypted c keepalive = record { control = c; keepalive = keepalive }

-- a counter of the current sending session taken for a keepalive
unfoldable pub encrypt_keepalive : Control → ℕ → Encrypted
encrypt_keepalive c now =
    case_option (sending_session c.sessions now) (encrypted c None)
    (λ session. case_pair (reserve_counters session 1) (encrypted c None)
    (λ counter counted. encrypted
    (with_timers (with_sessions c (put c.sessions counted)) (tick_last_packet_sent c.timers now))
    (Some (counted.sending_index, counter))))
