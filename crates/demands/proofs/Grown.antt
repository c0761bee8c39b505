-- Every tunnel grown from a creation that is not turned down is sound, and has no current session if it is expired.
-- Assumes nothing.
use mathlib.Core.Path.{refl, sym, subst}
use mathlib.Core.List.{List, [], ◌∷◌}
use Prim.Native.Nat.{ℕ}
use Rattle.demands.specs.Calls.Call.{start, restart, send, receive, look, initiation, response, cookie, timeout, settle, event, deadline, missing}
use Rattle.demands.proofs.Created.{good_made}
use Rattle.demands.specs.Calls.{Call, World, step, after, Creation, created, Good}
use Rattle.demands.specs.Grown.{Grown}
use Rattle.sessions.specs.Sessions.{new_sessions, current_of}
use Rattle.tunnel.proofs.Laws.{sound_law, created_law, expired_law}
use Rattle.tunnel.specs.AfterStates.{NoneCurrent}
use Rattle.tunnel.specs.Control.{new_control}
use Rattle.tunnel.specs.Sound.{Sound}
use Rattle.tunnel.specs.Tunnel.{new_tunnel}
use Rattle.base.specs.Choice.{case_option}

-- a step
pub sound_step : (w : World) (call : Call) → Sound w.tunnel → Sound (step w call).world.tunnel
unfolding step
sound_step w (start now) s = (sound_law w.tunnel s).start now
sound_step w (restart now) s = (sound_law w.tunnel s).restart now
sound_step w (send count now) s = (sound_law w.tunnel s).send count now
sound_step w (receive index id now counters kinds verdicts skips) s = (sound_law w.tunnel s).receive w.store index id now counters kinds verdicts skips
sound_step w (look index counter now) s = (sound_law w.tunnel s).look w.store index counter now
sound_step w (initiation peer outcome now) s = (sound_law w.tunnel s).initiation w.store peer outcome now
sound_step w (response receiver peer outcome now) s = (sound_law w.tunnel s).response w.store receiver peer outcome now
sound_step w (cookie receiver outcome now) s = (sound_law w.tunnel s).cookie receiver outcome now
sound_step w (timeout jitter now) s = (sound_law w.tunnel s).timeout w.store jitter now
sound_step w (settle jitter now) s = (sound_law w.tunnel s).settle w.store jitter now
sound_step w event s = (sound_law w.tunnel s).event
sound_step w deadline s = (sound_law w.tunnel s).deadline
sound_step w (missing index) s = (sound_law w.tunnel s).missing w.store index

-- a list of calls
pub sound_after : (calls : List Call) (w : World) → Sound w.tunnel → Sound (after w calls).tunnel
unfolding after
sound_after [] w s = s
sound_after (call ∷ calls) w s = sound_after calls (step w call).world (sound_step w call s)

pub sound_created : (c : Creation) → Sound (created c).tunnel
sound_created c = (created_law c.store c.index c.keepalive c.now).tunnel

pub grown : Grown
grown c good calls = (sound_after calls (created c) (sound_created c)).holds

-- an expired tunnel has no current session: a step, a list of calls, and a creation
none_step : (w : World) (call : Call) → NoneCurrent w.tunnel → NoneCurrent (step w call).world.tunnel
unfolding step
none_step w (start now) n = (expired_law w.tunnel w.store n).start now
none_step w (restart now) n = (expired_law w.tunnel w.store n).restart now
none_step w (send count now) n = (expired_law w.tunnel w.store n).send count now
none_step w (receive index id now counters kinds verdicts skips) n = (expired_law w.tunnel w.store n).receive index id now counters kinds verdicts skips
none_step w (look index counter now) n = (expired_law w.tunnel w.store n).look index counter now
none_step w (initiation peer outcome now) n = (expired_law w.tunnel w.store n).initiation peer outcome now
none_step w (response receiver peer outcome now) n = (expired_law w.tunnel w.store n).response receiver peer outcome now
none_step w (cookie receiver outcome now) n = (expired_law w.tunnel w.store n).cookie receiver outcome now
none_step w (timeout jitter now) n = (expired_law w.tunnel w.store n).timeout jitter now
none_step w (settle jitter now) n = (expired_law w.tunnel w.store n).settle jitter now
none_step w event n = (expired_law w.tunnel w.store n).event
none_step w deadline n = (expired_law w.tunnel w.store n).deadline
none_step w (missing index) n = (expired_law w.tunnel w.store n).missing index

none_after : (calls : List Call) (w : World) → NoneCurrent w.tunnel → NoneCurrent (after w calls).tunnel
unfolding after
none_after [] w n = n
none_after (call ∷ calls) w n = none_after calls (step w call).world (none_step w call n)

none_new : (index keepalive now : ℕ) → NoneCurrent (new_tunnel index keepalive now)
unfolding new_tunnel new_control new_sessions current_of case_option
none_new index keepalive now e = refl

pub none_current : (c : Creation) → Good c → (calls : List Call) → NoneCurrent (after (created c) calls).tunnel
none_current c good calls =
    none_after calls (created c) (subst (λ (w : World). NoneCurrent w.tunnel) (sym (good_made c good)) (none_new c.index c.keepalive c.now))
