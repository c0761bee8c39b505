-- The persistent keepalive's setting stays over every call.
-- Assumes nothing.
use mathlib.Core.Path.{◌≡◌, ◌∙◌}
use Prim.Native.Nat.{ℕ}
use Rattle.demands.specs.Calls.Call.{start, restart, send, receive, look, initiation, response, cookie, timeout, settle, event, deadline, missing}
use Rattle.demands.specs.Calls.{Call, World, step}
use Rattle.tunnel.proofs.Laws.{setting_law}
use Rattle.tunnel.specs.Laws.{setting_of}
use Rattle.std.specs.Prelude.{Option}

setting_same : (w : World) (call : Call) → setting_of (step w call).world.tunnel ≡ setting_of w.tunnel
unfolding step
setting_same w (start now) = (setting_law w.tunnel w.store).start now
setting_same w (restart now) = (setting_law w.tunnel w.store).restart now
setting_same w (send count now) = (setting_law w.tunnel w.store).send count now
setting_same w (receive index id now counters kinds verdicts skips) = (setting_law w.tunnel w.store).receive index id now counters kinds verdicts skips
setting_same w (look index counter now) = (setting_law w.tunnel w.store).look index counter now
setting_same w (initiation peer outcome now) = (setting_law w.tunnel w.store).initiation peer outcome now
setting_same w (response receiver peer outcome now) = (setting_law w.tunnel w.store).response receiver peer outcome now
setting_same w (cookie receiver outcome now) = (setting_law w.tunnel w.store).cookie receiver outcome now
setting_same w (timeout jitter now) = (setting_law w.tunnel w.store).timeout jitter now
setting_same w (settle jitter now) = (setting_law w.tunnel w.store).settle jitter now
setting_same w event = (setting_law w.tunnel w.store).event
setting_same w deadline = (setting_law w.tunnel w.store).deadline
setting_same w (missing index) = (setting_law w.tunnel w.store).missing index

pub setting_stays : (interval : Option ℕ) (w : World) (call : Call) → setting_of w.tunnel ≡ interval → setting_of (step w call).world.tunnel ≡ interval
setting_stays interval w call e = setting_same w call ∙ e
