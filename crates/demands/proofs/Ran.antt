-- The Rust's state after a call is that of the tunnel, where number 14 lets the tunnel through; and so after every list of calls from a creation.
-- Assumes nothing.
use mathlib.Core.Path.{◌≡◌, refl, ap, sym, ◌∙◌}
use mathlib.Core.Bool.{Bool, true, false}
use mathlib.Core.List.{List, [], ◌∷◌}
use Prim.Native.Nat.{ℕ}
use lib.Dec.{ltb}
use Rattle.base.specs.Choice.{choose, case_result}
use Rattle.base.proofs.Choice.{of_result}
use Rattle.tunnel.specs.Control.{refuse, poll_event, missing_report}
use Rattle.tunnel.specs.declared.control.Out.{Out}
use Rattle.demands.proofs.Created.{good_made}
use Rattle.demands.proofs.Grown.{sound_step, sound_created}
use Rattle.demands.proofs.Twins.{deadline_still}
use Rattle.demands.specs.Calls.Call.{start, restart, send, receive, look, initiation, response, cookie, timeout, settle, event, deadline, missing}
use Rattle.demands.specs.Calls.{Call, World, step, after, Creation, created, Good}
use Rattle.demands.specs.Wakings.{Ran, took, ran, ran_new, ran_after}
use Rattle.sessions.specs.Session.{time_limit}
use Rattle.base.specs.Lists.{zeros}
use Rattle.tunnel.specs.Damage.{undamaged}
use Rattle.tunnel.specs.Sound.{Sound}
use Rattle.tunnel.specs.Tunnel.{new_tunnel, gate, timeless_gate, refused, let_through, timed, timeless, kept, timed_turn, timed_batch, call_start, call_restart, call_send, call_receive, call_look, call_initiation, call_response, call_cookie, call_timeout, call_settle, call_event, call_missing}
use Rattle.tunnel.specs.declared.tunnel.Answered.{Answered}
use Rattle.tunnel.specs.declared.tunnel.Tunnel.{Tunnel}

-- the Rust's state that a tunnel and a store stand for
abbrev pub ran_of : Tunnel → List ℕ → Ran
ran_of t store = record { control = t.control; store = store; clock = t.greatest }

-- what the Rust takes is what the checks let through
module _ (t : Tunnel) (store : List ℕ) (u : undamaged t ≡ true) where
  took_is : (bad : Bool) (now : ℕ) (out : Out) (left : List ℕ)
      → took (ran_of t store) bad now out left ≡ ran_of (timed t bad now out).tunnel (kept t bad now store left)
  unfolding took timed kept gate let_through refused case_result choose
  took_is bad now out left = go (ltb time_limit now) bad (ltb now t.greatest) refl refl
    where
      go : (late is back : Bool) → ltb time_limit now ≡ late → ltb now t.greatest ≡ back
          → took (ran_of t store) is now out left ≡ ran_of (timed t is now out).tunnel (kept t is now store left)
      go true is back e f = rw e refl
      go false true back e f = rw e refl
      go false false true e f = rw (e, f, u) refl
      go false false false e f = rw (e, f, u) refl

  kept_same : (bad : Bool) (now : ℕ) → kept t bad now store store ≡ store
  unfolding kept
  kept_same bad now = of_result (λ (s : List ℕ). s ≡ store) _ _ _ (λ e. refl) (λ good. refl)

  took_plain : (bad : Bool) (now : ℕ) (out : Out) → took (ran_of t store) bad now out store ≡ ran_of (timed t bad now out).tunnel store
  took_plain bad now out = took_is bad now out store ∙ ap (ran_of (timed t bad now out).tunnel) (kept_same bad now)

  -- an outcome that leaves the control and raises nothing
  record Stays (out : Out) : Type 0 where
    control : out.control ≡ t.control
    raises : out.raises ≡ false

  missing_stays : (index : ℕ) → Stays (missing_report t.control store index)
  unfolding missing_report refuse
  missing_stays index = of_result Stays _ _ _ (λ n. record { control = refl; raises = refl }) (λ n. record { control = refl; raises = refl })

  stays_let_through : (out : Out) → Stays out → ran_of t store ≡ ran_of (let_through t 0 out).tunnel store
  unfolding let_through choose
  stays_let_through out h = rw (h.control, h.raises) refl

  stays_timeless : (bad : Bool) (out : Out) → Stays out → ran_of t store ≡ ran_of (timeless t bad out).tunnel store
  unfolding timeless refused
  stays_timeless bad out h = of_result (λ (a : Answered). ran_of t store ≡ ran_of a.tunnel store) _ _ _ (λ e. refl) (λ good. stays_let_through out h)

  event_is : ran (ran_of t store) event ≡ ran_of (call_event t).tunnel store
  unfolding ran call_event timeless timeless_gate let_through poll_event case_result choose
  event_is = rw u refl

-- the Rust after a call
pub ran_step : (w : World) (call : Call) → undamaged w.tunnel ≡ true
    → ran (ran_of w.tunnel w.store) call ≡ ran_of (step w call).world.tunnel (step w call).world.store
unfolding ran step call_start call_restart call_send call_receive call_look call_initiation call_response call_cookie call_timeout call_settle call_missing timed_turn timed_batch
ran_step w (start now) u = took_plain w.tunnel w.store u _ now _
ran_step w (restart now) u = took_plain w.tunnel w.store u _ now _
ran_step w (send count now) u = took_plain w.tunnel w.store u _ now _
ran_step w (receive index id now counters kinds verdicts skips) u = took_is w.tunnel w.store u _ now _ _
ran_step w (look index counter now) u = took_plain w.tunnel w.store u _ now _
ran_step w (initiation peer outcome now) u = took_is w.tunnel w.store u _ now _ _
ran_step w (response receiver peer outcome now) u = took_is w.tunnel w.store u _ now _ _
ran_step w (cookie receiver outcome now) u = took_plain w.tunnel w.store u _ now _
ran_step w (timeout jitter now) u = took_is w.tunnel w.store u _ now _ _
ran_step w (settle jitter now) u = took_is w.tunnel w.store u _ now _ _
ran_step w event u = event_is w.tunnel w.store u
ran_step w deadline u = ap (λ (t : Tunnel). ran_of t w.store) (sym (deadline_still w.tunnel u))
ran_step w (missing index) u = stays_timeless w.tunnel w.store u _ _ (missing_stays w.tunnel w.store u index)

-- the Rust at a creation, and after a list of calls from it
made_ran : (c : Creation) → ran_new c ≡ ran_of (new_tunnel c.index c.keepalive c.now) (zeros 1024)
unfolding new_tunnel
made_ran c = refl

pub created_ran : (c : Creation) → Good c → ran_new c ≡ ran_of (created c).tunnel (created c).store
created_ran c good = made_ran c ∙ sym (ap (λ (w : World). ran_of w.tunnel w.store) (good_made c good))

ran_after_lem : (calls : List Call) (w : World) → Sound w.tunnel
    → ran_after (ran_of w.tunnel w.store) calls ≡ ran_of (after w calls).tunnel (after w calls).store
unfolding ran_after after
ran_after_lem [] w s = refl
ran_after_lem (call ∷ calls) w s =
    ap (λ (r : Ran). ran_after r calls) (ran_step w call s.holds) ∙ ran_after_lem calls (step w call).world (sound_step w call s)

pub ran_created : (c : Creation) → Good c → (calls : List Call)
    → ran_after (ran_new c) calls ≡ ran_of (after (created c) calls).tunnel (after (created c) calls).store
ran_created c good calls = ap (λ (r : Ran). ran_after r calls) (created_ran c good) ∙ ran_after_lem calls (created c) (sound_created c)
