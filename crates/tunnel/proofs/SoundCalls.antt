-- What keeps a tunnel sound: the frames of the calls over operations that keep its control sound, and a creation.
-- Assumes nothing.
use mathlib.Core.Path.{◌≡◌, refl, sym}
use mathlib.Core.Bool.{Bool, true, false, true≢false}
use mathlib.Core.List.{List}
use Prim.Native.Nat.{ℕ, ◌≤◌}
use native.Mathlib.Omega.{arith}
use lib.Dec.{eqb}
use lib.ListN.{length}
use borrow.Author.Tests.{eqb-true, eqb-false}
use Rattle.base.specs.Choice.{choose}
use Rattle.tunnel.proofs.Kept.{never_within, on_new, on_new_handshake, on_new_ring}
use Rattle.tunnel.proofs.SoundOperations.{SoundOut, SoundStill}
use Rattle.base.proofs.Choice.{known_choice, no_fault, known_result, of_result}
use Rattle.tunnel.proofs.SoundSteps.{SoundControl, eight_empty}
use Rattle.tunnel.proofs.Steps.{all_empty}
use Rattle.tunnel.specs.Control.{new_control}
use Rattle.tunnel.specs.declared.control.Out.{Out}
use Rattle.tunnel.proofs.Queue.{queue_of_newest}
use Rattle.tunnel.specs.Timers.{IntervalWithin, greatest_interval}
use Rattle.sessions.specs.Session.{time_limit}
use Rattle.sessions.specs.Sessions.{new_sessions}
use Rattle.sessions.specs.Store.{whole}
use Rattle.tunnel.proofs.Facts.{undamaged_facts, undamaged_holds}
use Rattle.tunnel.proofs.Framed.{gate_onward, gate_now, gate_good, GoodCreation, good_creation}
use Rattle.tunnel.specs.Arguments.{interval_of, lacking, bad_outcome, creation_number, unnamed}
use Rattle.tunnel.specs.Facts.{Undamaged}
use Rattle.tunnel.specs.Sound.{Sound}
use Rattle.tunnel.specs.Tunnel.{new_tunnel, gate, timeless_gate, refused, let_through, timed, timeless}
use Rattle.tunnel.specs.declared.tunnel.Answered.{Answered}
use Rattle.tunnel.specs.declared.tunnel.Tunnel.{Tunnel}
use Rattle.std.specs.Prelude.{None, Option, Some, Result, Ok}
use Rattle.error.specs.declared.Error.{Error}

-- a sound tunnel's control, and a tunnel with a sound control
pub its_control : (t : Tunnel) → Sound t → SoundControl t.control t.greatest
its_control t s = record { within = (undamaged_facts t s.holds).control; eight = s.eight; sixteen = s.sixteen }

tunnel_sound : (t : Tunnel) → t.greatest ≤ time_limit → t.last_update ≤ t.greatest → SoundControl t.control t.greatest → Sound t
tunnel_sound t l u w =
    record { holds = undamaged_holds t (record { latest = l; updated = u; control = w.within }); eight = w.eight; sixteen = w.sixteen }

-- the last update stays at most the greatest time
ticks : (updates raises : Bool) (now last greatest : ℕ) → (updates ≡ true → raises ≡ true) → last ≤ greatest → greatest ≤ now
    → choose updates now last ≤ choose raises now greatest
unfolding choose
ticks true true now last greatest e l m = omega arith
ticks true false now last greatest e l m = absurd (true≢false (sym (e refl)))
ticks false true now last greatest e l m = omega arith
ticks false false now last greatest e l m = l

-- the frames
module _ (t : Tunnel) (s : Sound t) where
  let_through_sound : (now : ℕ) (out : Out) → now ≤ time_limit → t.greatest ≤ now → SoundOut out t.greatest now → Sound (let_through t now out).tunnel
  unfolding let_through
  let_through_sound now out l m o =
      let f : Undamaged t = undamaged_facts t s.holds in
      tunnel_sound _
      (known_choice (λ (n : ℕ). n ≤ time_limit) out.raises now t.greatest (λ e. l) (λ e. f.latest))
      (ticks out.updates out.raises now t.last_update t.greatest o.ticked f.updated m)
      (known_choice (λ (n : ℕ). SoundControl out.control n) out.raises now t.greatest o.raised o.still)

  still_through_sound : (out : Out) → SoundStill out t.greatest → Sound (let_through t 0 out).tunnel
  unfolding let_through choose
  still_through_sound out o =
      let f : Undamaged t = undamaged_facts t s.holds in
      rw (o.unraised, o.unticked) (tunnel_sound _ f.latest f.updated o.sound)

  pub timed_sound : (bad : Bool) (now : ℕ) (out : Out) → (bad ≡ false → t.greatest ≤ now → SoundOut out t.greatest now)
      → Sound (timed t bad now out).tunnel
  unfolding timed refused
  timed_sound bad now out o =
      known_result (λ (y : Answered). Sound y.tunnel) (gate t bad now) _ _ (λ error. s)
      (λ passed z.
      let m : t.greatest ≤ now = gate_onward t bad now z in
      let_through_sound now out (gate_now t bad now z) m (o (gate_good t bad now z) m))

  pub timeless_sound : (bad : Bool) (out : Out) → SoundStill out t.greatest → Sound (timeless t bad out).tunnel
  unfolding timeless refused
  timeless_sound bad out o =
      of_result (λ (y : Answered). Sound y.tunnel) (timeless_gate t bad) _ _ (λ error. s) (λ passed. still_through_sound out o)

-- a store that comes with a good outcome
pub good_store : (found : Option (Result Unit Error)) (store : List ℕ) → bad_outcome found store ≡ false → length store ≡ 1024
unfolding bad_outcome lacking
good_store found store e = eqb-true (length store) 1024 (no_fault (unnamed found) (whole store) e)

-- the keepalive of a creation
off_within : IntervalWithin None
off_within = record { least = λ s p. let z : ◌≡◌ {A = ℕ} 0 1 = cc in absurd (omega arith); greatest = λ s p. let z : ◌≡◌ {A = ℕ} 0 1 = cc in absurd (omega arith) }

every_within : (seconds : ℕ) → 1 ≤ seconds → seconds ≤ greatest_interval → IntervalWithin (Some seconds)
every_within seconds l m =
    record { least = λ s p. let e : seconds ≡ s = cc in omega arith; greatest = λ s p. let e : seconds ≡ s = cc in omega arith }

interval_within : (keepalive : ℕ) → keepalive ≤ greatest_interval → IntervalWithin (interval_of keepalive)
unfolding interval_of
interval_within keepalive m =
    known_choice IntervalWithin (eqb keepalive 0) None (Some keepalive) (λ e. off_within)
    (λ e. let n : keepalive ≡ 0 → ⊥ = eqb-false keepalive 0 e in every_within keepalive (omega arith) m)

-- a creation
new_sound : (index : ℕ) (interval : Option ℕ) (now : ℕ) → IntervalWithin interval → SoundControl (new_control index interval now) now
unfolding new_control new_sessions
new_sound index interval now i =
    record {
      within = record {
        timers = on_new interval now now i (omega arith);
        handshake = on_new_handshake now;
        first = never_within now;
        sessions = all_empty now (new_sessions index);
        events = on_new_ring now;
      };
      eight = eight_empty;
      sixteen = queue_of_newest.fresh.places;
    }

pub made_sound : (index keepalive now : ℕ) → keepalive ≤ greatest_interval → now ≤ time_limit → Sound (new_tunnel index keepalive now)
unfolding new_tunnel
made_sound index keepalive now k l = tunnel_sound _ l (omega arith) (new_sound index (interval_of keepalive) now (interval_within keepalive k))

module _ (store : List ℕ) (index keepalive now : ℕ) where
  pub good_made : {passed : Unit} → creation_number store keepalive now ≡ Ok passed → Sound (new_tunnel index keepalive now)
  good_made {passed} z =
      let g : GoodCreation keepalive now = good_creation store keepalive now z in
      made_sound index keepalive now g.keepalive g.time
