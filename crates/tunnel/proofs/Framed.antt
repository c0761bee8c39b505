-- The frame of the calls: what a call hands back where a check turns it down and where it lets it through, and what is known then.
-- Assumes nothing.
use mathlib.Core.Path.{◌≡◌, refl, sym, ◌∙◌}
use mathlib.Core.Bool.{Bool, true, false, true≢false}
use mathlib.Core.List.{List}
use Prim.Native.Nat.{ℕ, ◌≤◌}
use lib.Dec.{ltb}
use borrow.Author.Tests.{ltb-false}
use Rattle.base.specs.Choice.{choose}
use Rattle.tunnel.specs.Facts.{ControlWithin}
use Rattle.tunnel.specs.Timers.{max_jitter, greatest_interval}
use Rattle.sessions.specs.Session.{time_limit}
use Rattle.sessions.specs.Store.{whole}
use Rattle.tunnel.proofs.Facts.{let_through_lem}
use Rattle.tunnel.specs.Arguments.{bad_jitter, creation_number}
use Rattle.tunnel.specs.Damage.{undamaged}
use Rattle.tunnel.specs.Tunnel.{gate, timeless_gate}
use Rattle.tunnel.specs.declared.tunnel.Tunnel.{Tunnel}
use Rattle.error.specs.declared.Error.TheVariants.{InvalidTime, InvalidArgument, ClockWentBack, DamagedState}
use Rattle.error.specs.declared.Error.{Error}
use Rattle.std.specs.Prelude.{Result, Ok, Err}

-- four tests none of which turns a call down
record Open (late bad whole back : Bool) : Type 0 where
  early : late ≡ false
  good : bad ≡ false
  sound : whole ≡ true
  onward : back ≡ false

open_of : (late bad whole back : Bool) (passed : Unit)
    → choose {A = Result Unit Error} late (Err InvalidTime)
    (choose bad (Err InvalidArgument) (choose whole (choose back (Err ClockWentBack) (Ok tt)) (Err DamagedState)))
    ≡ Ok passed → Open late bad whole back
unfolding choose
open_of true bad whole back passed e = absurd (cc)
open_of false true whole back passed e = absurd (cc)
open_of false false false back passed e = absurd (cc)
open_of false false true true passed e = absurd (cc)
open_of false false true false passed e = record { early = refl; good = refl; sound = refl; onward = refl }

-- what is known once the checks of a call at a time let it through
module _ (t : Tunnel) (bad : Bool) (now : ℕ) {passed : Unit} (z : gate t bad now ≡ Ok passed) where
  opened : Open (ltb time_limit now) bad (undamaged t) (ltb now t.greatest)
  unfolding gate
  opened = open_of (ltb time_limit now) bad (undamaged t) (ltb now t.greatest) passed z

  pub gate_onward : t.greatest ≤ now
  gate_onward = ltb-false now t.greatest opened.onward

  pub gate_now : now ≤ time_limit
  gate_now = ltb-false time_limit now opened.early

  pub gate_good : bad ≡ false
  gate_good = opened.good

  pub gate_whole : undamaged t ≡ true
  gate_whole = opened.sound

-- the same of what the code has found
module _ (t : Tunnel) (bad : Bool) (now : ℕ) (checked : Result Unit Error) (passed : Unit) (n : checked ≡ gate t bad now) (z : checked ≡ Ok passed) where
  passes : gate t bad now ≡ Ok passed
  passes = sym n ∙ z

  pub open_within : ControlWithin t.control time_limit
  open_within = let_through_lem t (undamaged t) refl (gate_whole t bad now passes)

  pub open_now : now ≤ time_limit
  open_now = gate_now t bad now passes

  open_good : bad ≡ false
  open_good = gate_good t bad now passes

-- the same of a call without a time
module _ (t : Tunnel) (bad : Bool) (checked : Result Unit Error) (passed : Unit) (n : checked ≡ timeless_gate t bad) (z : checked ≡ Ok passed) where
  timeless_sound : (b sound : Bool) → choose {A = Result Unit Error} b (Err InvalidArgument) (choose sound (Ok tt) (Err DamagedState)) ≡ Ok passed → sound ≡ true
  unfolding choose
  timeless_sound true sound e = absurd (cc)
  timeless_sound false true e = refl
  timeless_sound false false e = absurd (cc)

  pub still_within : ControlWithin t.control time_limit
  unfolding timeless_gate
  still_within = let_through_lem t (undamaged t) refl (timeless_sound bad (undamaged t) (sym n ∙ z))

-- a jitter that the checks let through
pub small_jitter : (jitter : ℕ) (store : List ℕ) (late : Bool) → ltb max_jitter jitter ≡ late → bad_jitter jitter store ≡ false → jitter ≤ max_jitter
unfolding bad_jitter choose
small_jitter jitter store false e g = ltb-false max_jitter jitter e
small_jitter jitter store true e g = absurd (true≢false (rw e at g))

pub open_jitter : (t : Tunnel) (jitter now : ℕ) (checked : Result Unit Error) (passed : Unit) (store : List ℕ) (bad : Bool) → bad ≡ bad_jitter jitter store
    → checked ≡ gate t bad now → checked ≡ Ok passed → jitter ≤ max_jitter
open_jitter t jitter now checked passed store bad b n z =
    small_jitter jitter store (ltb max_jitter jitter) refl (sym b ∙ open_good t bad now checked passed n z)

-- a creation that the checks let through
record Unturned (late big : Bool) : Type 0 where
  early : late ≡ false
  small : big ≡ false

unturned_of : (late big lacks : Bool) (passed : Unit)
    → choose {A = Result Unit Error} late (Err InvalidTime) (choose big (Err InvalidArgument) (choose lacks (Err InvalidArgument) (Ok tt)))
    ≡ Ok passed → Unturned late big
unfolding choose
unturned_of true big lacks passed e = absurd (cc)
unturned_of false true lacks passed e = absurd (cc)
unturned_of false false lacks passed e = record { early = refl; small = refl }

pub record GoodCreation (interval now : ℕ) : Type 0 where
  pub time : now ≤ time_limit
  pub keepalive : interval ≤ greatest_interval

pub good_creation : (store : List ℕ) (keepalive now : ℕ) {passed : Unit} → creation_number store keepalive now ≡ Ok passed → GoodCreation keepalive now
unfolding creation_number
good_creation store keepalive now {passed} z =
    let u : Unturned (ltb time_limit now) (ltb greatest_interval keepalive) = unturned_of _ _ _ passed z in
    record {
      time = ltb-false time_limit now u.early;
      keepalive = ltb-false greatest_interval keepalive u.small;
    }
