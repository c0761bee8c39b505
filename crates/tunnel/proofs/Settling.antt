-- One law for each way out of settling: what the code hands back is what the definition says, under the tests that led there.
-- Assumes nothing.
use mathlib.Core.Path.{◌≡◌, refl, ap, sym, ◌∙◌}
use mathlib.Core.Bool.{Bool, true, false}
use mathlib.Core.List.{List, map}
use Prim.Native.Nat.{ℕ, ◌≤◌}
use lib.ListN.{length, length-map}
use Rattle.base.specs.Choice.{choose}
use Rattle.sessions.specs.Session.{time_limit}
use Rattle.sessions.specs.Store.{Leaves}
use Rattle.tunnel.proofs.SoundSteps.{SoundControl}
use Rattle.tunnel.proofs.SoundWaking.{turn_sound}
use Rattle.tunnel.specs.Facts.{ControlWithin}
use Rattle.tunnel.specs.HandleTimeout.{handle_timeout}
use Rattle.tunnel.specs.Settle.{waking_due, woke, repeat_waking, settle}
use Rattle.tunnel.specs.Timers.{max_jitter}
use Rattle.tunnel.specs.declared.control.Control.{Control}
use Rattle.tunnel.specs.declared.control.Out.{Out}

-- a waking is due, as the code tests it
pub due_is : (c : Control) (now : ℕ) (flag : Bool) → flag ≡ waking_due c now → flag ≡ true → waking_due c now ≡ true
due_is c now flag f y = sym f ∙ y

-- the length of an array of structs
pub long : {A B : Type 0} (f : A → B) (l : List A) (n : ℕ) → length (map f l) ≡ n → length l ≡ n
long f l n e = sym (length-map l f) ∙ e

-- a control and the store that it leaves, by a waking
abbrev Leaving : Control → (store : List ℕ) (jitter now : ℕ) → Control → List ℕ → Type 0
Leaving c store jitter now last left = Leaves last (handle_timeout c store jitter now).out.control left (handle_timeout c store jitter now).store

-- a waking leaves a control in range
pub wakes : (c : Control) (store left : List ℕ) (jitter now : ℕ) (out : Out) → ControlWithin c time_limit → now ≤ time_limit → jitter ≤ max_jitter
    → length c.sessions.slots ≡ 8 → length c.events.slots ≡ 16
    → Leaves out (handle_timeout c store jitter now).out left (handle_timeout c store jitter now).store
    → Leaving c store jitter now out.control left × ControlWithin out.control time_limit
wakes c store left jitter now out w n j eight sixteen l =
    let s : SoundControl out.control time_limit =
    rw l.out (turn_sound time_limit now n jitter j c store (record { within = w; eight = eight; sixteen = sixteen })) in
    (record { out = ap (λ (o : Out). o.control) l.out; words = l.words }, s.within)

-- a tunnel of which no waking is due
pub unwoken : (c : Control) (store : List ℕ) (jitter now : ℕ) → waking_due c now ≡ false → settle c store jitter now ≡ record { out = woke c 0; store = store }
unfolding settle repeat_waking choose
unwoken c store jitter now n = rw n refl
