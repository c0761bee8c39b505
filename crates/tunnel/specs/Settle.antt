-- Settling: wakings at one time until the next deadline is later or none, three at most.
use Rattle.std.specs.Prelude.{Bool, true, false, List, ℕ, zero, suc, ltb, Ok}
use Rattle.base.specs.Choice.{choose}
use Rattle.sessions.specs.Session.{due_by}
use Rattle.tunnel.specs.Control.{Turn, out_of, expired_control}
use Rattle.tunnel.specs.HandleTimeout.{handle_timeout}
use Rattle.tunnel.specs.PollTimeout.{next_deadline}
use Rattle.tunnel.specs.declared.answer.Answer.TheVariants.{Woke}
use Rattle.tunnel.specs.declared.control.Control.{Control}
use Rattle.tunnel.specs.declared.control.Out.{Out}

-- whether a waking is due: the next deadline has come, queued events disregarded; an expired tunnel has none
unfoldable pub waking_due : Control → ℕ → Bool
waking_due c now = choose (expired_control c) false (due_by (next_deadline c) now)

-- a control and its store, and the wakings that led there
pub record Woken : Type 0 where
  pub control : Control
  pub store : List ℕ
  pub wakings : ℕ

-- one waking more
abbrev pub counted : Woken → Woken
counted w = record { control = w.control; store = w.store; wakings = suc w.wakings }

-- the plain repetition: woken at one time while a waking is due, so many times at most
unfoldable pub repeat_waking : (most : ℕ) → Control → List ℕ → (jitter now : ℕ) → Woken
repeat_waking zero c store jitter now = record { control = c; store = store; wakings = 0 }
repeat_waking (suc most) c store jitter now =
    choose (waking_due c now)
    (counted (repeat_waking most (handle_timeout c store jitter now).out.control (handle_timeout c store jitter now).store jitter now))
    (record { control = c; store = store; wakings = 0 })

-- what a settling hands back that made so many wakings; without one the last update stays
abbrev pub woke : Control → ℕ → Out
woke c wakings = out_of c (Ok (Woke wakings)) true (ltb 0 wakings)

-- the repetition, three times at most
unfoldable pub settle : Control → List ℕ → (jitter now : ℕ) → Turn
settle c store jitter now =
    let w : Woken = repeat_waking 3 c store jitter now in
    record { out = woke w.control w.wakings; store = w.store }
