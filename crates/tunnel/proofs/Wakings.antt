-- What every step of a waking keeps, the waking keeps, save where it sends a scheduled handshake; and what a waking keeps, the repetition keeps.
-- Assumes nothing.
use mathlib.Core.Path.{◌≡◌}
use mathlib.Core.Bool.{Bool, false}
use mathlib.Core.List.{List}
use Prim.Native.Nat.{ℕ, zero, suc}
use Rattle.base.proofs.Choice.{of_choice, of_option}
use Rattle.base.specs.Choice.{choose}
use Rattle.sessions.specs.Session.{due_by}
use Rattle.tunnel.specs.Control.{with_handshake, with_sessions}
use Rattle.tunnel.specs.declared.control.Control.{Control}
use Rattle.tunnel.specs.Handshake.{expire_cookie}
use Rattle.tunnel.specs.PollTimeout.{scheduled_handshake}
use Rattle.sessions.specs.Sessions.{expire}
use Rattle.tunnel.specs.HandleTimeout.{Inner, expire_control, scheduling, keepalive_if_due, rekey_or_keepalive, give_up_or_retry, maintain_connection, expire_sessions, send_scheduled, handle_due, handle_timeout}
use Rattle.tunnel.specs.Settle.{Woken, repeat_waking}

-- the steps of a waking that sends no scheduled handshake keep what is said of a control and its store
pub record WakingKeeps (P : Control → List ℕ → Type 0) (jitter now : ℕ) : Type 0 where
  pub schedules : (c : Control) (store : List ℕ) → P c store → P (scheduling c jitter now) store
  pub keeps_alive : (c : Control) (store : List ℕ) → P c store → P (keepalive_if_due c now) store
  pub drops : (c : Control) (store : List ℕ) → P c store → P (with_handshake c (expire_cookie c.handshake now)) store
  pub ends : (c : Control) (store : List ℕ) → P c store → P (expire_control c store now).control (expire_control c store now).store
  pub expires : (c : Control) (store : List ℕ) → P c store
      → P (with_sessions c (expire c.sessions store now).expired.sessions) (expire c.sessions store now).store

module _ (P : Control → List ℕ → Type 0) (jitter now : ℕ) (k : WakingKeeps P jitter now) where
  -- the same of both in one
  abbrev Holds : Inner → Type 0
  Holds y = P y.control y.store

  -- the waking, from its last tests to its first
  of_idle : (c : Control) (store : List ℕ) (required : Bool) → P c store → P (rekey_or_keepalive c required jitter now) store
  unfolding rekey_or_keepalive
  of_idle c store required w =
      of_choice (λ (y : Control). P y store) _ _ _ (k.schedules c store w)
      (of_choice (λ (y : Control). P y store) _ _ _ (k.schedules c store w) (k.keeps_alive c store w))

  of_progress : (c : Control) (store : List ℕ) (required : Bool) → P c store → Holds (give_up_or_retry c store required jitter now)
  unfolding give_up_or_retry
  of_progress c store required w =
      of_choice Holds _ _ _ (k.ends c store w)
      (of_choice Holds _ _ _ (k.schedules c store w) (of_choice Holds _ _ _ (k.schedules c store w) w))

  of_maintained : (c : Control) (store : List ℕ) (required : Bool) → P c store → Holds (maintain_connection c store required jitter now)
  unfolding maintain_connection
  of_maintained c store required w =
      let v : P (with_handshake c (expire_cookie c.handshake now)) store = k.drops c store w in
      of_choice Holds _ _ _ (k.ends _ store v) (of_option Holds _ _ _ (of_idle _ store required v) (λ at. of_progress _ store required v))

  of_expired : (c : Control) (store : List ℕ) → P c store → Holds (expire_sessions c store jitter now)
  unfolding expire_sessions
  of_expired c store w =
      let v : P (with_sessions c (expire c.sessions store now).expired.sessions) (expire c.sessions store now).store = k.expires c store w in
      of_option Holds _ _ _ (of_maintained _ _ false v) (λ s. of_choice Holds _ _ _ (k.ends _ _ v) (of_maintained _ _ _ v))

  pub of_unsent : (c : Control) (store : List ℕ) → P c store → due_by (scheduled_handshake c) now ≡ false → Holds (handle_due c store jitter now)
  unfolding handle_due choose
  of_unsent c store w n = rw n (of_option Holds _ _ _ (of_expired c store w) (λ at. w))

  pub of_wake : (c : Control) (store : List ℕ) → P c store → P (send_scheduled c now) store → Holds (handle_due c store jitter now)
  unfolding handle_due
  of_wake c store w sent = of_choice Holds _ _ _ sent (of_option Holds _ _ _ (of_expired c store w) (λ at. w))

-- the repetition of wakings
module _ (P : Control → List ℕ → Type 0) (jitter now : ℕ)
    (k : (c : Control) (store : List ℕ) → P c store → P (handle_timeout c store jitter now).out.control (handle_timeout c store jitter now).store) where
  pub of_repeat : (most : ℕ) (c : Control) (store : List ℕ) → P c store
      → P (repeat_waking most c store jitter now).control (repeat_waking most c store jitter now).store
  unfolding repeat_waking
  of_repeat zero c store w = w
  of_repeat (suc most) c store w = of_choice (λ (y : Woken). P y.control y.store) _ _ _ (of_repeat most _ _ (k c store w)) w
