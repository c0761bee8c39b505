-- The waking and settling keep a sound control sound.
-- Assumes nothing.
use mathlib.Core.Path.{◌≡◌}
use mathlib.Core.Bool.{true}
use mathlib.Core.List.{List}
use Prim.Native.Nat.{ℕ, ◌≤◌}
use native.Mathlib.Omega.{arith}
use Rattle.tunnel.proofs.Facts.{no_times}
use Rattle.tunnel.proofs.Kept.{on_clear, on_expired, on_clear_cookie, on_kept, on_schedule, on_cancel, on_consume}
use Rattle.tunnel.proofs.SoundOperations.{SoundOut, done_sound, raising}
use Rattle.tunnel.proofs.SoundSending.{sound_encrypted, sound_initiated}
use Rattle.tunnel.proofs.SoundSteps.{SoundControl, expire_sound, clear_sound, its_sessions, sound_timers, sound_handshake, sound_sessions, sound_queued, sound_later}
use Rattle.base.proofs.Choice.{of_choice, of_pair}
use Rattle.tunnel.specs.Control.{Turn, with_handshake, done}
use Rattle.tunnel.specs.declared.control.Control.{Control}
use Rattle.tunnel.specs.Handshake.{HandshakeWithin, set_expired, expire_cookie}
use Rattle.tunnel.specs.Timers.{TimersWithin, max_jitter}
use Rattle.tunnel.specs.declared.event.Event.TheVariants.{SendHandshakeInitiation, SendKeepalive, ConnectionExpired}
use Rattle.tunnel.specs.declared.handshake.Handshake.{Handshake}
use Rattle.tunnel.specs.declared.timers.Timers.{Timers}
use Rattle.tunnel.proofs.Wakings.{WakingKeeps, of_wake, of_repeat}
use Rattle.tunnel.specs.HandleTimeout.{clear_all, expire_control, scheduling, queue_keepalive, passive_timers, keepalive_timers, send_keepalive, keepalive_if_due, send_scheduled, handle_due, handle_timeout}
use Rattle.tunnel.specs.Settle.{settle}

module _ (most now : ℕ) (h : now ≤ most) where
  -- the keepalives that are due queued, the scheduled handshake sent, the cookie dropped, the connection ended
  sound_keepalive : (c : Control) → SoundControl c most → SoundControl (queue_keepalive c now) most
  unfolding queue_keepalive
  sound_keepalive c w =
      of_pair (λ (y : Control). SoundControl y most) _ _ _ (sound_encrypted most now h c w)
      (λ a b. sound_queued _ most (sound_encrypted most now h c w) (SendKeepalive a b) (no_times _ most (λ x y p. let z : ◌≡◌ {A = ℕ} 0 1 = cc in omega arith)))

  within_passive : (c : Control) → TimersWithin c.timers most → TimersWithin (passive_timers c now) most
  unfolding passive_timers
  within_passive c w = of_choice (λ (t : Timers). TimersWithin t most) _ _ _ (on_consume c.timers most w) w

  within_keepalives : (c : Control) → TimersWithin c.timers most → TimersWithin (keepalive_timers c now) most
  unfolding keepalive_timers
  within_keepalives c w =
      of_choice (λ (t : Timers). TimersWithin t most) _ _ _ (on_kept (passive_timers c now) most now (within_passive c w) h) (within_passive c w)

  sound_keepalives : (c : Control) → SoundControl c most → SoundControl (keepalive_if_due c now) most
  unfolding keepalive_if_due send_keepalive
  sound_keepalives c w =
      of_choice (λ (y : Control). SoundControl y most) _ _ _ (sound_keepalive _ (sound_timers c most w _ (within_keepalives c w.within.timers))) w

  sound_scheduled : (c : Control) → SoundControl c most → SoundControl (send_scheduled c now) most
  unfolding send_scheduled
  sound_scheduled c w =
      sound_queued _ most (sound_initiated most now h _ (sound_timers c most w _ (on_cancel c.timers most w.within.timers))) (SendHandshakeInitiation _)
      (no_times _ most (λ x y p. let z : ◌≡◌ {A = ℕ} 0 1 = cc in omega arith))

  sound_cookie : (c : Control) → SoundControl c most → SoundControl (with_handshake c (expire_cookie c.handshake now)) most
  unfolding expire_cookie
  sound_cookie c w =
      sound_handshake c most w _
      (of_choice (λ (k : Handshake). HandshakeWithin k most) _ _ _ (on_clear_cookie c.handshake most w.within.handshake) w.within.handshake)

  sound_cleared : (c : Control) (store : List ℕ) → SoundControl c most → SoundControl (clear_all c store now).control most
  unfolding clear_all
  sound_cleared c store w =
      sound_timers _ most (sound_sessions c most w _ (clear_sound most c.sessions store (its_sessions c most w))) _
      (on_clear c.timers most now w.within.timers h)

  sound_ended : (c : Control) (store : List ℕ) → SoundControl c most → SoundControl (expire_control c store now).control most
  unfolding expire_control
  sound_ended c store w =
      sound_queued _ most
      (sound_cleared _ store (sound_handshake c most w (set_expired c.handshake) (on_expired c.handshake most w.within.handshake))) ConnectionExpired
      (no_times _ most (λ x y p. let z : ◌≡◌ {A = ℕ} 0 1 = cc in omega arith))

  sound_scheduling : (jitter : ℕ) → jitter ≤ max_jitter → (c : Control) → SoundControl c most → SoundControl (scheduling c jitter now) most
  unfolding scheduling
  sound_scheduling jitter j c w = sound_timers c most w _ (on_schedule c.timers most now w.within.timers h jitter j)

  -- the waking
  sound_kept : (jitter : ℕ) → jitter ≤ max_jitter → WakingKeeps (λ (c : Control) (store : List ℕ). SoundControl c most) jitter now
  sound_kept jitter j =
      record {
        schedules = λ c store w. sound_scheduling jitter j c w;
        keeps_alive = λ c store w. sound_keepalives c w;
        drops = λ c store w. sound_cookie c w;
        ends = λ c store w. sound_ended c store w;
        expires = λ c store w. sound_sessions c most w _ (expire_sound most c.sessions store now (its_sessions c most w));
      }

  sound_wake : (jitter : ℕ) → jitter ≤ max_jitter → (c : Control) (store : List ℕ) → SoundControl c most → SoundControl (handle_due c store jitter now).control most
  sound_wake jitter j c store w = of_wake (λ (x : Control) (y : List ℕ). SoundControl x most) jitter now (sound_kept jitter j) c store w (sound_scheduled c w)

  pub turn_sound : (jitter : ℕ) → jitter ≤ max_jitter → (c : Control) (store : List ℕ) → SoundControl c most
      → SoundControl (handle_timeout c store jitter now).out.control most
  unfolding handle_timeout done
  turn_sound jitter j c store w = of_choice (λ (y : Turn). SoundControl y.out.control most) _ _ _ w (sound_wake jitter j c store w)

-- the waking as a call sees it
pub timeout_sound : (old now : ℕ) → old ≤ now → (c : Control) → SoundControl c old → (store : List ℕ) (jitter : ℕ) → jitter ≤ max_jitter
    → SoundOut (handle_timeout c store jitter now).out old now
unfolding handle_timeout
timeout_sound old now l c w store jitter j =
    let later : SoundControl c now = sound_later old now l c w in
    let same : now ≤ now = omega arith in
    of_choice (λ (y : Turn). SoundOut y.out old now) _ _ _ (done_sound old now c _ later)
    (raising old now _ _ true (sound_wake now now same jitter j c store later))

-- and settling
pub settle_sound : (old now : ℕ) → old ≤ now → (c : Control) → SoundControl c old → (store : List ℕ) (jitter : ℕ) → jitter ≤ max_jitter
    → SoundOut (settle c store jitter now).out old now
unfolding settle
settle_sound old now l c w store jitter j =
    let same : now ≤ now = omega arith in
    raising old now _ _ _
    (of_repeat (λ (x : Control) (words : List ℕ). SoundControl x now) jitter now (turn_sound now now same jitter j) _ c store (sound_later old now l c w))
