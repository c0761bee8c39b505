-- A keepalive and an initiation that are sent keep a sound control sound.
-- Assumes nothing.
use Prim.Native.Nat.{ℕ, ◌≤◌}
use Rattle.tunnel.proofs.Kept.{first_within, on_sent, on_initiate, on_initiation}
use Rattle.tunnel.proofs.SoundSteps.{SoundControl, counted_within, sending_within, put_sound, index_sound, its_sessions, sound_timers, sound_sessions}
use Rattle.tunnel.specs.InitiateHandshake.{initiate, initiating}
use Rattle.tunnel.specs.Encapsulate.{encrypt_keepalive}
use Rattle.tunnel.specs.declared.control.Control.{Control}
use Rattle.tunnel.specs.declared.encapsulate.Encrypted.{Encrypted}
use Rattle.tunnel.specs.Timers.{tick_last_packet_sent}
use Rattle.sessions.specs.Session.{reserve_counters}
use Rattle.sessions.specs.Sessions.{put, sending_session}
use Rattle.base.proofs.Choice.{known_option, known_pair}

module _ (most now : ℕ) (h : now ≤ most) where
  pub sound_encrypted : (c : Control) → SoundControl c most → SoundControl (encrypt_keepalive c now).control most
  unfolding encrypt_keepalive
  sound_encrypted c w =
      known_option (λ (y : Encrypted). SoundControl y.control most) (sending_session c.sessions now) _ _ w
      (λ x p. known_pair (λ (y : Encrypted). SoundControl y.control most) (reserve_counters x 1) _ _ w
      (λ n y q. sound_timers _ most
      (sound_sessions c most w (put c.sessions y)
      (put_sound most c.sessions y (its_sessions c most w)
      (counted_within most x y 1 n (sending_within most c.sessions now x w.within.sessions p) q)))
      (tick_last_packet_sent c.timers now) (on_sent c.timers most now w.within.timers h)))

  pub sound_initiated : (c : Control) → SoundControl c most → SoundControl (initiate c now).control most
  unfolding initiate initiating
  sound_initiated c w =
      record {
        within = record {
          timers = on_initiation c.timers most now w.within.timers h _;
          handshake = on_initiate c.handshake most w.within.handshake _ now h;
          first = first_within c.first_initiation_at now most w.within.first h;
          sessions = (index_sound most c.sessions (its_sessions c most w)).within;
          events = w.within.events;
        };
        eight = (index_sound most c.sessions (its_sessions c most w)).eight;
        sixteen = w.sixteen;
      }
