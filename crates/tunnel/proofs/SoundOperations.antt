-- Every operation keeps a sound control sound.
-- Assumes nothing.
use mathlib.Core.Path.{◌≡◌, refl, sym, ◌∙◌}
use mathlib.Core.Bool.{Bool, true, false, true≢false}
use mathlib.Core.List.{List}
use Prim.Native.Nat.{ℕ, ◌≤◌}
use native.Mathlib.Omega.{arith}
use lib.ListN.{length}
use Rattle.tunnel.proofs.Kept.{get_or_within, on_sent, on_data_sent, on_response, on_done, on_append, on_both_none, on_cookie, on_pop, on_accepted}
use Rattle.tunnel.proofs.Opened.{initiation_opened, response_opened, cookie_stored}
use Rattle.tunnel.proofs.Responses.{response_good}
use Rattle.tunnel.proofs.SoundSending.{sound_encrypted, sound_initiated}
use Rattle.tunnel.proofs.SoundSteps.{SoundControl, OwnSlot, counted_within, new_within, sending_within, put_sound, insert_sound, current_sound, index_sound, sound_later, its_sessions, sound_timers, sound_handshake, sound_sessions, sound_queued, receive_sound, SoundSessions}
use Rattle.base.proofs.Choice.{of_choice, known_option, known_pair, known_result, known_results, of_option, of_result}
use Rattle.tunnel.specs.Control.{Turn, with_events, with_established, with_handshake, out_of, refuse, done, poll_event, missing_report}
use Rattle.tunnel.specs.Facts.{EventWithin}
use Rattle.tunnel.specs.HandleHandshake.{responding, respond, handle_handshake_initiation, confirming, handle_handshake_response, handle_cookie_reply}
use Rattle.tunnel.specs.InitiateHandshake.{restart_handshake, start_handshake}
use Rattle.tunnel.specs.Decapsulate.{confirm_first_session, accept, commit_decapsulate, begin_decapsulate}
use Rattle.tunnel.specs.Encapsulate.{begin_encapsulate, finish_encapsulate, grant, send}
use Rattle.tunnel.specs.declared.answer.Answer.{Answer}
use Rattle.tunnel.specs.declared.control.Control.{Control}
use Rattle.tunnel.specs.declared.control.Out.{Out}
use Rattle.tunnel.proofs.Queue.{queue_of_newest}
use Rattle.tunnel.specs.Handshake.{with_states, append_mac1_and_mac2, receive_cookie_reply}
use Rattle.tunnel.specs.RingBuffer.{pop_front}
use Rattle.tunnel.specs.declared.event.Event.TheVariants.{Established}
use Rattle.tunnel.specs.declared.handshake.Handshake.{Handshake}
use Rattle.tunnel.specs.declared.handshake.HandshakeState.TheVariants.{None as NoHandshake}
use Rattle.sessions.specs.Batch.{Batched}
use Rattle.sessions.specs.Session.{new_session, reserve_counters, prepare_packet_data}
use Rattle.sessions.specs.Sessions.{sending_session, put}
use Rattle.sessions.specs.declared.batch.Progress.{Progress}
use Rattle.sessions.specs.declared.session.Role.TheVariants.{Initiator, Responder}
use Rattle.sessions.specs.declared.session.Session.{Session}
use Rattle.std.specs.Prelude.{Ok, Result, Some}
use Rattle.error.specs.declared.Error.{Error}

-- what an operation at a time hands back: its control is sound below that time where it raises the greatest time, else below the old one
pub record SoundOut (out : Out) (old now : ℕ) : Type 0 where
  pub raised : out.raises ≡ true → SoundControl out.control now
  pub still : out.raises ≡ false → SoundControl out.control old
  pub ticked : out.updates ≡ true → out.raises ≡ true

-- what an operation that raises nothing hands back
pub record SoundStill (out : Out) (old : ℕ) : Type 0 where
  pub sound : SoundControl out.control old
  pub unraised : out.raises ≡ false
  pub unticked : out.updates ≡ false

-- the kinds of answers
module _ (old : ℕ) (c : Control) where
  pub unraising : (answer : Result Answer Error) → SoundControl c old → SoundStill (out_of c answer false false) old
  unraising answer w = record { sound = w; unraised = refl; unticked = refl }

  refusing : (error : Error) → SoundControl c old → SoundStill (refuse c error) old
  unfolding refuse
  refusing error w = unraising _ w

module _ (old now : ℕ) where
  staying : (out : Out) → SoundStill out old → SoundOut out old now
  staying out s =
      record {
        raised = λ e. absurd (true≢false (sym e ∙ s.unraised));
        still = λ e. s.sound;
        ticked = λ e. absurd (true≢false (sym e ∙ s.unticked));
      }

  refuse_sound : (c : Control) (error : Error) → SoundControl c old → SoundOut (refuse c error) old now
  refuse_sound c error w = staying _ (refusing old c error w)

  pub raising : (c : Control) (answer : Result Answer Error) (updates : Bool) → SoundControl c now → SoundOut (out_of c answer true updates) old now
  raising c answer updates w = record { raised = λ e. w; still = λ e. absurd (true≢false e); ticked = λ e. refl }

  pub done_sound : (c : Control) (answer : Answer) → SoundControl c now → SoundOut (done c answer) old now
  unfolding done
  done_sound c answer w = raising c (Ok answer) false w

-- an event of two times
established_within : (a b most : ℕ) → a ≤ most → b ≤ most → EventWithin (Some (Established a b)) most
established_within a b most p q =
    record { started = λ x y e. let f : a ≡ x = cc in omega arith; confirmed = λ x y e. let f : b ≡ y = cc in omega arith }

sound_confirmed : (c : Control) (most start now : ℕ) → SoundControl c most → start ≤ most → now ≤ most → SoundControl (confirm_first_session c start now) most
unfolding confirm_first_session
sound_confirmed c most start now w s h =
    of_choice (λ (y : Control). SoundControl y most) _ _ _ w (marked (sound_queued c most w (Established start now) (established_within start now most s h)))
  where
    marked : {x : Control} → SoundControl x most → SoundControl (with_established x true) most
    marked v =
        record {
          within = record {
            timers = v.within.timers;
            handshake = v.within.handshake;
            first = v.within.first;
            sessions = v.within.sessions;
            events = v.within.events;
          };
          eight = v.eight;
          sixteen = v.sixteen;
        }

-- the steps of messages and of data
module _ (most now : ℕ) (h : now ≤ most) where
  sound_accept : (c : Control) (x : Session) (p : Progress) (index : ℕ) → OwnSlot x most → SoundControl c most → SoundControl (accept c x p index now) most
  unfolding accept
  sound_accept c x p index v w =
      let stored : SoundSessions (put c.sessions x) most = put_sound most c.sessions x (its_sessions c most w) v in
      of_choice (λ (y : Control). SoundControl y most) _ _ _
      (sound_confirmed _ most _ now
      (sound_timers _ most (sound_sessions c most w _ (current_sound most _ index stored)) _ (on_accepted c.timers most now w.within.timers h _))
      v.established h)
      (sound_sessions c most w _ stored)

  sound_begun : (c : Control) (x : Session) → OwnSlot x most → SoundControl c most → SoundControl (begin_encapsulate c x now) most
  unfolding begin_encapsulate
  sound_begun c x v w =
      sound_sessions _ most
      (sound_timers c most w _ (on_data_sent _ most now (on_sent c.timers most now w.within.timers h) h))
      _ (put_sound most c.sessions x (its_sessions c most w) v)

  prepared_within : (x : Session) → OwnSlot x most → OwnSlot (prepare_packet_data x) most
  unfolding prepare_packet_data
  prepared_within x v = record { established = v.established; onward = v.onward; heard = v.heard; counter = v.counter; next = v.next; index = refl }

  sound_responding : (c : Control) (store : List ℕ) (local peer : ℕ) → SoundControl c most
      → SoundControl (responding c (append_mac1_and_mac2 c.handshake local) store (new_session local peer Responder now) now) most
  unfolding responding
  sound_responding c store local peer w =
      sound_timers _ most
      (sound_sessions _ most (sound_handshake c most w _ (on_append c.handshake most w.within.handshake local)) _
      (insert_sound most c.sessions store _ (its_sessions c most w) (new_within most local peer now _ Responder h)))
      _ (on_response c.timers most now w.within.timers h)

  sound_confirming : (c : Control) (local : ℕ) → SoundControl c most → SoundControl (confirming c local now) most
  unfolding confirming
  sound_confirming c local w =
      sound_confirmed _ most _ now
      (sound_timers _ most (sound_sessions c most w _ (current_sound most c.sessions local (its_sessions c most w))) _
      (on_done c.timers most now w.within.timers h))
      (get_or_within c.first_initiation_at now most w.within.first h)
      h

-- the operations, each of a control that is sound below an earlier time
module _ (old now : ℕ) (l : old ≤ now) (c : Control) (w : SoundControl c old) where
  later : SoundControl c now
  later = sound_later old now l c w

  same : now ≤ now
  same = omega arith

  pub restart_sound : SoundOut (restart_handshake c now) old now
  unfolding restart_handshake
  restart_sound =
      of_choice (λ (y : Out). SoundOut y old now) _ _ _ (done_sound old now c _ later)
      (done_sound old now _ _ (sound_initiated now now same c later))

  pub start_sound : SoundOut (start_handshake c now) old now
  unfolding start_handshake
  start_sound = of_choice (λ (y : Out). SoundOut y old now) _ _ _ (done_sound old now c _ later) restart_sound

  finished_sound : (x : Session) (count : ℕ) (b : Control) → OwnSlot x now → SoundControl b now → SoundOut (finish_encapsulate b x count) old now
  unfolding finish_encapsulate
  finished_sound x count b v u =
      known_pair (λ (y : Out). SoundOut y old now) (reserve_counters x count) _ _ (raising old now b _ false u)
      (λ n y p. done_sound old now _ _ (sound_sessions b now u _ (put_sound now b.sessions y (its_sessions b now u) (counted_within now x y count n v p))))

  granted_sound : (x : Session) (count : ℕ) → OwnSlot x now → SoundOut (grant c x count now) old now
  unfolding grant
  granted_sound x count v =
      finished_sound _ count _ (prepared_within now now same x v) (sound_begun now now same c _ (prepared_within now now same x v) later)

  pub send_sound : (count : ℕ) → SoundOut (send c count now) old now
  unfolding send
  send_sound count =
      of_choice (λ (y : Out). SoundOut y old now) _ _ _ (refuse_sound old now c _ w)
      (known_option (λ (y : Out). SoundOut y old now) (sending_session c.sessions now) _ _ (refuse_sound old now c _ w)
      (λ x p. granted_sound x count (sending_within now c.sessions now x later.within.sessions p)))

  pub batch_sound : (store : List ℕ) (index id : ℕ) (counters kinds verdicts skips : List ℕ)
      → SoundOut (commit_decapsulate c store index id now counters kinds verdicts skips).out old now
  unfolding commit_decapsulate
  batch_sound store index id counters kinds verdicts skips =
      of_choice (λ (y : Batched Out). SoundOut y.out old now) _ _ _ (refuse_sound old now c _ w)
      (known_results (λ (y : Out). SoundOut y old now) _ _ _ (λ n. refuse_sound old now c n w)
      (λ x p e. done_sound old now _ _ (sound_accept now now same c x p index
      (receive_sound c.sessions store index id now counters kinds verdicts skips later.within.sessions x p e) later)))

  pub look_sound : (store : List ℕ) (index counter : ℕ) → SoundOut (begin_decapsulate c store index counter now) old now
  unfolding begin_decapsulate
  look_sound store index counter =
      of_choice (λ (y : Out). SoundOut y old now) _ _ _ (refuse_sound old now c _ w)
      (of_option (λ (y : Out). SoundOut y old now) _ _ _ (refuse_sound old now c _ w)
      (λ x. of_choice (λ (y : Out). SoundOut y old now) _ _ _ (refuse_sound old now c _ w)
      (of_result (λ (y : Out). SoundOut y old now) _ _ _ (λ e. refuse_sound old now c e w) (λ y. staying old now _ (unraising old c _ w)))))

  stored_sound : (h : Handshake) (receiver : ℕ) (outcome : Result Unit Error) → receive_cookie_reply c.handshake receiver outcome now ≡ Ok h → SoundControl (with_handshake c h) now
  stored_sound h receiver outcome p =
      rw (← cookie_stored c.handshake h outcome receiver now p)
      (sound_handshake c now later _ (on_cookie c.handshake now later.within.handshake _ now same))

  pub cookie_sound : (receiver : ℕ) (outcome : Result Unit Error) → SoundOut (handle_cookie_reply c receiver outcome now) old now
  unfolding handle_cookie_reply
  cookie_sound receiver outcome =
      of_choice (λ (y : Out). SoundOut y old now) _ _ _ (refuse_sound old now c _ w)
      (known_result (λ (y : Out). SoundOut y old now) _ _ _ (λ n. refuse_sound old now c n w) (λ h p. done_sound old now _ _ (stored_sound h receiver outcome p)))

  pub response_sound : (store : List ℕ) (receiver peer : ℕ) (outcome : Result Unit Error) → length store ≡ 1024
      → SoundOut (handle_handshake_response c store receiver peer outcome now).out old now
  unfolding handle_handshake_response
  response_sound store receiver peer outcome long =
      of_choice (λ (y : Turn). SoundOut y.out old now) _ _ _ (refuse_sound old now c _ w)
      (known_results (λ (y : Turn). SoundOut y.out old now) _ _ _ (λ n. refuse_sound old now c n w)
      (λ h s p.
      let e : (with_states c.handshake NoHandshake NoHandshake ≡ h) × (new_session receiver peer Initiator now ≡ s)
      = response_opened c.handshake h outcome receiver peer now s p in
      rw (← e.0, ← e.1, response_good c (with_states c.handshake NoHandshake NoHandshake) store receiver peer now later long)
      (done_sound old now _ _ (sound_encrypted now now same _ (sound_confirming now now same _ receiver
      (sound_sessions _ now (sound_handshake c now later _ (on_both_none c.handshake now later.within.handshake)) _
      (insert_sound now c.sessions store _ (its_sessions c now later) (new_within now receiver peer now _ Initiator same))))))))

-- an incoming initiation, whose index is used up even where it is turned down
module _ (old now : ℕ) (l : old ≤ now) where
  respond_sound : (c : Control) (store : List ℕ) (local peer : ℕ) (outcome : Result Unit Error) → SoundControl c old → SoundOut (respond c store local peer outcome now).out old now
  unfolding respond
  respond_sound c store local peer outcome w =
      known_results (λ (y : Turn). SoundOut y.out old now) _ _ _ (λ n. refuse_sound old now c n w)
      (λ h s p.
      let e : (append_mac1_and_mac2 c.handshake local ≡ h) × (new_session local peer Responder now ≡ s)
      = initiation_opened c.handshake h outcome local peer now s p in
      rw (← e.0, ← e.1) (done_sound old now _ _ (sound_responding now now (same old now l c w) c store local peer (later old now l c w))))

  pub initiation_sound : (c : Control) (store : List ℕ) (peer : ℕ) (outcome : Result Unit Error) → SoundControl c old
      → SoundOut (handle_handshake_initiation c store peer outcome now).out old now
  unfolding handle_handshake_initiation
  initiation_sound c store peer outcome w =
      of_choice (λ (y : Turn). SoundOut y.out old now) _ _ _ (refuse_sound old now c _ w)
      (respond_sound _ store _ peer outcome (sound_sessions c old w _ (index_sound old c.sessions (its_sessions c old w))))

-- the operations without a time
module _ (old : ℕ) (c : Control) (w : SoundControl c old) where
  popped : SoundControl (with_events c (pop_front c.events).events) old
  popped =
      record {
        within = record {
          timers = w.within.timers;
          handshake = w.within.handshake;
          first = w.within.first;
          sessions = w.within.sessions;
          events = on_pop old c.events w.sixteen w.within.events;
        };
        eight = w.eight;
        sixteen = (queue_of_newest.stays c.events (record { places = w.sixteen; within = w.within.events.ring })).places;
      }

  pub event_sound : SoundStill (poll_event c) old
  unfolding poll_event
  event_sound = unraising old _ _ popped

  pub missing_sound : (store : List ℕ) (index : ℕ) → SoundStill (missing_report c store index) old
  unfolding missing_report
  missing_sound store index = of_result (λ (y : Out). SoundStill y old) _ _ _ (λ n. refusing old c n w) (λ n. unraising old c _ w)
