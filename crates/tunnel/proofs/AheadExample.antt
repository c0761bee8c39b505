-- The example of the index told ahead, by computation.
-- Assumes nothing.
use mathlib.Core.Path.{◌≡◌, refl}
use Prim.Native.Nat.{ℕ}
use native.Mathlib.Omega.{arith}
use Rattle.base.specs.Choice.{choose, case_option, case_results, case_result}
use Rattle.base.specs.First.{none_of}
use Rattle.base.specs.Lists.{zeros}
use Rattle.sessions.specs.Damage.{slot_holds, slots_hold}
use Rattle.sessions.specs.Index.{wrapping_increment}
use Rattle.sessions.specs.Laws.{selecting}
use Rattle.sessions.specs.Session.{due_by, new_session, empty_session}
use Rattle.sessions.specs.Sessions.{empty_slots, new_sessions, in_slot_of, get, put, current_of, in_current_slot, ahead, next_index, inserting, insert, select}
use Rattle.sessions.specs.Store.{put_slot}
use Rattle.tunnel.specs.Ahead.{scheduled_tunnel, AheadExample}
use Rattle.tunnel.specs.Answer.{number_of}
use Rattle.tunnel.specs.Arguments.{interval_of, initiation_outcome, unnamed, named_of, lacking, bad_outcome, bad_jitter}
use Rattle.tunnel.specs.Cases.{case_event, case_state}
use Rattle.tunnel.specs.Control.{new_control, refuse, done, expired_control, queueing}
use Rattle.tunnel.specs.Damage.{time_holds, state_holds, in_range, interval_holds, event_holds, queue_holds, events_hold, handshake_holds, packet_timers_hold, data_timers_hold, fields_hold, timers_hold, stored_holds, control_holds, undamaged}
use Rattle.tunnel.specs.HandleHandshake.{responding, respond, handle_handshake_initiation}
use Rattle.tunnel.specs.HandleTimeout.{send_scheduled, handle_due, handle_timeout}
use Rattle.tunnel.specs.Handshake.{new_handshake, is_in_progress, is_expired, append_mac1_and_mac2, initiate_handshake, receive_handshake_initialization}
use Rattle.tunnel.specs.InitiateHandshake.{initiating, initiate, restart_handshake, start_handshake}
use Rattle.tunnel.specs.PollTimeout.{scheduled_handshake}
use Rattle.tunnel.specs.RingBuffer.{place_of, empty_places, new_ring, store_at, push_back, events_from, queued}
use Rattle.tunnel.specs.Timers.{new_timers, tick_last_handshake_completed, tick_last_handshake_started, tick_last_packet_received, tick_last_packet_sent, schedule_handshake, cancel_scheduled_handshake, tick_response, tick_initiation}
use Rattle.tunnel.specs.Tunnel.{new_tunnel, gate, refused, let_through, timed, kept, timed_turn, call_start, call_restart, call_initiation, call_timeout}

pub computed : AheadExample
unfolding choose none_of zeros case_option slot_holds slots_hold wrapping_increment selecting due_by new_session empty_session empty_slots new_sessions in_slot_of get put current_of in_current_slot ahead next_index inserting insert select put_slot scheduled_tunnel number_of interval_of initiation_outcome lacking bad_outcome bad_jitter case_event case_state case_results new_control refuse done expired_control queueing time_holds state_holds in_range interval_holds event_holds queue_holds events_hold handshake_holds packet_timers_hold data_timers_hold fields_hold timers_hold stored_holds control_holds undamaged responding respond handle_handshake_initiation send_scheduled handle_due handle_timeout new_handshake is_in_progress is_expired append_mac1_and_mac2 initiate_handshake receive_handshake_initialization initiating initiate restart_handshake start_handshake scheduled_handshake place_of empty_places new_ring store_at push_back events_from queued new_timers tick_last_handshake_completed tick_last_handshake_started tick_last_packet_received tick_last_packet_sent schedule_handshake cancel_scheduled_handshake tick_response tick_initiation new_tunnel gate refused let_through timed kept timed_turn call_start call_restart call_initiation call_timeout case_result unnamed named_of
computed =
    record {
      eight = refl;
      sixteen = refl;
      index = refl;
      start = refl;
      restart = refl;
      initiation = refl;
      failed = refl;
      failed_by = refl;
      spent = refl;
      due = record { living = λ e. let z : ◌≡◌ {A = ℕ} 0 1 = cc in omega arith; at = 5; scheduled = refl; come = omega arith };
      woken = refl;
      sent = refl;
    }
