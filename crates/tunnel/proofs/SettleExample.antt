-- The examples of settling, by computation.
-- Assumes nothing.
use mathlib.Core.Path.{refl}
use Rattle.base.specs.Choice.{choose, case_option, case_pair, case_result}
use Rattle.base.specs.First.{none_of}
use Rattle.base.specs.Lists.{zeros}
use Rattle.sessions.specs.Cases.{case_role}
use Rattle.sessions.specs.Damage.{slot_holds, slots_hold}
use Rattle.sessions.specs.Index.{wrapping_increment}
use Rattle.sessions.specs.Session.{due_by, least, earlier, new_session, empty_session, rekey_after_time_on_send, reject_after_time_on_receive, expires_at, expired_at, should_use_at, rekey_after_messages_reached, sending_counter_exhausted, reserve_counters}
use Rattle.sessions.specs.Sessions.{empty_slots, new_sessions, in_slot_of, get, put, current_of, in_current_slot, ahead, next_index, usable, sending_session, is_index, select, clear, emptied, expired_slot, discard, expire_slot, expire_first, expire, slot_expiry, first_expiry}
use Rattle.sessions.specs.Store.{put_slot}
use Rattle.tunnel.specs.Arguments.{interval_of, lacking, bad_jitter}
use Rattle.tunnel.specs.Cases.{case_event, case_state}
use Rattle.tunnel.specs.Control.{new_control, done, expired_control, queueing}
use Rattle.tunnel.specs.Damage.{time_holds, state_holds, in_range, interval_holds, event_holds, queue_holds, events_hold, handshake_holds, packet_timers_hold, data_timers_hold, fields_hold, timers_hold, stored_holds, control_holds, undamaged}
use Rattle.tunnel.specs.Encapsulate.{encrypt_keepalive}
use Rattle.tunnel.specs.HandleTimeout.{clear_all, expire_control, scheduling, queue_keepalive, keepalive_due, passive_timers, keepalive_timers, send_keepalive, keepalive_if_due, rekey_due, rekey_or_keepalive, give_up_or_retry, maintain_connection, is_lost, is_replaced, expire_sessions, send_scheduled, handle_due, handle_timeout}
use Rattle.tunnel.specs.Handshake.{new_handshake, is_in_progress, in_flight_initiation, set_expired, is_expired, cookie_expiration, clear_cookie, expire_cookie, append_mac1_and_mac2, initiate_handshake}
use Rattle.tunnel.specs.InitiateHandshake.{initiating, initiate}
use Rattle.tunnel.specs.PollTimeout.{scheduled_handshake, earliest_expiry, cookie_deadline, reject_deadline, attempt_deadline, handshake_rekey_timeout, found_on_send, found_after_messages, found_on_receive, response_deadline, passive_deadline, persistent_deadline, current_persistent_deadline, common_deadline, rekey_deadline, keepalive_deadline, unscheduled_deadline, next_deadline, not_before, poll_timeout}
use Rattle.tunnel.specs.RingBuffer.{place_of, empty_places, new_ring, ring_is_empty, store_at, push_back, events_from, queued}
use Rattle.tunnel.specs.Settle.{waking_due, repeat_waking, settle}
use Rattle.tunnel.specs.Settled.{granted, SettleExample}
use Rattle.tunnel.specs.Timers.{new_timers, reject_after_time_of, rekey_attempt_deadline, rekey_after_time_without_response, keepalive_after_time_without_send, next_persistent_keepalive, clear_timers, tick_last_handshake_started, tick_last_packet_sent, tick_persistent_keepalive, rekey_timeout_of, schedule_handshake, cancel_scheduled_handshake, consume_passive_keepalive, tick_initiation}
use Rattle.tunnel.specs.Tunnel.{new_tunnel, gate, refused, let_through, timed, kept, timed_turn, call_timeout, call_settle}

pub settlings : SettleExample
unfolding get choose wrapping_increment put_slot zeros case_option case_role case_pair due_by least earlier new_session empty_session rekey_after_time_on_send reject_after_time_on_receive expires_at expired_at should_use_at rekey_after_messages_reached sending_counter_exhausted reserve_counters empty_slots new_sessions in_slot_of put current_of in_current_slot ahead next_index usable sending_session is_index select clear emptied expired_slot discard expire_slot expire_first expire none_of slot_expiry first_expiry time_holds state_holds in_range interval_holds event_holds slot_holds slots_hold queue_holds events_hold handshake_holds packet_timers_hold data_timers_hold fields_hold timers_hold case_event case_state new_handshake is_in_progress in_flight_initiation set_expired is_expired cookie_expiration clear_cookie expire_cookie append_mac1_and_mac2 initiate_handshake place_of empty_places new_ring ring_is_empty store_at push_back events_from queued new_timers reject_after_time_of rekey_attempt_deadline rekey_after_time_without_response keepalive_after_time_without_send next_persistent_keepalive clear_timers tick_last_handshake_started tick_last_packet_sent tick_persistent_keepalive rekey_timeout_of schedule_handshake cancel_scheduled_handshake consume_passive_keepalive tick_initiation interval_of lacking bad_jitter stored_holds control_holds undamaged new_control done expired_control queueing initiating initiate encrypt_keepalive new_tunnel gate refused let_through timed kept timed_turn call_timeout clear_all expire_control scheduling queue_keepalive keepalive_due passive_timers keepalive_timers send_keepalive keepalive_if_due rekey_due rekey_or_keepalive give_up_or_retry maintain_connection is_lost is_replaced expire_sessions send_scheduled handle_due handle_timeout scheduled_handshake earliest_expiry cookie_deadline reject_deadline attempt_deadline handshake_rekey_timeout found_on_send found_after_messages found_on_receive response_deadline passive_deadline persistent_deadline current_persistent_deadline common_deadline rekey_deadline keepalive_deadline unscheduled_deadline next_deadline not_before poll_timeout call_settle waking_due repeat_waking settle granted case_result
settlings = record { never = refl; once = refl; twice = refl; thrice = refl; queue = refl }
