-- The definitions that the calls compute with.
-- Assumes nothing.
use Prim.Native.Nat.{ℕ}
use Rattle.base.specs.Bits as bits
use Rattle.base.specs.Choice as choice
use Rattle.base.specs.First as first
use Rattle.base.specs.Lists as lists
use Rattle.base.specs.Sums as sums
use Rattle.demands.specs.Calls as calls
use Rattle.sessions.specs.Batch as batch
use Rattle.sessions.specs.Cases as cases
use Rattle.sessions.specs.Damage as damage
use Rattle.sessions.specs.Index as index
use Rattle.sessions.specs.Session as session
use Rattle.sessions.specs.Sessions as sessions
use Rattle.sessions.specs.Store as store
use Rattle.tunnel.specs.Answer as answer
use Rattle.tunnel.specs.Arguments as arguments
use Rattle.tunnel.specs.Cases as tunnel_cases
use Rattle.tunnel.specs.Control as control
use Rattle.tunnel.specs.Damage as tunnel_damage
use Rattle.tunnel.specs.Decapsulate as decapsulate
use Rattle.tunnel.specs.Encapsulate as encapsulate
use Rattle.tunnel.specs.HandleHandshake as handle_handshake
use Rattle.tunnel.specs.HandleTimeout as handle_timeout
use Rattle.tunnel.specs.Handshake as handshake
use Rattle.tunnel.specs.InitiateHandshake as initiate_handshake
use Rattle.tunnel.specs.PollTimeout as poll_timeout
use Rattle.tunnel.specs.RingBuffer as ring_buffer
use Rattle.tunnel.specs.Settle as settle
use Rattle.tunnel.specs.Timers as timers
use Rattle.tunnel.specs.Tunnel as tunnel
use Rattle.window.specs.Window as window

-- A proof that opens this one opens all that its line names; its value says nothing.
unfoldable pub the_calls : ℕ
unfolding bits.bit choice.choose choice.case_option choice.case_pair choice.case_result choice.case_results first.none_of lists.zeros lists.ones_of lists.up_from sums.sum calls.step calls.after batch.known batch.fits batch.finish_receive_packet_data batch.finish_all batch.receiving_session batch.receive cases.case_role damage.slot_holds damage.slots_hold index.wrapping_increment session.due_by session.least session.earlier session.new_session session.empty_session session.rekey_after_time_on_send session.reject_after_time_on_receive session.expires_at session.expired_at session.should_use_at session.rekey_after_messages_reached session.sending_counter_exhausted session.prepare_packet_data session.reserve_counters session.will_receive sessions.empty_slots sessions.new_sessions sessions.in_slot_of sessions.get sessions.put sessions.current_of sessions.in_current_slot sessions.ahead sessions.next_index sessions.inserting sessions.insert sessions.usable sessions.sending_session sessions.is_index sessions.select sessions.set_current sessions.clear sessions.emptied sessions.expired_slot sessions.discard sessions.expire_slot sessions.expire_first sessions.expire sessions.slot_expiry sessions.first_expiry sessions.missing store.slot_words store.put_slot store.missing_of answer.number_of answer.event_word answer.event_values answer.time_word answer.time_values answer.answer_word answer.values_of arguments.interval_of arguments.opening_outcome arguments.unnamed arguments.named_of arguments.initiation_outcome arguments.lacking arguments.bad_outcome arguments.bad_jitter arguments.bad_batch arguments.creation_number tunnel_cases.case_event tunnel_cases.case_state control.new_control control.refuse control.done control.expired_control control.queueing control.poll_event control.missing_report tunnel_damage.time_holds tunnel_damage.state_holds tunnel_damage.in_range tunnel_damage.interval_holds tunnel_damage.event_holds tunnel_damage.queue_holds tunnel_damage.events_hold tunnel_damage.handshake_holds tunnel_damage.packet_timers_hold tunnel_damage.data_timers_hold tunnel_damage.fields_hold tunnel_damage.timers_hold tunnel_damage.stored_holds tunnel_damage.control_holds tunnel_damage.undamaged decapsulate.confirm_first_session decapsulate.accept decapsulate.commit_decapsulate decapsulate.begin_decapsulate encapsulate.begin_encapsulate encapsulate.finish_encapsulate encapsulate.grant encapsulate.send encapsulate.encrypt_keepalive handle_handshake.responding handle_handshake.respond handle_handshake.handle_handshake_initiation handle_handshake.confirming handle_handshake.establish handle_handshake.complete handle_handshake.handle_handshake_response handle_handshake.handle_cookie_reply handle_timeout.clear_all handle_timeout.expire_control handle_timeout.scheduling handle_timeout.queue_keepalive handle_timeout.keepalive_due handle_timeout.passive_timers handle_timeout.keepalive_timers handle_timeout.send_keepalive handle_timeout.keepalive_if_due handle_timeout.rekey_due handle_timeout.rekey_or_keepalive handle_timeout.give_up_or_retry handle_timeout.maintain_connection handle_timeout.is_lost handle_timeout.is_replaced handle_timeout.expire_sessions handle_timeout.send_scheduled handle_timeout.handle_due handle_timeout.handle_timeout handshake.new_handshake handshake.awaits handshake.is_in_progress handshake.in_flight_initiation handshake.set_expired handshake.is_expired handshake.cookie_expiration handshake.clear_cookie handshake.expire_cookie handshake.append_mac1_and_mac2 handshake.initiate_handshake handshake.receive_handshake_initialization handshake.expects handshake.receive_handshake_response handshake.receive_cookie_reply initiate_handshake.initiating initiate_handshake.initiate initiate_handshake.restart_handshake initiate_handshake.start_handshake poll_timeout.scheduled_handshake poll_timeout.earliest_expiry poll_timeout.cookie_deadline poll_timeout.reject_deadline poll_timeout.attempt_deadline poll_timeout.handshake_rekey_timeout poll_timeout.found_on_send poll_timeout.found_after_messages poll_timeout.found_on_receive poll_timeout.response_deadline poll_timeout.passive_deadline poll_timeout.persistent_deadline poll_timeout.current_persistent_deadline poll_timeout.common_deadline poll_timeout.rekey_deadline poll_timeout.keepalive_deadline poll_timeout.unscheduled_deadline poll_timeout.next_deadline poll_timeout.not_before poll_timeout.poll_timeout ring_buffer.place_of ring_buffer.empty_places ring_buffer.new_ring ring_buffer.ring_is_empty ring_buffer.store_at ring_buffer.push_back ring_buffer.pop_front ring_buffer.events_from ring_buffer.queued ring_buffer.newest ring_buffer.oldest settle.waking_due settle.repeat_waking settle.settle timers.new_timers timers.reject_after_time_of timers.rekey_attempt_deadline timers.rekey_after_time_without_response timers.keepalive_after_time_without_send timers.next_persistent_keepalive timers.clear_timers timers.tick_last_handshake_completed timers.tick_last_handshake_started timers.tick_last_packet_received timers.tick_last_packet_sent timers.tick_last_data_packet_received timers.tick_last_data_packet_sent timers.tick_persistent_keepalive timers.rekey_timeout_of timers.schedule_handshake timers.cancel_scheduled_handshake timers.consume_passive_keepalive timers.tick_accepted timers.tick_response timers.tick_completed timers.tick_initiation tunnel.new_tunnel tunnel.gate tunnel.timeless_gate tunnel.refused tunnel.let_through tunnel.timed tunnel.timeless tunnel.kept tunnel.timed_turn tunnel.timed_batch tunnel.call_new tunnel.call_start tunnel.call_restart tunnel.call_send tunnel.call_receive tunnel.call_look tunnel.call_initiation tunnel.call_response tunnel.call_cookie tunnel.call_timeout tunnel.call_settle tunnel.call_event tunnel.call_deadline tunnel.call_missing window.bit_at window.check_bit window.set_bit window.clear_bit window.clears window.advance window.is_invalid window.will_accept window.next_after window.words_after window.skipped_by window.mark_did_receive
the_calls = 0
