-- Every step of the timers, the handshake and the ring keeps the facts of number 14.
-- Assumes nothing.
use mathlib.Core.Path.{◌≡◌, refl}
use mathlib.Core.Bool.{Bool, true, false}
use mathlib.Core.List.{List, [], ◌∷◌, ◌++◌}
use Prim.Native.Nat.{ℕ, zero, suc, ◌+◌, ◌-◌, ◌≤◌}
use native.Mathlib.Omega.{arith}
use lib.ListN.{length, drop}
use Rattle.base.specs.Choice.{choose, case_option}
use Rattle.tunnel.specs.Facts.EventsWithin.{none, more}
use Rattle.tunnel.specs.Facts.{EventWithin, EventsWithin, QueueWithin}
use Rattle.tunnel.proofs.Queue.{queue_of_newest}
use Rattle.tunnel.specs.Handshake.{SentWithin, HandshakeWithin, new_handshake, set_expired, clear_cookie, append_mac1_and_mac2, initiate_handshake, with_states, with_cookies, tracking}
use Rattle.tunnel.specs.RingBuffer.{new_ring, push_back, pop_front, newest, Ring}
use Rattle.tunnel.specs.Timers.{max_jitter, TimeWithin, IntervalWithin, TimersWithin, new_timers, clear_timers, tick_last_handshake_completed, tick_last_handshake_started, tick_last_packet_received, tick_last_packet_sent, tick_last_data_packet_received, tick_last_data_packet_sent, tick_persistent_keepalive, schedule_handshake, cancel_scheduled_handshake, consume_passive_keepalive, tick_accepted, tick_response, tick_completed, tick_initiation}
use Rattle.tunnel.specs.declared.event.Event.{Event}
use Rattle.tunnel.specs.declared.handshake.Handshake.{Handshake}
use Rattle.tunnel.specs.declared.handshake.HandshakeState.TheVariants.{None as NoHandshake, InitSent, Expired}
use Rattle.tunnel.specs.declared.ring_buffer.RingBuffer.{RingBuffer}
use Rattle.tunnel.specs.declared.timers.Timers.{Timers}
use Rattle.std.specs.Prelude.{None, Option, Some, unwrap_or}

-- no time, and a time within the bound
pub never_within : (most : ℕ) → TimeWithin None most
never_within most = record { within = λ at p. let z : ◌≡◌ {A = ℕ} 0 1 = cc in omega arith }

at_within : (time most : ℕ) → time ≤ most → TimeWithin (Some time) most
at_within time most h = record { within = λ at p. let e : time ≡ at = cc in omega arith }

pub get_or_within : (time : Option ℕ) (now most : ℕ) → TimeWithin time most → now ≤ most → unwrap_or time now ≤ most
unfolding case_option
get_or_within None now most w h = h
get_or_within (Some x) now most w h = w.within x refl

pub first_within : (time : Option ℕ) (now most : ℕ) → TimeWithin time most → now ≤ most → TimeWithin (Some (unwrap_or time now)) most
first_within time now most w h = at_within (unwrap_or time now) most (get_or_within time now most w h)

pub on_new : (interval : Option ℕ) (now most : ℕ) → IntervalWithin interval → now ≤ most → TimersWithin (new_timers interval now) most
unfolding new_timers
on_new interval now most w h = search never_within

module _ (t : Timers) (most now : ℕ) (w : TimersWithin t most) (h : now ≤ most) where
  pub on_clear : TimersWithin (clear_timers t now) most
  unfolding clear_timers
  on_clear = search never_within

  on_completed : TimersWithin (tick_last_handshake_completed t now) most
  unfolding tick_last_handshake_completed
  on_completed = search h

  on_started : TimersWithin (tick_last_handshake_started t now) most
  unfolding tick_last_handshake_started
  on_started = search h

  pub on_received : TimersWithin (tick_last_packet_received t now) most
  unfolding tick_last_packet_received
  on_received = search never_within

  pub on_sent : TimersWithin (tick_last_packet_sent t now) most
  unfolding tick_last_packet_sent
  on_sent = search never_within

  pub on_data_received : TimersWithin (tick_last_data_packet_received t now) most
  unfolding tick_last_data_packet_received
  on_data_received = search at_within

  pub on_data_sent : TimersWithin (tick_last_data_packet_sent t now) most
  unfolding tick_last_data_packet_sent
  on_data_sent = search first_within

  pub on_kept : TimersWithin (tick_persistent_keepalive t now) most
  unfolding tick_persistent_keepalive
  on_kept = search h

  pub on_schedule : (jitter : ℕ) → jitter ≤ max_jitter → TimersWithin (schedule_handshake t (now + jitter)) most
  unfolding schedule_handshake
  on_schedule jitter j =
      let l : now + jitter ≤ most + max_jitter = omega arith in
      search at_within

module _ (t : Timers) (most : ℕ) (w : TimersWithin t most) where
  pub on_cancel : TimersWithin (cancel_scheduled_handshake t) most
  unfolding cancel_scheduled_handshake
  on_cancel = search never_within

  pub on_consume : TimersWithin (consume_passive_keepalive t) most
  unfolding consume_passive_keepalive
  on_consume = search never_within

module _ (t : Timers) (most now : ℕ) (w : TimersWithin t most) (h : now ≤ most) where
  pub on_accepted : (f : Bool) → TimersWithin (tick_accepted t f now) most
  unfolding tick_accepted choose
  on_accepted true = search (on_received, on_data_received)
  on_accepted false = search on_received

  pub on_response : TimersWithin (tick_response t now) most
  unfolding tick_response
  on_response = search (on_received, on_sent, on_completed)

  pub on_done : TimersWithin (tick_completed t now) most
  unfolding tick_completed
  on_done = search (on_received, on_completed, on_cancel)

  pub on_initiation : (f : Bool) → TimersWithin (tick_initiation t f now) most
  unfolding tick_initiation choose
  on_initiation true = search on_sent
  on_initiation false = search (on_sent, on_started)

-- no initiation, and an initiation sent within the bound
none_within : (most : ℕ) → SentWithin NoHandshake most
none_within most = record { within = λ local sent p. let z : ◌≡◌ {A = ℕ} 0 1 = cc in omega arith }

expired_within : (most : ℕ) → SentWithin Expired most
expired_within most = record { within = λ local sent p. let z : ◌≡◌ {A = ℕ} 0 1 = cc in omega arith }

sent_within : (local time most : ℕ) → time ≤ most → SentWithin (InitSent local time) most
sent_within local time most h = record { within = λ x sent p. let e : time ≡ sent = cc in omega arith }

pub on_new_handshake : (most : ℕ) → HandshakeWithin new_handshake most
unfolding new_handshake
on_new_handshake most = search (none_within, never_within)

module _ (h : Handshake) (most : ℕ) (w : HandshakeWithin h most) where
  pub on_expired : HandshakeWithin (set_expired h) most
  unfolding set_expired
  on_expired = search expired_within

  pub on_clear_cookie : HandshakeWithin (clear_cookie h) most
  unfolding clear_cookie
  on_clear_cookie = search never_within

  pub on_append : (local : ℕ) → HandshakeWithin (append_mac1_and_mac2 h local) most
  unfolding append_mac1_and_mac2
  on_append local = search w

  pub on_initiate : (local now : ℕ) → now ≤ most → HandshakeWithin (initiate_handshake h local now) most
  unfolding initiate_handshake append_mac1_and_mac2
  on_initiate local now l = search sent_within

  -- the handshake after a response, and after a cookie reply
  pub on_both_none : HandshakeWithin (with_states h NoHandshake NoHandshake) most
  on_both_none = search none_within

  pub on_cookie : (index now : ℕ) → now ≤ most → HandshakeWithin (with_cookies h (tracking false index (Some now))) most
  on_cookie index now l = search at_within

-- the events of two lists, and those after the first
module _ (most : ℕ) where
  events_append : (xs ys : List (Option Event)) → EventsWithin most xs → EventsWithin most ys → EventsWithin most (xs ++ ys)
  events_append [] ys none v = v
  events_append (x ∷ xs) ys (more w ws) v = more w (events_append xs ys ws v)

  events_drop : (n : ℕ) (xs : List (Option Event)) → EventsWithin most xs → EventsWithin most (drop n xs)
  events_drop zero xs w = w
  events_drop (suc n) [] none = none
  events_drop (suc n) (x ∷ xs) (more w ws) = events_drop n xs ws

  events_newest : (xs : List (Option Event)) → EventsWithin most xs → EventsWithin most (newest xs)
  unfolding newest
  events_newest xs w = events_drop (length xs - 16) xs w

  pub on_new_ring : QueueWithin new_ring most
  on_new_ring = record { ring = queue_of_newest.fresh.within; events = rw queue_of_newest.begun none }

  module _ (r : RingBuffer) (long : length r.slots ≡ 16) (w : QueueWithin r most) where
    whole : Ring r
    whole = record { places = long; within = w.ring }

    pub on_push : (event : Event) → EventWithin (Some event) most → QueueWithin (push_back r event) most
    on_push event v =
        record {
          ring = (queue_of_newest.still r event whole).within;
          events = rw (queue_of_newest.pushed r event whole) (events_newest _ (events_append _ _ w.events (more v none)));
        }

    pub on_pop : QueueWithin (pop_front r).events most
    on_pop = record { ring = (queue_of_newest.stays r whole).within; events = rw (queue_of_newest.left r whole) (events_drop 1 _ w.events) }
