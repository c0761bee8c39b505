-- The theorems of the laws that src/claims.rt ties: what another crate may cite of the tunnel's proofs.
-- Assumes nothing.
use mathlib.Core.Path.{◌≡◌, refl, ap, sym, ◌∙◌}
use mathlib.Core.Bool.{Bool}
use mathlib.Core.List.{List}
use Prim.Native.Nat.{ℕ, ◌≤◌}
use lib.ListN.{length}
use Rattle.sessions.specs.Session.{new_session, with_id}
use Rattle.sessions.specs.Sessions.{current_of}
use Rattle.tunnel.proofs.AfterStates.{restart_ways, start_ways, cookie_ways, timeout_ways, settle_ways, batch_ways, response_ways, response_up, look_same, missing_same, event_down, sound_passed, new_down, new_up}
use Rattle.tunnel.proofs.Deadline.{deadline_answer}
use Rattle.tunnel.proofs.Exceptions.{send_ways, send_down, send_marked, incoming_up, incoming_store, incoming_down, incoming_failed}
use Rattle.tunnel.proofs.Ended.{stays_ended}
use Rattle.tunnel.proofs.Facts.{undamaged_facts, undamaged_holds}
use Rattle.tunnel.proofs.Framed.{gate_onward, gate_now, gate_good, gate_whole, small_jitter}
use Rattle.tunnel.proofs.Numbers.{first_numbers}
use Rattle.tunnel.proofs.Queue.{queue_of_newest}
use Rattle.tunnel.proofs.Quiet.{wake_quiet}
use Rattle.tunnel.proofs.Refusals.{refusal_numbers}
use Rattle.tunnel.proofs.Responses.{keepalive_sent, confirming_sessions, response_current, response_good}
use Rattle.tunnel.proofs.Ahead.{new_gives, call_start_gives, call_restart_gives, initiation_gives, initiation_failed_lem, initiation_refused, waking_gives, waking_unsent}
use Rattle.tunnel.proofs.AheadExample.{computed}
use Rattle.tunnel.proofs.Lasting.{Set, Last, on_start, on_restart, on_send, on_receive, on_look, on_incoming, on_response, on_cookie, on_timeout, on_settle, on_missing, on_timed, on_timeless}
use Rattle.tunnel.proofs.SettleExample.{settlings}
use Rattle.tunnel.proofs.Settled.{settle_comes, settle_only}
use Rattle.tunnel.proofs.SoundCalls.{its_control, good_made, timed_sound, good_store, made_sound, timeless_sound}
use Rattle.tunnel.proofs.SoundSteps.{SoundControl, sound_later}
use Rattle.tunnel.proofs.Still.{restart_expired, start_expired, start_again, timeout_nothing, settle_nothing, empty_nothing, deadline_nothing, event_answer, event_queue, event_rest}
use Rattle.tunnel.proofs.Stores.{kept_whole, batch_store, initiation_store_lem, response_store, timeout_store, settle_store}
use Rattle.tunnel.proofs.TurnedDown.{TurnWays, timed_same, timed_down, turn_down, batch_down, timed_up, timed_nothing, timeless_same}
use Rattle.tunnel.specs.AfterStates.{AfterStates, GreatestLaw, StillLaw, EventLaw, NoneCurrent, ExpiredLaw}
use Rattle.tunnel.specs.Deadline.{DeadlineLaw}
use Rattle.tunnel.specs.Facts.{FactsOfUndamaged}
use Rattle.tunnel.specs.Ahead.{last_index, AheadLaw, AheadExample}
use Rattle.tunnel.specs.Laws.{GateLaw, setting_of, SettingLaw, establishing, confirmed_by, ResponseLaw}
use Rattle.tunnel.specs.Numbers.{NumbersLaw}
use Rattle.tunnel.specs.Quiet.{QuietLaw}
use Rattle.tunnel.specs.Refusals.{RefusalsLaw}
use Rattle.tunnel.specs.RingBuffer.{QueueOfNewest}
use Rattle.tunnel.specs.Settled.{SettleLaw, SettleExample}
use Rattle.tunnel.specs.Sound.{Sound, SoundLaw, StoreLaw, CreatedLaw}
use Rattle.tunnel.specs.declared.control.Control.{Control}
use Rattle.tunnel.specs.declared.handshake.Handshake.{Handshake}
use Rattle.tunnel.specs.declared.tunnel.Tunnel.{Tunnel}
use native.Mathlib.Omega.{arith}
use Rattle.tunnel.proofs.SoundOperations.{unraising, restart_sound, start_sound, send_sound, batch_sound, look_sound, cookie_sound, response_sound, event_sound, missing_sound, initiation_sound}
use Rattle.base.proofs.Choice.{known_result, of_result}
use Rattle.tunnel.specs.Control.{poll_event}
use Rattle.tunnel.specs.declared.answer.Answer.TheVariants.{Done}
use Rattle.base.proofs.Zeros.{length_zeros}
use Rattle.tunnel.specs.Arguments.{opening_outcome, initiation_outcome, bad_outcome, creation_number, named_of}
use Rattle.tunnel.specs.HandleHandshake.{handle_handshake_response}
use Rattle.tunnel.specs.Tunnel.{gate, refused, Called, timed_turn, timed_batch, call_new, call_start, call_restart, call_send, call_receive, call_look, call_initiation, call_response, call_cookie, call_timeout, call_settle, call_event, call_deadline, call_missing}
use Rattle.tunnel.proofs.SoundWaking.{timeout_sound, settle_sound}
use Rattle.std.specs.Prelude.{Ok, Option, Some}

-- the ring of events
pub queue_law : QueueOfNewest
queue_law = queue_of_newest

-- the test of number 14 and its facts
pub undamaged_law : FactsOfUndamaged
undamaged_law = record { facts = undamaged_facts; holds = undamaged_holds }

-- what the checks let through
pub gate_law : (t : Tunnel) (bad : Bool) (now : ℕ) → GateLaw t bad now
gate_law t bad now = record { limited = gate_now t bad now; good = gate_good t bad now; whole = gate_whole t bad now; onward = gate_onward t bad now }

-- sound tunnels stay sound
pub sound_law : (t : Tunnel) → Sound t → SoundLaw t
unfolding call_start call_restart call_send call_receive call_look call_initiation call_response call_cookie call_timeout call_settle call_event call_deadline call_missing timed_turn timed_batch
sound_law t s =
    let w : SoundControl t.control t.greatest = its_control t s in
    record {
      start = λ now. timed_sound t s _ now _ (λ b l. start_sound t.greatest now l t.control w);
      restart = λ now. timed_sound t s _ now _ (λ b l. restart_sound t.greatest now l t.control w);
      send = λ count now. timed_sound t s _ now _ (λ b l. send_sound t.greatest now l t.control w count);
      receive = λ store index id now counters kinds verdicts skips.
          timed_sound t s _ now _ (λ b l. batch_sound t.greatest now l t.control w store index id counters kinds verdicts skips);
      look = λ store index counter now. timed_sound t s _ now _ (λ b l. look_sound t.greatest now l t.control w store index counter);
      initiation = λ store peer outcome now.
          timed_sound t s _ now _ (λ b l. initiation_sound t.greatest now l t.control store peer (named_of (initiation_outcome outcome)) w);
      response = λ store receiver peer outcome now.
          timed_sound t s _ now _
          (λ b l. response_sound t.greatest now l t.control w store receiver peer (named_of (opening_outcome outcome)) (good_store (opening_outcome outcome) store b));
      cookie = λ receiver outcome now. timed_sound t s _ now _ (λ b l. cookie_sound t.greatest now l t.control w receiver (named_of (opening_outcome outcome)));
      timeout = λ store jitter now.
          timed_sound t s _ now _ (λ b l. timeout_sound t.greatest now l t.control w store jitter (small_jitter jitter store _ refl b));
      settle = λ store jitter now.
          timed_sound t s _ now _ (λ b l. settle_sound t.greatest now l t.control w store jitter (small_jitter jitter store _ refl b));
      event = timeless_sound t s _ _ (event_sound t.greatest t.control w);
      deadline = timeless_sound t s _ _ (unraising t.greatest t.control _ w);
      missing = λ store index. timeless_sound t s _ _ (missing_sound t.greatest t.control w store index);
    }

-- a creation is sound
pub created_law : (store : List ℕ) (index keepalive now : ℕ) → CreatedLaw store index keepalive now
unfolding call_new refused
created_law store index keepalive now =
    record {
      tunnel = known_result (λ (y : Called). Sound y.answered.tunnel) (creation_number store keepalive now) _ _
          (λ error. made_sound 0 0 0 (omega arith) (omega arith)) (λ good e. good_made store index keepalive now e);
      words = of_result (λ (y : Called). y.answered.answer ≡ Ok Done → length y.store ≡ 1024) (creation_number store keepalive now) _ _
          (λ error d. absurd (cc)) (λ good d. length_zeros 1024);
    }

-- stores keep their length
pub store_law : (t : Tunnel) (store : List ℕ) → length store ≡ 1024 → StoreLaw t store
unfolding call_receive call_initiation call_response call_timeout call_settle timed_turn timed_batch
store_law t store l =
    record {
      receive = λ index id now counters kinds verdicts skips. kept_whole t _ now store _ l (batch_store t.control store l index id now counters kinds verdicts skips);
      initiation = λ peer outcome now. kept_whole t _ now store _ l (initiation_store_lem t.control store peer _ now l);
      response = λ receiver peer outcome now. kept_whole t _ now store _ l (response_store t.control store l receiver peer _ now);
      timeout = λ jitter now. kept_whole t _ now store _ l (timeout_store t.control store l jitter now);
      settle = λ jitter now. kept_whole t _ now store _ l (settle_store t.control store l jitter now);
    }

-- the keepalive's setting stays
pub setting_law : (t : Tunnel) (store : List ℕ) → SettingLaw t store
unfolding call_start call_restart call_send call_receive call_look call_initiation call_response call_cookie call_timeout call_settle call_event call_deadline call_missing timed_turn timed_batch poll_event
setting_law t store =
    let Same : Control → Type 0 = Set (setting_of t) in
    let l : ℕ = t.control.sessions.last_index in
    record {
      start = λ now. on_timed Same t refl _ now _ (on_start _ _ now refl);
      restart = λ now. on_timed Same t refl _ now _ (on_restart _ _ now refl);
      send = λ count now. on_timed Same t refl _ now _ (on_send _ l _ count now (refl, refl)).0;
      receive = λ index id now counters kinds verdicts skips.
          on_timed Same t refl _ now _ (on_receive _ l _ store index id now counters kinds verdicts skips (refl, refl)).0;
      look = λ index counter now. on_timed Same t refl _ now _ (on_look _ l _ store index counter now (refl, refl)).0;
      initiation = λ peer outcome now. on_timed Same t refl _ now _ (on_incoming _ _ store peer _ now refl);
      response = λ receiver peer outcome now. on_timed Same t refl _ now _ (on_response _ l _ store receiver peer _ now (refl, refl)).0;
      cookie = λ receiver outcome now. on_timed Same t refl _ now _ (on_cookie _ l _ receiver _ now (refl, refl)).0;
      timeout = λ jitter now. on_timed Same t refl _ now _ (on_timeout _ _ store jitter now refl);
      settle = λ jitter now. on_timed Same t refl _ now _ (on_settle _ _ store jitter now refl);
      event = on_timeless Same t refl _ _ refl;
      deadline = on_timeless Same t refl _ _ refl;
      missing = λ index. on_timeless Same t refl _ _ (on_missing _ l _ store index (refl, refl)).0;
    }

-- the index told ahead
pub ahead_law : (t : Tunnel) (store : List ℕ) → length t.control.sessions.slots ≡ 8 → length t.control.events.slots ≡ 16 → AheadLaw t store
unfolding call_send call_receive call_look call_response call_cookie call_event call_deadline call_missing timed_turn timed_batch poll_event
ahead_law t store eight sixteen =
    let Same : Control → Type 0 = λ (c : Control). Last (last_index t) c.sessions in
    let i : Option ℕ = setting_of t in
    record {
      new = new_gives store;
      start = call_start_gives t;
      restart = call_restart_gives t;
      initiation = λ peer outcome now. initiation_gives t store peer outcome now eight;
      failed = initiation_failed_lem t store;
      refused = initiation_refused t store;
      sent = λ jitter now. waking_gives t store jitter now sixteen;
      unsent = waking_unsent t store;
      send = λ count now. on_timed Same t refl _ now _ (on_send i _ _ count now (refl, refl)).1;
      receive = λ index id now counters kinds verdicts skips.
          on_timed Same t refl _ now _ (on_receive i _ _ store index id now counters kinds verdicts skips (refl, refl)).1;
      look = λ index counter now. on_timed Same t refl _ now _ (on_look i _ _ store index counter now (refl, refl)).1;
      response = λ receiver peer outcome now. on_timed Same t refl _ now _ (on_response i _ _ store receiver peer _ now (refl, refl)).1;
      cookie = λ receiver outcome now. on_timed Same t refl _ now _ (on_cookie i _ _ receiver _ now (refl, refl)).1;
      event = on_timeless Same t refl _ _ refl;
      deadline = on_timeless Same t refl _ _ refl;
      missing = λ index. on_timeless Same t refl _ _ (on_missing i _ _ store index (refl, refl)).1;
    }

pub ahead_example : AheadExample
ahead_example = computed

-- the number that turns a call down
pub numbers_law : (t : Tunnel) (store : List ℕ) → NumbersLaw t store
numbers_law = first_numbers

-- the number that turns down a handshake message or an early look
pub refusals_law : (t : Tunnel) (store : List ℕ) → RefusalsLaw t store
refusals_law = refusal_numbers

-- an expired tunnel has no current session
pub expired_law : (t : Tunnel) (store : List ℕ) → NoneCurrent t → ExpiredLaw t store
expired_law = stays_ended

-- the deadline
pub deadline_law : (t : Tunnel) → DeadlineLaw t
deadline_law t =
    record {
      answer = deadline_answer t;
      alike = λ u p q c l. deadline_answer t p ∙ rw (c, l) (sym (deadline_answer u q));
    }

-- the early waking
pub quiet_law : (c : Control) (store : List ℕ) (jitter now : ℕ) → QuietLaw c store jitter now
quiet_law c store jitter now = record { quiet = wake_quiet c now store jitter }

-- a response that opened
module _ (t : Tunnel) (s : Sound t) (handshake : Handshake) (store : List ℕ) (receiver peer now : ℕ) (later : t.greatest ≤ now) (long : length store ≡ 1024) where
  sound_now : SoundControl t.control now
  sound_now = sound_later t.greatest now later t.control (its_control t s)

  now_current : current_of (confirmed_by t.control handshake store receiver peer now).sessions
      ≡ Some (with_id (establishing receiver peer now) t.control.sessions.inserted)
  now_current = ap current_of (confirming_sessions _ receiver now) ∙ response_current t.control handshake store receiver peer now sound_now long

  pub response_law : ResponseLaw t.control handshake store receiver peer now
  unfolding new_session
  response_law =
      record {
        current = now_current;
        first = keepalive_sent (confirmed_by t.control handshake store receiver peer now) _ now now_current refl refl;
        answer = response_good t.control handshake store receiver peer now sound_now long;
      }

-- what the calls that are turned down leave; the arrays' lengths are for the response, whose session is never stored without its keepalive
module _ (t : Tunnel) (store : List ℕ) (eight : length t.control.sessions.slots ≡ 8) (sixteen : length t.control.events.slots ≡ 16) where
  passed_response : (receiver peer outcome now : ℕ) → gate t (bad_outcome (opening_outcome outcome) store) now ≡ Ok tt
      → TurnWays t.control store (handle_handshake_response t.control store receiver peer (named_of (opening_outcome outcome)) now)
  passed_response receiver peer outcome now z =
      response_ways t.control store receiver peer (named_of (opening_outcome outcome)) now (sound_passed t _ now eight sixteen z)
      (good_store (opening_outcome outcome) store (gate_good t _ now z))

  pub after_states_law : AfterStates t store
  unfolding call_start call_restart call_receive call_look call_response call_cookie call_timeout call_settle call_deadline call_missing
  after_states_law =
      record {
        start = λ now. timed_down t _ now _ (λ z. start_ways t.control now);
        restart = λ now. timed_down t _ now _ (λ z. restart_ways t.control now);
        send = λ count now. send_down t count now;
        send_too_few = λ count now. send_marked t count now;
        receive = λ index id now counters kinds verdicts skips.
            batch_down t _ now store verdicts skips _ (λ z. batch_ways t.control store index id now counters kinds verdicts skips);
        initiation = λ peer outcome now. incoming_down t store peer outcome now;
        initiation_failed = λ peer outcome now. incoming_failed t store peer outcome now;
        initiation_store = λ peer outcome now. incoming_store t store peer outcome now;
        response = λ receiver peer outcome now. turn_down t _ now store _ (passed_response receiver peer outcome now);
        cookie = λ receiver outcome now. timed_down t _ now _ (λ z. cookie_ways t.control receiver (named_of (opening_outcome outcome)) now);
        timeout = λ jitter now. turn_down t _ now store _ (λ z. timeout_ways t.control store jitter now);
        settle = λ jitter now. turn_down t _ now store _ (λ z. settle_ways t.control store jitter now);
        event = event_down t;
        look = λ index counter now. timed_same t _ now _ (look_same t.control store index counter now);
        deadline = timeless_same t _ _ (record { control = refl; raises = refl; updates = refl });
        missing = λ index. timeless_same t _ _ (missing_same t.control store index);
        new = λ index keepalive now. new_down store index keepalive now;
      }

-- what the calls that are not turned down leave
pub greatest_law : (t : Tunnel) (store : List ℕ) → GreatestLaw t store
unfolding call_start call_restart call_send call_receive call_response call_cookie call_timeout call_settle timed_turn timed_batch
greatest_law t store =
    record {
      new = λ index keepalive now. new_up store index keepalive now;
      start = λ now. timed_up t _ now _ (λ z. (start_ways t.control now).up);
      restart = λ now. timed_up t _ now _ (λ z. (restart_ways t.control now).up);
      send = λ count now. timed_up t _ now _ (λ z. (send_ways t.control count now).up);
      receive = λ index id now counters kinds verdicts skips. timed_up t _ now _ (λ z. (batch_ways t.control store index id now counters kinds verdicts skips).out.up);
      initiation = λ peer outcome now. incoming_up t store peer outcome now;
      response = λ receiver peer outcome now. timed_up t _ now _ (λ z. response_up t.control store receiver peer (named_of (opening_outcome outcome)) now);
      cookie = λ receiver outcome now. timed_up t _ now _ (λ z. (cookie_ways t.control receiver (named_of (opening_outcome outcome)) now).up);
      timeout = λ jitter now. timed_up t _ now _ (λ z. (timeout_ways t.control store jitter now).out.up);
      settle = λ jitter now. timed_up t _ now _ (λ z. (settle_ways t.control store jitter now).out.up);
    }

-- what changes nothing but the greatest time
pub still_law : (t : Tunnel) (store : List ℕ) → StillLaw t store
unfolding call_start call_restart
still_law t store =
    record {
      batch = λ index id now. empty_nothing t store index id now;
      timeout = λ jitter now. timeout_nothing t store jitter now;
      settle = λ jitter now. settle_nothing t store jitter now;
      start = λ now x. timed_nothing t _ now _ (start_expired t.control now x);
      restart = λ now x. timed_nothing t _ now _ (restart_expired t.control now x);
      again = λ now local sent x. timed_nothing t _ now _ (start_again t.control now local sent x);
      deadline = deadline_nothing t;
    }

-- the event call
pub event_law : (t : Tunnel) → length t.control.events.slots ≡ 16 → EventLaw t
event_law t long = record { answer = event_answer t long; queue = event_queue t long; rest = event_rest t }

-- settling comes to the plain repetition
pub settle_law : (t : Tunnel) (store : List ℕ) (jitter now : ℕ) → length t.control.sessions.slots ≡ 8 → length t.control.events.slots ≡ 16
    → SettleLaw t store jitter now
settle_law t store jitter now eight sixteen =
    record { ends = settle_comes t store jitter now eight sixteen; only = settle_only t store jitter now eight sixteen }

-- there are settlings of every count
pub settle_example : SettleExample
settle_example = settlings
