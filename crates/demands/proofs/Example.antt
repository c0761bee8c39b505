-- The example's premises hold, and what comes of it is computed.
-- Assumes nothing.
use Rattle.demands.proofs.Computing.{the_calls}
use mathlib.Core.Path.{◌≡◌, refl}
use Prim.Native.Nat.{ℕ, zero, suc, ◌^◌, ◌≤◌, ◌<◌}
use lib.ListN.{length, get_or}
use native.Mathlib.Omega.{arith}
use lib.Count as count
use Rattle.demands.proofs.Sending.{sending_law}
use Rattle.demands.specs.Calls.{created}
use Rattle.demands.specs.Example as example
use Rattle.demands.specs.Example.{ExampleLaw}
use Rattle.demands.specs.LastHeard as last_heard
use Rattle.demands.specs.Made as made
use Rattle.demands.specs.Made.{insertions}
use Rattle.demands.specs.Receiving as receiving
use Rattle.demands.specs.Sending as sending
use Rattle.demands.specs.Wakings as wakings
use Rattle.demands.specs.History as history
use Rattle.sessions.specs.Laws as laws

-- the kinds of the batch are among the three
known_kinds : (i : ℕ) → i < length (example.batch).kinds → get_or (example.batch).kinds i 0 ≤ 2
unfolding example.batch
known_kinds zero l = omega arith
known_kinds (suc zero) l = omega arith
known_kinds (suc (suc zero)) l = omega arith
known_kinds (suc (suc (suc zero))) l = omega arith
known_kinds (suc (suc (suc (suc zero)))) l = omega arith
known_kinds (suc (suc (suc (suc (suc i))))) l = absurd (omega arith)

pub example_law : ExampleLaw
unfolding the_calls laws.commits last_heard.hearing last_heard.heard_from count.ones_in count.ones history.verdict_on history.recorded history.recorded_all made.made made.case_batch made.case_waking made.case_answer made.wakings_of made.case_message made.insertion_by made.inserted receiving.committing receiving.history_from sending.still sending.put_last sending.keepalive_by sending.waking_grant sending.waking_grants sending.woken_grant sending.answered_grant sending.woken_grants sending.grants_from sending.polled_by sending.polled wakings.took wakings.ran wakings.ran_after sending.counters_of example.creation example.calls example.here example.batch example.settled
example_law =
    let one : insertions (made.made (created example.creation) example.calls) ≡ 1 = refl in
    let few : insertions (made.made (created example.creation) example.calls) < 2 ^ 64 = omega (arith, one) in
    record {
      good = refl;
      few = few;
      live =
          record {
            timely = omega arith;
            whole = refl;
            kinds_long = refl;
            verdicts_long = refl;
            skips_long = refl;
            most = omega arith;
            known = known_kinds;
            onward = omega arith;
            alive = λ e. (let z : ◌≡◌ {A = ℕ} 0 11 = e in omega (arith, z));
            among = omega arith;
            filled = refl;
            index = refl;
            id = refl;
            age = omega arith;
          };
      history = refl;
      verdicts = refl;
      skips = refl;
      counters = refl;
      messages = refl;
      keepalives = refl;
      unpolled = refl;
      answered = refl;
      polls = refl;
      settles = refl;
      settled_grants = refl;
      settled_polls = refl;
      can_send =
          record {
            some = omega arith;
            timely = omega arith;
            onward = omega arith;
            current = (_, refl);
            prompt = λ e. omega arith;
            young = λ e. (cc);
            left = omega arith;
          };
      sent = refl;
      late = refl;
      cannot_send = (sending_law example.creation refl example.calls few).twelve 2 170001000001 refl;
      fresh = refl;
      young = refl;
      old = refl;
      unheard = refl;
      heard_first = refl;
      heard = refl;
      heard_last = refl;
    }
