-- The example of demand 3 meets the conditions, and each condition is needed, by computation.
-- Assumes nothing.
use Rattle.demands.proofs.Computing.{the_calls}
use mathlib.Core.Path.{◌≡◌, refl, sym, ◌∙◌}
use mathlib.Core.Bool.{true}
use mathlib.Core.List.{List, [], ◌∷◌, ◌++◌}
use mathlib.Core.Logic.{◌⊎◌, inl, inr, ⊎_elim}
use Prim.Native.Nat.{ℕ}
use Rattle.tunnel.specs.Answer.{number_of, values_of}
use Rattle.tunnel.specs.declared.answer.Answer.TheVariants.{Initiation, Polled, Deadline}
use Rattle.tunnel.specs.declared.answer.Answer.{Answer}
use Rattle.demands.proofs.Admits.{is_eleven, is_above, test_expired, test_early, early_is, test_held, held_is, none_earlier, test_order, order_is}
use Rattle.demands.specs.Calls.Call.{start, response, timeout, settle, event, deadline}
use Rattle.demands.specs.Calls.{Call, Good, step, after, created, Expired}
use Rattle.demands.specs.Wakings.Alike.{equal, come}
use Rattle.demands.specs.Wakings.{Step, shared, extra, plain_calls, woken_calls, took, ran, ran_new, time_of, Alike, Agree, CreatedAlike}
use Rattle.demands.specs.WakingsExample.{creation, established, used, lost, example, plain_after, woken_after, ExtraWakingsExample, late, unheld, disordered, ConditionsNeeded}
use Rattle.tunnel.specs.declared.event.Event.TheVariants.{SendKeepalive, ConnectionExpired}
use Rattle.std.specs.Prelude.{Err, Option, Some, None, Result, Ok}
use Rattle.error.specs.declared.Error.TheVariants.{ClockWentBack}
use Rattle.error.specs.declared.Error.{Error}

-- what the two tunnels, with a keepalive of so many seconds, answer to a call after some steps
abbrev plain_answer : ℕ → List Step → Call → Result Answer Error
plain_answer keepalive before call = (step (after (created (creation 0 keepalive)) (plain_calls before)) call).answer

abbrev woken_answer : ℕ → List Step → Call → Result Answer Error
woken_answer keepalive before call = (step (after (created (creation 1 keepalive)) (woken_calls before)) call).answer

-- the steps of each list before its last
abbrev late_first : List Step
late_first = extra 0 540000000000 ∷ []

abbrev disordered_first : List Step
disordered_first = extra 0 10000000000 ∷ []

abbrev unheld_first : List Step
unheld_first =
    extra 0 25000000000 ∷ shared (start 25000000000) ∷ shared (response 257 9 0 26000000000) ∷ shared event ∷ shared (timeout 0 26000000000) ∷ []

-- what is computed
record Computed : Type 0 where
  good : Good (creation 0 3600)
  woken_good : Good (creation 1 3600)
  early : test_early (created (creation 1 3600)) example ≡ true
  held : test_held 3600 (ran_new (creation 1 3600)) (created (creation 1 3600)) example ≡ true
  order : test_order example ≡ true
  through : (step (woken_after established) (timeout 0 130000000000)).world.tunnel.greatest ≡ 130000000000
  refused : number_of (step (woken_after (established ++ extra 0 130000000000 ∷ [])) (timeout 0 129000000000)).answer ≡ 13
  ended : Expired (woken_after lost)
  plainly : values_of (step (plain_after used) deadline).answer ≡ 120001000000 ∷ []
  wakingly : values_of (step (woken_after used) deadline).answer ≡ 130000000000 ∷ []
  settles : values_of (step (woken_after used) (settle 0 131000000000)).answer ≡ 2 ∷ []
  unset : Good (creation 0 0)
  woken_unset : Good (creation 1 0)
  kept : Good (creation 0 25)
  woken_kept : Good (creation 1 25)
  late_held : test_held 0 (ran_new (creation 1 0)) (created (creation 1 0)) late ≡ true
  late_order : test_order late ≡ true
  late_plain : plain_answer 0 late_first event ≡ Ok (Polled None)
  late_woken : woken_answer 0 late_first event ≡ Ok (Polled (Some ConnectionExpired))
  unheld_early : test_early (created (creation 1 25)) unheld ≡ true
  unheld_order : test_order unheld ≡ true
  unheld_plain : plain_answer 25 unheld_first event ≡ Ok (Polled (Some (SendKeepalive 9 1)))
  unheld_woken : woken_answer 25 unheld_first event ≡ Ok (Polled None)
  disordered_early : test_early (created (creation 1 0)) disordered ≡ true
  disordered_held : test_held 0 (ran_new (creation 1 0)) (created (creation 1 0)) disordered ≡ true
  disordered_plain : plain_answer 0 disordered_first (start 5000000000) ≡ Ok (Initiation 257)
  disordered_woken : woken_answer 0 disordered_first (start 5000000000) ≡ Err ClockWentBack

computed : Computed
unfolding the_calls plain_calls woken_calls took ran time_of established used lost example late unheld disordered is_eleven is_above test_expired test_early test_held none_earlier test_order
computed =
    record {
      good = refl;
      woken_good = refl;
      early = refl;
      held = refl;
      order = refl;
      through = refl;
      refused = refl;
      ended = refl;
      plainly = refl;
      wakingly = refl;
      settles = refl;
      unset = refl;
      woken_unset = refl;
      kept = refl;
      woken_kept = refl;
      late_held = refl;
      late_order = refl;
      late_plain = refl;
      late_woken = refl;
      unheld_early = refl;
      unheld_order = refl;
      unheld_plain = refl;
      unheld_woken = refl;
      disordered_early = refl;
      disordered_held = refl;
      disordered_plain = refl;
      disordered_woken = refl;
    }

-- two creations that differ in their stores only
created_alike : (keepalive : ℕ) → Good (creation 0 keepalive) → Good (creation 1 keepalive) → CreatedAlike (creation 0 keepalive) (creation 1 keepalive)
created_alike keepalive p w = record { index = refl; keepalive = refl; now = refl; plainly = p; wakingly = w }

pub extra_wakings_example : ExtraWakingsExample
extra_wakings_example =
    record {
      alike = created_alike 3600 computed.good computed.woken_good;
      admissible =
          record {
            early = early_is _ example computed.early;
            held = held_is 3600 _ _ example computed.held;
            order = order_is example computed.order;
          };
      through = computed.through;
      refused = computed.refused;
      ended = computed.ended;
      plainly = computed.plainly;
      wakingly = computed.wakingly;
      settles = computed.settles;
    }

-- answers that differ, of which the first is no deadline, are not alike
alike_equal : {latest : ℕ} {a b : Result Answer Error} → Alike latest a b → (a ≡ b) ⊎ ((time : Option ℕ) × (a ≡ Ok (Deadline time)))
alike_equal (equal answer) = inl refl
alike_equal (come a b p q) = inr (Some a, refl)

apart : {latest : ℕ} {a b : Result Answer Error} (x y : Result Answer Error) → a ≡ x → b ≡ y → (x ≡ y → ⊥) → ((time : Option ℕ) → x ≡ Ok (Deadline time) → ⊥) → Alike latest a b → ⊥
apart x y p q differ other h = ⊎_elim (λ e. differ (sym p ∙ e ∙ q)) (λ d. other d.0 (sym p ∙ d.1)) (alike_equal h)

late_apart_lem : Agree (creation 0 0) (creation 1 0) late → ⊥
unfolding late
late_apart_lem agree =
    apart (Ok (Polled None)) (Ok (Polled (Some ConnectionExpired))) computed.late_plain computed.late_woken
    (λ e. cc) (λ t e. cc) (agree late_first [] event refl).answers

unheld_apart_lem : Agree (creation 0 25) (creation 1 25) unheld → ⊥
unfolding unheld
unheld_apart_lem agree =
    apart (Ok (Polled (Some (SendKeepalive 9 1)))) (Ok (Polled None)) computed.unheld_plain computed.unheld_woken
    (λ e. cc) (λ t e. cc) (agree unheld_first [] event refl).answers

disordered_apart_lem : Agree (creation 0 0) (creation 1 0) disordered → ⊥
unfolding disordered
disordered_apart_lem agree =
    apart (Ok (Initiation 257)) (Err ClockWentBack) computed.disordered_plain computed.disordered_woken
    (λ e. cc) (λ t e. cc)
    (agree disordered_first [] (start 5000000000) refl).answers

pub conditions_needed : ConditionsNeeded
conditions_needed =
    record {
      alike = created_alike 0 computed.unset computed.woken_unset;
      kept = created_alike 25 computed.kept computed.woken_kept;
      late_held = held_is 0 _ _ late computed.late_held;
      late_order = order_is late computed.late_order;
      late_apart = late_apart_lem;
      unheld_early = early_is _ unheld computed.unheld_early;
      unheld_order = order_is unheld computed.unheld_order;
      unheld_apart = unheld_apart_lem;
      disordered_early = early_is _ disordered computed.disordered_early;
      disordered_held = held_is 0 _ _ disordered computed.disordered_held;
      disordered_apart = disordered_apart_lem;
    }
