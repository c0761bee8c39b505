-- Where trailers lead: the tests of a log fail just where a trailer or a record that they lead to is broken.
-- Assumes nothing.
use mathlib.Core.Path.{◌≡◌, refl, ap, sym, subst, ◌∙◌}
use mathlib.Core.Bool.{Bool, true, false, true≢false}
use mathlib.Core.List.{List}
use Prim.Native.Nat.{ℕ, zero, suc, ◌+◌, ◌-◌, ◌*◌, ◌≤◌, ◌<◌}
use native.Mathlib.Omega.{arith}
use lib.ListN.{length}
use Rattle.endian.specs.LittleEndian.{Bytes}
use Rattle.callout_log.specs.Record.{is_record, record_at}
use Rattle.callout_log.specs.Trailer.{count_before, distance, is_trailer}
use Rattle.callout_log.specs.Log.{ends, ends_before, every, places, places_before, places_from}
use Rattle.callout_log.specs.Laws.{BrokenRecord, BrokenTrailer, Leads, last, back, TrailerAt}
use Rattle.callout_log.proofs.Kept.{records_back}
use Rattle.callout_log.proofs.Stands.{count_true, good_record, good_report, good_trailer, record_true, trailer_true}
use Rattle.callout_log.proofs.Tested.{and_true, fails}
use Rattle.callout_log.proofs.Walk.{both, every_on, from, from_good}
use Rattle.callout_log.proofs.Walking.{good_back, good_here}

-- a test that does not fail holds
holds : (test : Bool) → (test ≡ false → ⊥) → test ≡ true
holds true h = refl
holds false h = absurd (h refl)

module _ (test : ℕ → Bool) where
  -- a test of so many places holds of each
  at_place : (count first place : ℕ) → place < count → every test (places_from first count) ≡ true → test (first + 32 * place) ≡ true
  unfolding every places_from
  at_place zero first place h e = absurd (omega arith)
  at_place (suc count) first zero h e =
      let same : first + 32 * 0 ≡ first = omega arith in
      ap test same ∙ (both (test first) (every test (places_from (first + 32) count)) e).0
  at_place (suc count) first (suc place) h e =
      let same : first + 32 * suc place ≡ first + 32 + 32 * place = omega arith in
      ap test same ∙ at_place count (first + 32) place (omega arith) (both (test first) (every test (places_from (first + 32) count)) e).1

  -- a test that holds of each place holds of all
  all_places : (count first : ℕ) → ((place : ℕ) → place < count → test (first + 32 * place) ≡ true) → every test (places_from first count) ≡ true
  unfolding every places_from
  all_places zero first h = refl
  all_places (suc count) first h =
      let same : first ≡ first + 32 * 0 = omega arith in
      and_true (test first) (every test (places_from (first + 32) count)) (ap test same ∙ h 0 (omega arith))
      (all_places count (first + 32) (λ place k. next place ∙ h (suc place) (omega arith)))
    where
      next : (place : ℕ) → test (first + 32 + 32 * place) ≡ test (first + 32 * suc place)
      next place = let same : first + 32 + 32 * place ≡ first + 32 * suc place = omega arith in ap test same

module _ (log : List ℕ) (b : Bytes log) (small : length log ≤ 65536) where
  -- trailers lead to places of the log
  pub led_within : (end : ℕ) → Leads log end → end ≤ length log
  led_within end last = omega arith
  led_within end (back behind count leads trailer) = omega (arith, led_within behind leads)

  -- a trailer that stands before its end leads to where its count says
  pub led_back : (end count : ℕ) → TrailerAt log end count → end - distance (count_before log end) ≡ end - distance count
  led_back end count trailer = ap (λ (n : ℕ). end - distance n) (count_true log small end count trailer)

  module _ (trailers : every (is_trailer log) (ends log) ≡ true) where
    -- where all trailers keep their rule, those do that are before a place which they lead to
    trailers_led : (end : ℕ) → Leads log end → every (is_trailer log) (from log end) ≡ true
    unfolding ends
    trailers_led end last = trailers
    trailers_led end (back behind count leads trailer) =
        subst (λ (n : ℕ). every (is_trailer log) (from log n) ≡ true) (led_back behind count trailer)
        (good_back log behind (trailers_led behind leads) (omega (arith, trailer.within)))

    -- and the trailer there keeps its rule
    pub trailer_led : (end : ℕ) → 0 < end → Leads log end → is_trailer log end ≡ true
    trailer_led end h leads = good_here log end (trailers_led end leads) h

    module _ (records : every (is_record log) (places log) ≡ true) where
      -- where all records keep their rule, those do that are before a place which trailers lead to
      records_led : (end : ℕ) → Leads log end → every (is_record log) (places_before log (from log end)) ≡ true
      unfolding ends places
      records_led end last = records
      records_led end (back behind count leads trailer) =
          let h : 0 < behind = omega (arith, trailer.within) in
          subst (λ (n : ℕ). every (is_record log) (places_before log (from log n)) ≡ true) (led_back behind count trailer)
          (records_back log behind h (trailer_led behind h leads) (records_led behind leads)).1

      -- and each record of the callout there
      record_led : (end count place : ℕ) → Leads log end → TrailerAt log end count → place < count → is_record log (end - distance count + 32 * place) ≡ true
      record_led end count place leads trailer within =
          let h : 0 < end = omega (arith, trailer.within) in
          at_place (is_record log) count (end - distance count) place within
          (subst (λ (n : ℕ). every (is_record log) (places_from (end - distance n) n) ≡ true) (count_true log small end count trailer)
          (records_back log end h (trailer_led end h leads) (records_led end leads)).0)

  -- a broken trailer fails the test of all
  pub trailer_fails : BrokenTrailer log → every (is_trailer log) (ends log) ≡ false
  trailer_fails x =
      fails (every (is_trailer log) (ends log))
      (λ e. x.broken (count_before log x.end)
      (good_trailer log b x.end (led_within x.end x.leads) (trailer_led e x.end x.behind x.leads)))

  -- a broken record fails the test of all
  pub record_fails : every (is_trailer log) (ends log) ≡ true → BrokenRecord log → every (is_record log) (places log) ≡ false
  record_fails t x = fails (every (is_record log) (places log)) (λ e. x.broken (record_at log at) (good_report log b at inside (good e)) (good_record log b at inside (good e)))
    where
      at : ℕ
      at = x.end - distance x.count + 32 * x.place

      inside : at + 32 ≤ length log
      inside = omega (arith, x.within, x.trailer.within, led_within x.end x.leads)

      good : every (is_record log) (places log) ≡ true → is_record log at ≡ true
      good e = record_led t e x.end x.count x.place x.leads x.trailer x.within

  module _ (sound : BrokenTrailer log → ⊥) where
    -- where no trailer is broken, each that trailers lead to keeps its rule
    pub no_broken : (end : ℕ) → 0 < end → Leads log end → is_trailer log end ≡ true
    no_broken end h leads =
        holds (is_trailer log end)
        (λ e. sound (record { end = end; leads = leads; behind = h; broken = λ count trailer. true≢false (sym (trailer_true log small end count trailer) ∙ e) }))

    module _ (P : ℕ → Type 0) (front : P 0)
        (step : (end : ℕ) → 0 < end → Leads log end → P (end - distance (count_before log end)) → P end) where
      -- what holds at the front, and at the end of each callout where it does at the start, holds at each place that trailers lead to
      led_up : (most end : ℕ) → end ≤ most → Leads log end → P end
      led_up zero zero m leads = front
      led_up zero (suc end) m leads = absurd (omega arith)
      led_up (suc most) zero m leads = front
      led_up (suc most) (suc end) m leads =
          let trailer : TrailerAt log (suc end) (count_before log (suc end)) =
          good_trailer log b (suc end) (led_within (suc end) leads) (no_broken (suc end) (omega arith) leads) in
          step (suc end) (omega arith) leads
          (led_up most (suc end - distance (count_before log (suc end))) (omega arith) (back (suc end) (count_before log (suc end)) leads trailer))

      -- and so at the end of the log
      pub led_all : P (length log)
      led_all = led_up (length log) (length log) (omega arith) last

    -- trailers up to the start of a callout, and its own
    trailers_step : (end : ℕ) → 0 < end → Leads log end → every (is_trailer log) (from log (end - distance (count_before log end))) ≡ true
        → every (is_trailer log) (from log end) ≡ true
    unfolding every
    trailers_step end h leads before =
        ap (every (is_trailer log)) (from_good log end h (no_broken end h leads))
        ∙ and_true (is_trailer log end) (every (is_trailer log) (from log (end - distance (count_before log end)))) (no_broken end h leads) before

    -- the test of all trailers holds
    pub all_trailers : every (is_trailer log) (ends log) ≡ true
    unfolding ends ends_before every
    all_trailers = led_all (λ (end : ℕ). every (is_trailer log) (from log end) ≡ true) refl trailers_step

    module _ (whole : BrokenRecord log → ⊥) where
      -- where no record is broken, each of a callout that trailers lead to keeps its rule
      callout_before_lem : (end : ℕ) → 0 < end → Leads log end → every (is_record log) (places_from (end - distance (count_before log end)) (count_before log end)) ≡ true
      callout_before_lem end h leads =
          all_places (is_record log) (count_before log end) (end - distance (count_before log end))
          (λ place within.
          holds (is_record log (end - distance (count_before log end) + 32 * place))
          (λ e.
          whole
          (record {
            end = end;
            count = count_before log end;
            place = place;
            leads = leads;
            trailer = good_trailer log b end (led_within end leads) (no_broken end h leads);
            within = within;
            broken = λ r report bytes. true≢false (sym (record_true log (end - distance (count_before log end) + 32 * place) r report bytes) ∙ e);
          })))

      -- records up to the start of a callout, and its own
      records_step : (end : ℕ) → 0 < end → Leads log end → every (is_record log) (places_before log (from log (end - distance (count_before log end)))) ≡ true
          → every (is_record log) (places_before log (from log end)) ≡ true
      unfolding places_before
      records_step end h leads before =
          let start : ℕ = end - distance (count_before log end) in
          let here : List ℕ = places_from start (count_before log end) in
          ap (λ (l : List ℕ). every (is_record log) (places_before log l)) (from_good log end h (no_broken end h leads))
          ∙ every_on (is_record log) here (places_before log (from log start))
          ∙ and_true (every (is_record log) here) (every (is_record log) (places_before log (from log start))) (callout_before_lem end h leads) before

      -- the test of all records holds
      pub all_records : every (is_record log) (places log) ≡ true
      unfolding ends ends_before every places places_before
      all_records = led_all (λ (end : ℕ). every (is_record log) (places_before log (from log end)) ≡ true) refl records_step
