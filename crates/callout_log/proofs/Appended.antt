-- What an append answers in each case, and that the records of a callout's lists are the callout.
-- Assumes nothing.
use Rattle.std.specs.Prelude.{Result, Ok, Err}
use Rattle.error.specs.declared.Error.{Error}
use Rattle.error.specs.declared.Error.TheVariants.{InvalidTime, InvalidArgument, StoreFull}
use Rattle.error.specs.Error.{error_number}
use mathlib.Core.Path.{◌≡◌, refl, ap, sym, ◌∙◌}
use mathlib.Core.Bool.{Bool, true, false}
use mathlib.Core.List.{List, [], ◌∷◌, ◌++◌, map}
use Prim.Native.Nat.{ℕ, suc, ◌+◌, ◌≤◌, ◌<◌}
use native.Mathlib.Nat.{add-zero, zero-add}
use native.Mathlib.Omega.{arith}
use lib.Dec.{leb}
use lib.ListN.{length, get_or, take, drop, length-map, get_or-map}
use borrow.Author.Tests.{le-leb, lt-leb}
use Rattle.base.specs.Choice.{choose, case_result, ◌and◌}
use Rattle.base.specs.Lists.{up_from}
use Rattle.base.proofs.Choice.{same_choice}
use Rattle.callout_log.specs.declared.record.Record.{Record}
use Rattle.callout_log.specs.Record.{is_time, is_verdict}
use Rattle.callout_log.specs.Trailer.{distance}
use Rattle.callout_log.specs.Log.{callout_bytes, every, is_store}
use Rattle.callout_log.specs.Append.{OneLength, Reports, append_answer, append_log, appended_by, appending, beside, fitting_answer, records_of, report_at}
use Rattle.callout_log.specs.Laws.{All, AppendLaw, NotAppended, Timely, Verdict, reports_of}
use Rattle.callout_log.proofs.Told.{append_declined, append_good}
use Rattle.callout_log.proofs.Tested.{every_true, fails, one_length_true, time_true, true_every, true_one_length, true_time, true_verdict, verdict_true}

-- a store within its bounds passes the test
pub store_true : (size used : ℕ) → size ≤ 65536 → used ≤ size → is_store size used ≡ true
unfolding is_store choose
store_true size used h k = rw (le-leb size 65536 h, le-leb used size k)

-- a store that is too large does not
pub store_large : (size used : ℕ) → 65536 < size → is_store size used ≡ false
unfolding is_store choose
store_large size used h = rw (lt-leb size 65536 h)

-- nor does a used length above the store's
pub store_over : (size used : ℕ) → size < used → is_store size used ≡ false
unfolding is_store
store_over size used h = rw (lt-leb used size h) (same_choice (leb size 65536) false)

-- of three tests that give one answer where they fail, one fails
one_fails : (a b c : Bool) (x y : Result ℕ Error) → a and b and c ≡ false → choose a (choose b (choose c x y) y) y ≡ y
unfolding choose
one_fails true true c x y e = rw e
one_fails true false c x y e = refl
one_fails false b c x y e = refl

module _ (size used : ℕ) (r : Reports) where
  -- a time that breaks rule 1
  answer_late : (All Timely r.times → ⊥) → append_answer size used r ≡ Err InvalidTime
  unfolding append_answer choose
  answer_late h = rw (fails (every is_time r.times) (λ e. h (true_every Timely is_time true_time r.times e)))

  module _ (timely : All Timely r.times) where
    -- a store, lists or a verdict that break rule 2
    answer_invalid : is_store size used and beside r and every is_verdict r.verdicts ≡ false → append_answer size used r ≡ Err InvalidArgument
    unfolding append_answer choose
    answer_invalid e =
        rw (every_true Timely is_time time_true r.times timely)
        (one_fails (is_store size used) (beside r) (every is_verdict r.verdicts) (fitting_answer size used (length r.times)) (Err InvalidArgument) e)

    -- where both rules are kept, the free end decides
    answer_valid : size ≤ 65536 → used ≤ size → OneLength r → All Verdict r.verdicts
        → append_answer size used r ≡ fitting_answer size used (length r.times)
    unfolding append_answer choose
    answer_valid s u o v =
        rw (
          every_true Timely is_time time_true r.times timely,
          store_true size used s u,
          one_length_true r o,
          every_true Verdict is_verdict verdict_true r.verdicts v,
        )

-- the free end is long enough
fitting : (size used count : ℕ) → used + distance count ≤ size → fitting_answer size used count ≡ Ok (used + distance count)
unfolding fitting_answer choose
fitting size used count h = rw (le-leb (used + distance count) size h)

-- the free end is too short
not_fitting : (size used count : ℕ) → size < used + distance count → fitting_answer size used count ≡ Err StoreFull
unfolding fitting_answer choose
not_fitting size used count h = rw (lt-leb (used + distance count) size h)

module _ (store : List ℕ) (used : ℕ) (r : Reports) where
  -- an append that is turned down leaves the store as it came
  turned_down : (error : Error) → append_answer (length store) used r ≡ Err error → NotAppended store used r (error_number error)
  unfolding append_log appended_by case_result
  turned_down error e = append_declined store used r error (rw e)

  -- an append that is not writes the callout's bytes from the old to the new used length
  pub appended : (end : ℕ) → append_answer (length store) used r ≡ Ok end
      → append_log store used r ≡ appending (Ok end) (take used store ++ callout_bytes (records_of r) ++ drop end store)
  unfolding append_log appended_by case_result
  appended end e = rw e

  module _ (timely : All Timely r.times) where
    -- one of rule 2's tests fails
    invalid : is_store (length store) used and beside r and every is_verdict r.verdicts ≡ false → NotAppended store used r 2
    invalid e = turned_down InvalidArgument (answer_invalid (length store) used r timely e)

    -- a store or a used length that breaks rule 2
    invalid_store : is_store (length store) used ≡ false → NotAppended store used r 2
    unfolding choose
    invalid_store e = invalid (rw e)

    -- lists of unequal length
    invalid_lists : (OneLength r → ⊥) → NotAppended store used r 2
    unfolding choose
    invalid_lists h = invalid (rw (fails (beside r) (λ e. h (true_one_length r e))) (same_choice (is_store (length store) used) false))

    -- a verdict that is none of the four
    invalid_verdict : (All Verdict r.verdicts → ⊥) → NotAppended store used r 2
    invalid_verdict h =
        invalid
        (rw (fails (every is_verdict r.verdicts) (λ e. h (true_every Verdict is_verdict true_verdict r.verdicts e)))
        (rw (same_choice (beside r) false) (same_choice (is_store (length store) used) false)))

    module _ (size : length store ≤ 65536) (o : OneLength r) (v : All Verdict r.verdicts) where
      -- a free end that is too short
      full : used ≤ length store → length store < used + distance (length r.times) → NotAppended store used r 19
      full u h =
          turned_down StoreFull (answer_valid (length store) used r timely size u o v ∙ not_fitting (length store) used (length r.times) h)

      -- a free end that is long enough
      pub fits_good : used + distance (length r.times) ≤ length store
          → append_log store used r
          ≡ appending (Ok (used + distance (length r.times))) (take used store ++ callout_bytes (records_of r) ++ drop (used + distance (length r.times)) store)
      fits_good h =
          appended (used + distance (length r.times))
          (answer_valid (length store) used r timely size (omega arith) o v ∙ fitting (length store) used (length r.times) h)

-- a function that gives the elements of a list by their place gives the list
module _ {A : Type 0} (f : ℕ → A) (d : A) where
  map_up : (first : ℕ) (list : List A) → ((i : ℕ) → f (first + i) ≡ get_or list i d) → map f (up_from first (length list)) ≡ list
  unfolding up_from
  map_up first [] h = refl
  map_up first (x ∷ list) h =
      λ j. (ap f (sym (add-zero first)) ∙ h 0) j ∷ map_up (suc first) list (λ i. ap f (omega arith) ∙ h (suc i)) j

module _ (callout : List Record) where
  -- a record of zeros
  abbrev zero_record : Record
  zero_record = record { time = 0; counter = 0; session_id = 0; local_index = 0; verdict = 0 }

  -- the report at each place of a callout's lists is the callout's
  report_at_lem : (i : ℕ) → report_at (reports_of callout) (0 + i) ≡ get_or callout i zero_record
  unfolding report_at reports_of
  report_at_lem i =
      ap (report_at (reports_of callout)) (zero-add i)
      ∙ λ j. record {
        time = get_or-map (λ (r : Record). r.time) callout i zero_record j;
        counter = get_or-map (λ (r : Record). r.counter) callout i zero_record j;
        session_id = get_or-map (λ (r : Record). r.session_id) callout i zero_record j;
        local_index = get_or-map (λ (r : Record). r.local_index) callout i zero_record j;
        verdict = get_or-map (λ (r : Record). r.verdict) callout i zero_record j;
      }

  -- the records of a callout's lists are the callout
  records_back : records_of (reports_of callout) ≡ callout
  unfolding records_of reports_of
  records_back =
      ap (λ (n : ℕ). map (report_at (reports_of callout)) (up_from 0 n)) (length-map callout (λ (r : Record). r.time))
      ∙ map_up (report_at (reports_of callout)) zero_record 0 callout report_at_lem

-- what an append answers and leaves
pub append_law : AppendLaw
append_law =
    record {
      time = λ store used r h. turned_down store used r InvalidTime (answer_late (length store) used r h);
      size = λ store used r t h. invalid_store store used r t (store_large (length store) used h);
      used = λ store used r t h. invalid_store store used r t (store_over (length store) used h);
      lists = invalid_lists;
      verdict = invalid_verdict;
      full = λ store used r t s u o v. full store used r t s o v u;
      good = λ store used r t s o v h. append_good store used r _ _ (fits_good store used r t s o v h);
      records = records_back;
    }
