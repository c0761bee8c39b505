-- Appending a callout: what it answers and what it leaves.
use Rattle.std.specs.Prelude.{◌≡◌, Bool, List, ◌++◌, map, ℕ, ◌+◌, leb, eqb, length, get_or, take, drop, Result, Ok, Err}
use Rattle.base.specs.Choice.{choose, case_result, ◌and◌}
use Rattle.base.specs.Lists.{up_from}
use Rattle.callout_log.specs.declared.record.Record.{Record}
use Rattle.callout_log.specs.Record.{is_time, is_verdict}
use Rattle.callout_log.specs.Trailer.{distance}
use Rattle.callout_log.specs.Log.{callout_bytes, every, is_store}
use Rattle.callout_log.specs.declared.append.Reports.{Reports as Lent}
use Rattle.error.specs.declared.Error.{Error}
use Rattle.error.specs.declared.Error.TheVariants.{InvalidTime, InvalidArgument, StoreFull}

-- The reports of a callout, in five lists side by side.
pub record Reports : Type 0 where
  pub times : List ℕ
  pub counters : List ℕ
  pub session_ids : List ℕ
  pub local_indices : List ℕ
  pub verdicts : List ℕ

-- the reports in these lists
abbrev pub reports_in : (times counters session_ids local_indices verdicts : List ℕ) → Reports
reports_in times counters session_ids local_indices verdicts =
    record { times = times; counters = counters; session_ids = session_ids; local_indices = local_indices; verdicts = verdicts }

-- what lent reports hold
abbrev pub reported : Lent → Reports
reported r = reports_in r.times.now r.counters.now r.session_ids.now r.local_indices.now r.verdicts.now

-- Five lists are of one length.
pub record OneLength (r : Reports) : Type 0 where
  pub counters : length r.counters ≡ length r.times
  pub session_ids : length r.session_ids ≡ length r.times
  pub local_indices : length r.local_indices ≡ length r.times
  pub verdicts : length r.verdicts ≡ length r.times

-- whether the lists have one length
unfoldable pub beside : Reports → Bool
beside r =
    eqb (length r.counters) (length r.times)
    and eqb (length r.session_ids) (length r.times)
    and eqb (length r.local_indices) (length r.times)
    and eqb (length r.verdicts) (length r.times)

-- the report at a place of the lists
unfoldable pub report_at : Reports → ℕ → Record
report_at r i =
    record {
      time = get_or r.times i 0;
      counter = get_or r.counters i 0;
      session_id = get_or r.session_ids i 0;
      local_index = get_or r.local_indices i 0;
      verdict = get_or r.verdicts i 0;
    }

-- the records of the reports
unfoldable pub records_of : Reports → List Record
records_of r = map (report_at r) (up_from 0 (length r.times))

-- What a call of append answers, and the store it leaves.
pub record Appending : Type 0 where
  pub answer : Result ℕ Error
  pub store : List ℕ

-- this answer and store
abbrev pub appending : Result ℕ Error → List ℕ → Appending
appending answer store = record { answer = answer; store = store }

-- the new used length, or StoreFull where the free end is too short
unfoldable pub fitting_answer : (size used count : ℕ) → Result ℕ Error
fitting_answer size used count = choose (leb (used + distance count) size) (Ok (used + distance count)) (Err StoreFull)

-- what an append to a store of so many bytes answers: InvalidTime, then InvalidArgument for the store, the lists or a verdict, then StoreFull
unfoldable pub append_answer : (size used : ℕ) → Reports → Result ℕ Error
append_answer size used r =
    choose (every is_time r.times)
    (choose (is_store size used)
    (choose (beside r)
    (choose (every is_verdict r.verdicts) (fitting_answer size used (length r.times)) (Err InvalidArgument))
    (Err InvalidArgument))
    (Err InvalidArgument))
    (Err InvalidTime)

-- an answer with the store that it leaves: the callout's bytes from the old to the new used length, all others as they came
unfoldable pub appended_by : Result ℕ Error → List ℕ → (used : ℕ) → Reports → Appending
appended_by answer store used r =
    appending answer (case_result answer (λ (error : Error). store) (λ (end : ℕ). take used store ++ callout_bytes (records_of r) ++ drop end store))

-- what an append answers and leaves; of the store it looks at the length only
unfoldable pub append_log : List ℕ → (used : ℕ) → Reports → Appending
append_log store used r = appended_by (append_answer (length store) used r) store used r
