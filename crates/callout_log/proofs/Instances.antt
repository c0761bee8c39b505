-- The logs of specs/Instances.antt, computed; the log that fills its store, by the laws.
-- Assumes nothing.
use Rattle.std.specs.Prelude.{Ok}
use Rattle.error.specs.declared.Error.TheVariants.{InvalidArgument}
use Rattle.callout_log.specs.Log.{answer_number}
use mathlib.Core.Path.{◌≡◌, refl, ap, subst, ◌∙◌}
use mathlib.Core.List.{List, [], ◌∷◌, ◌++◌, append-nil}
use Prim.Native.Nat.{ℕ, zero, suc, ◌+◌, ◌≤◌}
use native.Mathlib.Omega.{arith}
use lib.ListN.{length, drop, replicate, length-append, length-replicate, drop_of_length-le}
use Rattle.base.specs.Choice.{choose, case_result}
use Rattle.base.specs.Lists.{up_from, zeros}
use Rattle.base.proofs.Zeros.{length_zeros}
use Rattle.endian.specs.LittleEndian.{field, from_le_bytes, to_le_bytes}
use Rattle.callout_log.specs.declared.record.Record.{Record}
use Rattle.callout_log.specs.Record.{is_record, is_time, is_verdict, record_at, record_bytes, records_bytes}
use Rattle.callout_log.specs.Trailer.{count_before, distance, is_trailer, trailer_bytes}
use Rattle.callout_log.specs.Log.{callout_bytes, ends, ends_before, every, is_store, log_bytes, places, places_before, places_from}
use Rattle.callout_log.specs.Append.{append_answer, append_log, appended_by, appending, beside, fitting_answer, records_of, report_at}
use Rattle.callout_log.specs.Read.{hold, Lists, Reading, listing, lists_of, over, read_bytes, read_log, reading}
use Rattle.callout_log.specs.Laws.{All, none, more, Appends, first, next, NotAppended, Report, Room, committed, outside, again, answered, records_in, reports_of}
use Rattle.callout_log.specs.Instances.{LogInstances, RefusalInstances, after, before, between, again_report, committed_report, exact_lists, full_callouts, one_report, outside_report, two_callouts, two_reports}
use Rattle.callout_log.proofs.Told.{read_declined}
use Rattle.callout_log.proofs.Format.{callout_size_lem}
use Rattle.callout_log.proofs.Appended.{append_law, store_large}
use Rattle.callout_log.proofs.Written.{written_law}

-- a log of no callouts
no_callouts_lem : (l : Lists) → read_log (zeros 3) 0 l ≡ reading (Ok 0) l
unfolding answered listing over records_in zeros
no_callouts_lem l =
    written_law.reads (zeros 3) (zeros 3) 0 [] l none first
    record { counts = omega arith; times = omega arith; counters = omega arith; session_ids = omega arith; local_indices = omega arith; verdicts = omega arith }
    (omega arith)

-- a callout of one report behind the front
first_callout_lem : append_log before 0 (reports_of one_report) ≡ appending (Ok 48) between
unfolding append_log appended_by append_answer beside callout_bytes case_result choose every fitting_answer is_store is_time is_verdict record_bytes records_bytes records_of report_at reports_of to_le_bytes trailer_bytes up_from zeros
first_callout_lem = refl

-- a callout of two behind it
second_callout_lem : append_log between 48 (reports_of two_reports) ≡ appending (Ok 128) after
unfolding append_log appended_by append_answer beside callout_bytes case_result choose every fitting_answer is_store is_time is_verdict record_bytes records_bytes records_of report_at reports_of to_le_bytes trailer_bytes up_from zeros
second_callout_lem = refl

-- the report of a committed message is a report
is_committed : Report committed_report
is_committed = record { time = record { limit = omega arith }; counter = omega arith; session_id = omega arith; local_index = omega arith; verdict = committed }

-- the report of a message committed before is one
is_again : Report again_report
is_again = record { time = record { limit = omega arith }; counter = omega arith; session_id = omega arith; local_index = omega arith; verdict = again }

-- the report of a message out of the window is one
is_outside : Report outside_report
is_outside = record { time = record { limit = omega arith }; counter = omega arith; session_id = omega arith; local_index = omega arith; verdict = outside }

-- the reports of both callouts are reports
two_reports_lem : All (All Report) two_callouts
two_reports_lem = more (more is_committed (more is_again none)) (more (more is_outside none) none)

-- both callouts fill the lists
two_room : Room two_callouts exact_lists
unfolding records_in zeros
two_room = record { counts = omega arith; times = omega arith; counters = omega arith; session_ids = omega arith; local_indices = omega arith; verdicts = omega arith }

-- a rule of one element holds of it so many times
all_same : {A : Type 0} (P : A → Type 0) (n : ℕ) (x : A) → P x → All P (replicate n x)
all_same P zero x h = none
all_same P (suc n) x h = more h (all_same P n x h)

module _ (a b : ℕ) (r : Record) where
  -- two callouts of one report, so many times each
  abbrev two_of : List (List Record)
  two_of = replicate a r ∷ replicate b r ∷ []

  -- the length of their bytes
  two_size : length (log_bytes two_of) ≡ distance b + distance a
  unfolding log_bytes
  two_size =
      length-append (callout_bytes (replicate b r)) (callout_bytes (replicate a r))
      ∙ omega (arith, callout_size_lem (replicate b r), callout_size_lem (replicate a r), length-replicate b r, length-replicate a r)

  -- the number of their records
  two_records : length (records_in two_of) ≡ a + b
  unfolding records_in
  two_records =
      length-append (replicate a r) (replicate b r ++ [])
      ∙ omega (arith, length-append (replicate b r) [], length-replicate a r, length-replicate b r)

-- the callouts fill 65,536 bytes
full_size_lem : length (log_bytes full_callouts) ≡ 65536
unfolding full_callouts
full_size_lem = two_size 1024 1023 outside_report

-- their reports are reports
full_reports_lem : All (All Report) full_callouts
unfolding full_callouts
full_reports_lem = more (all_same Report 1024 outside_report is_outside) (more (all_same Report 1023 outside_report is_outside) none)

-- they are two
full_count : length full_callouts ≡ 2
unfolding full_callouts
full_count = refl

-- their records are 2,047
full_records : length (records_in full_callouts) ≡ 2047
unfolding full_callouts
full_records = two_records 1024 1023 outside_report

-- they are appended to each store of 65,536 bytes, and fill it
full_appends_lem : (store : List ℕ) → length store ≡ 65536 → Appends store full_callouts (log_bytes full_callouts) 65536
full_appends_lem store h =
    subst (λ (left : List ℕ). Appends store full_callouts left 65536)
    (ap (λ (l : List ℕ). log_bytes full_callouts ++ l) (drop_of_length-le store {i = 65536} (omega arith)) ∙ append-nil (log_bytes full_callouts))
    (subst (λ (n : ℕ). Appends store full_callouts (log_bytes full_callouts ++ drop n store) n) full_size_lem
    (written_law.fits store full_callouts full_reports_lem (omega arith) (omega (arith, full_size_lem))))

-- lists that they fill
full_room_lem : Room full_callouts (lists_of (zeros 2) (zeros 2047) (zeros 2047) (zeros 2047) (zeros 2047) (zeros 2047))
full_room_lem =
    let records : length (records_in full_callouts) ≤ length (zeros 2047) = omega (arith, full_records, length_zeros 2047) in
    record {
      counts = omega (arith, full_count, length_zeros 2);
      times = records;
      counters = records;
      session_ids = records;
      local_indices = records;
      verdicts = records;
    }

-- they read back
full_read_lem : (l : Lists) → Room full_callouts l → (read_log (log_bytes full_callouts) 65536 l).answer ≡ Ok 2
unfolding answered
full_read_lem l room =
    ap (λ (r : Reading). r.answer)
    (written_law.reads (log_bytes full_callouts) (log_bytes full_callouts) 65536 full_callouts l full_reports_lem (full_appends_lem (log_bytes full_callouts) full_size_lem) room (omega (arith, full_size_lem)))
    ∙ ap (λ (n : ℕ). Ok n) full_count

-- behind them there is no room for a trailer
full_end_lem : NotAppended (log_bytes full_callouts) 65536 (reports_of []) 19
unfolding reports_of
full_end_lem =
    append_law.full (log_bytes full_callouts) 65536 (reports_of []) none (omega (arith, full_size_lem)) (omega (arith, full_size_lem))
    record { counters = refl; session_ids = refl; local_indices = refl; verdicts = refl }
    none (omega (arith, full_size_lem))

-- logs with their bytes written out, and a log that fills its store
pub log_instances : LogInstances
unfolding append_log appended_by append_answer beside callout_bytes case_result choose count_before ends ends_before every field fitting_answer from_le_bytes hold is_record is_store is_time is_trailer is_verdict listing over places places_before places_from read_bytes read_log record_at record_bytes records_bytes records_of report_at reports_of to_le_bytes trailer_bytes up_from zeros
log_instances =
    record {
      no_callouts = no_callouts_lem;
      trailer_alone = refl;
      trailer_read = refl;
      first_callout = first_callout_lem;
      second_callout = second_callout_lem;
      reports = two_reports_lem;
      appends = next two_reports (next one_report first first_callout_lem) second_callout_lem;
      room = two_room;
      exact_read = refl;
      rest_kept = refl;
      full_size = full_size_lem;
      full_reports = full_reports_lem;
      full_appends = full_appends_lem;
      full_room = full_room_lem;
      full_read = full_read_lem;
      full_end = full_end_lem;
    }

-- appends and reads that are turned down
pub refusal_instances : RefusalInstances
unfolding append_log appended_by append_answer beside case_result choose count_before ends ends_before every field fitting_answer from_le_bytes hold is_record is_store is_time is_trailer is_verdict places places_before places_from read_bytes read_log record_at reports_of zeros answer_number
refusal_instances =
    record {
      late = record { refused = refl; left = refl };
      large = λ store h. append_law.size store 0 (reports_of one_report) (more (record { limit = omega arith }) none) (omega arith);
      over_used = record { refused = refl; left = refl };
      unequal = record { refused = refl; left = refl };
      unknown = record { refused = refl; left = refl };
      short = record { refused = refl; left = refl };
      read_large = λ store h. read_declined store 0 exact_lists InvalidArgument (rw (store_large (length store) 0 (omega arith)));
      read_over_used = record { refused = refl; left = refl };
      cut_trailer = record { refused = refl; left = refl };
      wrong_distance = record { refused = refl; left = refl };
      not_zero = record { refused = refl; left = refl };
      before_front = record { refused = refl; left = refl };
      broken_both = record { refused = refl; left = refl };
      late_record = record { refused = refl; left = refl };
      unknown_record = record { refused = refl; left = refl };
      not_zero_record = record { refused = refl; left = refl };
      short_list = record { refused = refl; left = refl };
    }
