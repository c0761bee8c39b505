-- A log whose trailers and records keep their rules is the bytes of the callouts that are read from it.
-- Assumes nothing.
use Rattle.std.specs.Prelude.{Err}
use Rattle.error.specs.declared.Error.TheVariants.{InvalidArgument}
use mathlib.Core.Path.{◌≡◌, refl, ap, sym, subst, ◌∙◌}
use mathlib.Core.Bool.{Bool, true}
use mathlib.Core.List.{List, [], ◌∷◌, ◌++◌, map, map-append}
use Prim.Native.Nat.{ℕ, zero, suc, ◌+◌, ◌-◌, ◌*◌, ◌≤◌, ◌<◌}
use native.Mathlib.Omega.{arith}
use lib.Dec.{leb}
use lib.ListN.{length, take, drop, length-map}
use lib.Seq.{take-add}
use borrow.Author.Tests.{leb-true}
use Rattle.base.specs.Choice.{choose, ◌and◌}
use Rattle.endian.specs.LittleEndian.{Bytes}
use Rattle.callout_log.specs.declared.record.Record.{Record}
use Rattle.callout_log.specs.Record.{is_record, record_at, records_bytes}
use Rattle.callout_log.specs.Trailer.{count_before, distance, is_trailer, trailer_bytes}
use Rattle.callout_log.specs.Log.{callout_bytes, ends, ends_before, every, log_bytes, places, places_before, places_from}
use Rattle.callout_log.specs.Read.{Lists, hold, read_bytes, reading}
use Rattle.callout_log.specs.Laws.{All, none, more, Report, Room, TrailerAt, records_in}
use Rattle.callout_log.proofs.Places.{length_places}
use Rattle.callout_log.proofs.ReadBack.{Reads}
use Rattle.callout_log.proofs.Stands.{good_record, good_report, good_trailer, two_parts}
use Rattle.callout_log.proofs.Tested.{fails}
use Rattle.callout_log.proofs.Walk.{both, every_on, from, from_good}
use Rattle.callout_log.proofs.Walking.{good_back, good_here}

module _ (log : List ℕ) where
  -- the records of so many places
  abbrev records_from : (first count : ℕ) → List Record
  records_from first count = map (record_at log) (places_from first count)

  -- the callout that ends at a place
  unfoldable pub callout_before : ℕ → List Record
  callout_before end = records_from (end - distance (count_before log end)) (count_before log end)

  -- its length is the count of its trailer
  callout_count : (end : ℕ) → length (callout_before end) ≡ count_before log end
  unfolding callout_before
  callout_count end =
      let first : ℕ = end - distance (count_before log end) in
      length-map (places_from first (count_before log end)) (record_at log) ∙ length_places first (count_before log end)

  -- the counts of the trailers are the lengths of the callouts
  same_counts : (list : List ℕ) → map (count_before log) list ≡ map (λ (c : List Record). length c) (map callout_before list)
  same_counts [] = refl
  same_counts (end ∷ list) = λ j. sym (callout_count end) j ∷ same_counts list j

  -- the records at the places are those of the callouts
  pub same_records : (list : List ℕ) → map (record_at log) (places_before log list) ≡ records_in (map callout_before list)
  unfolding places_before records_in callout_before
  same_records [] = refl
  same_records (end ∷ list) =
      map-append (record_at log) (places_from (end - distance (count_before log end)) (count_before log end)) (places_before log list)
      ∙ ap (λ (l : List Record). callout_before end ++ l) (same_records list)

  -- records that keep their rule up to the end of a callout keep it in the callout and up to its start
  pub records_back : (end : ℕ) → 0 < end → is_trailer log end ≡ true → every (is_record log) (places_before log (from log end)) ≡ true
      → (every (is_record log) (places_from (end - distance (count_before log end)) (count_before log end)) ≡ true)
      × (every (is_record log) (places_before log (from log (end - distance (count_before log end)))) ≡ true)
  unfolding places_before
  records_back end h t e =
      let start : ℕ = end - distance (count_before log end) in
      let here : List ℕ = places_from start (count_before log end) in
      let before : List ℕ = places_before log (from log start) in
      both (every (is_record log) here) (every (is_record log) before)
      (sym (every_on (is_record log) here before) ∙ sym (ap (λ (l : List ℕ). every (is_record log) (places_before log l)) (from_good log end h t)) ∙ e)

  module _ (b : Bytes log) where
    -- Records that keep their rule, so many from a place on, are the bytes of reports.
    record Kept (first count : ℕ) : Type 0 where
      bytes : take (32 * count) (drop first log) ≡ records_bytes (records_from first count)
      reports : All Report (records_from first count)

    -- records that pass their tests are kept
    records_kept : (count first : ℕ) → first + 32 * count ≤ length log → every (is_record log) (places_from first count) ≡ true → Kept first count
    unfolding places_from records_bytes every
    records_kept zero first h e = record { bytes = refl; reports = none }
    records_kept (suc count) first h e =
        let good : is_record log first ≡ true = (both (is_record log first) (every (is_record log) (places_from (first + 32) count)) e).0 in
        let rest : Kept (first + 32) count =
        records_kept count (first + 32) (omega arith) (both (is_record log first) (every (is_record log) (places_from (first + 32) count)) e).1 in
        let size : 32 * suc count ≡ 32 + 32 * count = omega arith in
        record {
          bytes =
              ap (λ (n : ℕ). take n (drop first log)) size
              ∙ two_parts log 32 (32 * count) first
              ∙ λ j. good_record log b first (omega arith) good j ++ rest.bytes j;
          reports = more (good_report log b first (omega arith) good) rest.reports;
        }

    module _ (end : ℕ) (within : end ≤ length log) (t : is_trailer log end ≡ true) where
      -- the first place of the callout that ends at a place
      abbrev start : ℕ
      start = end - distance (count_before log end)

      -- the trailer of the callout
      trailer : TrailerAt log end (count_before log end)
      trailer = good_trailer log b end within t

      -- the records of the callout
      callout_kept : every (is_record log) (places_from start (count_before log end)) ≡ true → Kept start (count_before log end)
      callout_kept e = records_kept (count_before log end) start (omega (arith, trailer.within)) e

      -- what is before the end of a callout is what is before its start, and the callout
      callout_bytes_lem : every (is_record log) (places_from start (count_before log end)) ≡ true → take end log ≡ take start log ++ callout_bytes (callout_before end)
      unfolding callout_bytes callout_before
      callout_bytes_lem e =
          let n : ℕ = count_before log end in
          let last : start + 32 * n ≡ end - 16 = omega (arith, trailer.within) in
          let size : end ≡ start + (32 * n + 16) = omega (arith, trailer.within) in
          ap (λ (k : ℕ). take k log) size
          ∙ take-add start (32 * n + 16) log
          ∙ ap (λ (l : List ℕ). take start log ++ l)
          (two_parts log (32 * n) 16 start
          ∙ λ j. (callout_kept e).bytes j ++ (ap (λ (k : ℕ). take 16 (drop k log)) last ∙ trailer.bytes ∙ ap trailer_bytes (sym (callout_count end))) j)

    -- The callouts up to a place are of reports, and their bytes are what is before it.
    pub record Whole (end : ℕ) : Type 0 where
      pub bytes : take end log ≡ log_bytes (map callout_before (from log end))
      pub reports : All (All Report) (map callout_before (from log end))

    -- one more callout
    whole_step : (end : ℕ) → 0 < end → end ≤ length log → is_trailer log end ≡ true
        → every (is_record log) (places_from (end - distance (count_before log end)) (count_before log end)) ≡ true
        → Whole (end - distance (count_before log end)) → Whole end
    unfolding log_bytes callout_before
    whole_step end h within t e w =
        let here : from log end ≡ end ∷ from log (end - distance (count_before log end)) = from_good log end h t in
        record {
          bytes =
              callout_bytes_lem end within t e
              ∙ ap (λ (l : List ℕ). l ++ callout_bytes (callout_before end)) w.bytes
              ∙ ap (λ (l : List ℕ). log_bytes (map callout_before l)) (sym here);
          reports = subst (λ (l : List ℕ). All (All Report) (map callout_before l)) (sym here) (more (callout_kept end within t e).reports w.reports);
        }

    -- a log that keeps its rules up to a place is whole up to there
    pub whole : (most end : ℕ) → end ≤ most → end ≤ length log → every (is_trailer log) (from log end) ≡ true
        → every (is_record log) (places_before log (from log end)) ≡ true → Whole end
    unfolding log_bytes ends_before
    whole zero zero m h t e = record { bytes = refl; reports = none }
    whole zero (suc end) m h t e = absurd (omega arith)
    whole (suc most) zero m h t e = record { bytes = refl; reports = none }
    whole (suc most) (suc end) m h t e =
        let start : ℕ = suc end - distance (count_before log (suc end)) in
        let good : is_trailer log (suc end) ≡ true = good_here log (suc end) t (omega arith) in
        let records : (every (is_record log) (places_from start (count_before log (suc end))) ≡ true) × (every (is_record log) (places_before log (from log start)) ≡ true) =
        records_back (suc end) (omega arith) good e in
        whole_step (suc end) (omega arith) h good records.0
        (whole most start (omega arith) (omega arith) (good_back log (suc end) t (omega arith)) records.1)

  -- the callouts of a log
  abbrev pub callouts_in : List (List Record)
  callouts_in = map callout_before (ends log)

module _ (log : List ℕ) (trailers : every (is_trailer log) (ends log) ≡ true) (records : every (is_record log) (places log) ≡ true) where
  -- the callouts of a log that keeps its rules are what is read
  pub reads : Reads log (length log) (callouts_in log)
  unfolding ends places
  reads = record { trailers = trailers; counts = same_counts log (ends log); good = records; records = same_records log (ends log) }

module _ (log : List ℕ) (l : Lists) where
  -- lists that pass the test have room
  pub true_room : hold (length (ends log)) (length (places log)) l ≡ true → Room (callouts_in log) l
  unfolding hold places
  true_room e =
      let many : length (callouts_in log) ≡ length (ends log) = length-map (ends log) (callout_before log) in
      let all : length (records_in (callouts_in log)) ≡ length (places log) =
      ap length (sym (same_records log (ends log))) ∙ length-map (places log) (record_at log) in
      let n : ℕ = length (places log) in
      let a : Bool = leb (length (ends log)) (length l.counts) in
      let b : Bool = leb n (length l.times) in
      let c : Bool = leb n (length l.counters) in
      let d : Bool = leb n (length l.session_ids) in
      let f : Bool = leb n (length l.local_indices) in
      let g : Bool = leb n (length l.verdicts) in
      let second : (b and c and d and f and g ≡ true) = (both a (b and c and d and f and g) e).1 in
      let third : (c and d and f and g ≡ true) = (both b (c and d and f and g) second).1 in
      let fourth : (d and f and g ≡ true) = (both c (d and f and g) third).1 in
      let fifth : (f and g ≡ true) = (both d (f and g) fourth).1 in
      record {
        counts = rw many (leb-true (length (ends log)) (length l.counts) (both a (b and c and d and f and g) e).0);
        times = rw all (leb-true n (length l.times) (both b (c and d and f and g) second).0);
        counters = rw all (leb-true n (length l.counters) (both c (d and f and g) third).0);
        session_ids = rw all (leb-true n (length l.session_ids) (both d (f and g) fourth).0);
        local_indices = rw all (leb-true n (length l.local_indices) (both f g fifth).0);
        verdicts = rw all (leb-true n (length l.verdicts) (both f g fifth).1);
      }

  -- lists without room are turned down
  pub no_room : every (is_trailer log) (ends log) ≡ true → every (is_record log) (places log) ≡ true → (Room (callouts_in log) l → ⊥)
      → read_bytes log l ≡ reading (Err InvalidArgument) l
  unfolding read_bytes choose
  no_room trailers records h = rw (trailers, records, fails (hold (length (ends log)) (length (places log)) l) (λ e. h (true_room e)))
