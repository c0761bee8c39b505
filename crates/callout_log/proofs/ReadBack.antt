-- The bytes of callouts read back: each trailer is found from the one behind it, and each callout's records stand before its trailer.
-- Assumes nothing.
use mathlib.Core.Path.{◌≡◌, refl, ap, sym, ◌∙◌}
use mathlib.Core.Bool.{true}
use mathlib.Core.List.{List, [], ◌∷◌, ◌++◌, map, map-append, append_assoc, append-nil}
use Prim.Native.Nat.{ℕ, ◌+◌, ◌-◌, ◌*◌, ◌≤◌}
use native.Mathlib.Omega.{arith}
use lib.ListN.{length, length-append, length-map}
use borrow.Author.Tests.{le-leb}
use Rattle.base.specs.Choice.{choose}
use Rattle.callout_log.specs.declared.record.Record.{Record}
use Rattle.callout_log.specs.Record.{is_record, record_at, records_bytes}
use Rattle.callout_log.specs.Trailer.{count_before, distance, is_trailer, trailer_bytes}
use Rattle.callout_log.specs.Log.{callout_bytes, ends, ends_before, every, log_bytes, places, places_before, places_from}
use Rattle.callout_log.specs.Read.{Lists, hold, read_bytes}
use Rattle.callout_log.specs.Laws.{All, more, Report, Room, answered, records_in}
use Rattle.callout_log.proofs.Format.{callout_size_lem, records_size}
use Rattle.callout_log.proofs.Placed.{RecordsAt, count_read, records_read, trailer_good}
use Rattle.callout_log.proofs.Tested.{and_true}
use Rattle.callout_log.proofs.Walk.{every_on, from, from_good}

module _ (bytes : List ℕ) where
  -- The callouts up to a place of the bytes are these.
  pub record Reads (end : ℕ) (callouts : List (List Record)) : Type 0 where
    pub trailers : every (is_trailer bytes) (from bytes end) ≡ true
    pub counts : map (count_before bytes) (from bytes end) ≡ map (λ (c : List Record). length c) callouts
    pub good : every (is_record bytes) (places_before bytes (from bytes end)) ≡ true
    pub records : map (record_at bytes) (places_before bytes (from bytes end)) ≡ records_in callouts

  -- up to the front there are none
  reads_none : Reads 0 []
  unfolding ends_before every places_before records_in
  reads_none = record { trailers = refl; counts = refl; good = refl; records = refl }

  module _ (start end : ℕ) (callout : List Record) (count : count_before bytes end ≡ length callout) (good : is_trailer bytes end ≡ true)
      (size : end ≡ start + distance (length callout)) where
    -- from the end of a callout the walk goes on at its start
    from_step : from bytes end ≡ end ∷ from bytes start
    from_step = from_good bytes end (omega arith) good ∙ ap (λ (n : ℕ). end ∷ from bytes n) (ap (λ (n : ℕ). end - distance n) count ∙ omega arith)

    -- the places of its records are from its start on
    places_step : places_before bytes (from bytes end) ≡ places_from start (length callout) ++ places_before bytes (from bytes start)
    unfolding places_before
    places_step =
        ap (places_before bytes) from_step
        ∙ ap (λ (n : ℕ). places_from (end - distance n) n ++ places_before bytes (from bytes start)) count
        ∙ ap (λ (n : ℕ). places_from n (length callout) ++ places_before bytes (from bytes start)) (omega arith)

    -- a callout behind others
    reads_step : (older : List (List Record)) → RecordsAt bytes start callout → Reads start older → Reads end (callout ∷ older)
    unfolding every records_in
    reads_step older here before =
        record {
          trailers = ap (every (is_trailer bytes)) from_step ∙ and_true (is_trailer bytes end) (every (is_trailer bytes) (from bytes start)) good before.trailers;
          counts = ap (map (count_before bytes)) from_step ∙ λ j. count j ∷ before.counts j;
          good =
              ap (every (is_record bytes)) places_step
              ∙ every_on (is_record bytes) (places_from start (length callout)) (places_before bytes (from bytes start))
              ∙ and_true (every (is_record bytes) (places_from start (length callout))) (every (is_record bytes) (places_before bytes (from bytes start))) here.good before.good;
          records =
              ap (map (record_at bytes)) places_step
              ∙ map-append (record_at bytes) (places_from start (length callout)) (places_before bytes (from bytes start))
              ∙ λ j. here.are j ++ before.records j;
        }

  module _ (small : length bytes ≤ 65536) where
    module _ (log rest : List ℕ) (callout : List Record) (e : bytes ≡ log ++ (callout_bytes callout ++ rest)) where
      -- the records of a callout stand behind the older ones
      records_first : bytes ≡ log ++ (records_bytes callout ++ (trailer_bytes (length callout) ++ rest))
      unfolding callout_bytes
      records_first = e ∙ ap (λ (l : List ℕ). log ++ l) (append_assoc (records_bytes callout) (trailer_bytes (length callout)) rest)

      -- its trailer stands behind its records
      trailer_first : bytes ≡ (log ++ records_bytes callout) ++ (trailer_bytes (length callout) ++ rest)
      trailer_first = records_first ∙ sym (append_assoc log (records_bytes callout) (trailer_bytes (length callout) ++ rest))

      -- the place of its trailer
      trailer_place : length (log ++ records_bytes callout) ≡ length log + 32 * length callout
      trailer_place = length-append log (records_bytes callout) ∙ ap (λ (n : ℕ). length log + n) (records_size callout)

      -- a callout of reports behind others
      callout_reads : (end : ℕ) → end ≡ length log + distance (length callout) → end ≤ length bytes → All Report callout
          → (older : List (List Record)) → Reads (length log) older → Reads end (callout ∷ older)
      callout_reads end size within reports older =
          let count : count_before bytes end ≡ length callout =
          count_read bytes (log ++ records_bytes callout) (length log + 32 * length callout) trailer_place (length callout) end rest trailer_first (omega arith)
          (omega arith) in
          let good : is_trailer bytes end ≡ true =
          trailer_good bytes (log ++ records_bytes callout) (length log + 32 * length callout) trailer_place (length callout) end rest trailer_first (omega arith)
          (omega arith) (omega arith) in
          reads_step (length log) end callout count good size older
          (records_read bytes callout log (trailer_bytes (length callout) ++ rest) (length log) refl reports records_first)

    -- the bytes of callouts, with others behind them, read back
    reads_back : (callouts : List (List Record)) (rest : List ℕ) → All (All Report) callouts → bytes ≡ log_bytes callouts ++ rest
        → Reads (length (log_bytes callouts)) callouts
    unfolding log_bytes
    reads_back [] rest all e = reads_none
    reads_back (callout ∷ older) rest (more reports all) e =
        let log : List ℕ = log_bytes older in
        let here : bytes ≡ log ++ (callout_bytes callout ++ rest) = e ∙ append_assoc log (callout_bytes callout) rest in
        callout_reads log rest callout here (length (log ++ callout_bytes callout))
        (length-append log (callout_bytes callout) ∙ ap (λ (n : ℕ). length log + n) (callout_size_lem callout))
        (omega (arith, ap length e ∙ length-append (log ++ callout_bytes callout) rest)) reports older
        (reads_back older (callout_bytes callout ++ rest) all here)

-- lists with room pass the test
hold_true : (callouts : List (List Record)) (l : Lists) → Room callouts l → hold (length callouts) (length (records_in callouts)) l ≡ true
unfolding hold choose
hold_true callouts l room =
    rw (
      le-leb (length callouts) (length l.counts) room.counts,
      le-leb (length (records_in callouts)) (length l.times) room.times,
      le-leb (length (records_in callouts)) (length l.counters) room.counters,
      le-leb (length (records_in callouts)) (length l.session_ids) room.session_ids,
      le-leb (length (records_in callouts)) (length l.local_indices) room.local_indices,
      le-leb (length (records_in callouts)) (length l.verdicts) room.verdicts,
    )

module _ (bytes : List ℕ) (callouts : List (List Record)) (l : Lists) (read : Reads bytes (length bytes) callouts) where
  -- as many ends as callouts
  ends_count : length (ends bytes) ≡ length callouts
  unfolding ends
  ends_count =
      sym (length-map (ends bytes) (count_before bytes)) ∙ ap length read.counts ∙ length-map callouts (λ (c : List Record). length c)

  -- as many places as records
  places_count : length (places bytes) ≡ length (records_in callouts)
  unfolding places ends
  places_count = sym (length-map (places bytes) (record_at bytes)) ∙ ap length read.records

  -- bytes that hold callouts are read as these
  pub bytes_read : Room callouts l → read_bytes bytes l ≡ answered callouts l
  unfolding read_bytes answered choose places ends
  bytes_read room = rw (read.trailers, read.good, ends_count, places_count, hold_true callouts l room, read.counts, read.records)

-- the bytes of callouts of reports are read as these
pub log_read : (callouts : List (List Record)) (l : Lists) → All (All Report) callouts → length (log_bytes callouts) ≤ 65536 → Room callouts l
    → read_bytes (log_bytes callouts) l ≡ answered callouts l
log_read callouts l all small =
    bytes_read (log_bytes callouts) callouts l (reads_back (log_bytes callouts) small callouts [] all (sym (append-nil (log_bytes callouts))))
