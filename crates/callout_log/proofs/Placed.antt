-- What stands at a place of bytes reads back: a number, a record, a trailer, and records one behind another.
-- Assumes nothing.
use mathlib.Core.Path.{◌≡◌, refl, ap, sym, ◌∙◌}
use mathlib.Core.Bool.{true}
use mathlib.Core.List.{List, [], ◌∷◌, ◌++◌, map, append_assoc}
use Prim.Native.Nat.{ℕ, ◌+◌, ◌-◌, ◌^◌, ◌≤◌, ◌<◌}
use native.Mathlib.Nat.{add-zero}
use native.Mathlib.Omega.{arith}
use lib.Dec.{eqb}
use lib.ListN.{length, take, drop, length-append}
use lib.Seq.{take_at, drop_at}
use borrow.Author.Tests.{le-leb, eq-eqb}
use Rattle.base.specs.Choice.{choose, ◌and◌}
use Rattle.base.specs.Lists.{zeros}
use Rattle.endian.specs.LittleEndian.{field, from_le_bytes, to_le_bytes}
use Rattle.endian.proofs.Laws.{little_endian_law}
use Rattle.callout_log.specs.declared.record.Record.{Record}
use Rattle.callout_log.specs.Record.{is_record, is_time, is_verdict, record_at, record_bytes, records_bytes}
use Rattle.callout_log.specs.Trailer.{count_before, distance, is_trailer, trailer_bytes}
use Rattle.callout_log.specs.Log.{every, places_from}
use Rattle.callout_log.specs.Laws.{All, more, Report, Verdict, committed, failed, outside, again}
use Rattle.callout_log.proofs.Format.{record_size_lem}
use Rattle.callout_log.proofs.Tested.{and_true, time_true, verdict_true}

-- a verdict is a byte
verdict_small : (n : ℕ) → Verdict n → n < 256
verdict_small n committed = omega arith
verdict_small n failed = omega arith
verdict_small n outside = omega arith
verdict_small n again = omega arith

module _ (bytes : List ℕ) where
  module _ (xs : List ℕ) (at : ℕ) (h : length xs ≡ at) where
    -- a number that stands behind other bytes reads back
    field_in : (front ys : List ℕ) (width n k : ℕ) → bytes ≡ xs ++ (front ++ (to_le_bytes width n ++ ys)) → length front ≡ k → n < 256 ^ width
        → field (at + k) width bytes ≡ n
    unfolding field
    field_in front ys width n k e l b =
        let rest : List ℕ = to_le_bytes width n ++ ys in
        let from : drop (at + k) bytes ≡ rest =
        ap (drop (at + k)) (e ∙ sym (append_assoc xs front rest))
        ∙ drop_at (xs ++ front) rest (at + k) (length-append xs front ∙ omega arith) in
        ap from_le_bytes (ap (take width) from ∙ take_at (to_le_bytes width n) ys width (little_endian_law.size width n))
        ∙ little_endian_law.number width n b

    module _ (r : Record) (ys : List ℕ) (report : Report r) (e : bytes ≡ xs ++ (record_bytes r ++ ys)) where
      -- a record reads back
      record_read : record_at bytes at ≡ r
      unfolding record_at record_bytes to_le_bytes zeros
      record_read =
          λ j. record {
            time = (ap (λ (k : ℕ). field k 8 bytes) (sym (add-zero at)) ∙ field_in [] (drop 8 (record_bytes r) ++ ys) 8 r.time 0 e refl (omega (arith, report.time.limit))) j;
            counter = field_in (take 8 (record_bytes r)) (drop 16 (record_bytes r) ++ ys) 8 r.counter 8 e refl report.counter j;
            session_id = field_in (take 16 (record_bytes r)) (drop 24 (record_bytes r) ++ ys) 8 r.session_id 16 e refl report.session_id j;
            local_index = field_in (take 24 (record_bytes r)) (drop 28 (record_bytes r) ++ ys) 4 r.local_index 24 e refl report.local_index j;
            verdict = field_in (take 28 (record_bytes r)) (drop 29 (record_bytes r) ++ ys) 1 r.verdict 28 e refl (verdict_small r.verdict report.verdict) j;
          }

      -- the bytes behind the verdict read 0
      zero_read : field (at + 29) 3 bytes ≡ 0
      unfolding record_bytes to_le_bytes zeros
      zero_read = field_in (take 29 (record_bytes r)) ys 3 0 29 e refl (omega arith)

      -- a record keeps its rule
      record_good : is_record bytes at ≡ true
      unfolding is_record
      record_good =
          let time : is_time (record_at bytes at).time ≡ true =
          ap (λ (s : Record). is_time s.time) record_read ∙ time_true r.time report.time in
          let verdict : is_verdict (record_at bytes at).verdict ≡ true =
          ap (λ (s : Record). is_verdict s.verdict) record_read ∙ verdict_true r.verdict report.verdict in
          let zero : eqb (field (at + 29) 3 bytes) 0 ≡ true = eq-eqb (field (at + 29) 3 bytes) 0 zero_read in
          and_true (is_time (record_at bytes at).time) (is_verdict (record_at bytes at).verdict and eqb (field (at + 29) 3 bytes) 0) time
          (and_true (is_verdict (record_at bytes at).verdict) (eqb (field (at + 29) 3 bytes) 0) verdict zero)

    module _ (count end : ℕ) (ys : List ℕ) (e : bytes ≡ xs ++ (trailer_bytes count ++ ys)) (behind : end ≡ at + 16) (small : count < 4294967296) where
      -- the count of a trailer reads back
      pub count_read : count_before bytes end ≡ count
      unfolding count_before trailer_bytes to_le_bytes zeros
      count_read =
          ap (λ (k : ℕ). field k 4 bytes) (omega arith)
          ∙ field_in (take 8 (trailer_bytes count)) (drop 12 (trailer_bytes count) ++ ys) 4 count 8 e refl small

      -- the distance of a trailer reads back
      distance_read : field (end - 16) 8 bytes ≡ distance count
      unfolding trailer_bytes to_le_bytes zeros
      distance_read =
          ap (λ (k : ℕ). field k 8 bytes) (omega arith)
          ∙ field_in [] (drop 8 (trailer_bytes count) ++ ys) 8 (distance count) 0 e refl (omega arith)

      -- the last bytes of a trailer read 0
      last_read : field (end - 4) 4 bytes ≡ 0
      unfolding trailer_bytes to_le_bytes zeros
      last_read = ap (λ (k : ℕ). field k 4 bytes) (omega arith) ∙ field_in (take 12 (trailer_bytes count)) ys 4 0 12 e refl (omega arith)

      -- a trailer with its records before it keeps its rule
      pub trailer_good : distance count ≤ end → is_trailer bytes end ≡ true
      unfolding is_trailer choose
      trailer_good within =
          rw (count_read, distance_read, last_read, eq-eqb (distance count) (distance count) refl, le-leb 16 end (omega arith), le-leb (distance count) end within)

  -- Records stand one behind another from a place on.
  pub record RecordsAt (at : ℕ) (records : List Record) : Type 0 where
    pub are : map (record_at bytes) (places_from at (length records)) ≡ records
    pub good : every (is_record bytes) (places_from at (length records)) ≡ true

  -- the records of reports read back
  pub records_read : (records : List Record) (xs ys : List ℕ) (at : ℕ) → length xs ≡ at → All Report records → bytes ≡ xs ++ (records_bytes records ++ ys)
      → RecordsAt at records
  unfolding records_bytes places_from every
  records_read [] xs ys at h all e = record { are = refl; good = refl }
  records_read (r ∷ records) xs ys at h (more report all) e =
      let behind : List ℕ = records_bytes records ++ ys in
      let here : bytes ≡ xs ++ (record_bytes r ++ behind) = e ∙ ap (λ (l : List ℕ). xs ++ l) (append_assoc (record_bytes r) (records_bytes records) ys) in
      let later : RecordsAt (at + 32) records =
      records_read records (xs ++ record_bytes r) ys (at + 32) (length-append xs (record_bytes r) ∙ omega (arith, record_size_lem r)) all
      (here ∙ sym (append_assoc xs (record_bytes r) behind)) in
      record {
        are = λ j. record_read xs at h r behind report here j ∷ later.are j;
        good =
            and_true (is_record bytes at) (every (is_record bytes) (places_from (at + 32) (length records))) (record_good xs at h r behind report here) later.good;
      }
