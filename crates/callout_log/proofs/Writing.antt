-- The records of a callout written one behind another: where the loop begins, a turn, and where it ends.
-- Assumes nothing.
use mathlib.Core.Path.{◌≡◌, refl, ap, sym, ◌∙◌}
use mathlib.Core.List.{List, [], ◌∷◌, ◌++◌, append-nil, map, map-append}
use Prim.Native.Nat.{ℕ, ◌+◌, ◌-◌, ◌*◌, ◌≤◌, ◌<◌}
use native.Mathlib.Omega.{arith}
use lib.ListN.{length, drop, length-append, length-drop, length-map, drop_of_length-le}
use lib.Seq.{drop-drop}
use borrow.Rule.Slice.PartMut.{put_mid}
use Rattle.base.specs.Lists.{up_from}
use Rattle.base.proofs.Counting.{length-up_from, join-up_from}
use Rattle.base.proofs.Parts.{put_next}
use Rattle.callout_log.specs.declared.record.Record.{Record}
use Rattle.callout_log.specs.Record.{record_bytes, records_bytes}
use Rattle.callout_log.proofs.Format.{record_size_lem, records_size, records_on}
use Rattle.callout_log.specs.Append.{OneLength, Reports, report_at, records_of}

-- the first reports, so many
unfoldable pub first_records : Reports → ℕ → List Record
first_records r count = map (report_at r) (up_from 0 count)

length_first : (r : Reports) (count : ℕ) → length (records_bytes (first_records r count)) ≡ 32 * count
unfolding first_records
length_first r count =
    records_size (map (report_at r) (up_from 0 count)) ∙ ap (λ (n : ℕ). 32 * n) (length-map (up_from 0 count) (report_at r) ∙ length-up_from 0 count)

-- one report more
next_record : (r : Reports) (count : ℕ) → records_bytes (first_records r (count + 1)) ≡ records_bytes (first_records r count) ++ record_bytes (report_at r count)
unfolding first_records records_bytes up_from
next_record r count =
    ap (λ (l : List ℕ). records_bytes (map (report_at r) l)) (sym (join-up_from 0 count 1))
    ∙ ap records_bytes (map-append (report_at r) (up_from 0 count) ((0 + count) ∷ []))
    ∙ records_on (map (report_at r) (up_from 0 count)) (report_at r (0 + count) ∷ [])
    ∙ ap (λ (l : List ℕ). records_bytes (map (report_at r) (up_from 0 count)) ++ l) (append-nil (record_bytes (report_at r (0 + count))) ∙ ap (λ (n : ℕ). record_bytes (report_at r n)) (omega arith))

-- the first records are written, and the rest is as it came
pub record Writes (r : Reports) (came now : List ℕ) (i : ℕ) : Type 0 where
  pub one : OneLength r
  pub whole : length came ≡ 32 * length r.times
  pub long : length now ≡ length came
  pub within : i ≤ length r.times
  pub left : now ≡ records_bytes (first_records r i) ++ drop (32 * i) came

module _ (r : Reports) (came : List ℕ) where
  pub write_begins : OneLength r → length came ≡ 32 * length r.times → Writes r came came 0
  unfolding first_records records_bytes up_from
  write_begins o w = record { one = o; whole = w; long = refl; within = omega arith; left = refl }

  module _ (now : List ℕ) (i : ℕ) (y : Writes r came now i) where
    pub write_more : (part last : List ℕ) → i < length r.times → part ≡ record_bytes (report_at r i) → last ≡ put_mid (32 * i) (32 * i + 32 - 32 * i) now part
        → Writes r came last (i + 1)
    write_more part last h e q =
        let width : 32 * i + 32 - 32 * i ≡ 32 = omega arith in
        let size : length part ≡ 32 = ap length e ∙ record_size_lem (report_at r i) in
        let next : 32 * i + 32 ≡ 32 * (i + 1) = omega arith in
        let put : put_mid (32 * i) 32 now part ≡ records_bytes (first_records r i) ++ part ++ drop 32 (drop (32 * i) came) =
        ap (λ (l : List ℕ). put_mid (32 * i) 32 l part) y.left ∙ put_next (records_bytes (first_records r i)) (drop (32 * i) came) part (32 * i) 32 (length_first r i) in
        let done : put_mid (32 * i) 32 now part ≡ records_bytes (first_records r (i + 1)) ++ drop (32 * (i + 1)) came =
        put ∙ rw (e, ← next_record r i, drop-drop 32 (32 * i) came, next) in
        let bytes : length (records_bytes (first_records r (i + 1)) ++ drop (32 * (i + 1)) came) ≡ length came =
        length-append (records_bytes (first_records r (i + 1))) (drop (32 * (i + 1)) came) ∙ omega (arith, length_first r (i + 1), length-drop (32 * (i + 1)) came, y.whole) in
        record {
          one = y.one;
          whole = y.whole;
          long = rw (q, width) (ap length done ∙ bytes);
          within = omega arith;
          left = rw (q, width) done;
        }

    pub write_ends : length r.times ≤ i → now ≡ records_bytes (records_of r)
    unfolding records_of first_records
    write_ends h =
        let all : i ≡ length r.times = omega (arith, y.within) in
        y.left
        ∙ rw (all, drop_of_length-le came {i = 32 * length r.times} (omega (arith, y.whole)))
        (append-nil (records_bytes (map (report_at r) (up_from 0 (length r.times)))))

-- the loop of `write_records`
pub ruleset writes = (write_begins, write_more, write_ends)
