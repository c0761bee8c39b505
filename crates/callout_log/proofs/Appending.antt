-- The ways through `append`: a callout that is written, and a call that is turned down.
-- Assumes nothing.
use mathlib.Core.Path.{◌≡◌, ap, sym, ◌∙◌}
use mathlib.Core.Bool.{true, false}
use mathlib.Core.List.{List, ◌++◌, append_assoc}
use Prim.Native.Nat.{ℕ, ◌+◌, ◌-◌, ◌*◌, ◌≤◌, ◌<◌}
use native.Mathlib.Omega.{arith}
use lib.Dec.{leb}
use lib.ListN.{length, take, drop, length-append, length-drop, length-map}
use lib.Seq.{drop-drop, length-take-le}
use borrow.Author.Tests.{leb-true, le-leb, lt-leb}
use borrow.Rule.Slice.PartMut.{put_mid}
use Rattle.std.specs.Prelude.{Ok, Err}
use Rattle.base.specs.Choice.{choose, case_result}
use Rattle.base.specs.Lists.{up_from}
use Rattle.base.proofs.Counting.{length-up_from}
use Rattle.base.proofs.Parts.{put_next}
use Rattle.error.specs.declared.Error.TheVariants.{InvalidTime, InvalidArgument, StoreFull}
use Rattle.callout_log.specs.Record.{is_time, is_verdict, records_bytes}
use Rattle.callout_log.specs.Trailer.{trailer_bytes}
use Rattle.callout_log.specs.Log.{callout_bytes, every, is_store}
use Rattle.callout_log.specs.Append.{OneLength, Reports, report_at, records_of, beside, appending, append_answer, append_log, appended_by, fitting_answer}
use Rattle.callout_log.proofs.Format.{records_size}
use Rattle.callout_log.proofs.Tested.{true_one_length}
use Rattle.callout_log.proofs.Walk.{both}

length_reports : (r : Reports) → length (records_of r) ≡ length r.times
unfolding records_of
length_reports r = length-map (up_from 0 (length r.times)) (report_at r) ∙ length-up_from 0 (length r.times)

-- what the test of the store tells
pub store_within : (size used : ℕ) → true ≡ is_store size used → used ≤ size
unfolding is_store
store_within size used s = leb-true used size (both (leb size 65536) (leb used size) (sym s)).1

pub store_small : (size used : ℕ) → true ≡ is_store size used → size ≤ 65536
unfolding is_store
store_small size used s = leb-true size 65536 (both (leb size 65536) (leb used size) (sym s)).0

-- records and a trailer put behind the used length of a store
module _ (store : List ℕ) (used n : ℕ) (h : used + 32 * n + 16 ≤ length store) where
  pub part_long : length (take (used + 32 * n - used) (drop used store)) ≡ 32 * n
  part_long =
      let width : used + 32 * n - used ≡ 32 * n = omega arith in
      rw width (length-take-le (32 * n) (drop used store) (omega (arith, length-drop used store)))

  behind : (records trailer : List ℕ) → length records ≡ 32 * n
      → put_mid (used + 32 * n) (used + 32 * n + 16 - (used + 32 * n)) (put_mid used (used + 32 * n - used) store records) trailer
      ≡ take used store ++ records ++ trailer ++ drop (used + (16 + 32 * n)) store
  behind records trailer size =
      let width : used + 32 * n - used ≡ 32 * n = omega arith in
      let last : used + 32 * n + 16 - (used + 32 * n) ≡ 16 = omega arith in
      let place : length (take used store ++ records) ≡ used + 32 * n =
      length-append (take used store) records ∙ omega (arith, length-take-le used store (omega arith)) in
      let end : used + 32 * n + 16 ≡ used + (16 + 32 * n) = omega arith in
      rw (width, last)
      (ap (λ (l : List ℕ). put_mid (used + 32 * n) 16 l trailer) (sym (append_assoc (take used store) records (drop (32 * n) (drop used store))))
      ∙ put_next (take used store ++ records) (drop (32 * n) (drop used store)) trailer (used + 32 * n) 16 place
      ∙ ap (λ (l : List ℕ). take used store ++ records ++ trailer ++ l)
      (drop-drop 16 (32 * n) (drop used store) ∙ drop-drop (32 * n + 16) used store ∙ ap (λ (m : ℕ). drop m store) (omega arith)))

-- the ways through the tests
module _ (store : List ℕ) (used : ℕ) (r : Reports) where
  pub append_late : false ≡ every is_time r.times → appending (Err InvalidTime) store ≡ append_log store used r
  unfolding append_log append_answer appended_by case_result choose
  append_late t = rw (← t)

  module _ (t : true ≡ every is_time r.times) where
    pub append_no_store : false ≡ is_store (length store) used → appending (Err InvalidArgument) store ≡ append_log store used r
    unfolding append_log append_answer appended_by case_result choose
    append_no_store s = rw (← t, ← s)

    module _ (s : true ≡ is_store (length store) used) where
      pub append_uneven : false ≡ beside r → appending (Err InvalidArgument) store ≡ append_log store used r
      unfolding append_log append_answer appended_by case_result choose
      append_uneven b = rw (← t, ← s, ← b)

      module _ (b : true ≡ beside r) where
        pub lists_beside : OneLength r
        lists_beside = true_one_length r (sym b)

        pub append_unknown : false ≡ every is_verdict r.verdicts → appending (Err InvalidArgument) store ≡ append_log store used r
        unfolding append_log append_answer appended_by case_result choose
        append_unknown v = rw (← t, ← s, ← b, ← v)

        module _ (v : true ≡ every is_verdict r.verdicts) where
          pub append_full : length store < used + (16 + 32 * length r.times) → appending (Err StoreFull) store ≡ append_log store used r
          unfolding append_log append_answer fitting_answer appended_by case_result choose
          append_full f = rw (← t, ← s, ← b, ← v, lt-leb (used + (16 + 32 * length r.times)) (length store) f)

          pub append_good : (records trailer : List ℕ) → used + 32 * length r.times + 16 ≤ length store → records ≡ records_bytes (records_of r)
              → trailer ≡ trailer_bytes (length r.times)
              → appending (Ok (used + 32 * length r.times + 16))
              (put_mid (used + 32 * length r.times) (used + 32 * length r.times + 16 - (used + 32 * length r.times)) (put_mid used (used + 32 * length r.times - used) store records) trailer)
              ≡ append_log store used r
          unfolding append_log append_answer fitting_answer appended_by callout_bytes case_result choose
          append_good records trailer f er et =
              let n : ℕ = length r.times in
              let size : length records ≡ 32 * n = ap length er ∙ records_size (records_of r) ∙ ap (λ (m : ℕ). 32 * m) (length_reports r) in
              let end : used + 32 * n + 16 ≡ used + (16 + 32 * n) = omega arith in
              let written : put_mid (used + 32 * n) (used + 32 * n + 16 - (used + 32 * n)) (put_mid used (used + 32 * n - used) store records) trailer
              ≡ take used store ++ (records_bytes (records_of r) ++ trailer_bytes (length (records_of r))) ++ drop (used + (16 + 32 * n)) store =
              behind store used n f records trailer size
              ∙ rw (er, et, length_reports r) (ap (λ (l : List ℕ). l ++ drop (used + (16 + 32 * n)) store) (append_assoc (take used store) (records_bytes (records_of r)) (trailer_bytes n))) in
              rw (← t, ← s, ← b, ← v, le-leb (used + (16 + 32 * n)) (length store) (omega (arith, f)), written, end)

-- the ways through `append`
pub ruleset ways = (append_late, append_no_store, append_uneven, append_unknown, append_full, part_long)
