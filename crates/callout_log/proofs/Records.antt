-- The record of a report: its test, and its bytes written.
-- Assumes nothing.
use mathlib.Core.Path.{◌≡◌, refl, ap, sym, ◌∙◌}
use mathlib.Core.Bool.{Bool, true, false}
use mathlib.Core.List.{List, [], ◌++◌, append-nil, append_assoc}
use Prim.Native.Nat.{ℕ, ◌+◌, ◌-◌, ◌*◌, ◌/◌, ◌≤◌, ◌<◌}
use native.Mathlib.Numerals.{add-one}
use native.Mathlib.Nat.{add-zero}
use native.Mathlib.Omega.{arith}
use lib.Dec.{eqb, leb}
use lib.ListN.{length, get_or, take, drop, length-append, length-drop, drop_of_length-le}
use lib.Seq.{drop-cons, drop-drop, get_or-take, get_or-drop}
use mir.Val.{Fits}
use mir.Syntax.{w8}
use Rattle.std.proofs.lemmas.List.{drop-take, take-take}
use borrow.Author.Tests.{lt-leb, le-leb, eq-eqb, ne_eqb, eqb-true, eqb-false}
use borrow.Rule.Slice.PartMut.{put_mid}
use Rattle.base.specs.Choice.{choose, ◌and◌}
use Rattle.base.specs.Lists.{zeros}
use Rattle.base.proofs.Choice.{same_choice}
use Rattle.base.proofs.Parts.{put_next}
use Rattle.endian.specs.LittleEndian.{field, from_le_bytes, to_le_bytes}
use Rattle.endian.proofs.Laws.{little_endian_law}
use Rattle.callout_log.specs.declared.record.Record.{Record}
use Rattle.callout_log.specs.Record.{record_at, record_bytes, is_time, is_verdict, is_record}

-- a part of a part of the bytes
part_of_part : (bytes : List ℕ) (at end from width : ℕ) → from + width ≤ end - at
    → take width (drop from (take (end - at) (drop at bytes))) ≡ take width (drop (at + from) bytes)
part_of_part bytes at end from width h =
    let size : end - at ≡ from + (end - at - from) = omega arith in
    ap (λ (n : ℕ). take width (drop from (take n (drop at bytes)))) size
    ∙ ap (take width) (drop-take from (end - at - from) (drop at bytes))
    ∙ take-take width (end - at - from) (drop from (drop at bytes)) (omega arith)
    ∙ ap (take width) (drop-drop from at bytes)

-- the number that stands in a part of the bytes
pub part_field : (bytes : List ℕ) (n at end from width : ℕ) → n ≡ from_le_bytes (take width (drop from (take (end - at) (drop at bytes)))) → from + width ≤ end - at
    → n ≡ field (at + from) width bytes
unfolding field
part_field bytes n at end from width e h = e ∙ ap from_le_bytes (part_of_part bytes at end from width h)

-- the verdict and the three bytes behind it, as one number
byte_and_rest : (bytes : List ℕ) (at : ℕ) → at + 4 ≤ length bytes → field at 4 bytes ≡ field at 1 bytes + 256 * field (at + 1) 3 bytes
unfolding field from_le_bytes
byte_and_rest bytes at h =
    rw (add-one at, drop-cons bytes at 0 (omega arith)) (omega arith)

one_byte : (bytes : List ℕ) (at : ℕ) → at < length bytes → field at 1 bytes ≡ get_or bytes at 0
unfolding field from_le_bytes
one_byte bytes at h = rw (drop-cons bytes at 0 h) (omega arith)

-- a number above 255 is no verdict
zero_rest : (b z : ℕ) → z ≡ 0 → is_verdict (b + 256 * z) ≡ is_verdict b and eqb z 0
unfolding choose
zero_rest b z e =
    let same : b + 256 * z ≡ b = omega arith in
    rw (same, eq-eqb z 0 e) (keeps (is_verdict b))
  where
    keeps : (t : Bool) → t ≡ choose t true false
    keeps true = refl
    keeps false = refl

some_rest : (b z : ℕ) → (z ≡ 0 → ⊥) → b < 256 → is_verdict (b + 256 * z) ≡ is_verdict b and eqb z 0
unfolding is_verdict choose
some_rest b z n h =
    rw (
      ne_eqb z 0 n,
      ne_eqb (b + 256 * z) 0 (λ e. omega arith),
      ne_eqb (b + 256 * z) 7 (λ e. omega arith),
      ne_eqb (b + 256 * z) 9 (λ e. omega arith),
      ne_eqb (b + 256 * z) 10 (λ e. omega arith),
    )
    (sym (same_choice (is_verdict b) false))

verdict_alone : (b z : ℕ) → b < 256 → is_verdict (b + 256 * z) ≡ is_verdict b and eqb z 0
verdict_alone b z h = decide (eqb z 0) refl
  where
    decide : (t : Bool) → eqb z 0 ≡ t → is_verdict (b + 256 * z) ≡ is_verdict b and eqb z 0
    decide true e = zero_rest b z (eqb-true z 0 e)
    decide false e = some_rest b z (eqb-false z 0 e) h

-- the bytes of the record at a place
module _ (bytes : List ℕ) (at : ℕ) (long : at + 32 ≤ length bytes) where
  abbrev own : List ℕ
  own = take (at + 32 - at) (drop at bytes)

  own_field : (n from width : ℕ) → n ≡ from_le_bytes (take width (drop from own)) → from + width ≤ 32 → n ≡ field (at + from) width bytes
  own_field n from width e h = part_field bytes n at (at + 32) from width e (omega arith)

  first_field : (n : ℕ) → n ≡ from_le_bytes (take 8 own) → n ≡ field at 8 bytes
  first_field n e = own_field n 0 8 e (omega arith) ∙ ap (λ (m : ℕ). field m 8 bytes) (add-zero at)

  own_verdict : get_or own 28 0 ≡ field (at + 28) 1 bytes
  own_verdict =
      get_or-take (at + 32 - at) (drop at bytes) 28 0 (omega arith) ∙ get_or-drop at bytes 28 0 ∙ sym (one_byte bytes (at + 28) (omega arith))

  -- the fields of the record
  pub record_read : (time counter session index : ℕ) → time ≡ from_le_bytes (take 8 own) → counter ≡ from_le_bytes (take 8 (drop 8 own))
      → session ≡ from_le_bytes (take 8 (drop 16 own)) → index ≡ from_le_bytes (take 4 (drop 24 own))
      → record { time = time; counter = counter; session_id = session; local_index = index; verdict = get_or own 28 0 } ≡ record_at bytes at
  unfolding record_at
  record_read time counter session index t c s i =
      rw (first_field time t, own_field counter 8 8 c (omega arith), own_field session 16 8 s (omega arith), own_field index 24 4 i (omega arith), own_verdict)

  -- the ways through `is_record`
  module _ (time : ℕ) (t : time ≡ from_le_bytes (take 8 own)) where
    pub record_late : 4000000000000000000 < time → leb time 4000000000000000000 ≡ is_record bytes at
    unfolding is_record record_at is_time choose
    record_late h = rw (← first_field time t, lt-leb time 4000000000000000000 h)

    pub record_told : (word : ℕ) (r : Bool) → ((j : ℕ) → Fits w8 (get_or bytes j 0)) → time ≤ 4000000000000000000
        → word ≡ from_le_bytes (take 4 (drop 28 own)) → r ≡ is_verdict word → r ≡ is_record bytes at
    unfolding is_record record_at is_time choose
    record_told word r b h w e =
        let next : at + 28 + 1 ≡ at + 29 = omega arith in
        let parts : word ≡ field (at + 28) 1 bytes + 256 * field (at + 29) 3 bytes =
        own_field word 28 4 w (omega arith) ∙ byte_and_rest bytes (at + 28) (omega arith) ∙ ap (λ (n : ℕ). field (at + 28) 1 bytes + 256 * field n 3 bytes) next in
        let byte : field (at + 28) 1 bytes < 256 = rw (one_byte bytes (at + 28) (omega arith)) (b (at + 28)).fits in
        e ∙ rw (parts, ← first_field time t, le-leb time 4000000000000000000 h) (verdict_alone (field (at + 28) 1 bytes) (field (at + 29) 3 bytes) byte)

-- a verdict with three zero bytes behind it
verdict_bytes : (v : ℕ) → v < 256 → to_le_bytes 4 v ≡ to_le_bytes 1 v ++ zeros 3
unfolding to_le_bytes zeros
verdict_bytes v h =
    let none : v / 256 ≡ 0 = omega arith in
    rw none refl

-- the five parts of a record, one behind the other
module _ (bytes time counter session index verdict : List ℕ) (r : Record) where
  pub record_written : length bytes ≡ 32 → r.verdict < 256 → time ≡ to_le_bytes 8 r.time → counter ≡ to_le_bytes 8 r.counter
      → session ≡ to_le_bytes 8 r.session_id → index ≡ to_le_bytes 4 r.local_index → verdict ≡ to_le_bytes 4 r.verdict
      → put_mid 28 4 (put_mid 24 4 (put_mid 16 8 (put_mid 8 8 (time ++ drop 8 (drop 0 bytes)) counter) session) index) verdict
      ≡ record_bytes r
  unfolding record_bytes
  record_written l h et ec es ei ev =
      let lt : length time ≡ 8 = ap length et ∙ little_endian_law.size 8 r.time in
      let lc : length counter ≡ 8 = ap length ec ∙ little_endian_law.size 8 r.counter in
      let ls : length session ≡ 8 = ap length es ∙ little_endian_law.size 8 r.session_id in
      let li : length index ≡ 4 = ap length ei ∙ little_endian_law.size 4 r.local_index in
      let two : length (time ++ counter) ≡ 16 = length-append time counter ∙ omega arith in
      let three : length (time ++ counter ++ session) ≡ 24 = length-append (time ++ counter) session ∙ omega arith in
      let four : length (time ++ counter ++ session ++ index) ≡ 28 = length-append (time ++ counter ++ session) index ∙ omega arith in
      let none : drop 4 (drop 4 (drop 8 (drop 8 (drop 8 (drop 0 bytes))))) ≡ [] =
      drop_of_length-le (drop 4 (drop 8 (drop 8 (drop 8 bytes)))) {i = 4}
      (omega (arith, length-drop 4 (drop 8 (drop 8 (drop 8 bytes))), length-drop 8 (drop 8 (drop 8 bytes)), length-drop 8 (drop 8 bytes), length-drop 8 bytes)) in
      ap (λ (m : List ℕ). put_mid 28 4 (put_mid 24 4 (put_mid 16 8 m session) index) verdict) (put_next time (drop 8 (drop 0 bytes)) counter 8 8 lt)
      ∙ ap (λ (m : List ℕ). put_mid 28 4 (put_mid 24 4 m index) verdict) (put_next (time ++ counter) (drop 8 (drop 8 (drop 0 bytes))) session 16 8 two)
      ∙ ap (λ (m : List ℕ). put_mid 28 4 m verdict) (put_next (time ++ counter ++ session) (drop 8 (drop 8 (drop 8 (drop 0 bytes)))) index 24 4 three)
      ∙ put_next (time ++ counter ++ session ++ index) (drop 4 (drop 8 (drop 8 (drop 8 (drop 0 bytes))))) verdict 28 4 four
      ∙ rw (none, append-nil (time ++ counter ++ session ++ index ++ verdict), et, ec, es, ei, ev, verdict_bytes r.verdict h)
      (sym (append_assoc (to_le_bytes 8 r.time ++ to_le_bytes 8 r.counter ++ to_le_bytes 8 r.session_id ++ to_le_bytes 4 r.local_index) (to_le_bytes 1 r.verdict) (zeros 3)))
