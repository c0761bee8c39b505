-- A trailer and a record that keep their rules are the bytes of what they say, and the other way round.
-- Assumes nothing.
use mathlib.Core.Path.{◌≡◌, refl, ap, sym, subst, ◌∙◌}
use mathlib.Core.Bool.{Bool, true, false}
use mathlib.Core.List.{List, [], ◌∷◌, ◌++◌, append-nil}
use Prim.Native.Nat.{ℕ, ◌+◌, ◌-◌, ◌^◌, ◌≤◌, ◌<◌}
use native.Mathlib.Omega.{arith}
use lib.Dec.{leb, eqb, ltb}
use lib.ListN.{length, get_or, take, drop, length-take, length-drop, take-append-drop, get_or-eq_default}
use lib.Seq.{take-add, drop-drop, length-take-le, get_or-take, get_or-drop}
use borrow.Author.Tests.{eqb-true, leb-true, ltb-true, ltb-false}
use Rattle.base.specs.Choice.{◌and◌}
use Rattle.endian.specs.LittleEndian.{Bytes, field, from_le_bytes, to_le_bytes}
use Rattle.endian.proofs.Laws.{little_endian_law}
use Rattle.callout_log.specs.declared.record.Record.{Record}
use Rattle.callout_log.specs.Record.{is_record, is_time, is_verdict, record_at, record_bytes, records_bytes}
use Rattle.callout_log.specs.Trailer.{count_before, distance, is_trailer, trailer_bytes}
use Rattle.callout_log.specs.Log.{every, places_from}
use Rattle.callout_log.specs.Laws.{none, more, Report, TrailerAt}
use Rattle.callout_log.proofs.Format.{format_law}
use Rattle.callout_log.proofs.Placed.{count_read, records_read, trailer_good}
use Rattle.callout_log.proofs.Tested.{true_time, true_verdict}
use Rattle.callout_log.proofs.Trailers.{points_back, zero_bytes}
use Rattle.callout_log.proofs.Walk.{both}

-- the front of a list of bytes is bytes
pub take_bytes : (n : ℕ) (list : List ℕ) → Bytes list → Bytes (take n list)
take_bytes n list b = record { below = λ (place : ℕ). within place (ltb place n) refl }
  where
    within : (place : ℕ) (t : Bool) → ltb place n ≡ t → get_or (take n list) place 0 < 256
    within place true e = rw (get_or-take n list place 0 (ltb-true place n e)) (b.below place)
    within place false e =
        rw (get_or-eq_default (take n list) 0 {n = place} (omega (arith, ltb-false place n e, length-take n list))) (omega arith)

-- so is what is behind a place
drop_bytes : (n : ℕ) (list : List ℕ) → Bytes list → Bytes (drop n list)
drop_bytes n list b = record { below = λ (place : ℕ). rw (get_or-drop n list place 0) (b.below (n + place)) }

module _ (log : List ℕ) where
  -- two parts, one behind the other
  pub two_parts : (first second at : ℕ) → take (first + second) (drop at log) ≡ take first (drop at log) ++ take second (drop (at + first) log)
  two_parts first second at =
      take-add first second (drop at log) ∙ ap (λ (l : List ℕ). take first (drop at log) ++ take second l) (drop-drop first at log)

  module _ (b : Bytes log) where
    -- a number that is read at a place stands there
    stands : (at width n : ℕ) → at + width ≤ length log → field at width log ≡ n → take width (drop at log) ≡ to_le_bytes width n
    stands at width n h e = sym (little_endian_law.part at width log b h) ∙ ap (to_le_bytes width) e

    -- a number of so many bytes is below their bound
    bounded : (at width : ℕ) → at + width ≤ length log → field at width log < 256 ^ width
    unfolding field
    bounded at width h =
        subst (λ (n : ℕ). from_le_bytes (take width (drop at log)) < 256 ^ n) (length-take-le width (drop at log) (omega (arith, length-drop at log)))
        (little_endian_law.bound (take width (drop at log)) (take_bytes width (drop at log) (drop_bytes at log b)))

    -- the three numbers of a trailer are its bytes
    trailer_stands : (at n : ℕ) → at + 16 ≤ length log → field at 8 log ≡ distance n → field (at + 8) 4 log ≡ n → field (at + 12) 4 log ≡ 0
        → take 16 (drop at log) ≡ trailer_bytes n
    unfolding trailer_bytes
    trailer_stands at n h far count last =
        two_parts 12 4 at
        ∙ ap (λ (l : List ℕ). l ++ take 4 (drop (at + 12) log)) (two_parts 8 4 at)
        ∙ rw (stands at 8 (distance n) (omega arith) far, stands (at + 8) 4 n (omega arith) count, stands (at + 12) 4 0 (omega arith) last, zero_bytes 4)

    -- a trailer that keeps its rule stands before its end
    pub good_trailer : (end : ℕ) → end ≤ length log → is_trailer log end ≡ true → TrailerAt log end (count_before log end)
    unfolding is_trailer count_before
    good_trailer end h t =
        let n : ℕ = count_before log end in
        let a : Bool = leb 16 end in
        let f : Bool = eqb (field (end - 16) 8 log) (distance n) in
        let z : Bool = eqb (field (end - 4) 4 log) 0 in
        let p : Bool = leb (distance n) end in
        let later : (f and z and p ≡ true) = (both a (f and z and p) t).1 in
        let last : (z and p ≡ true) = (both f (z and p) later).1 in
        let long : 16 ≤ end = leb-true 16 end (both a (f and z and p) t).0 in
        let far : field (end - 16) 8 log ≡ distance n = eqb-true (field (end - 16) 8 log) (distance n) (both f (z and p) later).0 in
        let count : field (end - 16 + 8) 4 log ≡ n = ap (λ (k : ℕ). field k 4 log) (omega arith) in
        let none : field (end - 16 + 12) 4 log ≡ 0 = ap (λ (k : ℕ). field k 4 log) (omega arith) ∙ eqb-true (field (end - 4) 4 log) 0 (both z p last).0 in
        record { within = points_back log end t; bytes = trailer_stands (end - 16) n (omega arith) far count none }

    module _ (at : ℕ) (h : at + 32 ≤ length log) where
      -- the five numbers of a record and the zero behind them are its bytes
      record_stands : field (at + 29) 3 log ≡ 0 → take 32 (drop at log) ≡ record_bytes (record_at log at)
      unfolding record_bytes record_at
      record_stands last =
          two_parts 29 3 at
          ∙ ap (λ (l : List ℕ). l ++ take 3 (drop (at + 29) log))
          (two_parts 28 1 at
          ∙ ap (λ (l : List ℕ). l ++ take 1 (drop (at + 28) log))
          (two_parts 24 4 at
          ∙ ap (λ (l : List ℕ). l ++ take 4 (drop (at + 24) log))
          (two_parts 16 8 at ∙ ap (λ (l : List ℕ). l ++ take 8 (drop (at + 16) log)) (two_parts 8 8 at))))
          ∙ rw (
            stands at 8 (field at 8 log) (omega arith) refl,
            stands (at + 8) 8 (field (at + 8) 8 log) (omega arith) refl,
            stands (at + 16) 8 (field (at + 16) 8 log) (omega arith) refl,
            stands (at + 24) 4 (field (at + 24) 4 log) (omega arith) refl,
            stands (at + 28) 1 (field (at + 28) 1 log) (omega arith) refl,
            stands (at + 29) 3 0 (omega arith) last,
            zero_bytes 3,
          )

      module _ (t : is_record log at ≡ true) where
        -- the verdict and the zero bytes of a record that keeps its rule
        tested : (is_verdict (record_at log at).verdict ≡ true) × (eqb (field (at + 29) 3 log) 0 ≡ true)
        unfolding is_record
        tested =
            both (is_verdict (record_at log at).verdict) (eqb (field (at + 29) 3 log) 0)
            (both (is_time (record_at log at).time) (is_verdict (record_at log at).verdict and eqb (field (at + 29) 3 log) 0) t).1

        -- a record that keeps its rule stands at its place
        pub good_record : take 32 (drop at log) ≡ record_bytes (record_at log at)
        good_record = record_stands (eqb-true (field (at + 29) 3 log) 0 tested.1)

        -- and it is the record of a report
        pub good_report : Report (record_at log at)
        unfolding is_record record_at
        good_report =
            record {
              time = true_time (record_at log at).time (both (is_time (record_at log at).time) (is_verdict (record_at log at).verdict and eqb (field (at + 29) 3 log) 0) t).0;
              counter = bounded (at + 8) 8 (omega arith);
              session_id = bounded (at + 16) 8 (omega arith);
              local_index = bounded (at + 24) 4 (omega arith);
              verdict = true_verdict (record_at log at).verdict tested.0;
            }

  -- a part in its place
  in_place : (at width : ℕ) (part : List ℕ) → take width (drop at log) ≡ part → log ≡ take at log ++ (part ++ drop width (drop at log))
  in_place at width part e =
      sym (take-append-drop at log)
      ∙ ap (λ (l : List ℕ). take at log ++ l) (sym (take-append-drop width (drop at log)) ∙ ap (λ (l : List ℕ). l ++ drop width (drop at log)) e)

  -- a part that has bytes is within the log
  part_within : (at width : ℕ) (part : List ℕ) → take width (drop at log) ≡ part → length part ≡ width → 0 < width → at + width ≤ length log
  part_within at width part e size some =
      let long : length (take width (drop at log)) ≡ width = ap length e ∙ size in
      omega (arith, long, length-take width (drop at log), length-drop at log)

  module _ (small : length log ≤ 65536) (end count : ℕ) (trailer : TrailerAt log end count) where
    -- a trailer ends within the log
    trailer_within : end ≤ length log
    trailer_within =
        omega (arith, trailer.within, part_within (end - 16) 16 (trailer_bytes count) trailer.bytes (format_law.trailer_size count) (omega arith))

    -- a trailer that stands before its end keeps its rule
    pub trailer_true : is_trailer log end ≡ true
    trailer_true =
        let inside : end - 16 ≤ length log = omega (arith, trailer_within) in
        trailer_good log (take (end - 16) log) (end - 16) (length-take-le (end - 16) log inside) count end (drop 16 (drop (end - 16) log))
        (in_place (end - 16) 16 (trailer_bytes count) trailer.bytes) (omega (arith, trailer.within)) (omega (arith, trailer.within, trailer_within)) trailer.within

    -- and its count is read
    pub count_true : count_before log end ≡ count
    count_true =
        let inside : end - 16 ≤ length log = omega (arith, trailer_within) in
        count_read log (take (end - 16) log) (end - 16) (length-take-le (end - 16) log inside) count end (drop 16 (drop (end - 16) log))
        (in_place (end - 16) 16 (trailer_bytes count) trailer.bytes) (omega (arith, trailer.within)) (omega (arith, trailer.within, trailer_within))

  -- the record of a report keeps its rule where it stands
  pub record_true : (at : ℕ) (r : Record) → Report r → take 32 (drop at log) ≡ record_bytes r → is_record log at ≡ true
  unfolding records_bytes places_from every
  record_true at r report e =
      let inside : at + 32 ≤ length log = part_within at 32 (record_bytes r) e (format_law.record_size r) (omega arith) in
      (both (is_record log at) true
      (records_read log (r ∷ []) (take at log) (drop 32 (drop at log)) at (length-take-le at log (omega arith)) (more report none)
      (in_place at 32 (record_bytes r) e ∙ ap (λ (l : List ℕ). take at log ++ (l ++ drop 32 (drop at log))) (sym (append-nil (record_bytes r))))).good).0
