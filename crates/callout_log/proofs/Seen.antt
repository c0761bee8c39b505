-- A log seen with its hidden fields as zero bytes: its trailers and places are the log's, and its callouts are the log's with the hidden fields 0.
-- Assumes nothing.
use mathlib.Core.Path.{◌≡◌, refl, ap, sym, ◌∙◌}
use mathlib.Core.Bool.{true, false}
use mathlib.Core.List.{List, [], ◌∷◌, ◌++◌, map, map-append, map-map}
use Prim.Native.Nat.{ℕ, zero, suc, ◌+◌, ◌-◌, ◌*◌, ◌≤◌, ◌<◌}
use native.Mathlib.Omega.{arith}
use lib.ListN.{length, get_or}
use Rattle.base.specs.Choice.{choose}
use Rattle.base.specs.Lists.{zeros}
use Rattle.base.proofs.Zeros.{zeros_at, length_zeros}
use Rattle.endian.specs.LittleEndian.{field, from_le_bytes}
use Rattle.callout_log.specs.declared.record.Record.{Record}
use Rattle.callout_log.specs.Record.{blanked, is_record, record_at}
use Rattle.callout_log.specs.Trailer.{count_before, distance, is_trailer}
use Rattle.callout_log.specs.Log.{ends, ends_before, every, places, places_before, places_from}
use Rattle.callout_log.specs.Laws.{records_in}
use Rattle.callout_log.specs.View.{hide_all}
use Rattle.callout_log.proofs.Hiding.{Hidden, all_hidden, covers, covers_step, fits_below, in_field_lem, in_field, second_holds, up_to, walk_up}
use Rattle.callout_log.proofs.Kept.{callout_before, callouts_in, same_records}
use Rattle.callout_log.proofs.Outside.{part_is, SameUpTo, same_up_to}
use Rattle.callout_log.proofs.Trailers.{points_back}
use Rattle.callout_log.proofs.Walk.{from, from_good}

zeros_number : (width : ℕ) → from_le_bytes (zeros width) ≡ 0
unfolding from_le_bytes zeros
zeros_number zero = refl
zeros_number (suc width) = ap (λ (n : ℕ). 0 + 256 * n) (zeros_number width)

-- a log in which the hidden bytes up to a place are zero
module _ (log : List ℕ) where
  -- a number of zero bytes is 0
  field_zero : (at width : ℕ) → at + width ≤ length log → ((i : ℕ) → at ≤ i → i < at + width → get_or log i 0 ≡ 0) → field at width log ≡ 0
  unfolding field
  field_zero at width h e =
      ap from_le_bytes (part_is log (zeros width) at width h (length_zeros width) (λ k n. e (at + k) (omega arith) (omega arith) ∙ sym (zeros_at width k)))
      ∙ zeros_number width

  -- a record with zero bytes in its hidden fields is blank
  record_blank : (at : ℕ) → at + 32 ≤ length log → ((i : ℕ) → in_field at i ≡ true → get_or log i 0 ≡ 0) → record_at log at ≡ blanked (record_at log at)
  unfolding record_at blanked
  record_blank at h e =
      rw (
        field_zero (at + 8) 8 (omega arith) (λ i l k. e i (in_field_lem at i l (omega arith))),
        field_zero (at + 16) 8 (omega arith) (λ i l k. e i (in_field_lem at i (omega arith) (omega arith))),
        field_zero (at + 24) 4 (omega arith) (λ i l k. e i (in_field_lem at i (omega arith) (omega arith))),
      )

  own_blank : (count first : ℕ) → first + 32 * count ≤ length log → ((i : ℕ) → covers (places_from first count) i ≡ true → get_or log i 0 ≡ 0)
      → map (record_at log) (places_from first count) ≡ map (λ (at : ℕ). blanked (record_at log at)) (places_from first count)
  unfolding places_from covers choose
  own_blank zero first h e = refl
  own_blank (suc count) first h e =
      λ j. record_blank first (omega arith) (λ i f. e i (rw f)) j
      ∷ own_blank count (first + 32) (omega arith) (λ i f. e i (second_holds (in_field first i) (covers (places_from (first + 32) count) i) f)) j

  -- its last callout is blank
  callout_blank : (end : ℕ) → 0 < end → is_trailer log end ≡ true → end ≤ length log → ((i : ℕ) → covers (up_to log end) i ≡ true → get_or log i 0 ≡ 0)
      → callout_before log end ≡ map blanked (callout_before log end)
  unfolding callout_before choose
  callout_blank end h t l z =
      own_blank (count_before log end) (end - distance (count_before log end)) (omega (arith, points_back log end t)) (λ i e. z i (covers_step log end h t i ∙ rw e))
      ∙ sym (map-map blanked (record_at log) (places_from (end - distance (count_before log end)) (count_before log end)))

  -- its callouts up to there are blank
  callouts_blank : (end : ℕ) → every (is_trailer log) (from log end) ≡ true → end ≤ length log → ((i : ℕ) → covers (up_to log end) i ≡ true → get_or log i 0 ≡ 0)
      → map (callout_before log) (from log end) ≡ map (λ (e : ℕ). map blanked (callout_before log e)) (from log end)
  unfolding ends_before choose
  callouts_blank =
      walk_up log
      (λ (end : ℕ). end ≤ length log → ((i : ℕ) → covers (up_to log end) i ≡ true → get_or log i 0 ≡ 0)
      → map (callout_before log) (from log end) ≡ map (λ (e : ℕ). map blanked (callout_before log e)) (from log end))
      (λ l z. refl) step
    where
      step : (end : ℕ) → 0 < end → is_trailer log end ≡ true → every (is_trailer log) (from log (end - distance (count_before log end))) ≡ true
          → (end - distance (count_before log end) ≤ length log → ((i : ℕ) → covers (up_to log (end - distance (count_before log end))) i ≡ true → get_or log i 0 ≡ 0)
          → map (callout_before log) (from log (end - distance (count_before log end))) ≡ map (λ (e : ℕ). map blanked (callout_before log e)) (from log (end - distance (count_before log end))))
          → end ≤ length log → ((i : ℕ) → covers (up_to log end) i ≡ true → get_or log i 0 ≡ 0)
          → map (callout_before log) (from log end) ≡ map (λ (e : ℕ). map blanked (callout_before log e)) (from log end)
      step end h t g before l z =
          ap (map (callout_before log)) (from_good log end h t)
          ∙ (λ j. callout_blank end h t l z j ∷ before (omega arith) (λ i e. z i (covers_step log end h t i ∙ second_holds (covers (places_from (end - distance (count_before log end)) (count_before log end)) i) (covers (up_to log (end - distance (count_before log end))) i) e)) j)
          ∙ sym (ap (map (λ (e : ℕ). map blanked (callout_before log e))) (from_good log end h t))

-- records in callouts, each changed alike
pub records_in_lem : (f : Record → Record) (callouts : List (List Record)) → records_in (map (map f) callouts) ≡ map f (records_in callouts)
unfolding records_in
records_in_lem f [] = refl
records_in_lem f (callout ∷ callouts) = ap (λ (l : List Record). map f callout ++ l) (records_in_lem f callouts) ∙ sym (map-append f callout (records_in callouts))

-- Another log of the same length has the log's trailers and places, the same records keep their rule, and with the hidden fields 0 its callouts are the log's.
pub record SameLog (log other : List ℕ) : Type 0 where
  pub long : length other ≡ length log
  pub walk : ends other ≡ ends log
  pub trailers : every (is_trailer other) (ends other) ≡ true
  pub kept : places other ≡ places log
  pub counts : map (count_before other) (ends other) ≡ map (count_before log) (ends log)
  pub records : every (is_record other) (places other) ≡ every (is_record log) (places log)
  pub callouts : map (map blanked) (callouts_in other) ≡ map (map blanked) (callouts_in log)

module _ (log : List ℕ) (good : every (is_trailer log) (ends log) ≡ true) where
  -- a log that agrees in each byte that is not hidden
  pub same_log : (other : List ℕ) → length other ≡ length log → ((i : ℕ) → i < length log → covers (places log) i ≡ false → get_or other i 0 ≡ get_or log i 0) → SameLog log other
  unfolding ends places
  same_log other long agree =
      let same : SameUpTo log other long (length log) = same_up_to log other long (length log) (omega arith) good agree in
      let there : (n : ℕ) → n ≡ length log → from other n ≡ from log (length log) = λ n e. ap (from other) e ∙ same.ends in
      record {
        long = long;
        walk = there (length other) long;
        trailers = ap (λ (n : ℕ). every (is_trailer other) (from other n)) long ∙ same.trailers;
        kept = ap (λ (n : ℕ). places_before other (from other n)) long ∙ same.places;
        counts = ap (map (count_before other)) (there (length other) long) ∙ same.counts;
        records = ap (λ (n : ℕ). every (is_record other) (places_before other (from other n))) long ∙ ap (every (is_record other)) same.places ∙ same.records;
        callouts =
            map-map (map blanked) (callout_before other) (from other (length other))
            ∙ ap (map (λ (e : ℕ). map blanked (callout_before other e))) (there (length other) long)
            ∙ same.callouts
            ∙ sym (map-map (map blanked) (callout_before log) (from log (length log)));
      }

  -- the log seen with its fields hidden
  pub hidden : Hidden (places log) log
  unfolding ends places
  hidden = all_hidden (places log) log (fits_below log (length log) (length log) (omega arith) good)

  pub hidden_same : SameLog log (hide_all (places log) log)
  unfolding choose
  hidden_same = same_log (hide_all (places log) log) hidden.long (λ i l e. hidden.byte i ∙ rw e)

  -- its callouts are the log's with the hidden fields 0
  pub hidden_callouts : callouts_in (hide_all (places log) log) ≡ map (map blanked) (callouts_in log)
  unfolding ends places choose
  hidden_callouts =
      let v : List ℕ = hide_all (places log) log in
      callouts_blank v (length v) hidden_same.trailers (omega arith)
      (λ i e. hidden.byte i ∙ rw (ap (λ (l : List ℕ). covers l i) (sym hidden_same.kept) ∙ e))
      ∙ sym (map-map (map blanked) (callout_before v) (from v (length v)))
      ∙ hidden_same.callouts

  -- and its records
  pub hidden_records : map (record_at (hide_all (places log) log)) (places (hide_all (places log) log)) ≡ map blanked (map (record_at log) (places log))
  unfolding ends places
  hidden_records =
      let v : List ℕ = hide_all (places log) log in
      same_records v (ends v)
      ∙ ap records_in hidden_callouts
      ∙ records_in_lem blanked (callouts_in log)
      ∙ ap (map blanked) (sym (same_records log (ends log)))
