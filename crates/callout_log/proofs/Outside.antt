-- Two logs that agree in every byte that is not hidden have the same trailers, counts and places, the same records keep their rule, and their
-- callouts are the same with the hidden fields 0.
-- Assumes nothing.
use mathlib.Core.Path.{◌≡◌, refl, ap, sym, ◌∙◌}
use mathlib.Core.Bool.{true, false}
use mathlib.Core.List.{List, ◌∷◌, ◌++◌, map, map-map}
use Prim.Native.Nat.{ℕ, zero, suc, ◌+◌, ◌-◌, ◌*◌, ◌≤◌, ◌<◌}
use native.Mathlib.Omega.{arith}
use lib.ListN.{length, get_or, take, drop, length-drop}
use lib.Seq.{length-take-le, get_or-take, get_or-drop, ext_get_or}
use Rattle.base.specs.Choice.{choose, ◌and◌}
use Rattle.endian.specs.LittleEndian.{field, from_le_bytes}
use Rattle.callout_log.specs.Record.{blanked, is_record, record_at}
use Rattle.callout_log.specs.Trailer.{count_before, distance, is_trailer}
use Rattle.callout_log.specs.Log.{ends_before, every, places_before, places_from}
use Rattle.callout_log.proofs.Hiding.{behind_field, before_field, covered_below, covers, covers_step, in_field, own_span, places_step, up_to, walk_up}
use Rattle.callout_log.proofs.Kept.{callout_before}
use Rattle.callout_log.proofs.Tested.{and_true, fails}
use Rattle.callout_log.proofs.Trailers.{points_back}
use Rattle.callout_log.proofs.Walk.{every_on, from, from_good}

-- so many bytes from a place on are a part that they agree with one by one
pub part_is : (log part : List ℕ) (at width : ℕ) → at + width ≤ length log → length part ≡ width → ((k : ℕ) → k < width → get_or log (at + k) 0 ≡ get_or part k 0)
    → take width (drop at log) ≡ part
part_is log part at width h size e =
    let here : length (take width (drop at log)) ≡ width = length-take-le width (drop at log) (omega (arith, length-drop at log)) in
    ext_get_or 0 (take width (drop at log)) part (here ∙ sym size)
    (λ k l.
    let n : k < width = omega (arith, here, l) in
    get_or-take width (drop at log) k 0 n ∙ get_or-drop at log k 0 ∙ e k n)

module _ (log other : List ℕ) (same : length other ≡ length log) where
  -- a number is the same where its bytes are
  pub field_same : (at width : ℕ) → at + width ≤ length log → ((i : ℕ) → at ≤ i → i < at + width → get_or other i 0 ≡ get_or log i 0)
      → field at width other ≡ field at width log
  unfolding field
  field_same at width h e =
      ap from_le_bytes
      (part_is other (take width (drop at log)) at width (omega (arith, same)) (length-take-le width (drop at log) (omega (arith, length-drop at log)))
      (λ k n. e (at + k) (omega arith) (omega arith) ∙ sym (get_or-take width (drop at log) k 0 n ∙ get_or-drop at log k 0)))

  -- A record keeps its rule in both or in none, and is the same with its hidden fields 0.
  record SameRecord (at : ℕ) : Type 0 where
    good : is_record other at ≡ is_record log at
    blank : blanked (record_at other at) ≡ blanked (record_at log at)

  record_same : (at : ℕ) → field at 8 other ≡ field at 8 log → field (at + 28) 1 other ≡ field (at + 28) 1 log → field (at + 29) 3 other ≡ field (at + 29) 3 log → SameRecord at
  unfolding is_record record_at blanked
  record_same at t v z = record { good = rw (t, v, z); blank = rw (t, v) }

  -- So many records from a place on keep their rule in both or not, and are the same with their hidden fields 0.
  record SameRecords (first count : ℕ) : Type 0 where
    good : every (is_record other) (places_from first count) ≡ every (is_record log) (places_from first count)
    blank : map (λ (at : ℕ). blanked (record_at other at)) (places_from first count) ≡ map (λ (at : ℕ). blanked (record_at log at)) (places_from first count)

  -- no later record's hidden fields are so far in front
  not_later : (first count i : ℕ) → i < first + 8 → covers (places_from first count) i ≡ false
  not_later first count i h = fails (covers (places_from first count) i) (λ e. omega (arith, (own_span count first i e).low))

  records_same : (count first : ℕ) → first + 32 * count ≤ length log
      → ((i : ℕ) → first ≤ i → i < first + 32 * count → covers (places_from first count) i ≡ false → get_or other i 0 ≡ get_or log i 0)
      → SameRecords first count
  unfolding places_from every covers choose
  records_same zero first h e = record { good = refl; blank = refl }
  records_same (suc count) first h e =
      let own : (i : ℕ) → first ≤ i → i < first + 32 → in_field first i ≡ false → get_or other i 0 ≡ get_or log i 0 =
      λ i l k f. e i l (omega arith) (rw f (not_later (first + 32) count i (omega arith))) in
      let here : SameRecord first =
      record_same first
      (field_same first 8 (omega arith) (λ i l k. own i l (omega arith) (before_field first i k)))
      (field_same (first + 28) 1 (omega arith) (λ i l k. own i (omega arith) (omega arith) (behind_field first i l)))
      (field_same (first + 29) 3 (omega arith) (λ i l k. own i (omega arith) (omega arith) (behind_field first i (omega arith)))) in
      let later : SameRecords (first + 32) count =
      records_same count (first + 32) (omega arith) (λ i l k f. e i (omega arith) (omega arith) (rw (behind_field first i (omega arith)) f)) in
      record {
        good = λ j. here.good j and later.good j;
        blank = λ j. here.blank j ∷ later.blank j;
      }

  -- Up to a place the two agree in each byte that is not hidden.
  abbrev pub AgreeUpTo : ℕ → Type 0
  AgreeUpTo end = (i : ℕ) → i < end → covers (up_to log end) i ≡ false → get_or other i 0 ≡ get_or log i 0

  -- Up to a place the two have the same trailers, and records that are the same with their hidden fields 0.
  pub record SameUpTo (end : ℕ) : Type 0 where
    pub ends : from other end ≡ from log end
    pub trailers : every (is_trailer other) (from other end) ≡ true
    pub places : up_to other end ≡ up_to log end
    pub counts : map (count_before other) (from log end) ≡ map (count_before log) (from log end)
    pub records : every (is_record other) (up_to log end) ≡ every (is_record log) (up_to log end)
    pub callouts : map (λ (e : ℕ). map blanked (callout_before other e)) (from log end) ≡ map (λ (e : ℕ). map blanked (callout_before log e)) (from log end)

  -- one more callout
  module _ (end : ℕ) (h : 0 < end) (t : is_trailer log end ≡ true) (g : every (is_trailer log) (from log (end - distance (count_before log end))) ≡ true)
      (within : end ≤ length log) (agree : AgreeUpTo end) where
    abbrev count : ℕ
    count = count_before log end

    abbrev first : ℕ
    first = end - distance count

    back : distance count ≤ end
    back = points_back log end t

    not_older : (i : ℕ) → first ≤ i → covers (up_to log first) i ≡ false
    not_older i l = fails (covers (up_to log first) i) (λ e. omega (arith, covered_below log i first g e))

    own_byte : (i : ℕ) → first ≤ i → i < end → covers (places_from first count) i ≡ false → get_or other i 0 ≡ get_or log i 0
    unfolding choose
    own_byte i l k e = agree i k (covers_step log end h t i ∙ rw (e, not_older i l))

    trailer_byte : (i : ℕ) → end - 16 ≤ i → i < end → get_or other i 0 ≡ get_or log i 0
    trailer_byte i l k =
        own_byte i (omega (arith, back)) k
        (fails (covers (places_from first count) i) (λ e. omega (arith, back, (own_span count first i e).high)))

    far : field (end - 16) 8 other ≡ field (end - 16) 8 log
    far = field_same (end - 16) 8 (omega (arith, back)) (λ i l k. trailer_byte i l (omega (arith, back)))

    counted : field (end - 8) 4 other ≡ field (end - 8) 4 log
    counted = field_same (end - 8) 4 (omega (arith, back)) (λ i l k. trailer_byte i (omega arith) (omega (arith, back)))

    last : field (end - 4) 4 other ≡ field (end - 4) 4 log
    last = field_same (end - 4) 4 (omega (arith, back)) (λ i l k. trailer_byte i (omega arith) (omega (arith, back)))

    count_same : count_before other end ≡ count
    unfolding count_before
    count_same = counted

    good : is_trailer other end ≡ true
    unfolding is_trailer count_before
    good = rw (far, counted, last) t

    agree_before : AgreeUpTo first
    unfolding choose
    agree_before i l e = agree i (omega (arith, back)) (covers_step log end h t i ∙ rw (not_later first count i (omega (arith, l))) e)

    own : SameRecords first count
    own = records_same count first (omega (arith, back)) (λ i l k e. own_byte i l (omega (arith, back)) e)

    start_same : end - distance (count_before other end) ≡ first
    start_same = ap (λ (n : ℕ). end - distance n) count_same

    ends_step : from other first ≡ from log first → from other end ≡ from log end
    ends_step e = from_good other end h good ∙ ap (λ (n : ℕ). end ∷ from other n) start_same ∙ ap (λ (l : List ℕ). end ∷ l) e ∙ sym (from_good log end h t)

    trailers_step : every (is_trailer other) (from other first) ≡ true → every (is_trailer other) (from other end) ≡ true
    unfolding every
    trailers_step e =
        ap (every (is_trailer other)) (from_good other end h good ∙ ap (λ (n : ℕ). end ∷ from other n) start_same)
        ∙ and_true (is_trailer other end) (every (is_trailer other) (from other first)) good e

    places_same : up_to other first ≡ up_to log first → up_to other end ≡ up_to log end
    places_same e =
        places_step other end h good
        ∙ ap (λ (n : ℕ). places_from (end - distance n) n ++ up_to other (end - distance n)) count_same
        ∙ ap (λ (l : List ℕ). places_from first count ++ l) e
        ∙ sym (places_step log end h t)

    records_step : every (is_record other) (up_to log first) ≡ every (is_record log) (up_to log first) → every (is_record other) (up_to log end) ≡ every (is_record log) (up_to log end)
    records_step e =
        ap (every (is_record other)) (places_step log end h t)
        ∙ every_on (is_record other) (places_from first count) (up_to log first)
        ∙ (λ j. own.good j and e j)
        ∙ sym (every_on (is_record log) (places_from first count) (up_to log first))
        ∙ sym (ap (every (is_record log)) (places_step log end h t))

    callout_same : map blanked (callout_before other end) ≡ map blanked (callout_before log end)
    unfolding callout_before
    callout_same =
        ap (λ (n : ℕ). map blanked (map (record_at other) (places_from (end - distance n) n))) count_same
        ∙ map-map blanked (record_at other) (places_from first count)
        ∙ own.blank
        ∙ sym (map-map blanked (record_at log) (places_from first count))

    same_step : SameUpTo first → SameUpTo end
    same_step s =
        record {
          ends = ends_step s.ends;
          trailers = trailers_step s.trailers;
          places = places_same s.places;
          counts = ap (map (count_before other)) (from_good log end h t) ∙ (λ j. count_same j ∷ s.counts j) ∙ sym (ap (map (count_before log)) (from_good log end h t));
          records = records_step s.records;
          callouts =
              ap (map (λ (e : ℕ). map blanked (callout_before other e))) (from_good log end h t)
              ∙ (λ j. callout_same j ∷ s.callouts j)
              ∙ sym (ap (map (λ (e : ℕ). map blanked (callout_before log e))) (from_good log end h t));
        }

  pub same_up_to : (end : ℕ) → end ≤ length log → every (is_trailer log) (from log end) ≡ true → AgreeUpTo end → SameUpTo end
  unfolding ends_before every places_before
  same_up_to end l g a =
      walk_up log (λ (end : ℕ). end ≤ length log → AgreeUpTo end → SameUpTo end)
      (λ l a. record { ends = refl; trailers = refl; places = refl; counts = refl; records = refl; callouts = refl })
      (λ end h t g before l a. same_step end h t g l a (before (omega arith) (agree_before end h t g l a)))
      end g l a
