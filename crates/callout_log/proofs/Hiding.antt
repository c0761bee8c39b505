-- Which bytes are hidden, byte by byte, and where they stand among the callouts of a log whose trailers keep their rule.
-- Assumes nothing.
use mathlib.Core.Path.{◌≡◌, refl, ap, sym, subst, ◌∙◌}
use mathlib.Core.Bool.{Bool, true, false, true≢false}
use mathlib.Core.List.{List, [], ◌∷◌, ◌++◌}
use Prim.Native.Nat.{ℕ, zero, suc, ◌+◌, ◌-◌, ◌*◌, ◌≤◌, ◌<◌}
use native.Mathlib.Omega.{arith}
use lib.Dec.{leb, ltb}
use lib.ListN.{length, get_or, take, drop, length-append, length-drop, get_or-append}
use lib.Seq.{length-take-le, get_or-append-add, get_or-take, get_or-drop}
use borrow.Author.Tests.{lt-leb, le-leb, leb-true, lt-ltb, le-ltb, ltb-true, ltb-false}
use Rattle.base.specs.Choice.{choose, ◌and◌}
use Rattle.base.specs.Lists.{zeros}
use Rattle.base.proofs.Zeros.{zeros_at, length_zeros}
use Rattle.callout_log.specs.Trailer.{count_before, distance, is_trailer}
use Rattle.callout_log.specs.Log.{ends_before, every, places_before, places_from}
use Rattle.callout_log.specs.View.{hide_at, hide_all}
use Rattle.callout_log.proofs.Tested.{and_true}
use Rattle.callout_log.proofs.Trailers.{points_back}
use Rattle.callout_log.proofs.Walk.{both, every_on, from, from_good}
use Rattle.callout_log.proofs.Walking.{good_back, good_here}

-- whether a byte is in the hidden fields of the record at a place
unfoldable pub in_field : (at i : ℕ) → Bool
in_field at i = leb (at + 8) i and ltb i (at + 28)

-- whether a byte is in the hidden fields of the records at places
unfoldable pub covers : List ℕ → ℕ → Bool
covers [] i = false
covers (at ∷ later) i = choose (in_field at i) true (covers later i)

-- whether a record at a place fits into so many bytes
unfoldable pub fits_in : (size at : ℕ) → Bool
fits_in size at = leb (at + 32) size

pub in_field_lem : (at i : ℕ) → at + 8 ≤ i → i < at + 28 → in_field at i ≡ true
unfolding in_field
in_field_lem at i l h = and_true (leb (at + 8) i) (ltb i (at + 28)) (le-leb (at + 8) i l) (lt-ltb i (at + 28) h)

pub before_field : (at i : ℕ) → i < at + 8 → in_field at i ≡ false
unfolding in_field choose
before_field at i h = rw (lt-leb (at + 8) i h)

pub behind_field : (at i : ℕ) → at + 28 ≤ i → in_field at i ≡ false
unfolding in_field choose
behind_field at i h = rw (le-leb (at + 8) i (omega arith), le-ltb i (at + 28) h)

pub field_bounds : (at i : ℕ) → in_field at i ≡ true → (at + 8 ≤ i) × (i < at + 28)
unfolding in_field
field_bounds at i e =
    let parts : (leb (at + 8) i ≡ true) × (ltb i (at + 28) ≡ true) = both (leb (at + 8) i) (ltb i (at + 28)) e in
    (leb-true (at + 8) i parts.0, ltb-true i (at + 28) parts.1)

-- one record hidden
module _ (at : ℕ) (bytes : List ℕ) (h : at + 28 ≤ length bytes) where
  front_long : length (take (at + 8) bytes) ≡ at + 8
  front_long = length-take-le (at + 8) bytes (omega arith)

  pub hide_length : length (hide_at at bytes) ≡ length bytes
  unfolding hide_at
  hide_length =
      length-append (take (at + 8) bytes) (zeros 20 ++ drop (at + 28) bytes)
      ∙ omega (arith, front_long, length-append (zeros 20) (drop (at + 28) bytes), length_zeros 20, length-drop (at + 28) bytes)

  pub hide_byte : (i : ℕ) → get_or (hide_at at bytes) i 0 ≡ choose (in_field at i) 0 (get_or bytes i 0)
  unfolding hide_at choose
  hide_byte i = first (ltb i (at + 8)) refl
    where
      -- a byte behind the front
      behind : (k : ℕ) → i ≡ at + 8 + k → get_or (hide_at at bytes) i 0 ≡ get_or (zeros 20 ++ drop (at + 28) bytes) k 0
      behind k e =
          let here : i ≡ length (take (at + 8) bytes) + k = omega (arith, front_long) in
          ap (λ (n : ℕ). get_or (take (at + 8) bytes ++ (zeros 20 ++ drop (at + 28) bytes)) n 0) here
          ∙ get_or-append-add (take (at + 8) bytes) (zeros 20 ++ drop (at + 28) bytes) k 0

      within : (k : ℕ) → i ≡ at + 8 + k → k < 20 → get_or (hide_at at bytes) i 0 ≡ 0
      within k e l =
          behind k e ∙ get_or-append (zeros 20) (drop (at + 28) bytes) 0 k (omega (arith, length_zeros 20)) ∙ zeros_at 20 k

      past : (m : ℕ) → i ≡ at + 28 + m → get_or (hide_at at bytes) i 0 ≡ get_or bytes i 0
      past m e =
          let here : 20 + m ≡ length (zeros 20) + m = omega (arith, length_zeros 20) in
          behind (20 + m) (omega arith)
          ∙ ap (λ (n : ℕ). get_or (zeros 20 ++ drop (at + 28) bytes) n 0) here
          ∙ get_or-append-add (zeros 20) (drop (at + 28) bytes) m 0
          ∙ get_or-drop (at + 28) bytes m 0
          ∙ ap (λ (n : ℕ). get_or bytes n 0) (sym e)

      second : (t : Bool) → ltb i (at + 28) ≡ t → at + 8 ≤ i → get_or (hide_at at bytes) i 0 ≡ choose (in_field at i) 0 (get_or bytes i 0)
      second true e l = rw (in_field_lem at i l (ltb-true i (at + 28) e)) (within (i - (at + 8)) (omega arith) (omega (arith, ltb-true i (at + 28) e)))
      second false e l =
          let k : at + 28 ≤ i = ltb-false i (at + 28) e in
          rw (behind_field at i k) (past (i - (at + 28)) (omega (arith, k)))

      first : (t : Bool) → ltb i (at + 8) ≡ t → get_or (hide_at at bytes) i 0 ≡ choose (in_field at i) 0 (get_or bytes i 0)
      first true e =
          let l : i < at + 8 = ltb-true i (at + 8) e in
          rw (before_field at i l)
          (get_or-append (take (at + 8) bytes) (zeros 20 ++ drop (at + 28) bytes) 0 i (omega (arith, front_long, l)) ∙ get_or-take (at + 8) bytes i 0 l)
      first false e = second (ltb i (at + 28)) refl (ltb-false i (at + 8) e)

-- two hidings of a byte, one after the other
twice : (first second : Bool) (n : ℕ) → choose second 0 (choose first 0 n) ≡ choose (choose first true second) 0 n
unfolding choose
twice true true n = refl
twice true false n = refl
twice false second n = refl

-- records hidden, one after the other
pub record Hidden (places bytes : List ℕ) : Type 0 where
  pub long : length (hide_all places bytes) ≡ length bytes
  pub byte : (i : ℕ) → get_or (hide_all places bytes) i 0 ≡ choose (covers places i) 0 (get_or bytes i 0)

pub all_hidden : (places bytes : List ℕ) → every (fits_in (length bytes)) places ≡ true → Hidden places bytes
unfolding hide_all covers every fits_in choose
all_hidden [] bytes e = record { long = refl; byte = λ (i : ℕ). refl }
all_hidden (at ∷ later) bytes e =
    let parts : (leb (at + 32) (length bytes) ≡ true) × (every (fits_in (length bytes)) later ≡ true) = both (leb (at + 32) (length bytes)) (every (fits_in (length bytes)) later) e in
    let room : at + 32 ≤ length bytes = leb-true (at + 32) (length bytes) parts.0 in
    let same : length (hide_at at bytes) ≡ length bytes = hide_length at bytes (omega arith) in
    let rest : Hidden later (hide_at at bytes) = all_hidden later (hide_at at bytes) (subst (λ (n : ℕ). every (fits_in n) later ≡ true) (sym same) parts.1) in
    record {
      long = rest.long ∙ same;
      byte = λ (i : ℕ). rest.byte i ∙ ap (λ (n : ℕ). choose (covers later i) 0 n) (hide_byte at bytes (omega arith) i) ∙ twice (in_field at i) (covers later i) (get_or bytes i 0);
    }

-- hiding behind another hiding
pub hide_on : (first second bytes : List ℕ) → hide_all (first ++ second) bytes ≡ hide_all second (hide_all first bytes)
unfolding hide_all
hide_on [] second bytes = refl
hide_on (at ∷ first) second bytes = hide_on first second (hide_at at bytes)

-- one of two tests holds where the second does
pub second_holds : (a b : Bool) → b ≡ true → choose a true b ≡ true
unfolding choose
second_holds true b e = refl
second_holds false b e = e

either : (a b c : Bool) → choose a true (choose b true c) ≡ choose (choose a true b) true c
unfolding choose
either true b c = refl
either false b c = refl

pub covers_on : (first second : List ℕ) (i : ℕ) → covers (first ++ second) i ≡ choose (covers first i) true (covers second i)
unfolding covers choose
covers_on [] second i = refl
covers_on (at ∷ first) second i = ap (λ (c : Bool). choose (in_field at i) true c) (covers_on first second i) ∙ either (in_field at i) (covers first i) (covers second i)

-- the hidden bytes of so many records one behind another
pub record Span (first count i : ℕ) : Type 0 where
  pub low : first + 8 ≤ i
  pub high : i + 4 < first + 32 * count + 1

pub own_span : (count first i : ℕ) → covers (places_from first count) i ≡ true → Span first count i
unfolding covers places_from choose
own_span zero first i e = absurd (true≢false (sym e))
own_span (suc count) first i e = decide (in_field first i) refl (λ f. own_span count (first + 32) i (sym (rw f refl) ∙ e))
  where
    decide : (t : Bool) → in_field first i ≡ t → (in_field first i ≡ false → Span (first + 32) count i) → Span first (suc count) i
    decide true f later = let b : (first + 8 ≤ i) × (i < first + 28) = field_bounds first i f in record { low = b.0; high = omega (arith, b.1) }
    decide false f later = record { low = omega (arith, (later f).low); high = omega (arith, (later f).high) }

pub own_fits : (count first size : ℕ) → first + 32 * count ≤ size → every (fits_in size) (places_from first count) ≡ true
unfolding every places_from fits_in
own_fits zero first size h = refl
own_fits (suc count) first size h =
    and_true (leb (first + 32) size) (every (fits_in size) (places_from (first + 32) count)) (le-leb (first + 32) size (omega arith)) (own_fits count (first + 32) size (omega arith))

module _ (log : List ℕ) where
  -- what holds at the front, and at the end of each callout where it does at its start, holds wherever the trailers up to there keep their rule
  pub walk_up : (P : ℕ → Type 0) → P 0
      → ((end : ℕ) → 0 < end → is_trailer log end ≡ true → every (is_trailer log) (from log (end - distance (count_before log end))) ≡ true
      → P (end - distance (count_before log end)) → P end)
      → (end : ℕ) → every (is_trailer log) (from log end) ≡ true → P end
  walk_up P front step end good = go end end (omega arith) good
    where
      go : (most end : ℕ) → end ≤ most → every (is_trailer log) (from log end) ≡ true → P end
      go zero zero m g = front
      go zero (suc end) m g = absurd (omega arith)
      go (suc most) zero m g = front
      go (suc most) (suc end) m g =
          let before : every (is_trailer log) (from log (suc end - distance (count_before log (suc end)))) ≡ true = good_back log (suc end) g (omega arith) in
          step (suc end) (omega arith) (good_here log (suc end) g (omega arith)) before
          (go most (suc end - distance (count_before log (suc end))) (omega arith) before)

  -- the places of the records up to a place
  abbrev pub up_to : ℕ → List ℕ
  up_to end = places_before log (from log end)

  module _ (end : ℕ) (h : 0 < end) (t : is_trailer log end ≡ true) where
    -- the first place of the callout that ends there
    abbrev start : ℕ
    start = end - distance (count_before log end)

    pub places_step : up_to end ≡ places_from start (count_before log end) ++ up_to start
    unfolding places_before
    places_step = ap (places_before log) (from_good log end h t)

    pub covers_step : (i : ℕ) → covers (up_to end) i ≡ choose (covers (places_from start (count_before log end)) i) true (covers (up_to start) i)
    covers_step i = ap (λ (l : List ℕ). covers l i) places_step ∙ covers_on (places_from start (count_before log end)) (up_to start) i

  -- a hidden byte is before the trailer of the last callout
  pub covered_below : (i end : ℕ) → every (is_trailer log) (from log end) ≡ true → covers (up_to end) i ≡ true → i + 16 < end
  unfolding ends_before places_before covers choose
  covered_below i = walk_up (λ (end : ℕ). covers (up_to end) i ≡ true → i + 16 < end) (λ e. absurd (true≢false (sym e))) step
    where
      step : (end : ℕ) → 0 < end → is_trailer log end ≡ true → every (is_trailer log) (from log (end - distance (count_before log end))) ≡ true
          → (covers (up_to (end - distance (count_before log end))) i ≡ true → i + 16 < end - distance (count_before log end)) → covers (up_to end) i ≡ true → i + 16 < end
      step end h t g before e = decide (covers (places_from (end - distance (count_before log end)) (count_before log end)) i) refl
        where
          decide : (own : Bool) → covers (places_from (end - distance (count_before log end)) (count_before log end)) i ≡ own → i + 16 < end
          decide true f =
              omega (arith, (own_span (count_before log end) (end - distance (count_before log end)) i f).high, points_back log end t)
          decide false f = let k : i + 16 < end - distance (count_before log end) = before (sym (rw f refl) ∙ sym (covers_step end h t i) ∙ e) in omega (arith, k)

  -- every record fits into the bytes before the end of its callout
  pub fits_below : (size end : ℕ) → end ≤ size → every (is_trailer log) (from log end) ≡ true → every (fits_in size) (up_to end) ≡ true
  unfolding ends_before places_before every
  fits_below size end l g = walk_up (λ (end : ℕ). end ≤ size → every (fits_in size) (up_to end) ≡ true) (λ k. refl) step end g l
    where
      step : (end : ℕ) → 0 < end → is_trailer log end ≡ true → every (is_trailer log) (from log (end - distance (count_before log end))) ≡ true
          → (end - distance (count_before log end) ≤ size → every (fits_in size) (up_to (end - distance (count_before log end))) ≡ true) → end ≤ size → every (fits_in size) (up_to end) ≡ true
      step end h t g before k =
          let first : ℕ = end - distance (count_before log end) in
          ap (every (fits_in size)) (places_step end h t)
          ∙ every_on (fits_in size) (places_from first (count_before log end)) (up_to first)
          ∙ and_true (every (fits_in size) (places_from first (count_before log end))) (every (fits_in size) (up_to first))
          (own_fits (count_before log end) first size (omega (arith, points_back log end t))) (before (omega arith))
