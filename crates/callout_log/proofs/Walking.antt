-- The loops over trailers: where each begins, a turn, and where it ends.
-- Assumes nothing.
use mathlib.Core.Path.{◌≡◌, refl, ap, sym, subst, ◌∙◌}
use mathlib.Core.Bool.{Bool, true, false, true≢false}
use mathlib.Core.List.{List, [], ◌∷◌, ◌++◌}
use Prim.Native.Nat.{ℕ, ◌+◌, ◌-◌, ◌*◌, ◌≤◌, ◌<◌}
use native.Mathlib.Nat.{zero-add}
use native.Mathlib.Omega.{arith}
use lib.ListN.{length, length-append}
use Rattle.base.specs.Choice.{choose, ◌and◌}
use Rattle.callout_log.specs.Record.{is_record}
use Rattle.callout_log.specs.Trailer.{count_before, distance, is_trailer, trailer_before}
use Rattle.callout_log.specs.Log.{ends, every, places, places_before, places_from, walked_trailers}
use Rattle.error.specs.declared.Error.{Error}
use Rattle.error.specs.declared.Error.TheVariants.{BrokenTrailer}
use Rattle.std.specs.Prelude.{Result, Ok, Err}
use Rattle.callout_log.specs.Callouts.{StepsBack}
use Rattle.callout_log.specs.declared.log.Callout.{Callout}
use Rattle.callout_log.specs.declared.log.Callouts.{Callouts}
use Rattle.callout_log.proofs.Places.{length_places}
use Rattle.callout_log.proofs.Trailers.{told_records, told_broken, points_back}
use Rattle.callout_log.proofs.Walk.{both, every_on, from, from_good, from_bad, from_front}

-- what a walk finds that has come to a place with so many callouts and records
unfoldable pub found : List ℕ → (end callouts records : ℕ) → Result (ℕ × ℕ) Error
found bytes end callouts records =
    choose (every (is_trailer bytes) (from bytes end)) (Ok (callouts + length (from bytes end), records + length (places_before bytes (from bytes end)))) (Err BrokenTrailer)

-- a walk that has come to a place
pub record Walking (bytes : List ℕ) (end callouts records : ℕ) : Type 0 where
  pub within : 16 * callouts + 32 * records + end ≤ length bytes
  pub told : walked_trailers bytes ≡ found bytes end callouts records

module _ (bytes : List ℕ) where
  pub walk_begins : Walking bytes (length bytes) 0 0
  unfolding walked_trailers ends places found
  walk_begins = record { within = omega arith; told = rw (zero-add, zero-add) }

  module _ (end callouts records : ℕ) (y : Walking bytes end callouts records) where
    pub walk_ends : end ≤ 0 → Ok (callouts, records) ≡ walked_trailers bytes
    unfolding found choose every places_before
    walk_ends h =
        let front : end ≡ 0 = omega arith in
        let none : from bytes end ≡ [] = ap (from bytes) front ∙ from_front bytes in
        sym (y.told ∙ rw none (ap (λ (n : ℕ). Ok (n, records + 0)) (omega arith) ∙ ap (λ (n : ℕ). Ok (callouts, n)) (omega arith)))

    pub walk_broken : (error : Error) → Err error ≡ trailer_before bytes end → 0 < end → Err error ≡ walked_trailers bytes
    unfolding found choose every
    walk_broken error e h =
        let bad : (is_trailer bytes end ≡ false) × (error ≡ BrokenTrailer) = told_broken bytes end error e in
        rw bad.1 (sym (y.told ∙ rw (from_bad bytes end h bad.0, bad.0)))

    module _ (n : ℕ) (e : Ok n ≡ trailer_before bytes end) where
      pub walk_back : 16 + 32 * n ≤ end
      walk_back = let known : n ≡ count_before bytes end = (told_records bytes end n e).1 in omega (arith, known, points_back bytes end (told_records bytes end n e).0)

      pub walk_more : 0 < end → Walking bytes (end - (16 + 32 * n)) (callouts + 1) (records + n)
      unfolding found choose every places_before
      walk_more h =
          let good : is_trailer bytes end ≡ true = (told_records bytes end n e).0 in
          let known : count_before bytes end ≡ n = sym (told_records bytes end n e).1 in
          let here : from bytes end ≡ end ∷ from bytes (end - (16 + 32 * n)) = from_good bytes end h good ∙ rw known in
          record {
            within = omega (arith, walk_back);
            told = y.told ∙ rw (here, good, known)
                (ap (λ (m : Result (ℕ × ℕ) Error). choose (every (is_trailer bytes) (from bytes (end - (16 + 32 * n)))) m (Err BrokenTrailer))
                (ap (λ (m : ℕ). Ok (m, records + length (places_from (end - (16 + 32 * n)) n ++ places_before bytes (from bytes (end - (16 + 32 * n)))))) (omega arith)
                ∙ ap (λ (m : ℕ). Ok (callouts + 1 + length (from bytes (end - (16 + 32 * n))), m))
                (omega (arith, length-append (places_from (end - (16 + 32 * n)) n) (places_before bytes (from bytes (end - (16 + 32 * n)))), length_places (end - (16 + 32 * n)) n))));
          }

no_good : (bytes : List ℕ) (end : ℕ) → 0 < end → is_trailer bytes end ≡ false → every (is_trailer bytes) (from bytes end) ≡ false
unfolding every choose
no_good bytes end h e = rw (from_bad bytes end h e, e)

-- what good trailers say of the one at a place, and of those before it
module _ (bytes : List ℕ) (end : ℕ) (good : every (is_trailer bytes) (from bytes end) ≡ true) (h : 0 < end) where
  pub good_here : is_trailer bytes end ≡ true
  good_here = decide (is_trailer bytes end) refl
    where
      decide : (t : Bool) → is_trailer bytes end ≡ t → is_trailer bytes end ≡ true
      decide true e = e
      decide false e = absurd (true≢false (sym good ∙ no_good bytes end h e))

  pub good_back : every (is_trailer bytes) (from bytes (end - distance (count_before bytes end))) ≡ true
  unfolding every
  good_back =
      (both (is_trailer bytes end) (every (is_trailer bytes) (from bytes (end - distance (count_before bytes end))))
      (sym (ap (every (is_trailer bytes)) (from_good bytes end h good_here)) ∙ good)).1

-- a step back over good trailers
module _ (bytes : List ℕ) (end : ℕ) (good : every (is_trailer bytes) (from bytes end) ≡ true) (h : end ≡ 0 → ⊥) where
  pub back_trailer : 16 ≤ end
  back_trailer = omega (arith, points_back bytes end (good_here bytes end good (omega arith)))

  module _ (n : ℕ) (e : n ≡ count_before bytes end) where
    pub back_far : 16 + 32 * n ≤ end
    back_far = omega (arith, e, points_back bytes end (good_here bytes end good (omega arith)))

    pub back_good : every (is_trailer bytes) (from bytes (end - (16 + 32 * n))) ≡ true
    back_good = rw e (good_back bytes end good (omega arith))

-- a step back over the callouts of a log: where the callout stands, and what is left before it
module _ (bytes : List ℕ) (before after : Callouts) (callout : Callout) (same : before.bytes.now ≡ bytes) (s : StepsBack before callout after) where
  good : every (is_trailer bytes) (from bytes before.end) ≡ true
  good = subst (λ (l : List ℕ). every (is_trailer l) (from l before.end) ≡ true) same before.trailers

  pub step_same : after.bytes.now ≡ bytes
  step_same = s.same ∙ same

  pub step_count : count_before bytes before.end ≡ callout.count
  step_count = ap (λ (l : List ℕ). count_before l before.end) (sym same) ∙ sym s.count

  pub step_far : after.end + (16 + 32 * callout.count) ≡ before.end
  step_far = omega (arith, back_far bytes before.end good (λ e. omega (arith, s.behind)) callout.count (sym step_count), s.next, s.first)

  pub step_inside : callout.first + 32 * callout.count ≤ length bytes
  step_inside = omega (arith, step_far, s.next, before.within, ap length same)

  pub step_ends : from bytes before.end ≡ before.end ∷ from bytes after.end
  step_ends =
      let place : before.end - distance callout.count ≡ after.end = sym (s.next ∙ s.first) in
      from_good bytes before.end s.behind (good_here bytes before.end good s.behind) ∙ rw (step_count, place)

  pub step_places : places_before bytes (from bytes before.end) ≡ places_from callout.first callout.count ++ places_before bytes (from bytes after.end)
  unfolding places_before
  step_places = ap (places_before bytes) step_ends ∙ rw (step_count, ← s.first)

-- the records of the callouts that were come by, tested
pub record Checked (bytes : List ℕ) (left : Callouts) : Type 0 where
  pub same : left.bytes.now ≡ bytes
  pub told : every (is_record bytes) (places bytes) ≡ every (is_record bytes) (places_before bytes (from bytes left.end))

module _ (bytes : List ℕ) (left : Callouts) where
  pub check_begins : left.bytes.now ≡ bytes → left.end ≡ length bytes → Checked bytes left
  unfolding ends places
  check_begins s e = record { same = s; told = rw e }

  module _ (y : Checked bytes left) where
    pub check_ends : left.end ≡ 0 → true ≡ every (is_record bytes) (places bytes)
    unfolding every places_before
    check_ends e = sym (y.told ∙ rw (ap (from bytes) e ∙ from_front bytes))

    module _ (callout : Callout) (after : Callouts) (s : StepsBack left callout after) where
      parts : every (is_record bytes) (places bytes)
          ≡ every (is_record bytes) (places_from callout.first callout.count) and every (is_record bytes) (places_before bytes (from bytes after.end))
      parts =
          y.told
          ∙ ap (every (is_record bytes)) (step_places bytes left after callout y.same s)
          ∙ every_on (is_record bytes) (places_from callout.first callout.count) (places_before bytes (from bytes after.end))

      pub check_inside : callout.first + 32 * callout.count ≤ length bytes
      check_inside = step_inside bytes left after callout y.same s

      pub check_more : true ≡ every (is_record bytes) (places_from callout.first callout.count) → Checked bytes after
      unfolding choose
      check_more t = record { same = step_same bytes left after callout y.same s; told = parts ∙ rw (← t) }

      pub check_fails : false ≡ every (is_record bytes) (places_from callout.first callout.count) → false ≡ every (is_record bytes) (places bytes)
      unfolding choose
      check_fails t = sym (parts ∙ rw (← t))

-- the loop of `walk`
pub ruleset walks = (walk_begins, walk_back, walk_more, walk_ends)

-- a step of the callouts
pub ruleset steps = (back_trailer, back_far, back_good)

-- the loop of `are_callouts`
pub ruleset checks = (check_begins, check_more, check_ends)
