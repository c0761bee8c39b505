-- The loops that copy a log and hide its fields: where each begins, a turn, and where it ends.
-- Assumes nothing.
use mathlib.Core.Path.{◌≡◌, refl, ap, sym, ◌∙◌}
use mathlib.Core.Bool.{Bool, true, false}
use mathlib.Core.List.{List, ◌++◌}
use Prim.Native.Nat.{ℕ, suc, ◌+◌, ◌-◌, ◌*◌, ◌≤◌, ◌<◌}
use native.Mathlib.Omega.{arith}
use lib.ListN.{length, take, drop, length-drop, replicate}
use lib.Seq.{drop-drop, length-take-le}
use borrow.Rule.Slice.PartMut.{put_mid}
use Rattle.base.specs.Choice.{choose}
use Rattle.base.specs.Lists.{zeros}
use Rattle.callout_log.specs.Trailer.{is_trailer}
use Rattle.callout_log.specs.Log.{ends, every, places, places_before, places_from}
use Rattle.callout_log.specs.Callouts.{StepsBack}
use Rattle.callout_log.specs.declared.log.Callout.{Callout}
use Rattle.callout_log.specs.declared.log.Callouts.{Callouts}
use Rattle.callout_log.specs.View.{hide_at, hide_all, pointed, seen}
use Rattle.callout_log.proofs.Hiding.{all_hidden, hide_length, hide_on, own_fits, up_to}
use Rattle.callout_log.proofs.Walk.{from, from_front}
use Rattle.callout_log.proofs.Walking.{step_inside, step_places, step_same}

-- the hidden fields of a record zeroed in place
pub record_hidden : (bytes part : List ℕ) (at : ℕ) → at + 32 ≤ length bytes → part ≡ replicate (length (take (at + 28 - (at + 8)) (drop (at + 8) bytes))) 0
    → put_mid (at + 8) (at + 28 - (at + 8)) bytes part ≡ hide_at at bytes
unfolding hide_at zeros
record_hidden bytes part at h e =
    let size : at + 28 - (at + 8) ≡ 20 = omega arith in
    let end : at + 8 + 20 ≡ at + 28 = omega arith in
    let long : length (take 20 (drop (at + 8) bytes)) ≡ 20 = length-take-le 20 (drop (at + 8) bytes) (omega (arith, length-drop (at + 8) bytes)) in
    rw (e, size, long) (ap (λ (l : List ℕ). take (at + 8) bytes ++ (zeros 20 ++ l)) (drop-drop 20 (at + 8) bytes ∙ ap (λ (n : ℕ). drop n bytes) end))

-- the first records from a place on are hidden, so many
pub record Hiding (came bytes : List ℕ) (first count i : ℕ) : Type 0 where
  pub long : length bytes ≡ length came
  pub inside : first + 32 * count ≤ length bytes
  pub within : i ≤ count
  pub told : hide_all (places_from first count) came ≡ hide_all (places_from (first + 32 * i) (count - i)) bytes

module _ (came : List ℕ) (first count : ℕ) where
  pub hide_begins : first + 32 * count ≤ length came → Hiding came came first count 0
  hide_begins h =
      let a : first + 32 * 0 ≡ first = omega arith in
      let b : count - 0 ≡ count = omega arith in
      record { long = refl; inside = h; within = omega arith; told = rw (a, b) }

  module _ (bytes : List ℕ) (i : ℕ) (y : Hiding came bytes first count i) where
    pub hide_more : (last : List ℕ) → i < count → last ≡ hide_at (first + 32 * i) bytes → Hiding came last first count (i + 1)
    unfolding places_from hide_all
    hide_more last h e =
        let one : count - i ≡ suc (count - (i + 1)) = omega arith in
        let next : first + 32 * i + 32 ≡ first + 32 * (i + 1) = omega arith in
        let same : length last ≡ length bytes = ap length e ∙ hide_length (first + 32 * i) bytes (omega (arith, y.inside)) in
        record {
          long = same ∙ y.long;
          inside = omega (arith, y.inside, same);
          within = omega arith;
          told = y.told ∙ rw (one, next) (ap (hide_all (places_from (first + 32 * (i + 1)) (count - (i + 1)))) (sym e));
        }

    pub hide_ends : count ≤ i → bytes ≡ hide_all (places_from first count) came
    unfolding places_from hide_all
    hide_ends h = let none : count - i ≡ 0 = omega arith in sym (y.told ∙ rw none)

-- the records of the callouts that are left are still to be hidden
pub record HidingLeft (log came bytes : List ℕ) (left : Callouts) : Type 0 where
  pub same : left.bytes.now ≡ log
  pub long : length bytes ≡ length log
  pub told : hide_all (places log) came ≡ hide_all (up_to log left.end) bytes

module _ (log came : List ℕ) (left : Callouts) where
  pub callouts_begin : left.bytes.now ≡ log → left.end ≡ length log → length came ≡ length log → HidingLeft log came came left
  unfolding ends places
  callouts_begin s e h = record { same = s; long = h; told = rw e }

  module _ (bytes : List ℕ) (y : HidingLeft log came bytes left) where
    pub callouts_end : left.end ≡ 0 → bytes ≡ hide_all (places log) came
    unfolding places_before hide_all
    callouts_end e = sym (y.told ∙ rw (ap (from log) e ∙ from_front log))

    module _ (callout : Callout) (after : Callouts) (s : StepsBack left callout after) where
      pub callouts_inside : callout.first + 32 * callout.count ≤ length bytes
      callouts_inside = omega (arith, step_inside log left after callout y.same s, y.long)

      pub callouts_more : (last : List ℕ) → last ≡ hide_all (places_from callout.first callout.count) bytes → HidingLeft log came last after
      callouts_more last q =
          let own : List ℕ = places_from callout.first callout.count in
          let same : length last ≡ length bytes = ap length q ∙ (all_hidden own bytes (own_fits callout.count callout.first (length bytes) callouts_inside)).long in
          record {
            same = step_same log left after callout y.same s;
            long = same ∙ y.long;
            told = y.told
                ∙ ap (λ (l : List ℕ). hide_all l bytes) (step_places log left after callout y.same s)
                ∙ hide_on own (up_to log after.end) bytes
                ∙ ap (hide_all (up_to log after.end)) (sym q);
          }

-- a copy of a log with good trailers is what is seen, hidden or not
module _ (log bytes : List ℕ) where
  pub seen_whole : (hides : Bool) → hides ≡ false → bytes ≡ log → bytes ≡ seen hides log
  unfolding seen choose
  seen_whole hides f e = rw f e

  pub seen_hidden : (hides : Bool) (copied : List ℕ) → every (is_trailer log) (ends log) ≡ true → hides ≡ true → copied ≡ log → bytes ≡ hide_all (places log) copied → bytes ≡ seen hides log
  unfolding seen pointed choose
  seen_hidden hides copied g t c e = rw (t, g) (e ∙ ap (hide_all (places log)) c)

-- the loop of `hide_records`
pub ruleset hides = (hide_begins, hide_ends)

-- the loop of `hide_callouts`
pub ruleset callouts = (callouts_begin, callouts_more, callouts_end)

-- the ways through `copy_seen`
pub ruleset copies = (seen_whole, seen_hidden)
