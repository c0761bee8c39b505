-- The places of records one behind another.
-- Assumes nothing.
use mathlib.Core.Path.{◌≡◌, refl, ap, ◌∙◌}
use mathlib.Core.Bool.{Bool}
use Prim.Native.Nat.{ℕ, zero, suc, ◌+◌, ◌*◌}
use native.Mathlib.Omega.{arith}
use lib.ListN.{length}
use Rattle.std.specs.List.{list_all, range_with_len}
use Rattle.base.specs.Choice.{◌and◌}
use Rattle.callout_log.specs.Log.{every, places_from}
use Rattle.callout_log.proofs.Checks.{both_same}

pub length_places : (first count : ℕ) → length (places_from first count) ≡ count
unfolding places_from
length_places first zero = refl
length_places first (suc count) = ap suc (length_places (first + 32) count)

-- records one behind another, counted from one of them on
all_from : (test : ℕ → Bool) (first from count : ℕ)
    → list_all (λ i. test (first + 32 * i)) (range_with_len from count) ≡ every test (places_from (first + 32 * from) count)
unfolding every places_from
all_from test first from zero = refl
all_from test first from (suc count) =
    let next : first + 32 * (from + 1) ≡ first + 32 * from + 32 = omega arith in
    both_same (test (first + 32 * from)) (list_all (λ i. test (first + 32 * i)) (range_with_len (from + 1) count))
    ∙ ap (λ (rest : Bool). test (first + 32 * from) and rest) (all_from test first (from + 1) count ∙ ap (λ (n : ℕ). every test (places_from n count)) next)

-- records one behind another, counted from the first
pub all_places : (test : ℕ → Bool) (first count : ℕ) → list_all (λ i. test (first + 32 * i)) (range_with_len 0 count) ≡ every test (places_from first count)
all_places test first count =
    let same : first + 32 * 0 ≡ first = omega arith in
    all_from test first 0 count ∙ ap (λ (n : ℕ). every test (places_from n count)) same
