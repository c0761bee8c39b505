-- A search through the first numbers for one that a test holds of: where it begins, a turn, and where it ends.
-- Assumes nothing.
use mathlib.Core.Path.{◌≡◌, refl, ap, sym, ◌∙◌}
use mathlib.Core.Bool.{Bool, true, false}
use Prim.Native.Nat.{ℕ, zero, suc, ◌+◌, ◌-◌, ◌≤◌, ◌<◌}
use native.Mathlib.Nat.{zero-add, suc-add}
use native.Mathlib.Numerals.{add-one}
use native.Mathlib.Omega.{arith}
use Rattle.base.specs.Choice.{choose}
use Rattle.base.proofs.Choice.{same_choice}
use Rattle.base.specs.First.{none_of}

-- a search that has found none so far
pub record NoneYet (test : ℕ → Bool) (size i : ℕ) : Type 0 where
  pub within : i ≤ size
  pub none : none_of test i ≡ true

passed_over : (t u : Bool) → choose t false u ≡ true → (t ≡ false) × (u ≡ true)
unfolding choose
passed_over true u p = let z : ◌≡◌ {A = ℕ} 0 1 = cc in absurd (omega arith)
passed_over false u p = (refl, p)

module _ (test : ℕ → Bool) where
  found_stays : (more i : ℕ) → none_of test i ≡ false → none_of test (more + i) ≡ false
  unfolding none_of
  found_stays zero i p = rw zero-add p
  found_stays (suc more) i p = rw (suc-add, found_stays more i p) (same_choice (test (more + i)) false)

  -- the last of the numbers, and those before it
  pub none_last : (count : ℕ) → none_of test (suc count) ≡ true → (test count ≡ false) × (none_of test count ≡ true)
  unfolding none_of
  none_last count p = passed_over (test count) (none_of test count) p

  module _ (size : ℕ) where
    pub none_begins : NoneYet test size 0
    unfolding none_of
    none_begins = record { within = omega arith; none = refl }

    module _ (i : ℕ) (y : NoneYet test size i) where
      pub none_more : (flag : Bool) → i < size → flag ≡ test i → flag ≡ false → NoneYet test size (i + 1)
      unfolding none_of choose
      none_more flag h f n = record { within = omega arith; none = rw (add-one, ← f, n) y.none }

      pub one_found : (flag : Bool) → i < size → flag ≡ test i → flag ≡ true → false ≡ none_of test size
      unfolding none_of choose
      one_found flag h f t =
          let next : none_of test (suc i) ≡ false = rw (← f, t) in
          let all : size - suc i + suc i ≡ size = omega arith in
          sym (ap (none_of test) (sym all) ∙ found_stays (size - suc i) (suc i) next)

      pub none_found : size ≤ i → true ≡ none_of test size
      none_found h = let same : i ≡ size = omega (arith, y.within) in sym y.none ∙ ap (none_of test) same
