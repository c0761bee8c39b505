-- Consecutive numbers: how many they are, how they join, and the one at a place.
-- Assumes nothing.
use mathlib.Core.Path.{◌≡◌, refl, ap, sym, ◌∙◌}
use mathlib.Core.List.{List, ◌∷◌, ◌++◌}
use Prim.Native.Nat.{ℕ, zero, suc, ◌+◌, ◌<◌}
use native.Mathlib.Nat.{zero-add, add-zero}
use native.Mathlib.Omega.{arith}
use lib.ListN.{length, get_or}
use Rattle.base.specs.Lists.{up_from}

pub length-up_from : (first count : ℕ) → length (up_from first count) ≡ count
unfolding up_from
length-up_from first zero = refl
length-up_from first (suc count) = ap suc (length-up_from (suc first) count)

pub join-up_from : (first a b : ℕ) → up_from first a ++ up_from (first + a) b ≡ up_from first (a + b)
unfolding up_from
join-up_from first zero b = rw (add-zero, zero-add)
join-up_from first (suc a) b =
    let place : first + suc a ≡ suc first + a = omega arith in
    let total : suc a + b ≡ suc (a + b) = omega arith in
    rw (place, total) (ap (λ (l : List ℕ). first ∷ l) (join-up_from (suc first) a b))

pub up_from-at : (first count k : ℕ) → k < count → get_or (up_from first count) k 0 ≡ first + k
unfolding up_from
up_from-at first zero k h = absurd (omega arith)
up_from-at first (suc count) zero h = sym (add-zero first)
up_from-at first (suc count) (suc k) h = up_from-at (suc first) count k (omega arith) ∙ omega arith
