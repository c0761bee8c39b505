-- The walk from the last trailer to the front: each step of it, and what a test says of lists.
-- Assumes nothing.
use mathlib.Core.Path.{◌≡◌, refl, ap, sym, ◌∙◌}
use mathlib.Core.Bool.{Bool, true, false, true≢false}
use mathlib.Core.List.{List, [], ◌∷◌, ◌++◌}
use Prim.Native.Nat.{ℕ, zero, suc, ◌-◌, ◌≤◌, ◌<◌}
use native.Mathlib.Omega.{arith}
use borrow.Author.Tests.{ne_eqb}
use Rattle.base.specs.Choice.{choose, ◌and◌}
use Rattle.callout_log.specs.Trailer.{count_before, distance, is_trailer}
use Rattle.callout_log.specs.Log.{ends_before, every}

-- both hold where each does
pub both : (a b : Bool) → a and b ≡ true → (a ≡ true) × (b ≡ true)
unfolding choose
both true b e = (refl, e)
both false b e = absurd (true≢false (sym e))

of_three : (a b c : Bool) → a and b and c ≡ choose (a and b) c false
unfolding choose
of_three true b c = refl
of_three false b c = refl

module _ {A : Type 0} (test : A → Bool) where
  pub every_on : (xs ys : List A) → every test (xs ++ ys) ≡ every test xs and every test ys
  unfolding every choose
  every_on [] ys = refl
  every_on (x ∷ xs) ys = ap (λ (more : Bool). test x and more) (every_on xs ys) ∙ of_three (test x) (every test xs) (every test ys)

module _ (bytes : List ℕ) where
  same : (most least end : ℕ) → end ≤ most → end ≤ least → ends_before most bytes end ≡ ends_before least bytes end
  unfolding ends_before choose
  same zero zero end h k = refl
  same zero (suc least) zero h k = refl
  same zero (suc least) (suc end) h k = absurd (omega arith)
  same (suc most) zero zero h k = refl
  same (suc most) zero (suc end) h k = absurd (omega arith)
  same (suc most) (suc least) zero h k = refl
  same (suc most) (suc least) (suc end) h k =
      rw (ne_eqb (suc end) 0 (λ e. omega arith))
      (ap (λ (older : List ℕ). suc end ∷ choose (is_trailer bytes (suc end)) older [])
      (same most least (suc end - distance (count_before bytes (suc end))) (omega arith) (omega arith)))

  -- the ends of the callouts up to a place
  abbrev pub from : ℕ → List ℕ
  from end = ends_before end bytes end

  pub from_good : (end : ℕ) → 0 < end → is_trailer bytes end ≡ true → from end ≡ end ∷ from (end - distance (count_before bytes end))
  unfolding ends_before choose
  from_good zero h t = absurd (omega arith)
  from_good (suc end) h t =
      rw (t, ne_eqb (suc end) 0 (λ e. omega arith))
      (ap (λ (older : List ℕ). suc end ∷ older)
      (same end (suc end - distance (count_before bytes (suc end))) (suc end - distance (count_before bytes (suc end))) (omega arith) (omega arith)))

  pub from_bad : (end : ℕ) → 0 < end → is_trailer bytes end ≡ false → from end ≡ end ∷ []
  unfolding ends_before choose
  from_bad zero h t = absurd (omega arith)
  from_bad (suc end) h t = rw (t, ne_eqb (suc end) 0 (λ e. omega arith))

  pub from_front : from 0 ≡ []
  unfolding ends_before
  from_front = refl
