-- The test of every element that a chain makes is that of the definitions.
-- Assumes nothing.
use mathlib.Core.Path.{◌≡◌, refl, ap, ◌∙◌}
use mathlib.Core.Bool.{Bool, true, false}
use mathlib.Core.List.{List, [], ◌∷◌}
use Prim.Native.Nat.{ℕ}
use Rattle.std.specs.List.{list_all}
use Rattle.std.proofs.Common.{◌&&◌}
use Rattle.base.specs.Choice.{choose, ◌and◌}
use Rattle.callout_log.specs.Log.{every}

pub both_same : (a b : Bool) → (a && b) ≡ a and b
unfolding choose
both_same true b = refl
both_same false b = refl

-- the library's test of all elements is ours
pub all_every : (test : ℕ → Bool) (list : List ℕ) → list_all test list ≡ every test list
unfolding every
all_every test [] = refl
all_every test (x ∷ list) = both_same (test x) (list_all test list) ∙ ap (λ (rest : Bool). test x and rest) (all_every test list)
