-- Sums over the numbers from 0 up to a count.
use Rattle.std.specs.Prelude.{ℕ, zero, suc, ◌+◌}

-- the sum of `term` at each number below `count`
unfoldable pub sum : (ℕ → ℕ) → ℕ → ℕ
sum term zero = 0
sum term (suc count) = sum term count + term count
