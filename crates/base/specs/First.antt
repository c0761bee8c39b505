-- A test over the first numbers.
use Rattle.std.specs.Prelude.{Bool, true, false, ℕ, zero, suc}
use Rattle.base.specs.Choice.{choose}

-- whether a test fails for each number below a count
unfoldable pub none_of : (ℕ → Bool) → ℕ → Bool
none_of test zero = true
none_of test (suc count) = choose (test count) false (none_of test count)
