-- One bit of a number.
use Rattle.std.specs.Prelude.{ℕ, ◌/◌, ◌%◌, ◌^◌}

-- the bit of a number at a place, 0 or 1
unfoldable pub bit : ℕ → ℕ → ℕ
bit n place = n / 2 ^ place % 2
