-- Local indices, after src/index.rs.
use Rattle.std.specs.Prelude.{ℕ, ◌+◌, ◌-◌, ◌%◌}

-- the index that follows: the low eight bits count up and wrap, the upper 24 stay
unfoldable pub wrapping_increment : ℕ → ℕ
wrapping_increment index = index - index % 256 + (index % 256 + 1) % 256

-- the slot of an index
abbrev pub slot_of : ℕ → ℕ
slot_of index = index % 8
