-- Positions in a line.
use Rattle.std.specs.Prelude.{ℕ, ◌≤◌, max}

-- A position reached from another one: not before it, and not past the end unless the other one was.
pub record Onward (from size at : ℕ) : Type 0 where
  pub least : from ≤ at
  pub most : at ≤ max from size
