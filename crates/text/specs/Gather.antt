-- Lines gathered from parts of the input.
use Rattle.std.specs.Prelude.{List, ◌++◌, ℕ, ◌+◌, leb, length, take, Option, None, Some}
use Rattle.base.specs.Choice.{choose, case_option}

-- the line that a buffer holds, of so many bytes, where there are so many
unfoldable pub line_of : List ℕ → Option ℕ → Option (List ℕ)
line_of buffer len = case_option len None (λ (n : ℕ). choose (leb n (length buffer)) (Some (take n buffer)) None)

-- a line with one more part, where a buffer has room for both
unfoldable pub with_part : ℕ → Option (List ℕ) → List ℕ → Option (List ℕ)
with_part room line part =
    case_option line None (λ (bytes : List ℕ). choose (leb (length bytes + length part) room) (Some (bytes ++ part)) None)
