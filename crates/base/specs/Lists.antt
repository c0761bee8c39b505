-- Lists of numbers: zeros, consecutive numbers, and the ones of words.
use Rattle.std.specs.Prelude.{List, [], ◌∷◌, ℕ, zero, suc, ◌+◌, replicate}
use Rattle.std.specs.Int.Count.{ones}

-- so many zeros
unfoldable pub zeros : ℕ → List ℕ
zeros size = replicate size 0

-- so many consecutive numbers from one on
unfoldable pub up_from : (first count : ℕ) → List ℕ
up_from first zero = []
up_from first (suc count) = first ∷ up_from (suc first) count

-- the number of ones in the words
unfoldable pub ones_of : List ℕ → ℕ
ones_of [] = 0
ones_of (w ∷ words) = ones w + ones_of words
