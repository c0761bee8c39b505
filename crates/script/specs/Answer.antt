-- The text of an answer.
use Rattle.std.specs.Prelude.{List, [], ◌∷◌, ◌++◌, ℕ, flat_map}
use Rattle.error.specs.declared.Error.{Error}
use Rattle.error.specs.Error.{error_number}
use Rattle.text.specs.Number.{digits_of}

-- the numbers behind words, each behind a space
abbrev pub numbers_text : List ℕ → List ℕ
numbers_text numbers = flat_map (λ (n : ℕ). 32 ∷ digits_of n) numbers

-- the answer to a line that is turned down: `no` and the number of the reason
abbrev pub refusal : Error → List ℕ
refusal error = (110 ∷ 111 ∷ numbers_text (error_number error ∷ [])) ++ 10 ∷ []
