-- Decimal numbers in text: what a word reads as, and how a number is written.
use Rattle.std.specs.Prelude.{◌≡◌, List, [], ◌∷◌, ℕ, zero, suc, ◌+◌, ◌-◌, ◌*◌, ◌/◌, ◌%◌, ◌≤◌, ltb, eqb, length, drop, Option, None, Some}
use Rattle.base.specs.Choice.{choose, case_option}

-- the greatest number that 64 bits hold
abbrev pub greatest : ℕ
greatest = 18446744073709551615

-- a value with one more byte, which has to be a digit
unfoldable pub with_digit : ℕ → ℕ → Option ℕ
with_digit value byte =
    choose (ltb byte 48) None
    (choose (ltb 57 byte) None
    (choose (ltb greatest (value * 10 + (byte - 48))) None
    (Some (value * 10 + (byte - 48)))))

-- what the bytes that are left read as after a value: each has to be a digit, and no value goes above the greatest
unfoldable pub number_from : ℕ → List ℕ → Option ℕ
number_from value [] = Some value
number_from value (byte ∷ bytes) = case_option (with_digit value byte) None (λ (more : ℕ). number_from more bytes)

-- what a word reads as: one or more digits, of which the first may be zeros, up to the greatest number
unfoldable pub number_of : List ℕ → Option ℕ
number_of [] = None
number_of (byte ∷ bytes) = number_from 0 (byte ∷ bytes)

-- the digits of a number, at most so many, in front of a text
unfoldable pub digits_from : ℕ → ℕ → List ℕ → List ℕ
digits_from zero n text = text
digits_from (suc places) n text =
    choose (eqb (n / 10) 0) ((48 + n % 10) ∷ text) (digits_from places (n / 10) ((48 + n % 10) ∷ text))

-- the digits of a number, of which 64 bits have at most twenty, with no zeros in front
unfoldable pub digits_of : ℕ → List ℕ
digits_of n = digits_from 20 n []

-- The digits of a number stand at the end of a list of twenty bytes, from a position on.
pub record Spelt (n : ℕ) (bytes : List ℕ) (start : ℕ) : Type 0 where
  pub within : start ≤ 20
  pub size : length bytes ≡ 20
  pub digits : drop start bytes ≡ digits_of n

-- A written number reads back to itself.
pub record ReadsBack : Type 0 where
  pub same : (n : ℕ) → n ≤ greatest → number_of (digits_of n) ≡ Some n
