-- Bytes in hexadecimal digits: what a word reads as, and how bytes are written.
use Rattle.std.specs.Prelude.{◌≡◌, List, [], ◌∷◌, ◌++◌, map, ℕ, ◌+◌, ◌-◌, ◌*◌, ◌/◌, ◌%◌, ◌<◌, ltb, leb, eqb, length, get_or, drop, Option, None, Some, option_map}
use Rattle.base.specs.Choice.{choose, ◌and◌, case_option}

-- the value of a digit, `0` to `9`, `A` to `F` or `a` to `f`
unfoldable pub digit_value : ℕ → Option ℕ
digit_value byte =
    choose (ltb byte 48) None
    (choose (ltb byte 58) (Some (byte - 48))
    (choose (ltb byte 65) None
    (choose (ltb byte 71) (Some (byte - 55))
    (choose (ltb byte 97) None
    (choose (ltb byte 103) (Some (byte - 87)) None)))))

-- the byte that two digits stand for, the high one first
unfoldable pub byte_of : ℕ → ℕ → Option ℕ
byte_of high low =
    case_option (digit_value high) None (λ (sixteens : ℕ). case_option (digit_value low) None (λ (ones : ℕ). Some (sixteens * 16 + ones)))

-- the bytes that pairs of digits stand for
unfoldable pub pair_bytes : List ℕ → Option (List ℕ)
pair_bytes [] = Some []
pair_bytes (high ∷ []) = None
pair_bytes (high ∷ low ∷ digits) =
    case_option (byte_of high low) None (λ (byte : ℕ). option_map (λ (bytes : List ℕ). byte ∷ bytes) (pair_bytes digits))

-- the bytes that a word stands for: pairs of digits, or `-` for no bytes
unfoldable pub read_hex : List ℕ → Option (List ℕ)
read_hex [] = None
read_hex (byte ∷ []) = choose (eqb byte 45) (Some []) None
read_hex (high ∷ low ∷ digits) = pair_bytes (high ∷ low ∷ digits)

-- a buffer that bytes were read into, and the answer: how many stand at its front
pub record Reading : Type 0 where
  pub bytes : List ℕ
  pub answer : Option ℕ

-- what was read, put at a buffer's front; where nothing was read or it does not fit, the buffer as it came
unfoldable pub into_buffer : Option (List ℕ) → List ℕ → Reading
into_buffer None came = record { bytes = came; answer = None }
into_buffer (Some bytes) came =
    choose (leb (length bytes) (length came)) (record { bytes = bytes ++ drop (length bytes) came; answer = Some (length bytes) })
    (record { bytes = came; answer = None })

-- What a call reads into a buffer: what it leaves there and answers.
pub record Reads (read : Option (List ℕ)) (came left : List ℕ) (answer : Option ℕ) : Type 0 where
  pub buffer : record { bytes = left; answer = answer } ≡ into_buffer read came

-- the digit of a value below 16, in lower case
unfoldable pub hex_digit : ℕ → ℕ
hex_digit value = choose (ltb value 10) (48 + value) (87 + value)

-- the digits of bytes, two for each
unfoldable pub hex_digits : List ℕ → List ℕ
hex_digits [] = []
hex_digits (byte ∷ bytes) = hex_digit (byte / 16) ∷ hex_digit (byte % 16) ∷ hex_digits bytes

-- how bytes are written: their digits, or `-` for none
unfoldable pub hex_of : List ℕ → List ℕ
hex_of [] = 45 ∷ []
hex_of (byte ∷ bytes) = hex_digits (byte ∷ bytes)

-- a byte, a letter in lower case
unfoldable pub lower_case : ℕ → ℕ
lower_case byte = choose (leb 65 byte and leb byte 90) (byte + 32) byte

-- Written bytes read back to themselves, a word reads the same in lower case, and no word reads as bytes but the one that they are
-- written as, in either case.
pub record HexReadsBack : Type 0 where
  pub same : (bytes : List ℕ) → ((i : ℕ) → get_or bytes i 0 < 256) → read_hex (hex_of bytes) ≡ Some bytes
  pub either : (word : List ℕ) → read_hex (map lower_case word) ≡ read_hex word
  pub only : (word bytes : List ℕ) → read_hex word ≡ Some bytes → map lower_case word ≡ hex_of bytes
