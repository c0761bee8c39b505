-- Hexadecimal digits: written bytes read back to themselves, in either case, and no other word reads as them.
-- Assumes nothing.
use mathlib.Core.Path.{◌≡◌, refl, ap, sym, ◌∙◌}
use mathlib.Core.Bool.{Bool, true, false}
use mathlib.Core.List.{List, [], ◌∷◌, map}
use Prim.Native.Nat.{ℕ, suc, ◌+◌, ◌-◌, ◌*◌, ◌/◌, ◌%◌, ◌≤◌, ◌<◌}
use native.Mathlib.Omega.{arith}
use lib.Dec.{ltb, leb, eqb}
use lib.ListN.{get_or}
use borrow.Author.Tests.{lt-ltb, le-ltb, le-leb, lt-leb, ltb-true, ltb-false, leb-true, eqb-true, ne_eqb}
use Rattle.std.proofs.Common.{Option, None, Some, option_map}
use Rattle.std.proofs.lemmas.Option.{same_Some}
use Rattle.base.specs.Choice.{choose, ◌and◌, case_option}
use Rattle.base.proofs.Choice.{known_choice, known_option}
use Rattle.text.specs.Hex.{digit_value, byte_of, pair_bytes, read_hex, hex_digit, hex_digits, hex_of, lower_case, HexReadsBack}

-- the values of bytes
value_decimal : (byte : ℕ) → 48 ≤ byte → byte < 58 → digit_value byte ≡ Some (byte - 48)
unfolding digit_value choose
value_decimal byte h k = rw (le-ltb byte 48 h, lt-ltb byte 58 k)

value_lower : (byte : ℕ) → 97 ≤ byte → byte < 103 → digit_value byte ≡ Some (byte - 87)
unfolding digit_value choose
value_lower byte h k =
    rw (
      le-ltb byte 48 (omega arith),
      le-ltb byte 58 (omega arith),
      le-ltb byte 65 (omega arith),
      le-ltb byte 71 (omega arith),
      le-ltb byte 97 h,
      lt-ltb byte 103 k,
    )

value_upper : (byte : ℕ) → 65 ≤ byte → byte < 71 → digit_value byte ≡ Some (byte - 55)
unfolding digit_value choose
value_upper byte h k = rw (le-ltb byte 48 (omega arith), le-ltb byte 58 (omega arith), le-ltb byte 65 h, lt-ltb byte 71 k)

value_between : (byte : ℕ) → 71 ≤ byte → byte < 97 → digit_value byte ≡ None
unfolding digit_value choose
value_between byte h k =
    rw (le-ltb byte 48 (omega arith), le-ltb byte 58 (omega arith), le-ltb byte 65 (omega arith), le-ltb byte 71 h, lt-ltb byte 97 k)

value_past : (byte : ℕ) → 103 ≤ byte → digit_value byte ≡ None
unfolding digit_value choose
value_past byte h =
    rw (
      le-ltb byte 48 (omega arith),
      le-ltb byte 58 (omega arith),
      le-ltb byte 65 (omega arith),
      le-ltb byte 71 (omega arith),
      le-ltb byte 97 (omega arith),
      le-ltb byte 103 h,
    )

-- a written digit reads back to its value
digit_reads : (value : ℕ) (t : Bool) → value < 16 → ltb value 10 ≡ t → digit_value (choose t (48 + value) (87 + value)) ≡ Some value
unfolding choose
digit_reads value true h e =
    let low : value < 10 = ltb-true value 10 e in
    value_decimal (48 + value) (omega arith) (omega arith) ∙ ap Some (omega arith)
digit_reads value false h e =
    let high : 10 ≤ value = ltb-false value 10 e in
    value_lower (87 + value) (omega arith) (omega arith) ∙ ap Some (omega arith)

digit_back : (value : ℕ) → value < 16 → digit_value (hex_digit value) ≡ Some value
unfolding hex_digit
digit_back value h = digit_reads value (ltb value 10) h refl

-- the digits of a byte and a text after it
byte_back : (byte : ℕ) (text : List ℕ) → byte < 256
    → pair_bytes (hex_digit (byte / 16) ∷ hex_digit (byte % 16) ∷ text) ≡ option_map (λ (bytes : List ℕ). byte ∷ bytes) (pair_bytes text)
unfolding pair_bytes byte_of case_option
byte_back byte text h =
    let high : byte / 16 < 16 = omega arith in
    let low : byte % 16 < 16 = omega arith in
    let same : byte / 16 * 16 + byte % 16 ≡ byte = omega arith in
    rw (digit_back (byte / 16) high, digit_back (byte % 16) low, same)

digits_back : (bytes : List ℕ) → ((i : ℕ) → get_or bytes i 0 < 256) → pair_bytes (hex_digits bytes) ≡ Some bytes
unfolding hex_digits pair_bytes
digits_back [] h = refl
digits_back (byte ∷ bytes) h =
    byte_back byte (hex_digits bytes) (h 0) ∙ rw (digits_back bytes (λ (i : ℕ). h (suc i)))

written_back : (bytes : List ℕ) → ((i : ℕ) → get_or bytes i 0 < 256) → read_hex (hex_of bytes) ≡ Some bytes
unfolding hex_of hex_digits read_hex choose
written_back [] h = refl
written_back (byte ∷ bytes) h = digits_back (byte ∷ bytes) h

-- a byte in lower case: a letter moves, and no other byte
both : (a b : Bool) → a and b ≡ true → (a ≡ true) × (b ≡ true)
unfolding choose
both true b e = (refl, e)
both false b e = cc

module _ (P : ℕ → Type 0) (byte : ℕ) where
  of_case : (65 ≤ byte → byte ≤ 90 → P (byte + 32)) → P byte → P (lower_case byte)
  unfolding lower_case
  of_case p q =
      known_choice P (leb 65 byte and leb byte 90) (byte + 32) byte
      (λ e. let tests : (leb 65 byte ≡ true) × (leb byte 90 ≡ true) = both _ _ e in p (leb-true 65 byte tests.0) (leb-true byte 90 tests.1))
      (λ e. q)

letter_value : (byte : ℕ) (t : Bool) → 65 ≤ byte → byte ≤ 90 → ltb byte 71 ≡ t → digit_value (byte + 32) ≡ digit_value byte
letter_value byte true h k e =
    let digit : byte < 71 = ltb-true byte 71 e in
    value_lower (byte + 32) (omega arith) (omega arith) ∙ ap Some (omega arith) ∙ sym (value_upper byte h digit)
letter_value byte false h k e =
    let other : 71 ≤ byte = ltb-false byte 71 e in
    value_past (byte + 32) (omega arith) ∙ sym (value_between byte other (omega arith))

lower_value : (byte : ℕ) → digit_value (lower_case byte) ≡ digit_value byte
lower_value byte = of_case (λ (n : ℕ). digit_value n ≡ digit_value byte) byte (λ h k. letter_value byte (ltb byte 71) h k refl) refl

lower_dash : (byte : ℕ) → eqb (lower_case byte) 45 ≡ eqb byte 45
lower_dash byte =
    of_case (λ (n : ℕ). eqb n 45 ≡ eqb byte 45) byte
    (λ h k. ne_eqb (byte + 32) 45 (λ e. omega arith) ∙ sym (ne_eqb byte 45 (λ e. omega arith)))
    refl

lower_pairs : (word : List ℕ) → pair_bytes (map lower_case word) ≡ pair_bytes word
unfolding pair_bytes byte_of
lower_pairs [] = refl
lower_pairs (high ∷ []) = refl
lower_pairs (high ∷ low ∷ word) = rw (lower_value high, lower_value low, lower_pairs word)

either_case : (word : List ℕ) → read_hex (map lower_case word) ≡ read_hex word
unfolding read_hex
either_case [] = refl
either_case (byte ∷ []) = rw (lower_dash byte)
either_case (high ∷ low ∷ word) = lower_pairs (high ∷ low ∷ word)

-- a digit in lower case is how its value is written
module _ (byte value : ℕ) where
  IsLowered : Option ℕ → Type 0
  IsLowered o = o ≡ Some value → (lower_case byte ≡ hex_digit value) × (value < 16)

  unread : IsLowered None
  unfolding IsLowered
  unread e = cc

  decimal : 48 ≤ byte → byte < 58 → IsLowered (Some (byte - 48))
  unfolding IsLowered lower_case hex_digit choose
  decimal h k e =
      let same : byte ≡ 48 + value = omega (arith, same_Some (byte - 48) value e) in
      (rw (lt-leb 65 byte (omega arith), lt-ltb value 10 (omega arith), same), omega arith)

  upper : 65 ≤ byte → byte < 71 → IsLowered (Some (byte - 55))
  unfolding IsLowered lower_case hex_digit choose
  upper h k e =
      let same : byte ≡ 55 + value = omega (arith, same_Some (byte - 55) value e) in
      let moved : byte + 32 ≡ 87 + value = omega arith in
      (rw (le-leb 65 byte h, le-leb byte 90 (omega arith), le-ltb value 10 (omega arith), moved), omega arith)

  lower : 97 ≤ byte → byte < 103 → IsLowered (Some (byte - 87))
  unfolding IsLowered lower_case hex_digit choose
  lower h k e =
      let same : byte ≡ 87 + value = omega (arith, same_Some (byte - 87) value e) in
      (rw (le-leb 65 byte (omega arith), lt-leb byte 90 (omega arith), le-ltb value 10 (omega arith), same), omega arith)

lowered : (byte value : ℕ) → IsLowered byte value (digit_value byte)
unfolding digit_value
lowered byte value =
    known_choice (IsLowered byte value) (ltb byte 48) _ _ (λ e. unread byte value)
    (λ a. known_choice (IsLowered byte value) (ltb byte 58) _ _ (λ e. decimal byte value (ltb-false byte 48 a) (ltb-true byte 58 e))
    (λ e. known_choice (IsLowered byte value) (ltb byte 65) _ _ (λ e. unread byte value)
    (λ b. known_choice (IsLowered byte value) (ltb byte 71) _ _ (λ e. upper byte value (ltb-false byte 65 b) (ltb-true byte 71 e))
    (λ e. known_choice (IsLowered byte value) (ltb byte 97) _ _ (λ e. unread byte value)
    (λ d. known_choice (IsLowered byte value) (ltb byte 103) _ _ (λ e. lower byte value (ltb-false byte 97 d) (ltb-true byte 103 e)) (λ e. unread byte value))))))

-- two digits in lower case are how their byte is written
pair_written : (high low byte : ℕ) → byte_of high low ≡ Some byte → (lower_case high ≡ hex_digit (byte / 16)) × (lower_case low ≡ hex_digit (byte % 16))
unfolding byte_of IsLowered
pair_written high low byte =
    known_option (λ (o : Option ℕ). o ≡ Some byte → (lower_case high ≡ hex_digit (byte / 16)) × (lower_case low ≡ hex_digit (byte % 16))) (digit_value high) None _
    (λ e. cc)
    (λ sixteens h. known_option (λ (o : Option ℕ). o ≡ Some byte → (lower_case high ≡ hex_digit (byte / 16)) × (lower_case low ≡ hex_digit (byte % 16)))
    (digit_value low) None _ (λ e. cc)
    (λ ones k e.
    let first : (lower_case high ≡ hex_digit sixteens) × (sixteens < 16) = lowered high sixteens h in
    let second : (lower_case low ≡ hex_digit ones) × (ones < 16) = lowered low ones k in
    let whole : sixteens * 16 + ones ≡ byte = same_Some _ _ e in
    let front : byte / 16 ≡ sixteens = omega arith in
    let back : byte % 16 ≡ ones = omega arith in
    (rw front first.0, rw back second.0)))

-- what pairs of digits read as is how they are written in lower case
data Spells (word : List ℕ) : Option (List ℕ) → Type 0 where
  unspelt : Spells word None
  read : (bytes : List ℕ) → map lower_case word ≡ hex_digits bytes → Spells word (Some bytes)

spells_with : (high low byte : ℕ) (word : List ℕ) (o : Option (List ℕ)) → byte_of high low ≡ Some byte → Spells word o
    → Spells (high ∷ low ∷ word) (option_map (λ (bytes : List ℕ). byte ∷ bytes) o)
unfolding hex_digits
spells_with high low byte word None e unspelt = unspelt
spells_with high low byte word (Some bytes) e (read _ s) =
    let pair : (lower_case high ≡ hex_digit (byte / 16)) × (lower_case low ≡ hex_digit (byte % 16)) = pair_written high low byte e in
    read (byte ∷ bytes) (rw (pair.0, pair.1, s))

spells : (word : List ℕ) → Spells word (pair_bytes word)
unfolding pair_bytes hex_digits
spells [] = read [] refl
spells (high ∷ []) = unspelt
spells (high ∷ low ∷ word) =
    known_option (Spells (high ∷ low ∷ word)) (byte_of high low) None _ unspelt
    (λ byte e. spells_with high low byte word (pair_bytes word) e (spells word))

spelt : (word : List ℕ) (o : Option (List ℕ)) (bytes : List ℕ) → Spells word o → o ≡ Some bytes → map lower_case word ≡ hex_digits bytes
spelt word None bytes unspelt e = cc
spelt word (Some _) bytes (read found s) e = let same : found ≡ bytes = cc in rw (← same) s

some_digits : (high : ℕ) (word bytes : List ℕ) → high ∷ word ≡ hex_digits bytes → high ∷ word ≡ hex_of bytes
unfolding hex_digits hex_of
some_digits high word [] e = cc
some_digits high word (byte ∷ bytes) e = e

dash_only : (byte : ℕ) (t : Bool) (bytes : List ℕ) → eqb byte 45 ≡ t → choose t (Some []) None ≡ Some bytes → lower_case byte ∷ [] ≡ hex_of bytes
unfolding choose hex_of lower_case
dash_only byte true bytes d e =
    let dash : byte ≡ 45 = eqb-true byte 45 d in
    let empty : [] ≡ bytes = cc in
    rw (← empty, dash)
dash_only byte false bytes d e = cc

only_written : (word bytes : List ℕ) → read_hex word ≡ Some bytes → map lower_case word ≡ hex_of bytes
unfolding read_hex
only_written [] bytes e = cc
only_written (byte ∷ []) bytes e = dash_only byte (eqb byte 45) bytes refl e
only_written (high ∷ low ∷ word) bytes e =
    some_digits (lower_case high) (map lower_case (low ∷ word)) bytes
    (spelt (high ∷ low ∷ word) (pair_bytes (high ∷ low ∷ word)) bytes (spells (high ∷ low ∷ word)) e)

pub hex_reads_back : HexReadsBack
hex_reads_back = record { same = written_back; either = either_case; only = only_written }
