-- Numbers in bytes with the least significant byte first: the library's numbers of bytes and bytes of numbers, and the parts of the law, each by
-- induction over the width.
-- Assumes nothing.
use mathlib.Core.Path.{◌≡◌, refl, ap, sym, ◌∙◌}
use mathlib.Core.Bool.{Bool, true, false}
use mathlib.Core.List.{List, [], ◌∷◌}
use Prim.Native.Nat.{ℕ, zero, suc, ◌+◌, ◌*◌, ◌/◌, ◌%◌, ◌^◌, ◌≤◌, ◌<◌}
use native.Mathlib.Nat.{pow-suc, pow-succ', div-div-eq-div-mul, mul_assoc}
use native.Mathlib.Omega.{arith}
use lib.Dec.{ltb}
use lib.ListN.{length, get_or, take, drop, length-take, length-drop, get_or-eq_default}
use lib.Seq.{length-take-le, get_or-take, get_or-drop}
use borrow.Author.Tests.{ltb-true, ltb-false}
use Rattle.std.specs.Array.{IsWholeChunk}
use Rattle.std.specs.Int.{byte_at, byte_worth, bytes_low_first, sum_through}
use Rattle.endian.specs.LittleEndian.{field, from_le_bytes, to_le_bytes, Bytes}

-- so many bytes are so many
pub to_size : (width n : ℕ) → length (to_le_bytes width n) ≡ width
unfolding to_le_bytes
to_size zero n = refl
to_size (suc width) n = ap suc (to_size width (n / 256))

-- a sum that begins at its first term
sum_from : (f : ℕ → ℕ) (k : ℕ) → sum_through f (suc k) ≡ f 0 + sum_through (λ i. f (suc i)) k
sum_from f zero = refl
sum_from f (suc k) = omega (arith, sum_from f k)

-- bytes one place higher count 256 times as much
worth_next : (f : ℕ → ℕ) (k : ℕ) → sum_through (λ i. byte_worth (suc i) (f i)) k ≡ 256 * sum_through (λ i. byte_worth i (f i)) k
worth_next f zero = omega arith
worth_next f (suc k) = omega (arith, worth_next f k, ap (λ (n : ℕ). f (suc k) * n) (pow-suc 256 (suc k)) ∙ sym (mul_assoc (f (suc k)) (256 ^ suc k) 256))

-- the library's number of bytes is the number that they make
from_worth : (bytes : List ℕ) (k : ℕ) → length bytes ≡ suc k → sum_through (λ i. byte_worth i (get_or bytes i 0)) k ≡ from_le_bytes bytes
unfolding from_le_bytes
from_worth [] k h = absurd (omega arith)
from_worth (byte ∷ []) zero h = omega arith
from_worth (byte ∷ more ∷ bytes) zero h = absurd (omega arith)
from_worth (byte ∷ bytes) (suc k) h =
    omega (
      arith,
      sum_from (λ i. byte_worth i (get_or (byte ∷ bytes) i 0)) k,
      worth_next (λ i. get_or bytes i 0) k,
      from_worth bytes k (omega arith),
    )

-- the four or eight bytes that a number of the library's was made of
pub from_chunk : (bytes chunk : List ℕ) (r k : ℕ) → IsWholeChunk bytes chunk (suc k) → r ≡ sum_through (λ i. byte_worth i (get_or chunk i 0)) k → r ≡ from_le_bytes bytes
from_chunk bytes chunk r k h e = rw (e, h.same) (from_worth bytes k h.long)

-- the library's bytes of a number from one on are the number's bytes
to_from_place : (place width n : ℕ) → bytes_low_first place width n ≡ to_le_bytes width (n / 256 ^ place)
unfolding to_le_bytes
to_from_place place zero n = refl
to_from_place place (suc width) n = ap (λ (b : ℕ). b ∷ bytes_low_first (suc place) width n) (at_place place n) ∙ ap (λ (l : List ℕ). n / 256 ^ place % 256 ∷ l) (to_from_place (suc place) width n ∙ ap (to_le_bytes width) (above place n))
  where
    at_place : (place n : ℕ) → byte_at place n ≡ n / 256 ^ place % 256
    at_place zero n = omega arith
    at_place (suc place) n = refl

    above : (place n : ℕ) → n / 256 ^ suc place ≡ n / 256 ^ place / 256
    above place n = ap (λ (m : ℕ). n / m) (pow-suc 256 place) ∙ sym (div-div-eq-div-mul n (256 ^ place) 256)

-- the bytes that the library makes of a number
pub to_chunk : (bytes : List ℕ) (width n : ℕ) → bytes ≡ bytes_low_first 0 width n → bytes ≡ to_le_bytes width n
to_chunk bytes width n e = e ∙ to_from_place 0 width n ∙ ap (to_le_bytes width) (omega arith)

-- the parts of the law
pub to_byte : (width n place : ℕ) → place < width → get_or (to_le_bytes width n) place 0 ≡ n / 256 ^ place % 256
unfolding to_le_bytes
to_byte zero n place h = absurd (omega arith)
to_byte (suc width) n zero h = omega arith
to_byte (suc width) n (suc place) h =
    to_byte width (n / 256) place (omega arith)
    ∙ ap (λ (m : ℕ). m % 256) (div-div-eq-div-mul n 256 (256 ^ place) ∙ ap (λ (m : ℕ). n / m) (sym (pow-succ' 256 place)))

pub to_from : (width n : ℕ) → n < 256 ^ width → from_le_bytes (to_le_bytes width n) ≡ n
unfolding from_le_bytes to_le_bytes
to_from zero n h = omega arith
to_from (suc width) n h = omega (arith, to_from width (n / 256) (omega (arith, pow-suc 256 width)))

-- what follows the first byte are bytes
rest_bytes : (byte : ℕ) (bytes : List ℕ) → Bytes (byte ∷ bytes) → Bytes bytes
rest_bytes byte bytes b = record { below = λ place. b.below (suc place) }

pub from_bound : (bytes : List ℕ) → Bytes bytes → from_le_bytes bytes < 256 ^ length bytes
unfolding from_le_bytes
from_bound [] b = omega arith
from_bound (byte ∷ bytes) b = omega (arith, from_bound bytes (rest_bytes byte bytes b), b.below 0, pow-suc 256 (length bytes))

pub from_to : (bytes : List ℕ) → Bytes bytes → to_le_bytes (length bytes) (from_le_bytes bytes) ≡ bytes
unfolding from_le_bytes to_le_bytes
from_to [] b = refl
from_to (byte ∷ bytes) b =
    let first : (byte + 256 * from_le_bytes bytes) % 256 ≡ byte = omega (arith, b.below 0) in
    let rest : (byte + 256 * from_le_bytes bytes) / 256 ≡ from_le_bytes bytes = omega (arith, b.below 0) in
    rw (first, rest) (ap (λ (l : List ℕ). byte ∷ l) (from_to bytes (rest_bytes byte bytes b)))

-- a part of a list of bytes
module _ (bytes : List ℕ) (b : Bytes bytes) where
  part_bytes : (at width : ℕ) → Bytes (take width (drop at bytes))
  part_bytes at width = record { below = λ (place : ℕ). within place (ltb place width) refl }
    where
      within : (place : ℕ) (t : Bool) → ltb place width ≡ t → get_or (take width (drop at bytes)) place 0 < 256
      within place true e =
          rw (get_or-take width (drop at bytes) place 0 (ltb-true place width e), get_or-drop at bytes place 0) (b.below (at + place))
      within place false e =
          rw (get_or-eq_default (take width (drop at bytes)) 0 {n = place} (omega (arith, ltb-false place width e, length-take width (drop at bytes)))) (omega arith)

  part_again : (at width : ℕ) → at + width ≤ length bytes → to_le_bytes width (field at width bytes) ≡ take width (drop at bytes)
  unfolding field
  part_again at width h =
      let size : length (take width (drop at bytes)) ≡ width =
      length-take-le width (drop at bytes) (omega (arith, length-drop at bytes)) in
      ap (λ (n : ℕ). to_le_bytes n (from_le_bytes (take width (drop at bytes)))) (sym size)
      ∙ from_to (take width (drop at bytes)) (part_bytes at width)

pub to_part : (at width : ℕ) (bytes : List ℕ) → Bytes bytes → at + width ≤ length bytes → to_le_bytes width (field at width bytes) ≡ take width (drop at bytes)
to_part at width bytes b = part_again bytes b at width
