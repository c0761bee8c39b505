-- Numbers in bytes with the least significant byte first, for every width.
use Rattle.std.specs.Prelude.{◌≡◌, List, [], ◌∷◌, ℕ, zero, suc, ◌+◌, ◌*◌, ◌/◌, ◌%◌, ◌^◌, ◌≤◌, ◌<◌, length, get_or, take, drop}

-- the number that bytes make
unfoldable pub from_le_bytes : List ℕ → ℕ
from_le_bytes [] = 0
from_le_bytes (byte ∷ bytes) = byte + 256 * from_le_bytes bytes

-- so many bytes of a number
unfoldable pub to_le_bytes : (width number : ℕ) → List ℕ
to_le_bytes zero number = []
to_le_bytes (suc width) number = number % 256 ∷ to_le_bytes width (number / 256)

-- the number that stands at a place, of so many bytes
unfoldable pub field : (at width : ℕ) → List ℕ → ℕ
field at width bytes = from_le_bytes (take width (drop at bytes))

-- Every element of a list is a byte.
pub record Bytes (list : List ℕ) : Type 0 where
  pub below : (place : ℕ) → get_or list place 0 < 256

-- The byte at a place counts 256 ^ place, and numbers and bytes of every width are made of each other, those that stand at a place too.
pub record LittleEndianLaw : Type 0 where
  pub size : (width number : ℕ) → length (to_le_bytes width number) ≡ width
  pub byte : (width number place : ℕ) → place < width → get_or (to_le_bytes width number) place 0 ≡ number / 256 ^ place % 256
  pub number : (width number : ℕ) → number < 256 ^ width → from_le_bytes (to_le_bytes width number) ≡ number
  pub bound : (bytes : List ℕ) → Bytes bytes → from_le_bytes bytes < 256 ^ length bytes
  pub bytes : (bytes : List ℕ) → Bytes bytes → to_le_bytes (length bytes) (from_le_bytes bytes) ≡ bytes
  pub part : (at width : ℕ) (bytes : List ℕ) → Bytes bytes → at + width ≤ length bytes → to_le_bytes width (field at width bytes) ≡ take width (drop at bytes)
