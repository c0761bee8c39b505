-- Hexadecimal digits put byte by byte: where the loop begins, a turn, and where it ends.
-- Assumes nothing.
use mathlib.Core.Path.{◌≡◌, refl, ap, sym, ◌∙◌}
use mathlib.Core.List.{List, [], ◌∷◌}
use Prim.Native.Nat.{ℕ, suc, ◌+◌, ◌/◌, ◌%◌, ◌≤◌, ◌<◌}
use native.Mathlib.Numerals.{add-one}
use native.Mathlib.Omega.{arith}
use lib.ListN.{length, get_or, drop, drop_of_length-le}
use lib.Seq.{drop-cons}
use Rattle.text.specs.Hex.{hex_digit, hex_digits, hex_of}
use Rattle.text.specs.Text.{Buffer, put_bytes, Puts}

-- no bytes, and some
pub puts_dash : (came : List ℕ) (at : ℕ) (bytes left : List ℕ) (end : ℕ) → length bytes ≡ 0 → Puts came at (45 ∷ []) left end → Puts came at (hex_of bytes) left end
unfolding hex_of
puts_dash came at [] left end h p = p
puts_dash came at (byte ∷ bytes) left end h p = let z : ⊥ = omega arith in absurd z

written : (bytes : List ℕ) → (length bytes ≡ 0 → ⊥) → hex_of bytes ≡ hex_digits bytes
unfolding hex_of
written [] h = absurd (h refl)
written (byte ∷ bytes) h = refl

-- the digits of the first `i` bytes have been put
pub record HexPutting (came : List ℕ) (from : ℕ) (bytes now : List ℕ) (at i : ℕ) : Type 0 where
  pub left : put_bytes (record { bytes = came; at = from }) (hex_digits bytes) ≡ put_bytes (record { bytes = now; at = at }) (hex_digits (drop i bytes))

module _ (came : List ℕ) (from : ℕ) (bytes : List ℕ) where
  pub hex_begins : HexPutting came from bytes came from 0
  hex_begins = record { left = refl }

  module _ (now : List ℕ) (at i : ℕ) (p : HexPutting came from bytes now at i) where
    pub hex_more : (last : List ℕ) (end : ℕ) → i < length bytes
        → Puts now at (hex_digit (get_or bytes i 0 / 16) ∷ hex_digit (get_or bytes i 0 % 16) ∷ []) last end → HexPutting came from bytes last end (i + 1)
    unfolding put_bytes hex_digits
    hex_more last end h e =
        record {
          left =
              rw add-one
              (p.left ∙ rw (drop-cons bytes i 0 h) (ap (λ (b : Buffer). put_bytes b (hex_digits (drop (suc i) bytes))) (sym e.buffer)));
        }

    pub hex_ends : length bytes ≤ i → (length bytes ≡ 0 → ⊥) → Puts came from (hex_of bytes) now at
    unfolding put_bytes hex_digits
    hex_ends h k = record { buffer = sym (rw (written bytes k) (p.left ∙ rw (drop_of_length-le bytes {i = i} h))) }

pub ruleset writing = (hex_begins, hex_more)
