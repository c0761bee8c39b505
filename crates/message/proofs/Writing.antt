-- What `write_header` leaves.
-- Assumes nothing.
use mathlib.Core.Path.{◌≡◌, ap, ◌∙◌}
use mathlib.Core.List.{List, [], ◌++◌, append-nil}
use Prim.Native.Nat.{ℕ}
use native.Mathlib.Omega.{arith}
use lib.ListN.{length, drop, length-append, length-drop, drop_of_length-le}
use borrow.Rule.Slice.PartMut.{put_mid}
use Rattle.base.proofs.Parts.{put_next}
use Rattle.endian.specs.LittleEndian.{to_le_bytes}
use Rattle.endian.proofs.Laws.{little_endian_law}
use Rattle.message.specs.Message.{header}

module _ (bytes : List ℕ) (receiver counter : ℕ) (type index count : List ℕ) (a : type ≡ to_le_bytes 4 4) (b : index ≡ to_le_bytes 4 receiver) (c : count ≡ to_le_bytes 8 counter) where
  -- the three parts, one behind the other
  pub joined : length bytes ≡ 16 → put_mid 8 8 (put_mid 4 4 (type ++ drop 4 (drop 0 bytes)) index) count ≡ header receiver counter
  unfolding header
  joined h =
      let four : length type ≡ 4 = ap length a ∙ little_endian_law.size 4 4 in
      let more : length index ≡ 4 = ap length b ∙ little_endian_law.size 4 receiver in
      let none : drop 8 (drop 4 (drop 4 (drop 0 bytes))) ≡ [] =
      drop_of_length-le (drop 4 (drop 4 bytes)) {i = 8} (omega (arith, length-drop 4 (drop 4 bytes), length-drop 4 bytes)) in
      ap (λ (l : List ℕ). put_mid 8 8 l count) (put_next type (drop 4 (drop 0 bytes)) index 4 4 four)
      ∙ put_next (type ++ index) (drop 4 (drop 4 (drop 0 bytes))) count 8 8 (length-append type index ∙ omega arith)
      ∙ rw (none, append-nil (type ++ index ++ count), a, b, c)
