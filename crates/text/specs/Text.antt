-- Text put into a buffer from a position on; what does not fit is left out.
use Rattle.std.specs.Prelude.{◌≡◌, List, [], ◌∷◌, ℕ, ◌+◌, ◌≤◌, ltb, length, set, take, drop}
use Rattle.base.specs.Choice.{choose}
use Rattle.text.specs.declared.text.Output.{Output}

-- a buffer, and the position after what was put into it
pub record Buffer : Type 0 where
  pub bytes : List ℕ
  pub at : ℕ

-- a byte put at the position
unfoldable pub put_byte : Buffer → ℕ → Buffer
put_byte b byte = choose (ltb b.at (length b.bytes)) (record { bytes = set b.bytes b.at byte; at = b.at + 1 }) b

-- bytes put, one after another
unfoldable pub put_bytes : Buffer → List ℕ → Buffer
put_bytes b [] = b
put_bytes b (byte ∷ text) = put_bytes (put_byte b byte) text

-- What a call puts: the buffer that it leaves and the position that it answers.
pub record Puts (bytes : List ℕ) (at : ℕ) (text left : List ℕ) (end : ℕ) : Type 0 where
  pub buffer : record { bytes = left; at = end } ≡ put_bytes (record { bytes = bytes; at = at }) text

-- What a call prints: it puts a text into the buffer that the output lends, behind what was put before.
pub record Prints (old : Output) (text : List ℕ) (new : Output) : Type 0 where
  pub lent : new.buffer.ghost_name ≡ old.buffer.ghost_name
  pub put : Puts old.buffer.now old.at text new.buffer.now new.at

-- Where there is room, the text stands in the buffer from the position on.
pub record Stands : Type 0 where
  pub end : (bytes : List ℕ) (at : ℕ) (text : List ℕ) → at + length text ≤ length bytes
      → (put_bytes (record { bytes = bytes; at = at }) text).at ≡ at + length text
  pub text : (bytes : List ℕ) (at : ℕ) (text : List ℕ) → at + length text ≤ length bytes
      → take (length text) (drop at (put_bytes (record { bytes = bytes; at = at }) text).bytes) ≡ text
