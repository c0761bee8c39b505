-- Text put byte by byte: where the loop begins, a turn, and where it ends; and what stands in the buffer afterwards.
-- Assumes nothing.
use mathlib.Core.Path.{◌≡◌, refl, ap, sym, subst, ◌∙◌}
use mathlib.Core.Bool.{Bool}
use mathlib.Core.List.{List, [], ◌∷◌}
use Prim.Native.Nat.{ℕ, suc, ◌+◌, ◌-◌, ◌≤◌, ◌<◌}
use native.Mathlib.Numerals.{add-one}
use native.Mathlib.Omega.{arith}
use lib.ListN.{length, get_or, set, take, drop, length-set, length-drop, drop_of_length-le}
use lib.Seq.{take_all, drop-cons, get_or-set_same, get_or-set_other}
use borrow.Author.Tests.{lt-ltb, le-ltb}
use Rattle.base.specs.Choice.{choose}
use Rattle.text.specs.Number.{Spelt, digits_of}
use Rattle.text.specs.Text.{Buffer, put_byte, put_bytes, Puts, Stands}

-- the first `i` bytes of a text have been put
pub record Putting (came : List ℕ) (from : ℕ) (text now : List ℕ) (at i : ℕ) : Type 0 where
  pub left : put_bytes (record { bytes = came; at = from }) text ≡ put_bytes (record { bytes = now; at = at }) (drop i text)

module _ (came : List ℕ) (from : ℕ) (text : List ℕ) where
  pub putting_begins : Putting came from text came from 0
  putting_begins = record { left = refl }

  module _ (now : List ℕ) (at i : ℕ) (p : Putting came from text now at i) where
    pub putting_more : (last : List ℕ) (end : ℕ) → i < length text → Puts now at (get_or text i 0 ∷ []) last end → Putting came from text last end (i + 1)
    unfolding put_bytes
    putting_more last end h e =
        record {
          left = rw add-one (p.left ∙ rw (drop-cons text i 0 h) (ap (λ (b : Buffer). put_bytes b (drop (suc i) text)) (sym e.buffer)));
        }

    pub putting_ends : length text ≤ i → Puts came from text now at
    unfolding put_bytes
    putting_ends h = record { buffer = sym (p.left ∙ rw (drop_of_length-le text {i = i} h)) }

pub ruleset putting = (putting_begins, putting_more, putting_ends)

-- one byte
module _ (now : List ℕ) (at byte : ℕ) where
  pub puts_one : at < length now → Puts now at (byte ∷ []) (set now at byte) (at + 1)
  unfolding put_bytes put_byte choose
  puts_one h = record { buffer = rw (lt-ltb at (length now) h) }

  pub puts_none : length now ≤ at → Puts now at (byte ∷ []) now at
  unfolding put_bytes put_byte choose
  puts_none h = record { buffer = rw (le-ltb at (length now) h) }

pub ruleset one = (puts_one, puts_none)

-- a byte, and a text after it
module _ (came : List ℕ) (at byte : ℕ) where
  pub puts_cons : (mid : List ℕ) (next : ℕ) (text left : List ℕ) (end : ℕ) → Puts came at (byte ∷ []) mid next → Puts mid next text left end
      → Puts came at (byte ∷ text) left end
  unfolding put_bytes
  puts_cons mid next text left end p q = record { buffer = q.buffer ∙ ap (λ (b : Buffer). put_bytes b text) p.buffer }

-- a byte and the digits of a number
pub puts_number : (came : List ℕ) (at byte : ℕ) (mid : List ℕ) (next n start : ℕ) (digits left : List ℕ) (end : ℕ) → Spelt n digits start
    → Puts came at (byte ∷ []) mid next → Puts mid next (take (20 - start) (drop start digits)) left end → Puts came at (byte ∷ digits_of n) left end
puts_number came at byte mid next n start digits left end s p q =
    let all : take (20 - start) (drop start digits) ≡ digits_of n =
    take_all (20 - start) (drop start digits) (rw length-drop (omega (arith, s.size))) ∙ s.digits
    in
    puts_cons came at byte mid next (digits_of n) left end p (rw all at q)

-- what stands in the buffer where there is room
put_room : (text bytes : List ℕ) (at byte : ℕ) → at < length bytes
    → put_bytes (record { bytes = bytes; at = at }) (byte ∷ text) ≡ put_bytes (record { bytes = set bytes at byte; at = at + 1 }) text
unfolding put_bytes put_byte choose
put_room text bytes at byte h =
    ap (λ (t : Bool). put_bytes (choose t (record { bytes = set bytes at byte; at = at + 1 }) (record { bytes = bytes; at = at })) text)
    (lt-ltb at (length bytes) h)

room : (text bytes : List ℕ) (at byte : ℕ) → at + length (byte ∷ text) ≤ length bytes → at + 1 + length text ≤ length (set bytes at byte)
room text bytes at byte h = rw length-set (omega arith)

ends_at : (text bytes : List ℕ) (at : ℕ) → at + length text ≤ length bytes → (put_bytes (record { bytes = bytes; at = at }) text).at ≡ at + length text
unfolding put_bytes
ends_at [] bytes at h = omega arith
ends_at (byte ∷ text) bytes at h =
    rw (put_room text bytes at byte (omega arith)) (ends_at text (set bytes at byte) (at + 1) (room text bytes at byte h) ∙ omega arith)

as_long : (text bytes : List ℕ) (at : ℕ) → at + length text ≤ length bytes
    → length (put_bytes (record { bytes = bytes; at = at }) text).bytes ≡ length bytes
unfolding put_bytes
as_long [] bytes at h = refl
as_long (byte ∷ text) bytes at h =
    rw (put_room text bytes at byte (omega arith)) (as_long text (set bytes at byte) (at + 1) (room text bytes at byte h) ∙ length-set bytes at byte)

before : (text bytes : List ℕ) (at j : ℕ) → at + length text ≤ length bytes → j < at
    → get_or (put_bytes (record { bytes = bytes; at = at }) text).bytes j 0 ≡ get_or bytes j 0
unfolding put_bytes
before [] bytes at j h k = refl
before (byte ∷ text) bytes at j h k =
    rw (put_room text bytes at byte (omega arith))
    (before text (set bytes at byte) (at + 1) j (room text bytes at byte h) (omega arith) ∙ get_or-set_other bytes at j byte 0 (λ e. omega arith))

stands_at : (text bytes : List ℕ) (at : ℕ) → at + length text ≤ length bytes
    → take (length text) (drop at (put_bytes (record { bytes = bytes; at = at }) text).bytes) ≡ text
unfolding put_bytes
stands_at [] bytes at h = refl
stands_at (byte ∷ text) bytes at h =
    let last : List ℕ = (put_bytes (record { bytes = set bytes at byte; at = at + 1 }) text).bytes in
    let free : at + 1 + length text ≤ length (set bytes at byte) = room text bytes at byte h in
    let inside : at < length last = rw (as_long text (set bytes at byte) (at + 1) free, length-set) (omega arith) in
    let first : get_or last at 0 ≡ byte =
    before text (set bytes at byte) (at + 1) at free (omega arith) ∙ get_or-set_same bytes at byte 0 (omega arith)
    in
    let rest : take (length text) (drop (suc at) last) ≡ text =
    subst (λ (k : ℕ). take (length text) (drop k last) ≡ text) (add-one at) (stands_at text (set bytes at byte) (at + 1) free)
    in
    rw (put_room text bytes at byte (omega arith)) (rw (drop-cons last at 0 inside, first) (ap (λ (l : List ℕ). byte ∷ l) rest))

pub stands : Stands
stands =
    record {
      end = λ (bytes : List ℕ) (at : ℕ) (text : List ℕ). ends_at text bytes at;
      text = λ (bytes : List ℕ) (at : ℕ) (text : List ℕ). stands_at text bytes at;
    }
