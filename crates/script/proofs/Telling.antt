-- Text put behind text.
-- Assumes nothing.
use mathlib.Core.Path.{◌≡◌, refl, ap, sym, subst, ◌∙◌}
use mathlib.Core.List.{List, [], ◌∷◌, ◌++◌}
use Prim.Native.Nat.{ℕ, ◌+◌, ◌≤◌, ◌<◌}
use lib.ListN.{length, get_or, take}
use lib.Seq.{take_all}
use Rattle.std.proofs.lemmas.List.{flat_map_more, take_more}
use Rattle.text.specs.Number.{digits_of}
use Rattle.text.specs.Text.{Buffer, put_byte, put_bytes, Prints}
use Rattle.text.specs.declared.text.Output.{Output}
use Rattle.script.specs.Answer.{numbers_text}

bytes_behind : (x y : List ℕ) (b : Buffer) → put_bytes b (x ++ y) ≡ put_bytes (put_bytes b x) y
unfolding put_bytes
bytes_behind [] y b = refl
bytes_behind (byte ∷ x) y b = bytes_behind x y (put_byte b byte)

-- text, and text behind it
pub prints_behind : (a b c : Output) (x y : List ℕ) → Prints a x b → Prints b y c → Prints a (x ++ y) c
prints_behind a b c x y p q =
    record {
      lent = q.lent ∙ p.lent;
      put = record { buffer = q.put.buffer ∙ ap (λ (b : Buffer). put_bytes b y) p.put.buffer ∙ sym (bytes_behind x y _) };
    }

pub prints_none : (a : Output) → Prints a [] a
unfolding put_bytes
prints_none a = record { lent = refl; put = record { buffer = refl } }

-- a number behind the first `i` of some
pub prints_more : (a b c : Output) (numbers : List ℕ) (i : ℕ) → i < length numbers → Prints a (numbers_text (take i numbers)) b
    → Prints b (32 ∷ digits_of (get_or numbers i 0)) c → Prints a (numbers_text (take (i + 1) numbers)) c
prints_more a b c numbers i h p q =
    subst (λ (text : List ℕ). Prints a text c) (flat_map_more (λ (n : ℕ). 32 ∷ digits_of n) [] (take i numbers) (get_or numbers i 0) ∙ rw (take_more numbers i 0 h))
    (prints_behind a b c _ _ p q)

pub prints_all : (a b : Output) (numbers : List ℕ) (i : ℕ) → length numbers ≤ i → Prints a (numbers_text (take i numbers)) b → Prints a (numbers_text numbers) b
prints_all a b numbers i h p = rw (take_all i numbers h) at p

pub ruleset numbers = (prints_none, prints_all)
