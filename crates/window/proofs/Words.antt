-- What setting and clearing a counter's bit does to the bit of every counter, to the words' number and to their width.
-- Assumes nothing.
use Rattle.std.proofs.Common.{◌≡◌, ℕ, zero, suc, ◌+◌, ◌-◌, ◌*◌, ◌/◌, ◌%◌, ◌^◌, ◌<◌, ◌≤◌, one-mul, shl_exact, List, [], ◌∷◌, length, get_or, set, sym, refl, ap, ◌∙◌, lt_of_le_of_lt, add-zero, add_assoc, add-suc, arith, length-set, get_or-set_other, get_or-set_same, ext_get_or}
use native.Mathlib.Decide.{ℕ_discrete}
use lib.Bits.{bit_and, bit_or, and_le_l, and_le_r, or_lt}
use lib.Pow.{pow-lt}
use Rattle.base.specs.Bits.{bit}
use Rattle.base.proofs.Bits.{same_bits, bit_set_same, bit_set_other, bit_clear_same, bit_clear_other, bit_zero}
use Rattle.base.proofs.Sums.{Fitting}
use Rattle.window.specs.Window.{word_of, bit_of, bit_at, set_bit, clear_bit, clears}

-- the machine's shift by a place of a word is the power of two
pub shift : (b : ℕ) → b < 64 → (1 * 2 ^ b) % 2 ^ 64 ≡ 2 ^ b
shift b h = shl_exact 1 b 64 (omega arith) (omega arith) ∙ one-mul (2 ^ b)

-- what a word at a changed place does to the bit of each counter
module _ (words : List ℕ) (long : length words ≡ 128) (c w : ℕ) where
  put_here : (y : ℕ) → word_of y ≡ word_of c → bit_at (set words (word_of c) w) y ≡ bit w (bit_of y)
  unfolding bit_at
  put_here y e = rw (e, get_or-set_same words (word_of c) w 0 (omega arith))

  put_there : (y : ℕ) → (word_of y ≡ word_of c → ⊥) → bit_at (set words (word_of c) w) y ≡ bit_at words y
  unfolding bit_at
  put_there y h = rw (get_or-set_other words (word_of c) (word_of y) w 0 h)

module _ (words : List ℕ) (c : ℕ) where
  pub length-set_bit : length (set_bit words c) ≡ length words
  unfolding set_bit
  length-set_bit = simp length-set

  length-clear_bit : length (clear_bit words c) ≡ length words
  unfolding clear_bit
  length-clear_bit = simp length-set

pub length_clears : (words : List ℕ) (from count : ℕ) → length (clears words from count) ≡ length words
unfolding clears
length_clears words from zero = refl
length_clears words from (suc count) = length-clear_bit (clears words from count) (from + count) ∙ length_clears words from count

module _ (words : List ℕ) (long : length words ≡ 128) (c y : ℕ) where
  pub set_hit : y % 8192 ≡ c % 8192 → bit_at (set_bit words c) y ≡ 1
  unfolding set_bit
  set_hit e =
      put_here words long c _ y (ap (λ (x : ℕ). x / 64) e)
      ∙ ap (λ (b : ℕ). bit (bit_or (get_or words (word_of c) 0) (2 ^ bit_of c)) b) (omega arith)
      ∙ bit_set_same (get_or words (word_of c) 0) (bit_of c)

  clear_hit : y % 8192 ≡ c % 8192 → bit_at (clear_bit words c) y ≡ 0
  unfolding clear_bit
  clear_hit e =
      put_here words long c _ y (ap (λ (x : ℕ). x / 64) e)
      ∙ ap (λ (b : ℕ). bit (bit_and (get_or words (word_of c) 0) (2 ^ 64 - 1 - 2 ^ bit_of c)) b) (omega arith)
      ∙ bit_clear_same 64 (get_or words (word_of c) 0) (bit_of c) (omega arith)

  -- another counter's bit lies in another word or at another place of the same word
  apart : (y % 8192 ≡ c % 8192 → ⊥) → word_of y ≡ word_of c → bit_of c ≡ bit_of y → ⊥
  apart h e d = h (omega arith)

  here : word_of y ≡ word_of c → bit_at words y ≡ bit (get_or words (word_of c) 0) (bit_of y)
  unfolding bit_at
  here e = rw e

  pub set_miss : (y % 8192 ≡ c % 8192 → ⊥) → bit_at (set_bit words c) y ≡ bit_at words y
  unfolding set_bit
  set_miss h = elim (ℕ_discrete (word_of y) (word_of c)) [
    | yes e ↦ put_here words long c _ y e ∙ bit_set_other (get_or words (word_of c) 0) (bit_of c) (bit_of y) (apart h e) ∙ sym (here e)
    | no d ↦ put_there words long c _ y d
  ]

  clear_miss : (y % 8192 ≡ c % 8192 → ⊥) → bit_at (clear_bit words c) y ≡ bit_at words y
  unfolding clear_bit
  clear_miss h = elim (ℕ_discrete (word_of y) (word_of c)) [
    | yes e ↦ put_here words long c _ y e
        ∙ bit_clear_other 64 (get_or words (word_of c) 0) (bit_of c) (omega arith) (bit_of y) (omega arith) (apart h e) ∙ sym (here e)
    | no d ↦ put_there words long c _ y d
  ]

-- clearing a run of counters: the run's bits are cleared, the bits of the other counters of a period stay
module _ (words : List ℕ) (long : length words ≡ 128) (from : ℕ) where
  long_clears : (count : ℕ) → length (clears words from count) ≡ 128
  long_clears count = length_clears words from count ∙ long

  pub clears_miss : (count y : ℕ) → from + count ≤ y → y < from + 8192 → bit_at (clears words from count) y ≡ bit_at words y
  unfolding clears
  clears_miss zero y l h = refl
  clears_miss (suc count) y l h =
      clear_miss (clears words from count) (long_clears count) (from + count) y (λ e. omega arith)
      ∙ clears_miss count y (omega arith) h

  pub clears_hit : (count y : ℕ) → count ≤ 8192 → from ≤ y → y < from + count → bit_at (clears words from count) y ≡ 0
  unfolding clears
  clears_hit zero y m l h = absurd (omega arith)
  clears_hit (suc count) y m l h = elim (ℕ_discrete y (from + count)) [
    | yes e ↦ clear_hit (clears words from count) (long_clears count) (from + count) y (ap (λ (x : ℕ). x % 8192) e)
    | no d ↦ clear_miss (clears words from count) (long_clears count) (from + count) y (λ e. d (omega arith))
        ∙ clears_hit count y (omega arith) l (omega arith)
  ]

-- a run of counters cleared in two parts
pub clears_add : (words : List ℕ) (from a b : ℕ) → clears (clears words from a) (from + a) b ≡ clears words from (a + b)
unfolding clears
clears_add words from a zero = rw add-zero
clears_add words from a (suc b) = rw (add-suc, clears_add words from a b, add_assoc)

-- clearing touches no word but the counter's, and keeps the words within 64 bits
clear_elsewhere : (words : List ℕ) (c j : ℕ) → (j ≡ word_of c → ⊥) → get_or (clear_bit words c) j 0 ≡ get_or words j 0
unfolding clear_bit
clear_elsewhere words c j h = get_or-set_other words (word_of c) j _ 0 h

clears_elsewhere : (words : List ℕ) (from count j : ℕ) → from % 64 ≡ 0 → count ≤ 64 → (j ≡ word_of from → ⊥)
    → get_or (clears words from count) j 0 ≡ get_or words j 0
unfolding clears
clears_elsewhere words from zero j e m h = refl
clears_elsewhere words from (suc count) j e m h =
    clear_elsewhere (clears words from count) (from + count) j (λ d. h (d ∙ omega arith))
    ∙ clears_elsewhere words from count j e (omega arith) h

-- a changed word that fits leaves words that fit
put_fits : (words : List ℕ) (i w : ℕ) → Fitting words → w < 2 ^ 64 → Fitting (set words i w)
put_fits [] i w f h j = f j
put_fits (x ∷ words) zero w f h zero = h
put_fits (x ∷ words) zero w f h (suc j) = f (suc j)
put_fits (x ∷ words) (suc i) w f h zero = f zero
put_fits (x ∷ words) (suc i) w f h (suc j) = put_fits words i w (λ k. f (suc k)) h j

pub set_bit-fits : (words : List ℕ) (c : ℕ) → Fitting words → Fitting (set_bit words c)
unfolding set_bit
set_bit-fits words c f =
    put_fits words (word_of c) _ f (or_lt 64 (get_or words (word_of c) 0) (2 ^ bit_of c) (f (word_of c)) (pow-lt {i = bit_of c} {j = 64} (omega arith)))

pub clears_fits : (words : List ℕ) (from count : ℕ) → Fitting words → Fitting (clears words from count)
unfolding clears clear_bit
clears_fits words from zero f = f
clears_fits words from (suc count) f =
    let g : Fitting (clears words from count) = clears_fits words from count f in
    put_fits (clears words from count) (word_of (from + count)) _ g (lt_of_le_of_lt (and_le_l _ _) (g (word_of (from + count))))

-- a counter's word fits once its bit is cleared
clear_fits : (words : List ℕ) (c : ℕ) → length words ≡ 128 → get_or (clear_bit words c) (word_of c) 0 < 2 ^ 64
unfolding clear_bit
clear_fits words c long =
    rw (get_or-set_same words (word_of c) (bit_and (get_or words (word_of c) 0) (2 ^ 64 - 1 - 2 ^ bit_of c)) 0 (omega arith))
    (lt_of_le_of_lt (and_le_r _ _) (omega arith))

-- a whole word cleared at once is its 64 counters cleared one by one
module _ (words : List ℕ) (from : ℕ) (long : length words ≡ 128) (edge : from % 64 ≡ 0) where
  read : (words' : List ℕ) (place : ℕ) → place < 64 → bit_at words' (from + place) ≡ bit (get_or words' (word_of from) 0) place
  unfolding bit_at
  read words' place h =
      let here : word_of (from + place) ≡ word_of from = omega arith in
      let there : bit_of (from + place) ≡ place = omega arith in
      rw (here, there)

  gone_fits : get_or (clears words from 64) (word_of from) 0 < 2 ^ 64
  unfolding clears
  gone_fits =
      let place : word_of from ≡ word_of (from + 63) = omega arith in
      rw place (clear_fits (clears words from 63) (from + 63) (length_clears words from 63 ∙ long))

  word_gone : get_or (clears words from 64) (word_of from) 0 ≡ 0
  word_gone =
      same_bits 64 (get_or (clears words from 64) (word_of from) 0) 0 gone_fits (omega arith)
      (λ place h.
      sym (read (clears words from 64) place h)
      ∙ clears_hit words long from 64 (from + place) (omega arith) (omega arith) (omega arith) ∙ sym (bit_zero place))

  whole_word : set words (word_of from) 0 ≡ clears words from 64
  whole_word = ext_get_or 0 (set words (word_of from) 0) (clears words from 64) (length-set words (word_of from) 0 ∙ sym (length_clears words from 64)) at
    where
      at : (j : ℕ) → j < length (set words (word_of from) 0) → get_or (set words (word_of from) 0) j 0 ≡ get_or (clears words from 64) j 0
      at j l = elim (ℕ_discrete j (word_of from)) [
        | yes e ↦ rw e (get_or-set_same words (word_of from) 0 0 (omega arith) ∙ sym word_gone)
        | no d ↦ get_or-set_other words (word_of from) j 0 0 d ∙ sym (clears_elsewhere words from 64 j edge (omega arith) d)
      ]

-- a run of counters, cleared so far up to a place, and one further: no counter, a counter more, and a word more
module _ (words : List ℕ) where
  pub clears_none : (from count : ℕ) → count ≡ 0 → words ≡ clears words from count
  unfolding clears
  clears_none from count e = rw e

  -- the run up to a place, and from there on
  pub clears_on : (from i to : ℕ) → from ≤ i → i ≤ to → clears (clears words from (i - from)) i (to - i) ≡ clears words from (to - from)
  clears_on from i to h m =
      let place : from + (i - from) ≡ i = omega arith in
      let all : i - from + (to - i) ≡ to - from = omega arith in
      ap (λ (x : ℕ). clears (clears words from (i - from)) x (to - i)) (sym place) ∙ clears_add words from (i - from) (to - i) ∙ ap (clears words from) all

  pub clears_bit : (from i : ℕ) → from ≤ i → clear_bit (clears words from (i - from)) i ≡ clears words from (i + 1 - from)
  unfolding clears
  clears_bit from i h =
      let place : i ≡ from + (i - from) = omega arith in
      let more : i + 1 - from ≡ suc (i - from) = omega arith in
      rw more (ap (clear_bit (clears words from (i - from))) place)

  pub clears_word : (from i : ℕ) → length words ≡ 128 → from ≤ i → i % 64 ≡ 0
      → set (clears words from (i - from)) (word_of i) 0 ≡ clears words from (i + 64 - from)
  clears_word from i long h edge =
      let size : 64 ≡ i + 64 - i = omega arith in
      whole_word (clears words from (i - from)) i (length_clears words from (i - from) ∙ long) edge
      ∙ ap (clears (clears words from (i - from)) i) size ∙ clears_on from i (i + 64) h (omega arith)
