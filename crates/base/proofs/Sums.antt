-- Laws of sums over the numbers below a count: equal terms, two that are 1 together, a split, a period's sum from any place, a number's ones, and those
-- of words.
-- Assumes nothing.
use mathlib.Core.Path.{◌≡◌, refl, ap, sym, ◌∙◌}
use mathlib.Core.List.{List, [], ◌∷◌}
use Prim.Native.Nat.{ℕ, zero, suc, ◌+◌, ◌-◌, ◌*◌, ◌/◌, ◌%◌, ◌^◌, ◌≤◌, ◌<◌}
use native.Mathlib.Nat.{zero-add, add-zero, add-suc, add_comm, pow-suc}
use native.Mathlib.Omega.{arith}
use lib.Bits.{bit_and, mask_lt}
use lib.Count.{ones, ones_step, ones-le}
use lib.ListN.{length, get_or, take}
use lib.Seq.{take_all}
use Rattle.base.specs.Bits.{bit}
use Rattle.base.specs.Lists.{ones_of}
use Rattle.base.specs.Sums.{sum}
use Rattle.base.proofs.Bits.{bit_first, bit_later, bit_masked}

pub sum_cong : (f g : ℕ → ℕ) (n : ℕ) → ((k : ℕ) → k < n → f k ≡ g k) → sum f n ≡ sum g n
unfolding sum
sum_cong f g zero h = refl
sum_cong f g (suc n) h = omega (arith, sum_cong f g n (λ k l. h k (omega arith)), h n (omega arith))

pub sum_none : (f : ℕ → ℕ) (n : ℕ) → ((k : ℕ) → k < n → f k ≡ 0) → sum f n ≡ 0
unfolding sum
sum_none f zero h = refl
sum_none f (suc n) h = omega (arith, sum_none f n (λ k l. h k (omega arith)), h n (omega arith))

-- two terms of which each time one is 1 and the other 0
pub sum_parted : (f g : ℕ → ℕ) (n : ℕ) → ((k : ℕ) → k < n → f k + g k ≡ 1) → sum f n + sum g n ≡ n
unfolding sum
sum_parted f g zero h = refl
sum_parted f g (suc n) h = omega (arith, sum_parted f g n (λ k l. h k (omega arith)), h n (omega arith))

pub sum_split : (f : ℕ → ℕ) (a b : ℕ) → sum f (a + b) ≡ sum f a + sum (λ k. f (a + k)) b
unfolding sum
sum_split f a zero = rw (add-zero, add-zero)
sum_split f a (suc b) = rw (add-suc, sum_split f a b) (omega arith)

-- the first term apart
sum_first : (f : ℕ → ℕ) (n : ℕ) → f 0 + sum (λ k. f (suc k)) n ≡ sum f n + f n
unfolding sum
sum_first f zero = omega arith
sum_first f (suc n) = omega (arith, sum_first f n)

-- the sum over one turn of a period is the same wherever it starts
module _ (f : ℕ → ℕ) (n : ℕ) (turns : (k : ℕ) → f (n + k) ≡ f k) where
  pub sum_turned : (from : ℕ) → sum (λ k. f (from + k)) n ≡ sum f n
  sum_turned zero = sum_cong (λ k. f (0 + k)) f n (λ k l. ap f (zero-add k))
  sum_turned (suc from) =
      sum_cong (λ k. f (suc from + k)) (λ k. f (from + suc k)) n (λ k l. ap f (omega arith))
      ∙ omega (arith, sum_first (λ k. f (from + k)) n, turned, sum_turned from)
    where
      turned : f (from + n) ≡ f (from + 0)
      turned = ap f (add_comm from n) ∙ turns from ∙ ap f (sym (add-zero from))

pub ones_sum : (width w : ℕ) → w < 2 ^ width → ones w ≡ sum (bit w) width
unfolding sum
ones_sum zero w h = omega (arith, ones-le 0 w h)
ones_sum (suc width) w h =
    omega (
      arith,
      ones_step w,
      ones_sum width (w / 2) (omega (arith, pow-suc 2 width)),
      bit_first w,
      sum_first (bit w) width,
      sum_cong (λ k. bit w (suc k)) (bit (w / 2)) width (λ k l. bit_later w k),
    )

-- the ones among the first bits of a word
pub ones_first : (w count : ℕ) → ones (bit_and w (2 ^ count - 1)) ≡ sum (bit w) count
ones_first w count =
    ones_sum count (bit_and w (2 ^ count - 1)) (mask_lt w count) ∙ sum_cong (bit (bit_and w (2 ^ count - 1))) (bit w) count (bit_masked w count)

-- every word fits 64 bits
abbrev pub Fitting : List ℕ → Type 0
Fitting words = (j : ℕ) → get_or words j 0 < 2 ^ 64

-- the bit at a place, counted from the first word on
abbrev pub placed : List ℕ → ℕ → ℕ
placed words p = bit (get_or words (p / 64) 0) (p % 64)

placed_first : (w : ℕ) (words : List ℕ) (p : ℕ) → p < 64 → placed (w ∷ words) p ≡ bit w p
placed_first w words p h =
    let word : p / 64 ≡ 0 = omega arith in
    let place : p % 64 ≡ p = omega arith in
    rw (word, place)

placed_later : (w : ℕ) (words : List ℕ) (p : ℕ) → placed (w ∷ words) (64 + p) ≡ placed words p
placed_later w words p =
    let word : (64 + p) / 64 ≡ suc (p / 64) = omega arith in
    let place : (64 + p) % 64 ≡ p % 64 = omega arith in
    rw (word, place)

-- the ones of the first words
pub ones_placed : (words : List ℕ) (count : ℕ) → count ≤ length words → Fitting words
    → ones_of (take count words) ≡ sum (placed words) (count * 64)
unfolding ones_of
ones_placed words zero h f = sym (sum_none (placed words) 0 (λ k l. absurd (omega arith)))
ones_placed [] (suc count) h f = absurd (omega arith)
ones_placed (w ∷ words) (suc count) h f =
    let size : suc count * 64 ≡ 64 + count * 64 = omega arith in
    rw size
    (omega (
      arith,
      ones_sum 64 w (f 0),
      ones_placed words count (omega arith) (λ j. f (suc j)),
      sum_split (placed (w ∷ words)) 64 (count * 64),
      sum_cong (placed (w ∷ words)) (bit w) 64 (placed_first w words),
      sum_cong (λ k. placed (w ∷ words) (64 + k)) (placed words) (count * 64) (λ k l. placed_later w words k),
    ))

-- the bit of a counter in 128 words, whose places come again after 8,192 counters
abbrev pub cycled : List ℕ → ℕ → ℕ
cycled words c = bit (get_or words (c % 8192 / 64) 0) (c % 64)

pub cycled_again : (words : List ℕ) (c : ℕ) → cycled words (8192 + c) ≡ cycled words c
cycled_again words c =
    let word : (8192 + c) % 8192 ≡ c % 8192 = omega arith in
    let place : (8192 + c) % 64 ≡ c % 64 = omega arith in
    rw (word, place)

pub cycled_placed : (words : List ℕ) (c : ℕ) → c < 8192 → cycled words c ≡ placed words c
cycled_placed words c h = let place : c % 8192 ≡ c = omega arith in rw place

-- the ones of 128 words are the bits of any 8,192 consecutive counters
pub ones_cycled : (words : List ℕ) → length words ≡ 128 → Fitting words → (from : ℕ)
    → sum (λ k. cycled words (from + k)) 8192 ≡ ones_of words
ones_cycled words long fits from =
    sum_turned (cycled words) 8192 (cycled_again words) from ∙ sum_cong (cycled words) (placed words) 8192 (cycled_placed words)
    ∙ sym (ones_placed words 128 (omega arith) fits) ∙ ap ones_of (take_all 128 words (omega arith))

-- the ones of the words before a counter's own, and those before it in its own, are the bits of the counters below it
pub ones_before : (words : List ℕ) → length words ≡ 128 → Fitting words → (c : ℕ) → c < 8192
    → ones_of (take (c / 64) words) + sum (bit (get_or words (c / 64) 0)) (c % 64) ≡ sum (cycled words) c
ones_before words long fits c h =
    omega (
      arith,
      ones_placed words (c / 64) (omega arith) fits,
      sum_cong (bit (get_or words (c / 64) 0)) (λ k. placed words (c / 64 * 64 + k)) (c % 64) own,
      sum_split (placed words) (c / 64 * 64) (c % 64),
      all,
    )
  where
    own : (k : ℕ) → k < c % 64 → bit (get_or words (c / 64) 0) k ≡ placed words (c / 64 * 64 + k)
    own k l =
        let word : (c / 64 * 64 + k) / 64 ≡ c / 64 = omega arith in
        let place : (c / 64 * 64 + k) % 64 ≡ k = omega arith in
        rw (word, place)

    all : sum (cycled words) c ≡ sum (placed words) (c / 64 * 64 + c % 64)
    all = sum_cong (cycled words) (placed words) c (λ k l. cycled_placed words k (omega arith)) ∙ ap (sum (placed words)) (omega arith)
