-- The missing count of a window: its counters less those whose bit is set, which are the ones of whole words and of a part of one.
-- Assumes nothing.
use Rattle.std.proofs.Common.{◌≡◌, ℕ, ◌+◌, ◌-◌, ◌*◌, ◌/◌, ◌%◌, ◌^◌, ◌<◌, ◌≤◌, min, eqb, List, length, sum_by, get_or, take, refl, ap, arith, shl_exact, Fits, w64}
use lib.Bits.{and_mask, bit_and}
use lib.Count.{ones}
use Rattle.std.proofs.lemmas.List.Recursion.{is_sum_by}
use Rattle.std.proofs.lemmas.Bool.Decides.{nat_tests}
use Rattle.base.specs.Choice.{choose}
use Rattle.base.specs.Lists.{ones_of}
use Rattle.base.specs.Sums.{sum}
use Rattle.base.proofs.Bits.{bit_small}
use Rattle.base.proofs.Sums.{Fitting, sum_cong, sum_parted, ones_first, ones_cycled, ones_before}
use Rattle.sessions.specs.Store.{missing_of}
use Rattle.window.specs.Window.{word_of, bit_of, bit_at, check_bit}

-- the ones of words, as the library sums them
ones_summed : (words : List ℕ) → ones_of words ≡ sum_by ones words
unfolding ones_of
ones_summed = is_sum_by ones_of ones refl (λ w rest. refl)

module _ (words : List ℕ) where
  -- a counter is missing or committed
  parted : (c : ℕ) → choose (check_bit words c) 0 1 + bit_at words c ≡ 1
  unfolding check_bit bit_at choose
  parted c = grind (arith, nat_tests, bit_small (get_or words (word_of c) 0) (bit_of c))

  stretch : (from count : ℕ) → sum (λ k. choose (check_bit words (from + k)) 0 1) count + sum (λ k. bit_at words (from + k)) count ≡ count
  stretch from count = sum_parted _ _ count (λ k l. parted (from + k))

  -- so that the missing and the committed make up the window
  pub missing_rest : (next : ℕ) → missing_of words next + sum (λ k. bit_at words (next - 8192 + k)) (min next 8192) ≡ min next 8192
  unfolding missing_of
  missing_rest next = stretch (next - 8192) (min next 8192)

  -- the committed counters of a young window
  young : (next : ℕ) → next < 8192 → sum (λ k. bit_at words (next - 8192 + k)) (min next 8192) ≡ sum (bit_at words) next
  young next h =
      let size : min next 8192 ≡ next = omega arith in
      rw size (sum_cong (λ k. bit_at words (next - 8192 + k)) (bit_at words) next (λ k l. ap (bit_at words) (omega arith)))

  -- the code's counts make up the window with what is missing
  module _ (long : length words ≡ 128) (words_fit : (j : ℕ) → Fits w64 (get_or words j 0)) (next : ℕ) where
    fits : Fitting words
    fits j = (words_fit j).fits

    pub window_full : 8192 ≤ next → sum_by ones words + missing_of words next ≡ 8192
    unfolding bit_at
    window_full h =
        let size : min next 8192 ≡ 8192 = omega arith in
        omega (
          arith,
          missing_rest next,
          ap (sum (λ k. bit_at words (next - 8192 + k))) size,
          ones_cycled words long fits (next - 8192),
          ones_summed words,
        )

    -- the bits of the next counter's own word below its place
    abbrev below : ℕ
    below = 1 * 2 ^ (next % 64) % 2 ^ 64 - 1

    below_is : below ≡ 2 ^ (next % 64) - 1
    below_is =
        omega (arith, shl_exact {a = 1} 1 (next % 64) 64 (omega arith) (omega arith))

    -- the ones of the words before the next counter's own and of a part of its own
    pub window_young : (word place : ℕ) → word ≡ next / 64 → place ≡ next % 64 → next < 8192
        → sum_by ones (take word words) + ones (bit_and (get_or words word 0) (1 * 2 ^ place % 2 ^ 64 - 1)) + missing_of words next ≡ next
    unfolding bit_at
    window_young word place e f h =
        rw (e, f, below_is)
        (omega (
          arith,
          missing_rest next,
          young next h,
          ones_before words long fits next h,
          ones_first (get_or words (next / 64) 0) (next % 64),
          ones_summed (take (next / 64) words),
        ))

-- only the bits of the window's counters are looked at
pub missing_own : (words other : List ℕ) (next : ℕ)
    → ((c : ℕ) → c < next → next ≤ c + 8192 → bit_at other c ≡ bit_at words c) → missing_of other next ≡ missing_of words next
unfolding missing_of check_bit
missing_own words other next same =
    sum_cong _ _ (min next 8192)
    (λ k l. ap (λ (b : ℕ). choose (eqb b 1) 0 1) (same (next - 8192 + k) (omega arith) (omega arith)))
