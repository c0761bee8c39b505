-- The words made ready for a counter: when it is valid, what `advance` leaves in each case, how many words, and that they fit.
-- Assumes nothing.
use Rattle.std.proofs.Common.{◌≡◌, ℕ, ◌+◌, ◌-◌, ◌<◌, ◌≤◌, false, List, length, ◌∙◌, arith}
use Rattle.base.specs.Choice.{choose}
use Rattle.base.proofs.Choice.{of_choice}
use Rattle.base.proofs.Zeros.{zeros_at, length_zeros}
use Rattle.base.specs.Lists.{zeros}
use Rattle.window.specs.Window.{limit, clears, advance, is_invalid}
use Rattle.base.proofs.Sums.{Fitting}
use Rattle.window.proofs.Words.{length_clears, clears_fits}

pub empty_fits : Fitting (zeros 128)
empty_fits j = rw (zeros_at 128 j) (omega arith)

-- a valid counter is one below LIMIT and at most 8,192 behind
module _ (next c : ℕ) where
  pub valid : c < limit → next ≤ c + 8192 → is_invalid next c ≡ false
  unfolding is_invalid choose
  valid l h = grind arith

  pub valid_only : is_invalid next c ≡ false → (c < limit) × (next ≤ c + 8192)
  unfolding is_invalid choose
  valid_only e = grind arith

module _ (words : List ℕ) (next c : ℕ) where
  -- no counter is skipped by one that is not ahead
  pub advance_none : c ≤ next → advance words next c ≡ words
  unfolding advance clears choose
  advance_none h =
      let none : c - next ≡ 0 = omega arith in
      rw none

  pub advance_near : c - next < 8192 → advance words next c ≡ clears words next (c - next)
  unfolding advance choose
  advance_near h = grind arith

  pub advance_far : 8192 ≤ c - next → advance words next c ≡ zeros 128
  unfolding advance choose
  advance_far h = grind arith

  -- whatever holds of zero words and of words with a run of counters cleared holds of the words made ready
  ready : (P : List ℕ → Type 0) → P (zeros 128) → ((count : ℕ) → P (clears words next count)) → P (advance words next c)
  unfolding advance
  ready P far near = of_choice P _ _ _ far (near (c - next))

  pub length_advance : length words ≡ 128 → length (advance words next c) ≡ 128
  length_advance long = ready (λ ws. length ws ≡ 128) (length_zeros 128) (λ count. length_clears words next count ∙ long)

  pub advance_fits : Fitting words → Fitting (advance words next c)
  advance_fits f = ready Fitting empty_fits (λ count. clears_fits words next count f)
