-- A verdict is good exactly if its number is 0: what a commit leaves goes by that test.
-- Assumes nothing.
use Rattle.std.proofs.Common.{◌≡◌, ℕ, ◌+◌, ◌<◌, max, List, Result, Ok, Err, eqb, refl, arith}
use borrow.Author.Tests.{ne_eqb}
use Rattle.error.specs.declared.Error.{Error}
use Rattle.error.specs.Error.{error_number, verdict_number}
use Rattle.base.specs.Choice.{choose, case_result}
use Rattle.window.specs.Window.{set_bit, advance, will_accept, next_after, words_after}

error_positive : (e : Error) → 0 < error_number e
error_positive e = grind arith

pub by_number : {A : Type 0} (v : Result Unit Error) (x y : A) → case_result v (λ e. x) (λ good. y) ≡ choose (eqb (verdict_number v) 0) y x
unfolding case_result choose
by_number (Ok good) x y = refl
by_number (Err e) x y = rw (ne_eqb (error_number e) 0 (λ z. omega (arith, error_positive e, z)))

module _ (words : List ℕ) (next c : ℕ) where
  pub next_by_number : next_after words next c ≡ choose (eqb (verdict_number (will_accept words next c)) 0) (max next (c + 1)) next
  unfolding next_after
  next_by_number = by_number _ _ _

  pub words_by_number : words_after words next c ≡ choose (eqb (verdict_number (will_accept words next c)) 0) (set_bit (advance words next c) c) words
  unfolding words_after
  words_by_number = by_number _ _ _
