-- The table of rights is the definition's.
-- Assumes nothing.
use mathlib.Core.Path.{◌≡◌, refl, sym, subst, ◌∙◌}
use mathlib.Core.Bool.{Bool, true, false, true≢false}
use Prim.Native.Nat.{ℕ}
use lib.Dec.{eqb}
use borrow.Author.Tests.{eqb-true}
use Rattle.base.specs.Choice.{choose}
use Rattle.access.specs.Rights.{operator_may, controller_may, allowed}
use Rattle.access.specs.Laws.{Right, RightsLaw}
use Rattle.access.specs.Laws.Right.{operator_sends, operator_receives, operator_wakes, operator_settles, operator_takes_events, controller_reads_deadline, controller_reads_missing, controller_reads_log, trainer_reads_log}

may : (user operation : ℕ) → Right user operation → allowed user operation ≡ true
unfolding allowed operator_may controller_may choose
may user operation operator_sends = refl
may user operation operator_receives = refl
may user operation operator_wakes = refl
may user operation operator_settles = refl
may user operation operator_takes_events = refl
may user operation controller_reads_deadline = refl
may user operation controller_reads_missing = refl
may user operation controller_reads_log = refl
may user operation trainer_reads_log = refl

-- a test that holds is passed, and one that fails goes on
module _ (P : ℕ → Type 0) (n : ℕ) where
  first_of : (m : ℕ) (rest : Bool) → P m → (rest ≡ true → P n) → choose (eqb n m) true rest ≡ true → P n
  unfolding choose
  first_of m rest p q e = decide (eqb n m) refl
    where
      decide : (t : Bool) → eqb n m ≡ t → P n
      decide true f = subst P (sym (eqb-true n m f)) p
      decide false f = q (sym (rw f refl) ∙ e)

  last_of : (m : ℕ) → P m → eqb n m ≡ true → P n
  last_of m p e = subst P (sym (eqb-true n m e)) p

operator_only : (operation : ℕ) → operator_may operation ≡ true → Right 0 operation
unfolding operator_may
operator_only operation =
    first_of (Right 0) operation 0 _ operator_sends
    (first_of (Right 0) operation 1 _ operator_receives
    (first_of (Right 0) operation 2 _ operator_wakes (first_of (Right 0) operation 3 _ operator_settles (last_of (Right 0) operation 4 operator_takes_events))))

controller_only : (operation : ℕ) → controller_may operation ≡ true → Right 1 operation
unfolding controller_may
controller_only operation =
    first_of (Right 1) operation 5 _ controller_reads_deadline
    (first_of (Right 1) operation 6 _ controller_reads_missing (last_of (Right 1) operation 7 controller_reads_log))

trainer_only : (operation : ℕ) → eqb operation 7 ≡ true → Right 2 operation
trainer_only operation = last_of (Right 2) operation 7 trainer_reads_log

-- a user of this kind, or of a later one
module _ (operation : ℕ) where
  of_kind : (user kind : ℕ) (own rest : Bool) → (own ≡ true → Right kind operation) → (rest ≡ true → Right user operation)
      → choose (eqb user kind) own rest ≡ true → Right user operation
  unfolding choose
  of_kind user kind own rest p q e = decide (eqb user kind) refl
    where
      decide : (t : Bool) → eqb user kind ≡ t → Right user operation
      decide true f = subst (λ (u : ℕ). Right u operation) (sym (eqb-true user kind f)) (p (sym (rw f refl) ∙ e))
      decide false f = q (sym (rw f refl) ∙ e)

only : (user operation : ℕ) → allowed user operation ≡ true → Right user operation
unfolding allowed
only user operation =
    of_kind operation user 0 _ _ (operator_only operation)
    (of_kind operation user 1 _ _ (controller_only operation)
    (of_kind operation user 2 _ _ (trainer_only operation) (λ e. absurd (true≢false (sym e)))))

pub rights_law : RightsLaw
rights_law = record { may = may; only = only }
