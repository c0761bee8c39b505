-- The verdicts and skips that a history calls for on the messages of a batch, said case by case.
-- Assumes nothing.
use mathlib.Core.Path.{◌≡◌, refl, ap, ◌∙◌}
use mathlib.Core.Bool.{Bool, true}
use mathlib.Core.List.{List, [], ◌∷◌}
use Prim.Native.Nat.{ℕ, zero, suc, ◌+◌, ◌≤◌, ◌<◌}
use native.Mathlib.Omega.{arith}
use lib.ListN.{length, get_or, take}
use borrow.Author.Tests.{ne_eqb, le-leb, lt-leb, lt-ltb, le-ltb}
use Rattle.base.specs.Choice.{choose}
use Rattle.base.proofs.Choice.{of_choice}
use Rattle.demands.specs.Receiving.{Judges}
use Rattle.demands.proofs.Judged.{verdict_law}
use Rattle.demands.specs.History.{verdict_on, skip_on, recorded, recorded_all, each_on, verdicts_on, skips_on, VerdictLaw}
use Rattle.window.specs.History.{member, expected, judged}
use Rattle.window.specs.Window.{limit, is_invalid}

-- the verdict that a history calls for, case by case
module _ (history : List ℕ) (counter kind : ℕ) where
  opened : (kind ≡ 2 → ⊥) → verdict_on history counter kind ≡ judged history counter
  unfolding verdict_on choose
  opened d = rw (ne_eqb kind 2 d)

  invalid : is_invalid (expected history) counter ≡ true → judged history counter ≡ 9
  unfolding judged choose
  invalid e = rw e

  invalid_above : limit ≤ counter → is_invalid (expected history) counter ≡ true
  unfolding is_invalid choose
  invalid_above l = rw (le-leb limit counter l)

  invalid_behind : counter + 8192 < expected history → is_invalid (expected history) counter ≡ true
  unfolding is_invalid
  invalid_behind l = of_choice (λ (f : Bool). f ≡ true) _ _ _ refl (lt-ltb _ _ l)

  valid_again : counter < limit → expected history ≤ counter + 8192 → member counter history ≡ true → judged history counter ≡ 10
  unfolding judged is_invalid choose
  valid_again a b m = rw (lt-leb limit counter a, le-ltb _ _ b, m)

  judges_verdict : Judges history counter kind (verdict_on history counter kind) (skip_on history counter kind)
  judges_verdict =
      let law : VerdictLaw history counter kind = verdict_law history counter kind in
      record {
        commits = law.commits;
        only = law.only;
        above = λ d l. opened d ∙ invalid (invalid_above l);
        behind = λ d l. opened d ∙ invalid (invalid_behind l);
        again = λ d a b m. opened d ∙ valid_again a b m;
        failed = law.failed;
        skips = law.skips;
      }

-- there are as many as messages, and each is called for by the history with the messages before it
pub long_each : (rule : List ℕ → (counter kind : ℕ) → ℕ) (history counters kinds : List ℕ) → length kinds ≡ length counters
    → length (each_on rule history counters kinds) ≡ length counters
unfolding each_on
long_each rule history [] kinds e = refl
long_each rule history (c ∷ counters) [] e = absurd (omega (arith, e))
long_each rule history (c ∷ counters) (k ∷ kinds) e = ap suc (long_each rule (recorded history c (verdict_on history c k)) counters kinds (omega (arith, e)))

pub each_verdict : (i : ℕ) (history counters kinds : List ℕ) → length kinds ≡ length counters → i < length counters
    → Judges (recorded_all history (take i counters) (take i (verdicts_on history counters kinds))) (get_or counters i 0) (get_or kinds i 0)
    (get_or (verdicts_on history counters kinds) i 0)
    (get_or (skips_on history counters kinds) i 0)
unfolding each_on recorded_all
each_verdict i history [] kinds e l = absurd (omega arith)
each_verdict i history (c ∷ counters) [] e l = absurd (omega (arith, e))
each_verdict zero history (c ∷ counters) (k ∷ kinds) e l = judges_verdict history c k
each_verdict (suc i) history (c ∷ counters) (k ∷ kinds) e l = each_verdict i _ counters kinds (omega (arith, e)) (omega arith)
