-- The set bits of a window are as many as there are committed counters among the last 8,192 below next.
-- Assumes nothing.
use Rattle.std.proofs.Common.{◌≡◌, ℕ, ◌+◌, ◌-◌, ◌<◌, ◌≤◌, List, sym, ap, ◌∙◌, arith}
use native.Mathlib.Decide.{dec_le}
use Rattle.base.specs.Lists.{ones_of}
use Rattle.base.specs.Sums.{sum}
use Rattle.base.proofs.Sums.{sum_cong, sum_none, sum_split, ones_cycled}
use Rattle.window.specs.Window.{bit_at}
use Rattle.window.specs.History.{expected, seen, past, among_last, Represents}
use Rattle.window.proofs.History.{past_early, past_late}

-- a period of places ahead says which of the last 8,192 counters are in the history
last_old : (history : List ℕ) (next : ℕ) → 8192 ≤ next
    → sum (λ k. past history (next + k)) 8192 ≡ sum (λ k. seen history (next - 8192 + k)) 8192
last_old history next h =
    sum_cong _ _ 8192 (λ k l. past_late history (next + k) (omega arith) ∙ ap (seen history) (omega arith))

last_young : (history : List ℕ) (next : ℕ) → next < 8192
    → sum (λ k. past history (next + k)) 8192 ≡ sum (λ k. seen history (next - 8192 + k)) next
last_young history next h =
    let size : 8192 ≡ 8192 - next + next = omega arith in
    ap (sum (λ k. past history (next + k))) size ∙ sum_split (λ k. past history (next + k)) (8192 - next) next
    ∙ omega (
      arith,
      sum_none (λ k. past history (next + k)) (8192 - next) (λ k l. past_early history (next + k) (omega arith)),
      sum_cong (λ k. past history (next + (8192 - next + k))) (λ k. seen history (next - 8192 + k)) next
          (λ k l. past_late history (next + (8192 - next + k)) (omega arith) ∙ ap (seen history) (omega arith)),
    )

last_any : (history : List ℕ) (next : ℕ) → next ≡ expected history → sum (λ k. past history (next + k)) 8192 ≡ among_last history
unfolding among_last
last_any history next e = rw (← e)
    (elim (dec_le 8192 next) [
      | yes l ↦ last_old history next l ∙ ap (sum (λ k. seen history (next - 8192 + k))) (omega arith)
      | no n ↦ last_young history next (omega arith) ∙ ap (sum (λ k. seen history (next - 8192 + k))) (omega arith)
    ])

-- the ones of a window that stands for a history
pub represents_ones : (history words : List ℕ) (next : ℕ) → Represents history words next → ones_of words ≡ among_last history
unfolding bit_at
represents_ones history words next r =
    sym (ones_cycled words r.long r.fitting next)
    ∙ sum_cong (λ k. bit_at words (next + k)) (λ k. past history (next + k)) 8192 (λ k h. r.bits (next + k) (omega arith) (omega arith))
    ∙ last_any history next r.expects
