-- The theorems of the laws that src/lib.rt ties: what another crate may cite of the window's proofs.
-- Assumes nothing.
use Rattle.std.proofs.Common.{◌≡◌, ℕ, ◌+◌, ◌-◌, ◌<◌, ◌≤◌, false, eqb, List, [], sym, refl, ◌∙◌, arith}
use Rattle.base.specs.Choice.{choose}
use Rattle.window.specs.Window.{limit, will_accept, skipped_by}
use Rattle.window.specs.History.{member, expected, judged, skipped_after, Skips, Represents, grown, verdict, skipped, committed, WindowLaw, JudgedLaw, StandingLaw}
use Rattle.window.proofs.History.{judged_zero, judged_only, represents_verdict, represents_grown, represents_fresh, represents_commit}
use Rattle.base.specs.Lists.{zeros}
use Rattle.window.proofs.Verdict.{by_number}
use Rattle.window.proofs.Counted.{represents_ones}

-- zero words and next 0 stand for the empty history
pub fresh_law : Represents [] (zeros 128) 0
fresh_law = represents_fresh

-- a counter less the next expected one, where it is given verdict 0
skips_by : (next c v : ℕ) → Skips next c v (choose (eqb v 0) (c - next) 0)
unfolding choose
skips_by next c v = record { ahead = λ z h. grind arith; behind = λ z h. grind arith; refused = λ n. grind arith }

-- which counters a history calls for a verdict of 0 on
pub judged_law : (history : List ℕ) (c : ℕ) → JudgedLaw history c
judged_law history c =
    record { commits = judged_zero history c; only = judged_only history c; skips = unfold skipped_after in skips_by (expected history) c (judged history c) }

-- what words and a next expected counter that stand for a history do
pub standing_law : (history words : List ℕ) (next : ℕ) → Represents history words next → StandingLaw history words next
standing_law history words next r =
    record {
      judges = represents_verdict history words next r;
      skips = λ c. unfold skipped_by skipped_after in rw (by_number (will_accept words next c) 0 (c - next), represents_verdict history words next r c, r.expects) refl;
      stands = represents_commit history words next r;
      counts = represents_ones history words next r;
    }

-- the law of every window grown from nothing
pub window_law : (counters : List ℕ) → WindowLaw counters
unfolding verdict
window_law counters =
    record {
      judges = judge;
      commits = λ c l h e. judge c ∙ judged_zero (committed counters) c l (omega (arith, r.expects)) e;
      only = λ c z. limited c (judged_only (committed counters) c (sym (judge c) ∙ z));
      skips = λ c. unfold skipped skipped_by in rw (by_number (will_accept (grown counters).words (grown counters).next c) 0 (c - (grown counters).next)) (skips_by (grown counters).next c (verdict (grown counters) c));
      expects = r.expects;
      counts = represents_ones (committed counters) (grown counters).words (grown counters).next r;
    }
  where
    r : Represents (committed counters) (grown counters).words (grown counters).next
    r = represents_grown counters

    judge : (c : ℕ) → verdict (grown counters) c ≡ judged (committed counters) c
    judge c = represents_verdict (committed counters) (grown counters).words (grown counters).next r c

    limited : (c : ℕ) → (c < limit) × (expected (committed counters) ≤ c + 8192) × (member c (committed counters) ≡ false)
        → (c < limit) × ((grown counters).next ≤ c + 8192) × (member c (committed counters) ≡ false)
    limited c t = (t.0, omega (arith, r.expects, t.1), t.2)
