-- One law for each way out of a commit: what the code leaves is what the definition says, under the tests that led there.
-- Assumes nothing.
use Rattle.std.proofs.Common.{◌≡◌, ℕ, ◌+◌, ◌-◌, ◌<◌, ◌≤◌, max, Bool, true, false, List, length, Ok, Err, sym, refl, ◌∙◌, arith}
use Rattle.base.specs.Choice.{choose, case_result}
use Rattle.error.specs.declared.Error.{Error}
use Rattle.error.specs.declared.Error.TheVariants.{InvalidArgument, InvalidCounter, DuplicateCounter}
use Rattle.window.specs.Window.{check_bit, set_bit, advance, is_invalid, will_accept, next_after, words_after, skipped_by, mark_did_receive, Marks}
use Rattle.window.specs.declared.Marked.{Marked}
use Rattle.window.proofs.Ready.{advance_none}

-- a refusal changes nothing; a good verdict sets the counter's bit and may move `next`
module _ (ws : List ℕ) (next c : ℕ) (answer : Marked) where
  turned_down : (e : Error) → will_accept ws next c ≡ Err e → answer ≡ record { verdict = Err e; next = next; skipped = 0 } → Marks ws ws next c answer
  unfolding mark_did_receive next_after words_after skipped_by case_result
  turned_down e p a = record { out = rw p a; left = rw p }

  committed : (last : List ℕ) (n k : ℕ) → will_accept ws next c ≡ Ok tt → answer ≡ record { verdict = Ok tt; next = n; skipped = k }
      → last ≡ set_bit (advance ws next c) c → n ≡ max next (c + 1) → k ≡ c - next → Marks ws last next c answer
  unfolding mark_did_receive next_after words_after skipped_by case_result
  committed last n k p a l m d = record { out = rw (p, ← m, ← d) a; left = rw p l }

  pub way_wrong : (length ws ≡ 128 → ⊥) → answer ≡ record { verdict = Err InvalidArgument; next = next; skipped = 0 } → Marks ws ws next c answer
  unfolding will_accept choose
  way_wrong h = turned_down InvalidArgument (grind arith)

  -- 128 words, and what the code's tests answered
  module _ (long : length ws ≡ 128) (flag : Bool) (f : flag ≡ is_invalid next c) where
    pub way_invalid : flag ≡ true → answer ≡ record { verdict = Err InvalidCounter; next = next; skipped = 0 } → Marks ws ws next c answer
    unfolding will_accept choose
    way_invalid t = turned_down InvalidCounter (grind arith)

    module _ (low : flag ≡ false) where
      good : (c < next → check_bit ws c ≡ false) → will_accept ws next c ≡ Ok tt
      unfolding will_accept choose
      good h = grind arith

      pub way_next : (last : List ℕ) → c ≡ next → last ≡ set_bit ws c → answer ≡ record { verdict = Ok tt; next = next + 1; skipped = 0 } → Marks ws last next c answer
      way_next last e l a =
          let near : c ≤ next = omega arith in
          committed last (next + 1) 0 (good (λ h. absurd (omega arith))) a (rw advance_none l) (omega arith) (omega arith)

      pub way_ahead : (mid last : List ℕ) → next ≤ c → mid ≡ advance ws next c → last ≡ set_bit mid c → answer ≡ record { verdict = Ok tt; next = c + 1; skipped = c - next }
          → Marks ws last next c answer
      way_ahead mid last h m l a = committed last (c + 1) (c - next) (good (λ k. absurd (omega arith))) a (rw (← m) l) (omega arith) refl

      module _ (behind : c < next) (seen : Bool) (g : seen ≡ check_bit ws c) where
        pub way_seen : seen ≡ true → answer ≡ record { verdict = Err DuplicateCounter; next = next; skipped = 0 } → Marks ws ws next c answer
        unfolding will_accept choose
        way_seen t = turned_down DuplicateCounter (grind arith)

        pub way_late : (last : List ℕ) → seen ≡ false → last ≡ set_bit ws c → answer ≡ record { verdict = Ok tt; next = next; skipped = 0 } → Marks ws last next c answer
        way_late last t l a =
            let near : c ≤ next = omega arith in
            committed last next 0 (good (λ h. sym g ∙ t)) a (rw advance_none l) (omega arith) (omega arith)
