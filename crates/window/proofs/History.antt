-- A window stands for the history of its committed counters: the verdict is what the history calls for, and a commit adds to it.
-- The relation looks one period ahead, so that a young window is no special case.
-- Assumes nothing.
use Rattle.std.proofs.Common.{◌≡◌, ℕ, ◌+◌, ◌-◌, ◌%◌, ◌<◌, ◌≤◌, max, Bool, true, false, eqb, List, [], ◌∷◌, length, sym, refl, ap, ◌∙◌, arith, eqb-true}
use native.Mathlib.Decide.{ℕ_discrete, dec_le}
use Rattle.base.specs.Choice.{choose}
use Rattle.base.proofs.Bits.{bit_zero}
use Rattle.base.proofs.Sums.{cycled_again}
use Rattle.base.proofs.Zeros.{zeros_at, length_zeros}
use Rattle.base.specs.Lists.{zeros}
use Rattle.error.specs.Error.{verdict_number}
use Rattle.window.specs.Window.{limit, word_of, bit_of, bit_at, check_bit, set_bit, clears, advance, is_invalid, will_accept, next_after, words_after}
use Rattle.window.specs.History.{member, expected, judged, commit_to, seen, past, Represents, fresh, given, grown, verdict, committed}
use Rattle.window.proofs.Verdict.{next_by_number, words_by_number}
use Rattle.window.proofs.Words.{length-set_bit, set_bit-fits, set_hit, set_miss, clears_hit, clears_miss}
use Rattle.window.proofs.Ready.{empty_fits, advance_none, advance_near, advance_far, length_advance, advance_fits}

-- membership
member_there : (c x : ℕ) (history : List ℕ) → (c ≡ x → ⊥) → member c (x ∷ history) ≡ member c history
unfolding member choose
member_there c x history h = grind arith

-- no counter at or above the next expected one is in the history
member_ahead : (c : ℕ) (history : List ℕ) → expected history ≤ c → member c history ≡ false
unfolding member expected
member_ahead c [] h = refl
member_ahead c (x ∷ history) h = member_there c x history (λ e. omega arith) ∙ member_ahead c history (omega arith)

-- the same of `seen`
seen_here : (c : ℕ) (history : List ℕ) → seen (c ∷ history) c ≡ 1
unfolding seen member choose
seen_here c history = grind arith

seen_no : (history : List ℕ) (c : ℕ) → member c history ≡ false → seen history c ≡ 0
unfolding seen choose
seen_no history c e = rw e

seen_there : (history : List ℕ) (c x : ℕ) → (c ≡ x → ⊥) → seen (x ∷ history) c ≡ seen history c
unfolding seen
seen_there history c x h = rw (member_there c x history h)

pub past_late : (history : List ℕ) (y : ℕ) → 8192 ≤ y → past history y ≡ seen history (y - 8192)
unfolding past choose
past_late history y h = grind arith

pub past_early : (history : List ℕ) (y : ℕ) → y < 8192 → past history y ≡ 0
unfolding past choose
past_early history y h = grind arith

-- a place's bit says nothing of the counters not yet expected
past_ahead : (history : List ℕ) (y : ℕ) → expected history + 8192 ≤ y → past history y ≡ 0
past_ahead history y h = past_late history y (omega arith) ∙ seen_no history (y - 8192) (member_ahead (y - 8192) history (omega arith))

past_there : (history : List ℕ) (c y : ℕ) → (y ≡ c + 8192 → ⊥) → past (c ∷ history) y ≡ past history y
past_there history c y h = elim (dec_le 8192 y) [
  | yes l ↦ past_late (c ∷ history) y l ∙ seen_there history (y - 8192) c (λ e. h (omega arith)) ∙ sym (past_late history y l)
  | no n ↦ past_early (c ∷ history) y (omega arith) ∙ sym (past_early history y (omega arith))
]

-- a bit comes again after a period
bit_again : (words : List ℕ) (y : ℕ) → bit_at words (8192 + y) ≡ bit_at words y
unfolding bit_at
bit_again words y = cycled_again words y

bit_empty : (y : ℕ) → bit_at (zeros 128) y ≡ 0
unfolding bit_at
bit_empty y = rw (zeros_at 128 (word_of y)) (bit_zero (bit_of y))

-- the fresh window stands for no history
pub represents_fresh : Represents [] (zeros 128) 0
unfolding expected
represents_fresh =
    record { long = length_zeros 128; fitting = empty_fits; expects = refl; bits = λ y l h. bit_empty y ∙ sym (past_early [] y (omega arith)) }

module _ (history words : List ℕ) (next : ℕ) (r : Represents history words next) (c : ℕ) where
  -- the bit of a counter that is not ahead says whether it is in the history
  bit_says : c < next → next ≤ c + 8192 → bit_at words c ≡ seen history c
  bit_says l h =
      sym (bit_again words c) ∙ r.bits (8192 + c) (omega arith) (omega arith)
      ∙ past_late history (8192 + c) (omega arith) ∙ ap (seen history) (omega arith)

  checks : c < next → next ≤ c + 8192 → check_bit words c ≡ member c history
  unfolding check_bit seen choose
  checks l h = rw (bit_says l h) (grind arith)

  -- the window's verdict is the one that the history calls for
  pub represents_verdict : verdict_number (will_accept words next c) ≡ judged history c
  unfolding will_accept judged is_invalid choose
  represents_verdict =
      let long = r.long in
      let expects = r.expects in
      let ahead : next ≤ c → member c history ≡ false = λ l. member_ahead c history (omega (arith, r.expects)) in
      grind (arith, checks)

  module _ (y : ℕ) (after : c < y) where
    -- places of counters that are still expected
    ready_kept : next ≤ y → y < next + 8192 → bit_at (advance words next c) y ≡ past history y
    ready_kept l h = elim (dec_le c next) [
      | yes m ↦ rw (advance_none words next c m) (r.bits y l h)
      | no n ↦ rw (advance_near words next c (omega arith))
          (clears_miss words r.long next (c - next) y (omega arith) h ∙ r.bits y l h)
    ]

    -- places of counters that are skipped
    ready_skipped : next + 8192 ≤ y → y < c + 8192 → bit_at (advance words next c) y ≡ past history y
    ready_skipped l h = elim (dec_le 8192 (c - next)) [
      | yes m ↦ rw (advance_far words next c m) (bit_empty y ∙ none)
      | no n ↦ rw (advance_near words next c (omega arith)) (again ∙ cleared (omega arith) ∙ none)
    ]
      where
        none : 0 ≡ past history y
        none = sym (past_ahead history y (omega (arith, r.expects)))

        place : 8192 + (y - 8192) ≡ y
        place = omega arith

        again : bit_at (clears words next (c - next)) y ≡ bit_at (clears words next (c - next)) (y - 8192)
        again = ap (bit_at (clears words next (c - next))) (sym place) ∙ bit_again (clears words next (c - next)) (y - 8192)

        cleared : c - next ≤ 8192 → bit_at (clears words next (c - next)) (y - 8192) ≡ 0
        cleared m = clears_hit words r.long next (c - next) (y - 8192) m (omega arith) (omega arith)

  -- a counter at most 8,192 behind joins the history
  joins : next ≤ c + 8192 → Represents (c ∷ history) (set_bit (advance words next c) c) (max next (c + 1))
  unfolding expected
  joins near =
      record {
        long = length-set_bit (advance words next c) c ∙ long_advance;
        fitting = set_bit-fits (advance words next c) c (advance_fits words next c r.fitting);
        expects = omega (arith, r.expects);
        bits = λ y l h. elim (ℕ_discrete y (c + 8192)) [ yes e ↦ hit y e | no d ↦ miss y d l h ];
      }
    where
      long_advance : length (advance words next c) ≡ 128
      long_advance = length_advance words next c r.long

      hit : (y : ℕ) → y ≡ c + 8192 → bit_at (set_bit (advance words next c) c) y ≡ past (c ∷ history) y
      hit y e =
          let place : y - 8192 ≡ c = omega arith in
          set_hit (advance words next c) long_advance c y (omega arith)
          ∙ sym (past_late (c ∷ history) y (omega arith) ∙ rw place (seen_here c history))

      other : (y : ℕ) → (y ≡ c + 8192 → ⊥) → max next (c + 1) ≤ y → y < max next (c + 1) + 8192 → y % 8192 ≡ c % 8192 → ⊥
      other y d l h e = d (omega arith)

      ready : (y : ℕ) → (y ≡ c + 8192 → ⊥) → max next (c + 1) ≤ y → y < max next (c + 1) + 8192
          → bit_at (advance words next c) y ≡ past history y
      ready y d l h = elim (dec_le (next + 8192) y) [
        | yes m ↦ ready_skipped y (omega arith) m (omega arith)
        | no n ↦ ready_kept y (omega arith) (omega arith) (omega arith)
      ]

      miss : (y : ℕ) → (y ≡ c + 8192 → ⊥) → max next (c + 1) ≤ y → y < max next (c + 1) + 8192
          → bit_at (set_bit (advance words next c) c) y ≡ past (c ∷ history) y
      miss y d l h =
          set_miss (advance words next c) long_advance c y (other y d l h) ∙ ready y d l h ∙ sym (past_there history c y d)

-- a verdict of 0 exactly for a counter below LIMIT, at most 8,192 behind and not in the history
module _ (history : List ℕ) (c : ℕ) where
  pub judged_zero : c < limit → expected history ≤ c + 8192 → member c history ≡ false → judged history c ≡ 0
  unfolding judged is_invalid choose
  judged_zero l h e = grind arith

  pub judged_only : judged history c ≡ 0 → (c < limit) × (expected history ≤ c + 8192) × (member c history ≡ false)
  unfolding judged is_invalid choose
  judged_only z = grind arith

-- a commit, or a refusal, leaves a window that stands for the history it should
module _ (history words : List ℕ) (next : ℕ) (r : Represents history words next) (c : ℕ) where
  same : verdict_number (will_accept words next c) ≡ judged history c
  same = represents_verdict history words next r c

  pub represents_commit : Represents (commit_to history c) (words_after words next c) (next_after words next c)
  unfolding commit_to choose
  represents_commit = go (eqb (judged history c) 0) refl
    where
      go : (b : Bool) → eqb (judged history c) 0 ≡ b → Represents (commit_to history c) (words_after words next c) (next_after words next c)
      go true e =
          rw (words_by_number, next_by_number, same, e) (joins history words next r c (omega (arith, r.expects, (judged_only history c (eqb-true (judged history c) 0 e)).1)))
      go false e = rw (words_by_number, next_by_number, same, e) r

-- a window grown from nothing stands for its committed counters
pub represents_grown : (counters : List ℕ) → Represents (committed counters) (grown counters).words (grown counters).next
unfolding grown fresh given committed verdict commit_to
represents_grown [] = represents_fresh
represents_grown (c ∷ counters) =
    let r = represents_grown counters in
    rw (represents_verdict (committed counters) (grown counters).words (grown counters).next r c)
    (represents_commit (committed counters) (grown counters).words (grown counters).next r c)
