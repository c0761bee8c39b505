-- What a window grown from nothing by any list of counters does, said of the counters themselves and not of words or bits.
use Rattle.std.specs.Prelude.{◌≡◌, ℕ, ◌+◌, ◌-◌, ◌^◌, ◌<◌, ◌≤◌, min, max, Bool, true, false, List, [], ◌∷◌, length, ◌==◌, ◌≢◌, nat_le, slice_index}
use Rattle.base.specs.Choice.{choose}
use Rattle.base.specs.Lists.{zeros, ones_of}
use Rattle.base.specs.Sums.{sum}
use Rattle.error.specs.Error.{verdict_number}
use Rattle.window.specs.Window.{bit_at, is_invalid, will_accept, next_after, words_after, skipped_by}

-- whether a counter is in a history
unfoldable pub member : ℕ → List ℕ → Bool
member counter [] = false
member counter (x ∷ history) = choose (counter == x) true (member counter history)

-- the next expected counter: one more than the greatest in the history, or 0
unfoldable pub expected : List ℕ → ℕ
expected [] = 0
expected (x ∷ history) = max (x + 1) (expected history)

-- the verdict on a counter after a history: 0 exactly if it is below LIMIT, at most 8,192 behind the next expected one and not in the history
unfoldable pub judged : List ℕ → ℕ → ℕ
judged history counter =
    choose (is_invalid (expected history) counter) 9 (choose (member counter history) 10 0)

-- the history with a counter, if it is committed
unfoldable pub commit_to : List ℕ → ℕ → List ℕ
commit_to history counter = choose (judged history counter == 0) (counter ∷ history) history

-- how many counters one skips after a history: it less the next expected one, which leaves 0 where it is not ahead; none where it is not committed
unfoldable pub skipped_after : List ℕ → ℕ → ℕ
skipped_after history counter = choose (judged history counter == 0) (counter - expected history) 0

-- What a counter skips that is given this verdict where `next` is expected:
pub record Skips (next counter verdict skipped : ℕ) : Type 0 where
  -- committed and not behind, the counters from the next expected one up to it
  pub ahead : verdict ≡ 0 → next ≤ counter → next + skipped ≡ counter
  -- committed and behind, none
  pub behind : verdict ≡ 0 → counter < next → skipped ≡ 0
  -- turned down, none
  pub refused : (verdict ≢ 0) → skipped ≡ 0

-- 1 where a counter is in the history, else 0
unfoldable pub seen : List ℕ → ℕ → ℕ
seen history counter = choose (member counter history) 1 0

-- how many of the last 8,192 counters below the next expected one, or of all where there are fewer, are in the history
unfoldable pub among_last : List ℕ → ℕ
among_last history = sum (λ k. seen history (expected history - 8192 + k)) (min (expected history) 8192)

-- the bit that a place of the bitmap has for a counter that is yet to come: whether the counter 8,192 before it is in the history
unfoldable pub past : List ℕ → ℕ → ℕ
past history counter = choose (nat_le 8192 counter) (seen history (counter - 8192)) 0

-- words and a next expected counter that stand for a history
pub record Represents (history words : List ℕ) (next : ℕ) : Type 0 where
  pub long : length words ≡ 128
  pub fitting : (j : ℕ) → slice_index words j < 2 ^ 64
  pub expects : next ≡ expected history
  pub bits : (y : ℕ) → next ≤ y → y < next + 8192 → bit_at words y ≡ past history y

-- The verdict that a history calls for is 0 exactly for a counter below 2^64 - 8,193, at most 8,192 behind the next expected one and not in the history,
-- and only such a one skips any.
pub record JudgedLaw (history : List ℕ) (counter : ℕ) : Type 0 where
  pub commits : counter < 2 ^ 64 - 8193 → expected history ≤ counter + 8192 → member counter history ≡ false → judged history counter ≡ 0
  pub only : judged history counter ≡ 0 → (counter < 2 ^ 64 - 8193) × (expected history ≤ counter + 8192) × (member counter history ≡ false)
  pub skips : Skips (expected history) counter (judged history counter) (skipped_after history counter)

-- What words and a next expected counter that stand for a history do:
pub record StandingLaw (history words : List ℕ) (next : ℕ) : Type 0 where
  -- the verdict on a counter is the one that the history calls for
  pub judges : (counter : ℕ) → verdict_number (will_accept words next counter) ≡ judged history counter
  -- a commit skips as many counters as the history calls for
  pub skips : (counter : ℕ) → skipped_by words next counter ≡ skipped_after history counter
  -- after a commit they stand for the history with the counter, and after a refusal for the history as it was
  pub stands : (counter : ℕ) → Represents (commit_to history counter) (words_after words next counter) (next_after words next counter)
  -- the set bits are as many as there are counters of the history among the last 8,192 below next
  pub counts : ones_of words ≡ among_last history

-- a window: its words and its next expected counter
pub record Window : Type 0 where
  pub words : List ℕ
  pub next : ℕ

-- the fresh window
unfoldable pub fresh : Window
fresh = record { words = zeros 128; next = 0 }

-- the number of the verdict of a window on a counter
unfoldable pub verdict : Window → ℕ → ℕ
verdict window counter = verdict_number (will_accept window.words window.next counter)

-- how many counters a window says that one skips
unfoldable pub skipped : Window → ℕ → ℕ
skipped window counter = skipped_by window.words window.next counter

-- the window after a counter was given to it
unfoldable pub given : Window → ℕ → Window
given window counter =
    record { words = words_after window.words window.next counter; next = next_after window.words window.next counter }

-- the window after a list of counters was given to a fresh one; the last given stands first
unfoldable pub grown : List ℕ → Window
grown [] = fresh
grown (counter ∷ counters) = given (grown counters) counter

-- the counters that were given verdict 0, by what the windows answered
unfoldable pub committed : List ℕ → List ℕ
committed [] = []
committed (counter ∷ counters) = choose (verdict (grown counters) counter == 0) (counter ∷ committed counters) (committed counters)

-- For every list of counters given to a fresh window:
pub record WindowLaw (counters : List ℕ) : Type 0 where
  -- a counter's verdict is the one that the committed counters call for
  pub judges : (counter : ℕ) → verdict (grown counters) counter ≡ judged (committed counters) counter
  -- it commits exactly if it is below 2^64 - 8,193, at most 8,192 behind next and was not committed before
  pub commits : (counter : ℕ) → counter < 2 ^ 64 - 8193 → (grown counters).next ≤ counter + 8192 → member counter (committed counters) ≡ false
      → verdict (grown counters) counter ≡ 0
  pub only : (counter : ℕ) → verdict (grown counters) counter ≡ 0
      → (counter < 2 ^ 64 - 8193) × ((grown counters).next ≤ counter + 8192) × (member counter (committed counters) ≡ false)
  -- committed ahead it skips the counters from next up to it, else none
  pub skips : (counter : ℕ) → Skips (grown counters).next counter (verdict (grown counters) counter) (skipped (grown counters) counter)
  -- next is one more than the greatest committed counter, or 0
  pub expects : (grown counters).next ≡ expected (committed counters)
  -- the set bits are as many as there are committed counters among the last 8,192 below next
  pub counts : ones_of (grown counters).words ≡ among_last (committed counters)
