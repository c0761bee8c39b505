-- The lent store: 1,024 words, of which slot k has the 128 from 128 * k on.
use Rattle.std.specs.Prelude.{◌≡◌, ℕ, ◌+◌, ◌-◌, ◌*◌, min, Bool, List, ◌++◌, length, take, drop, ◌==◌}
use Rattle.base.specs.Choice.{choose}
use Rattle.base.specs.Sums.{sum}
use Rattle.window.specs.Window.{check_bit}

-- whether a store is of 1,024 words
abbrev pub whole : List ℕ → Bool
whole store = length store == 1024

-- the words of a slot
unfoldable pub slot_words : List ℕ → ℕ → List ℕ
slot_words store k = take 128 (drop (128 * k) store)

-- the store with words put into a slot from its first place on, 128 of them at most
unfoldable pub put_slot : List ℕ → ℕ → List ℕ → List ℕ
put_slot store k words = take (128 * k) store ++ (take 128 words ++ drop (128 * k + length (take 128 words)) store)

-- the missing count of a window: how many of the last 8,192 counters below `next`, or of all where there are fewer, do not have their bit set
unfoldable pub missing_of : List ℕ → ℕ → ℕ
missing_of words next = sum (λ k. choose (check_bit words (next - 8192 + k)) 0 1) (min next 8192)

-- what a call answers and the words that it leaves are what they shall be
pub record Leaves {A : Type 0} (answer shall : A) (left should : List ℕ) : Type 0 where
  pub out : answer ≡ shall
  pub words : left ≡ should
