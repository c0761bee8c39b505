-- The anti-replay window of src/replay.rs as the plain rule: 128 words of 64 bits hold one bit for each of the 8,192 counters below `next`.
use Rattle.std.specs.Prelude.{◌≡◌, ℕ, zero, suc, ◌+◌, ◌-◌, ◌/◌, ◌%◌, ◌^◌, max, Bool, true, List, length, ◌==◌, bit_and, bit_or, nat_le, nat_lt, slice_index, slice_set, Result, Ok, Err}
use Rattle.base.specs.Bits.{bit}
use Rattle.base.specs.Choice.{choose, case_result}
use Rattle.base.specs.Lists.{zeros}
use Rattle.error.specs.declared.Error.{Error}
use Rattle.error.specs.declared.Error.TheVariants.{InvalidArgument, InvalidCounter, DuplicateCounter}
use Rattle.window.specs.declared.Marked.{Marked}

-- LIMIT, the Rust's REJECT_AFTER_MESSAGES
abbrev pub limit : ℕ
limit = 18446744073709543423

-- the word that holds a counter's bit
abbrev pub word_of : ℕ → ℕ
word_of counter = counter % 8192 / 64

-- the place of a counter's bit in its word
abbrev pub bit_of : ℕ → ℕ
bit_of counter = counter % 64

-- the bit of a counter, 0 or 1
unfoldable pub bit_at : List ℕ → ℕ → ℕ
bit_at words counter = bit (slice_index words (word_of counter)) (bit_of counter)

-- whether the bit of a counter is set
unfoldable pub check_bit : List ℕ → ℕ → Bool
check_bit words counter = bit_at words counter == 1

-- the words with the bit of a counter set
unfoldable pub set_bit : List ℕ → ℕ → List ℕ
set_bit words counter = slice_set words (word_of counter) (bit_or (slice_index words (word_of counter)) (2 ^ bit_of counter))

-- the words with the bit of a counter cleared
unfoldable pub clear_bit : List ℕ → ℕ → List ℕ
clear_bit words counter = slice_set words (word_of counter) (bit_and (slice_index words (word_of counter)) (2 ^ 64 - 1 - 2 ^ bit_of counter))

-- the words with the bits of `count` counters from `from` on cleared
unfoldable pub clears : List ℕ → ℕ → ℕ → List ℕ
clears words from zero = words
clears words from (suc count) = clear_bit (clears words from count) (from + count)

-- the words made ready for a counter: an advance by 8,192 or more clears them whole, a smaller one the bit of each skipped counter
unfoldable pub advance : List ℕ → ℕ → ℕ → List ℕ
advance words next counter = choose (nat_le 8192 (counter - next)) (zeros 128) (clears words next (counter - next))

-- whether a counter is at or above LIMIT, or more than 8,192 behind `next`
unfoldable pub is_invalid : ℕ → ℕ → Bool
is_invalid next counter = choose (nat_le limit counter) true (nat_lt (counter + 8192) next)

-- the verdict on a counter: invalid, a duplicate where it is behind `next` and its bit is set, else good; an argument is invalid where the words are not 128
unfoldable pub will_accept : List ℕ → ℕ → ℕ → Result Unit Error
will_accept words next counter =
    choose (length words == 128)
    (choose (is_invalid next counter) (Err InvalidCounter) (choose (nat_le next counter) (Ok tt) (choose (check_bit words counter) (Err DuplicateCounter) (Ok tt))))
    (Err InvalidArgument)

-- the next expected counter after a commit
unfoldable pub next_after : List ℕ → ℕ → ℕ → ℕ
next_after words next counter = case_result (will_accept words next counter) (λ error. next) (λ good. max next (counter + 1))

-- the words after a commit
unfoldable pub words_after : List ℕ → ℕ → ℕ → List ℕ
words_after words next counter = case_result (will_accept words next counter) (λ error. words) (λ good. set_bit (advance words next counter) counter)

-- how many counters a commit skips: the counter less `next`, which leaves 0 where it is not ahead; none where it is turned down
unfoldable pub skipped_by : List ℕ → ℕ → ℕ → ℕ
skipped_by words next counter = case_result (will_accept words next counter) (λ error. 0) (λ good. counter - next)

-- what committing a counter answers
unfoldable pub mark_did_receive : List ℕ → ℕ → ℕ → Marked
mark_did_receive words next counter =
    record { verdict = will_accept words next counter; next = next_after words next counter; skipped = skipped_by words next counter }

-- a commit's answer and the words that it leaves
pub record Marks (words last : List ℕ) (next counter : ℕ) (answer : Marked) : Type 0 where
  pub out : answer ≡ mark_did_receive words next counter
  pub left : last ≡ words_after words next counter
