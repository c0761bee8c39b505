-- The marked cases of document 01, in one table: what is set up, what is called, what must come out.
use Rattle.std.specs.Prelude.{Bool, true, false, List, [], ◌∷◌, ◌++◌, ℕ, zero, suc, ◌*◌, eqb, Result}
use Rattle.base.specs.Choice.{◌and◌}
use Rattle.base.specs.Lists.{zeros}
use Rattle.demands.specs.Calls.Call.{start, send, receive, initiation, response, timeout, event, deadline}
use Rattle.demands.specs.Calls.{Call, step, after, Creation, created}
use Rattle.tunnel.specs.Answer.Word.{turned, bare, none, init, resp, key, range, est, exp, at, woke}
use Rattle.tunnel.specs.Answer.{Word, answer_word, values_of}
use Rattle.tunnel.specs.declared.answer.Answer.{Answer}
use Rattle.window.specs.History.{Window, verdict, given}
use Rattle.window.specs.Window.{set_bit}
use Rattle.error.specs.declared.Error.{Error}

-- two lists of numbers are the same
unfoldable pub same : List ℕ → List ℕ → Bool
same [] [] = true
same [] (y ∷ ys) = false
same (x ∷ xs) [] = false
same (x ∷ xs) (y ∷ ys) = eqb x y and same xs ys

-- a window that stands at `next` with just these counters committed
unfoldable pub standing : ℕ → List ℕ → Window
standing next [] = record { words = zeros 128; next = next }
standing next (counter ∷ counters) = record { words = set_bit (standing next counters).words counter; next = next }

-- two windows are the same
unfoldable pub same_window : Window → Window → Bool
same_window v w = eqb v.next w.next and same v.words w.words

-- the window after counters were given to it, the first given first
unfoldable pub given_all : Window → List ℕ → Window
given_all window [] = window
given_all window (counter ∷ counters) = given_all (given window counter) counters

-- the verdicts that a window gives to counters one after the other
unfoldable pub verdicts : Window → List ℕ → List ℕ
verdicts window [] = []
verdicts window (counter ∷ counters) = verdict window counter ∷ verdicts (given window counter) counters

-- a number for each word
unfoldable pub code : Word → ℕ
code turned = 0
code bare = 1
code none = 2
code init = 3
code resp = 4
code key = 5
code range = 6
code est = 7
code exp = 8
code at = 9
code Word.missing = 10
code woke = 11

-- an answer has this word and these values
unfoldable pub says : Result Answer Error → Word → List ℕ → Bool
says answer word values = eqb (code (answer_word answer)) (code word) and same (values_of answer) values

-- a creation at time 0 over a store of zeros
abbrev pub creation : (index keepalive : ℕ) → Creation
creation index keepalive = record { store = zeros 1024; index = index; keepalive = keepalive; now = 0 }

-- wakings without jitter at 1 s, 2 s on, so many
unfoldable pub wakings : ℕ → List Call
wakings zero = []
wakings (suc count) = wakings count ++ timeout 0 (suc count * 1000000000) ∷ []

-- a session of a handshake that this tunnel began, established at time 0 with peer 9: local index 257, its keepalive has counter 0
unfoldable pub initiated : List Call
initiated = start 0 ∷ response 257 9 0 0 ∷ []

-- a session of a handshake that peer 9 began, established at time 0 and selected by its first message
unfoldable pub responded : List Call
responded = initiation 9 0 0 ∷ receive 257 0 0 (0 ∷ []) (0 ∷ []) (0 ∷ []) (0 ∷ []) ∷ []

-- a marked case
pub data Case : Type 0 where
  -- a window that stands at `next` with just `held` committed is given `counters`, answers `answers`, and then stands at `next_then` with just
  -- `held_then` committed
  on_window : (next : ℕ) (held counters answers : List ℕ) (next_then : ℕ) (held_then : List ℕ) → Case
  -- on a tunnel created at time 0, after `calls`, the call `last` answers this word and these values
  on_calls : (index keepalive : ℕ) (calls : List Call) (last : Call) (word : Word) (values : List ℕ) → Case
  -- on a tunnel created at time 0, after `calls`, the keepalive timer stands at this time
  on_timer : (index keepalive : ℕ) (calls : List Call) (time : ℕ) → Case

-- what a case says, as a test
unfoldable pub holds : Case → Bool
holds (on_window next held counters answers next_then held_then) =
    same (verdicts (standing next held) counters) answers and same_window (given_all (standing next held) counters) (standing next_then held_then)
holds (on_calls index keepalive calls last word values) = says (step (after (created (creation index keepalive)) calls) last).answer word values
holds (on_timer index keepalive calls time) =
    eqb (after (created (creation index keepalive)) calls).tunnel.control.timers.time_persistent_keepalive time

-- every case of a table
unfoldable pub hold_all : List Case → Bool
hold_all [] = true
hold_all (row ∷ table) = holds row and hold_all table

-- the table; LIMIT is 18446744073709543423
unfoldable pub marked : List Case
marked =
    -- M1: fresh window, 0 commits; 0 again gives 10
    on_window 0 [] (0 ∷ 0 ∷ []) (0 ∷ 10 ∷ []) 1 (0 ∷ [])
    -- M2: next 8,192, none but 8,191 committed: 0 commits
    ∷ on_window 8192 (8191 ∷ []) (0 ∷ []) (0 ∷ []) 8192 (8191 ∷ 0 ∷ [])
    -- M3: next 8,193, only 8,192 committed: 0 gives 9, 1 commits
    ∷ on_window 8193 (8192 ∷ []) (0 ∷ 1 ∷ []) (9 ∷ 0 ∷ []) 8193 (8192 ∷ 1 ∷ [])
    -- M4: fresh window, LIMIT gives 9; LIMIT - 1 commits
    ∷ on_window 0 [] (18446744073709543423 ∷ 18446744073709543422 ∷ []) (9 ∷ 0 ∷ []) 18446744073709543423 (18446744073709543422 ∷ [])
    -- M5: next 6, 8,198 commits and clears all; then 6 gives 9 and 7 commits
    ∷ on_window 6 (0 ∷ 1 ∷ 2 ∷ 3 ∷ 4 ∷ 5 ∷ []) (8198 ∷ 6 ∷ 7 ∷ []) (0 ∷ 9 ∷ 0 ∷ []) 8199 (8198 ∷ 7 ∷ [])
    -- M6: send counter LIMIT - 1: one is granted, two give 12
    ∷ on_calls 256 0 (initiated ++ send 18446744073709543421 0 ∷ []) (send 1 0) range (9 ∷ 18446744073709543422 ∷ 1 ∷ [])
    ∷ on_calls 256 0 (initiated ++ send 18446744073709543421 0 ∷ []) (send 2 0) turned (12 ∷ [])
    -- M7: no session current, index 511 is followed by 256
    ∷ on_calls 511 0 [] (start 0) init (256 ∷ [])
    -- M8: seventeen events, the second is polled first: an established one and the keepalives 1 to 16; of sixteen the first is
    ∷ on_calls 256 1 (initiated ++ wakings 15) event est (0 ∷ 0 ∷ [])
    ∷ on_calls 256 1 (initiated ++ wakings 16) event key (9 ∷ 1 ∷ [])
    -- M9: an initiator's session sends at age 170 s and not one nanosecond later; a responder's not at 180 s
    ∷ on_calls 256 0 initiated (send 1 170000000000) range (9 ∷ 1 ∷ 1 ∷ [])
    ∷ on_calls 256 0 initiated (send 1 170000000001) turned (12 ∷ [])
    ∷ on_calls 256 0 responded (send 1 179999999999) range (9 ∷ 0 ∷ 1 ∷ [])
    ∷ on_calls 256 0 responded (send 1 180000000000) turned (12 ∷ [])
    -- M10: keepalive 25 s, no session, created at 0, woken at 25 s: no event, the deadline is still 540 s, the keepalive timer now stands
    -- at 25 s
    ∷ on_calls 256 25 (timeout 0 25000000000 ∷ []) event none []
    ∷ on_calls 256 25 (timeout 0 25000000000 ∷ []) deadline at (540000000000 ∷ [])
    ∷ on_timer 256 25 (timeout 0 25000000000 ∷ []) 25000000000
    ∷ []
