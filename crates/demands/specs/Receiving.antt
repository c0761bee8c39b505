-- Demand 2, receiving: which counters a live session commits, said of the calls made on the tunnel and their answers.
use Rattle.std.specs.Prelude.{◌≡◌, true, false, List, [], ◌∷◌, ℕ, ◌+◌, ◌-◌, ◌^◌, ◌≤◌, ◌<◌, length, get_or, take}
use Rattle.tunnel.specs.Answer.{number_of}
use Rattle.demands.specs.Calls.Call.{receive}
use Rattle.demands.specs.Calls.{Call, World, Reply, step, after, Creation, created, Good, Expired}
use Rattle.demands.specs.Made.{Made, made, good_batch, insertions}
use Rattle.demands.specs.History.{recorded_all}
use Rattle.sessions.specs.Sessions.{slot_at}
use Rattle.window.specs.History.{member, expected, Skips}

-- a session's history with what a call committed there: the counters that a batch for this session id, answered good, gave verdict 0
unfoldable pub committing : ℕ → List ℕ → Call → Reply → List ℕ
committing id history call reply = good_batch id call reply (λ now counters. recorded_all history counters reply.verdicts) history

-- a session's history with what calls committed there, the counter committed last in front
unfoldable pub history_from : ℕ → List ℕ → List Made → List ℕ
history_from id history [] = history
history_from id history (m ∷ later) = history_from id (committing id history m.call m.reply) later

-- the history of a session after a list of calls
abbrev pub history_of : ℕ → World → List Call → List ℕ
history_of id w calls = history_from id [] (made w calls)

-- the arguments of a batch
pub record Batch : Type 0 where
  pub index : ℕ
  pub id : ℕ
  pub now : ℕ
  pub counters : List ℕ
  pub kinds : List ℕ
  pub verdicts : List ℕ
  pub skips : List ℕ

-- the call of a batch
abbrev pub receiving : Batch → Call
receiving b = receive b.index b.id b.now b.counters b.kinds b.verdicts b.skips

-- live, word by word: the checks 1, 2 and 13 let the call through, as 14 does every tunnel from a creation (`Grown`), the tunnel is not
-- expired, a filled slot holds the given local index and session id, and its age is below 180 s
pub record Live (w : World) (b : Batch) (slot : ℕ) : Type 0 where
  pub timely : b.now ≤ 4000000000000000000
  pub whole : length w.store ≡ 1024
  pub kinds_long : length b.kinds ≡ length b.counters
  pub verdicts_long : length b.verdicts ≡ length b.counters
  pub skips_long : length b.skips ≡ length b.counters
  pub most : length b.counters ≤ 1024
  pub known : (i : ℕ) → i < length b.kinds → get_or b.kinds i 0 ≤ 2
  pub onward : w.tunnel.greatest ≤ b.now
  pub alive : Expired w → ⊥
  pub among : slot < 8
  pub filled : (slot_at w.tunnel.control.sessions slot).filled ≡ true
  pub index : (slot_at w.tunnel.control.sessions slot).receiving_index ≡ b.index
  pub id : (slot_at w.tunnel.control.sessions slot).id ≡ b.id
  pub age : b.now - (slot_at w.tunnel.control.sessions slot).established_at < 180000000000

-- What a session with this history answers to a message of this counter and kind (2: it failed to open):
pub record Judges (history : List ℕ) (counter kind verdict skipped : ℕ) : Type 0 where
  -- 0 if it opened and its counter is below 2^64 - 8,193, at most 8,192 behind the next expected one and never committed before
  pub commits : (kind ≡ 2 → ⊥) → counter < 2 ^ 64 - 8193 → expected history ≤ counter + 8192 → member counter history ≡ false → verdict ≡ 0
  -- and only then
  pub only : verdict ≡ 0 → (kind ≡ 2 → ⊥) × (counter < 2 ^ 64 - 8193) × (expected history ≤ counter + 8192) × (member counter history ≡ false)
  -- 9 at or above 2^64 - 8,193, and more than 8,192 behind the next expected one
  pub above : (kind ≡ 2 → ⊥) → 2 ^ 64 - 8193 ≤ counter → verdict ≡ 9
  pub behind : (kind ≡ 2 → ⊥) → counter + 8192 < expected history → verdict ≡ 9
  -- 10 if it was committed before
  pub again : (kind ≡ 2 → ⊥) → counter < 2 ^ 64 - 8193 → expected history ≤ counter + 8192 → member counter history ≡ true → verdict ≡ 10
  -- 7 if it failed to open
  pub failed : kind ≡ 2 → verdict ≡ 7
  -- where it commits ahead, it skips the counters from the next expected one up to its own, else none
  pub skips : Skips (expected history) counter verdict skipped

-- A batch for a live session is answered good, with one verdict and one skip for each message; each is judged by the session's history after the
-- calls so far and the batch's earlier messages.
pub record ReceivingLaw (w : World) (calls : List Call) (b : Batch) : Type 0 where
  pub good : number_of (step (after w calls) (receiving b)).answer ≡ 0
  pub long : length (step (after w calls) (receiving b)).verdicts ≡ length b.counters
  pub skips_long : length (step (after w calls) (receiving b)).skips ≡ length b.counters
  pub judges : (i : ℕ) → i < length b.counters
      → Judges
      (recorded_all (history_of b.id w calls) (take i b.counters) (take i (step (after w calls) (receiving b)).verdicts))
      (get_or b.counters i 0)
      (get_or b.kinds i 0)
      (get_or (step (after w calls) (receiving b)).verdicts i 0)
      (get_or (step (after w calls) (receiving b)).skips i 0)

-- For every creation that is not turned down, every list of calls with fewer than 2^64 insertions and every batch for a live session.
abbrev pub Receiving : Type 0
Receiving =
    (c : Creation) → Good c → (calls : List Call) → insertions (made (created c) calls) < 2 ^ 64
    → (b : Batch) (slot : ℕ) → Live (after (created c) calls) b slot → ReceivingLaw (created c) calls b

-- And a batch that is answered good was for a live session.
abbrev pub OnlyLive : Type 0
OnlyLive =
    (c : Creation) → Good c → (calls : List Call) (b : Batch) → number_of (step (after (created c) calls) (receiving b)).answer ≡ 0
    → (slot : ℕ) × Live (after (created c) calls) b slot
