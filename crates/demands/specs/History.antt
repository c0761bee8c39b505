-- A batch said of counters: which verdicts and skips the history of a session calls for. A history is the list of counters given verdict 0, the last first.
use Rattle.std.specs.Prelude.{◌≡◌, true, false, List, [], ◌∷◌, ℕ, ◌+◌, ◌-◌, ◌^◌, ◌≤◌, ◌<◌, min, eqb, length, Ok, Result, Some}
use Rattle.base.specs.Choice.{choose}
use Rattle.base.specs.Sums.{sum}
use Rattle.window.specs.History.{member, expected, judged, skipped_after, Skips, among_last, Represents}
use Rattle.sessions.specs.declared.session.Session.{Session}
use Rattle.sessions.specs.declared.sessions.Sessions.{Sessions}
use Rattle.sessions.specs.Index.{slot_of}
use Rattle.sessions.specs.Store.{slot_words, missing_of}
use Rattle.sessions.specs.Sessions.{slot_at, insert, put}
use Rattle.sessions.specs.Batch.{fits, receiving_session, receive, Batched}
use Rattle.sessions.specs.declared.batch.Progress.{Progress}
use Rattle.error.specs.declared.Error.{Error}

-- the verdict that a history calls for on a message: 7 where it failed to open, else the window's rule
unfoldable pub verdict_on : List ℕ → (counter kind : ℕ) → ℕ
verdict_on history counter kind = choose (eqb kind 2) 7 (judged history counter)

-- the skip that a history calls for on a message: none where it failed to open, else the window's rule
unfoldable pub skip_on : List ℕ → (counter kind : ℕ) → ℕ
skip_on history counter kind = choose (eqb kind 2) 0 (skipped_after history counter)

-- the history with a counter, if it was given verdict 0
unfoldable pub recorded : List ℕ → (counter verdict : ℕ) → List ℕ
recorded history counter verdict = choose (eqb verdict 0) (counter ∷ history) history

-- the history with the counters of a batch that were given verdict 0
unfoldable pub recorded_all : List ℕ → (counters verdicts : List ℕ) → List ℕ
recorded_all history [] verdicts = history
recorded_all history (counter ∷ counters) [] = history
recorded_all history (counter ∷ counters) (verdict ∷ verdicts) = recorded_all (recorded history counter verdict) counters verdicts

-- what a rule says of the messages of a batch, each with the history as those before it left it
unfoldable pub each_on : (List ℕ → (counter kind : ℕ) → ℕ) → List ℕ → (counters kinds : List ℕ) → List ℕ
each_on rule history [] kinds = []
each_on rule history (counter ∷ counters) [] = []
each_on rule history (counter ∷ counters) (kind ∷ kinds) =
    rule history counter kind ∷ each_on rule (recorded history counter (verdict_on history counter kind)) counters kinds

-- the verdicts that a history calls for on the messages of a batch
abbrev pub verdicts_on : List ℕ → (counters kinds : List ℕ) → List ℕ
verdicts_on = each_on verdict_on

-- the skips that it calls for
abbrev pub skips_on : List ℕ → (counters kinds : List ℕ) → List ℕ
skips_on = each_on skip_on

-- a session's slot stands for a history: its words, and its record's next expected counter
abbrev pub Stands : List ℕ → Sessions → List ℕ → ℕ → Type 0
Stands history s store slot = Represents history (slot_words store slot) (slot_at s slot).next

-- Verdict 0 is for a message that opened, whose counter is below 2^64 - 8,193, at most 8,192 behind the next expected one and not in the history, and for no other.
pub record VerdictLaw (history : List ℕ) (counter kind : ℕ) : Type 0 where
  pub commits : (kind ≡ 2 → ⊥) → counter < 2 ^ 64 - 8193 → expected history ≤ counter + 8192 → member counter history ≡ false → verdict_on history counter kind ≡ 0
  pub only : verdict_on history counter kind ≡ 0
      → (kind ≡ 2 → ⊥) × (counter < 2 ^ 64 - 8193) × (expected history ≤ counter + 8192) × (member counter history ≡ false)
  pub failed : kind ≡ 2 → verdict_on history counter kind ≡ 7
  -- only such a message skips counters: from the next expected one up to its own
  pub skips : Skips (expected history) counter (verdict_on history counter kind) (skip_on history counter kind)

-- the arguments of a call for a batch
pub record BatchCall : Type 0 where
  pub sessions : Sessions
  pub store : List ℕ
  pub index : ℕ
  pub id : ℕ
  pub now : ℕ
  pub counters : List ℕ
  pub kinds : List ℕ
  pub verdicts : List ℕ
  pub skips : List ℕ

-- what a call for a batch hands back
abbrev pub receives : BatchCall → Batched (Result (Session × Progress) Error)
receives c = receive c.sessions c.store c.index c.id c.now c.counters c.kinds c.verdicts c.skips

-- a call with a whole ring and store and lists that make a batch, for a live session whose slot stands for a history
pub record BatchFor (c : BatchCall) (session : Session) (history : List ℕ) : Type 0 where
  pub eight : length c.sessions.slots ≡ 8
  pub size : length c.store ≡ 1024
  pub batch : fits c.counters c.kinds c.verdicts c.skips ≡ true
  pub found : receiving_session c.sessions c.index c.id c.now ≡ Some session
  pub stands : Stands history c.sessions c.store (slot_of c.index)

-- Such a call is not turned down, its verdicts and skips are those that the history calls for, and then the slot stands for the history with the counters given verdict 0.
pub record BatchLaw (c : BatchCall) (history : List ℕ) : Type 0 where
  pub session : Session
  pub progress : Progress
  pub received : (receives c).out ≡ Ok (session, progress)
  pub judges : (receives c).verdicts ≡ verdicts_on history c.counters c.kinds
  pub skips : (receives c).skips ≡ skips_on history c.counters c.kinds
  pub stands : Stands (recorded_all history c.counters (receives c).verdicts) (put c.sessions session) (receives c).store (slot_of c.index)

-- A session just inserted with next 0 stands for the empty history.
pub record InsertedLaw (s : Sessions) (store : List ℕ) (session : Session) : Type 0 where
  pub stands : Stands [] (insert s store session).sessions (insert s store session).store (slot_of session.receiving_index)

-- how many of the last 8,192 counters below the next expected one, or of all where there are fewer, are not in the history
unfoldable pub uncommitted : List ℕ → ℕ
uncommitted history = sum (λ k. choose (member (expected history - 8192 + k) history) 0 1) (min (expected history) 8192)

-- The missing count of a slot that stands for a history is the number of the window's counters that are not in the history; those and the ones that are
-- make up the window's length.
pub record CountLaw (history words : List ℕ) (next : ℕ) : Type 0 where
  pub counts : missing_of words next ≡ uncommitted history
  pub together : missing_of words next + among_last history ≡ min next 8192
