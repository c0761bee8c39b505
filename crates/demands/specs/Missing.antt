-- Demand 2, the missing report: a recount of what was committed.
use Rattle.std.specs.Prelude.{◌≡◌, true, List, [], ◌∷◌, ℕ, ◌+◌, ◌^◌, ◌<◌, min, Result}
use Rattle.tunnel.specs.Answer.{number_of, values_of}
use Rattle.tunnel.specs.declared.answer.Answer.{Answer}
use Rattle.demands.specs.Calls.Call.{missing}
use Rattle.demands.specs.Calls.{Call, step, after, Creation, created, Good}
use Rattle.demands.specs.History.{uncommitted}
use Rattle.demands.specs.Made.{made, insertions}
use Rattle.demands.specs.Receiving.{history_of}
use Rattle.sessions.specs.Sessions.{slot_at}
use Rattle.sessions.specs.declared.session.Session.{Session}
use Rattle.window.specs.History.{expected, among_last}
use Rattle.error.specs.declared.Error.{Error}

-- the record of a slot after a list of calls
abbrev pub slot_after : Creation → List Call → ℕ → Session
slot_after c calls slot = slot_at (after (created c) calls).tunnel.control.sessions slot

-- the answer of the missing report of a slot's local index after a list of calls
abbrev pub missing_after : Creation → List Call → ℕ → Result Answer Error
missing_after c calls slot = (step (after (created c) calls) (missing (slot_after c calls slot).receiving_index)).answer

-- What the missing report of a session with this history answers:
pub record ReportLaw (history : List ℕ) (answer : Result Answer Error) : Type 0 where
  -- good, and how many of the last 8,192 counters below the next expected one, or of all where there are fewer, are not committed
  pub good : number_of answer ≡ 0
  pub counts : values_of answer ≡ uncommitted history ∷ []
  -- with those that are committed it makes up the window's length
  pub together : (count : ℕ) → values_of answer ≡ count ∷ [] → count + among_last history ≡ min (expected history) 8192
  -- a session that committed nothing has none missing
  pub fresh : history ≡ [] → values_of answer ≡ 0 ∷ []

-- For every creation that is not turned down, every list of calls with fewer than 2^64 insertions and every filled slot.
abbrev pub MissingReport : Type 0
MissingReport =
    (c : Creation) → Good c → (calls : List Call) → insertions (made (created c) calls) < 2 ^ 64
    → (slot : ℕ) → slot < 8 → (slot_after c calls slot).filled ≡ true
    → ReportLaw (history_of (slot_after c calls slot).id (created c) calls) (missing_after c calls slot)

-- And for every local index that no filled slot holds the report is turned down by 12, the tunnel expired or not.
abbrev pub NoReport : Type 0
NoReport =
    (c : Creation) → Good c → (calls : List Call) → insertions (made (created c) calls) < 2 ^ 64
    → (index : ℕ) → ((slot : ℕ) → slot < 8 → (slot_after c calls slot).filled ≡ true → (slot_after c calls slot).receiving_index ≡ index → ⊥)
    → number_of (step (after (created c) calls) (missing index)).answer ≡ 12
