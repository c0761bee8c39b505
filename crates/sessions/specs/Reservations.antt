-- The counters that a session grants, one reservation after the other.
use Rattle.std.specs.Prelude.{◌≡◌, ℕ, ◌-◌, ◌^◌, ◌<◌, List, [], ◌∷◌, ◌++◌, length, slice_index}
use Rattle.base.specs.Lists.{up_from}
use Rattle.sessions.specs.declared.session.Session.{Session}
use Rattle.sessions.specs.Session.{reserve_counters}
use Rattle.base.specs.Choice.{case_pair}

-- the counters that a session grants to reservations of these lengths, one after the other; a refused one grants none
unfoldable pub granted : Session → List ℕ → List ℕ
granted s [] = []
granted s (len ∷ lens) = case_pair (reserve_counters s len) (granted s lens) (λ first next. up_from first len ++ granted next lens)

-- The counters granted by a session that starts at 0: the k-th is k, and it is below 2^64 - 8,193.
pub record ReservationLaw (s : Session) (lens : List ℕ) : Type 0 where
  pub counts : (k : ℕ) → k < length (granted s lens) → slice_index (granted s lens) k ≡ k
  pub below : (k : ℕ) → k < length (granted s lens) → k < 2 ^ 64 - 8193
