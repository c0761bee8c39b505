-- A call of which the batch's law speaks, so that what it asks can be met: a session just inserted, and a batch that has one counter twice.
use Rattle.std.specs.Prelude.{◌≡◌, [], ◌∷◌}
use Rattle.sessions.specs.declared.session.Role.TheVariants.{Initiator}
use Rattle.sessions.specs.declared.session.Session.{Session}
use Rattle.base.specs.Lists.{zeros}
use Rattle.sessions.specs.Session.{new_session}
use Rattle.sessions.specs.Sessions.{Held, new_sessions, insert}
use Rattle.demands.specs.History.{BatchCall, BatchFor}
use Rattle.demands.specs.History.{receives}

-- a session established at time 0
unfoldable pub first_session : Session
first_session = new_session 257 9 Initiator 0

-- a new ring with that session
unfoldable pub first_held : Held
first_held = insert (new_sessions 256) (zeros 1024) first_session

-- counters 0, 5 and 0 again, all opened as data
unfoldable pub example : BatchCall
example =
    record {
      sessions = first_held.sessions;
      store = first_held.store;
      index = 257;
      id = 0;
      now = 0;
      counters = 0 ∷ 5 ∷ 0 ∷ [];
      kinds = 0 ∷ 0 ∷ 0 ∷ [];
      verdicts = 0 ∷ 0 ∷ 0 ∷ [];
      skips = 0 ∷ 0 ∷ 0 ∷ [];
    }

-- The call is for a live session with an empty history, its verdicts are 0, 0 and 10, and its skips 0, 4 and 0.
pub record BatchExampleLaw : Type 0 where
  pub live : BatchFor example first_session []
  pub verdicts : (receives example).verdicts ≡ 0 ∷ 0 ∷ 10 ∷ []
  pub skips : (receives example).skips ≡ 0 ∷ 4 ∷ 0 ∷ []
