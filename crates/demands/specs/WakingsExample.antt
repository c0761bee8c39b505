-- Lists of steps for demand 3: one that meets its three conditions with wakings that take effect, and for each condition one that meets the
-- other two and for which the conclusion fails. Times are nanoseconds.
use Rattle.std.specs.Prelude.{◌≡◌, List, [], ◌∷◌, ◌++◌, ℕ, replicate}
use Rattle.tunnel.specs.Answer.{number_of, values_of}
use Rattle.demands.specs.Calls.Call.{start, send, response, timeout, settle, event, deadline}
use Rattle.demands.specs.Calls.{World, step, after, Creation, created, Expired}
use Rattle.demands.specs.Wakings.{Step, shared, extra, plain_calls, woken_calls, ran_new, ComesEarly, CurrentOrUnset, InOrder, Admissible, Agree, CreatedAlike}

-- a creation at time 0 with a keepalive of so many seconds, over a store that has this number in each word
abbrev pub creation : (word keepalive : ℕ) → Creation
creation word keepalive = record { store = replicate 1024 word; index = 256; keepalive = keepalive; now = 0 }

-- a session is established at 1 ms
unfoldable pub established : List Step
established = shared (start 0) ∷ shared (response 257 9 0 1000000) ∷ shared event ∷ []

-- wakings at 130 s and 129 s, and data sent at 131 s, so that the session should have been renewed at 120 s
unfoldable pub used : List Step
used = established ++ extra 0 130000000000 ∷ extra 0 129000000000 ∷ shared deadline ∷ shared (send 1 131000000000) ∷ []

-- a settling at 131 s; the session lost by 600 s, and with it the connection
unfoldable pub lost : List Step
lost = used ++ shared deadline ∷ shared (settle 0 131000000000) ∷ shared (timeout 0 600000000000) ∷ shared event ∷ []

-- a waking at 700 s
unfoldable pub example : List Step
example = lost ++ extra 0 700000000000 ∷ shared (start 700000000000) ∷ shared deadline ∷ []

-- the example's tunnels after its first steps, with a keepalive of an hour
abbrev pub plain_after : List Step → World
plain_after before = after (created (creation 0 3600)) (plain_calls before)

abbrev pub woken_after : List Step → World
woken_after before = after (created (creation 1 3600)) (woken_calls before)

-- The example meets the conditions, and its wakings take effect.
pub record ExtraWakingsExample : Type 0 where
  pub alike : CreatedAlike (creation 0 3600) (creation 1 3600)
  pub admissible : Admissible (creation 1 3600) example
  -- the waking at 130 s is let through and raises the greatest time, that at 129 s is refused, that at 700 s finds the tunnel expired
  pub through : (step (woken_after established) (timeout 0 130000000000)).world.tunnel.greatest ≡ 130000000000
  pub refused : number_of (step (woken_after (established ++ extra 0 130000000000 ∷ [])) (timeout 0 129000000000)).answer ≡ 13
  pub ended : Expired (woken_after lost)
  -- at 131 s the two tunnels answer deadlines that differ and have both come
  pub plainly : values_of (step (plain_after used) deadline).answer ≡ 120001000000 ∷ []
  pub wakingly : values_of (step (woken_after used) deadline).answer ≡ 130000000000 ∷ []
  -- the settling at 131 s wakes twice: a new handshake is scheduled, and its initiation sent
  pub settles : values_of (step (woken_after used) (settle 0 131000000000)).answer ≡ 2 ∷ []

-- a waking just at the deadline, 540 s after the creation
unfoldable pub late : List Step
late = extra 0 540000000000 ∷ shared event ∷ []

-- a waking at 25 s with no session, though a keepalive of 25 s is set
unfoldable pub unheld : List Step
unheld =
    extra 0 25000000000 ∷ shared (start 25000000000) ∷ shared (response 257 9 0 26000000000) ∷ shared event ∷ shared (timeout 0 26000000000)
    ∷ shared event
    ∷ []

-- a start at 5 s after a waking at 10 s
unfoldable pub disordered : List Step
disordered = extra 0 10000000000 ∷ shared (start 5000000000) ∷ []

-- Of two tunnels created alike: the first condition fails alone, or the second, or the third, and a shared call gives them different answers.
pub record ConditionsNeeded : Type 0 where
  pub alike : CreatedAlike (creation 0 0) (creation 1 0)
  pub kept : CreatedAlike (creation 0 25) (creation 1 25)
  -- without the first
  pub late_held : CurrentOrUnset 0 (ran_new (creation 1 0)) (created (creation 1 0)) late
  pub late_order : InOrder late
  pub late_apart : Agree (creation 0 0) (creation 1 0) late → ⊥
  -- without the second
  pub unheld_early : ComesEarly (created (creation 1 25)) unheld
  pub unheld_order : InOrder unheld
  pub unheld_apart : Agree (creation 0 25) (creation 1 25) unheld → ⊥
  -- without the third
  pub disordered_early : ComesEarly (created (creation 1 0)) disordered
  pub disordered_held : CurrentOrUnset 0 (ran_new (creation 1 0)) (created (creation 1 0)) disordered
  pub disordered_apart : Agree (creation 0 0) (creation 1 0) disordered → ⊥
