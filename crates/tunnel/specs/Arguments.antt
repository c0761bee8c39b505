-- What the calls make of their arguments, and which arguments number 2 turns down.
use Rattle.std.specs.Prelude.{Bool, true, false, List, ℕ, ltb, eqb, None, Option, Some, Result, Ok, Err, is_none, unwrap_or}
use Rattle.base.specs.Choice.{choose}
use Rattle.error.specs.declared.Error.{Error}
use Rattle.error.specs.declared.Error.TheVariants.{InvalidTime, InvalidArgument, WrongKey, ReplayedHandshakeInitiation, InitiationPredatesTunnel, InvalidAeadTag}
use Rattle.tunnel.specs.Timers.{max_jitter, greatest_interval}
use Rattle.sessions.specs.Batch.{fits}
use Rattle.sessions.specs.Session.{time_limit}
use Rattle.sessions.specs.Store.{whole}

-- the keepalive interval that a number of seconds stands for: 0 is none
unfoldable pub interval_of : ℕ → Option ℕ
interval_of seconds = choose (eqb seconds 0) None (Some seconds)

-- the outcome of opening a message: 0 good, 7 failed; no other number is named
unfoldable pub opening_outcome : ℕ → Option (Result Unit Error)
opening_outcome n = choose (eqb n 0) (Some (Ok tt)) (choose (eqb n 7) (Some (Err InvalidAeadTag)) None)

-- the outcome of an incoming initiation: 0 good, 3 wrong key, 4 replayed, 5 predates the tunnel, 7 failed; no other number is named
unfoldable pub initiation_outcome : ℕ → Option (Result Unit Error)
initiation_outcome n =
    choose (eqb n 0) (Some (Ok tt))
    (choose (eqb n 3) (Some (Err WrongKey))
    (choose (eqb n 4) (Some (Err ReplayedHandshakeInitiation))
    (choose (eqb n 5) (Some (Err InitiationPredatesTunnel)) (choose (eqb n 7) (Some (Err InvalidAeadTag)) None))))

-- whether the number of an outcome is not named
unfoldable pub unnamed : Option (Result Unit Error) → Bool
unnamed outcome = is_none outcome

-- the outcome that a number names
unfoldable pub named_of : Option (Result Unit Error) → Result Unit Error
named_of outcome = unwrap_or outcome (Err InvalidArgument)

-- whether a store is not of 1,024 words
unfoldable pub lacking : List ℕ → Bool
lacking store = choose (whole store) false true

-- whether number 2 turns down an outcome or the store that comes with it
unfoldable pub bad_outcome : Option (Result Unit Error) → List ℕ → Bool
bad_outcome found store = choose (unnamed found) true (lacking store)

-- whether number 2 turns down a jitter or the store that comes with it
unfoldable pub bad_jitter : ℕ → List ℕ → Bool
bad_jitter jitter store = choose (ltb max_jitter jitter) true (lacking store)

-- whether number 2 turns down a batch's lists or the store that comes with them
unfoldable pub bad_batch : (store counters kinds verdicts skips : List ℕ) → Bool
bad_batch store counters kinds verdicts skips = choose (lacking store) true (choose (fits counters kinds verdicts skips) false true)

-- whether a creation is let through, or what turns it down
unfoldable pub creation_number : List ℕ → (keepalive now : ℕ) → Result Unit Error
creation_number store keepalive now =
    choose (ltb time_limit now) (Err InvalidTime)
    (choose (ltb greatest_interval keepalive) (Err InvalidArgument) (choose (lacking store) (Err InvalidArgument) (Ok tt)))
