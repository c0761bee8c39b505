-- A list of calls of which demand 2's statements speak, so that what they ask can be met: a handshake, data sent, a batch with a counter twice,
-- a jump that clears the window, a keepalive queued by a waking and polled; then a batch for the live session, a send that it can meet, and a
-- keepalive granted by a settling and polled.
use Rattle.std.specs.Prelude.{◌≡◌, true, List, [], ◌∷◌, ◌++◌, ◌^◌, ◌<◌, take, None, Some, Ok}
use Rattle.tunnel.specs.declared.answer.Answer.TheVariants.{Polled, Woke}
use Rattle.demands.specs.Calls.Call.{start, send, receive, response, timeout, settle, event, missing}
use Rattle.demands.specs.Calls.{Call, World, step, after, Creation, created, Good}
use Rattle.demands.specs.LastHeard.{heard_of}
use Rattle.demands.specs.Made.{made, insertion, inserted, insertions}
use Rattle.demands.specs.Missing.{slot_after}
use Rattle.demands.specs.Receiving.{history_of, Batch, receiving, Live}
use Rattle.demands.specs.Sending.{woken_grants, granting, grants, counters_of, polling, polled, CanSend, send_after}
use Rattle.tunnel.specs.Answer.{number_of, values_of}
use Rattle.tunnel.specs.declared.event.Event.TheVariants.{SendKeepalive}
use Rattle.base.specs.Lists.{zeros}

-- index 256, no persistent keepalive, time 0
unfoldable pub creation : Creation
creation = record { store = zeros 1024; index = 256; keepalive = 0; now = 0 }

-- the calls
unfoldable pub calls : List Call
calls =
    -- session 0, whose peer is 9: its keepalive has counter 0
    start 0 ∷ response 257 9 0 1000000
    -- counters 1, 2 and 3 to data
    ∷ send 3 2000000
    -- 0 and 5 commit, 0 again is a replay
    ∷ receive 257 0 3000000 (0 ∷ 5 ∷ 0 ∷ []) (0 ∷ 0 ∷ 0 ∷ []) (0 ∷ 0 ∷ 0 ∷ []) (0 ∷ 0 ∷ 0 ∷ [])
    -- 8,960 commits and clears the window
    ∷ receive 257 0 4000000 (8960 ∷ []) (0 ∷ []) (0 ∷ []) (0 ∷ [])
    -- ten seconds after data without a reply: a keepalive with counter 4
    ∷ timeout 0 10004000000
    -- the confirmation of the session is polled
    ∷ event ∷ []

-- the world after the calls
unfoldable pub here : World
here = after (created creation) calls

-- one counter too far behind, one committed, one at the window's edge, a message that failed to open, and one ahead of it and of 38 more
unfoldable pub batch : Batch
batch =
    record {
      index = 257;
      id = 0;
      now = 11000000000;
      counters = 768 ∷ 8960 ∷ 769 ∷ 8961 ∷ 9000 ∷ [];
      kinds = 0 ∷ 0 ∷ 1 ∷ 2 ∷ 0 ∷ [];
      verdicts = 0 ∷ 0 ∷ 0 ∷ 0 ∷ 0 ∷ [];
      skips = 0 ∷ 0 ∷ 0 ∷ 0 ∷ 0 ∷ [];
    }

-- the batch, a settling ten seconds after its data, and both keepalives polled
unfoldable pub settled : List Call
settled = calls ++ receiving batch ∷ settle 0 21000000000 ∷ event ∷ event ∷ []

-- The premises hold, and the session's history, grants, verdicts, skips, keepalive, sends and missing report are these.
pub record ExampleLaw : Type 0 where
  pub good : Good creation
  pub few : insertions (made (created creation) calls) < 2 ^ 64
  pub live : Live here batch 1
  pub history : history_of 0 (created creation) calls ≡ 8960 ∷ 5 ∷ 0 ∷ []
  pub verdicts : (step here (receiving batch)).verdicts ≡ 9 ∷ 10 ∷ 0 ∷ 7 ∷ 0 ∷ []
  pub skips : (step here (receiving batch)).skips ≡ 0 ∷ 0 ∷ 0 ∷ 0 ∷ 39 ∷ []
  -- session 0 was inserted by the response, to this tunnel's own initiation
  pub messages : inserted (made (created creation) calls) ≡ insertion true 9 1000000 ∷ []
  pub counters : counters_of 0 (grants (made (created creation) calls)) ≡ 0 ∷ 1 ∷ 2 ∷ 3 ∷ 4 ∷ []
  pub keepalives : woken_grants (made (created creation) calls) ≡ granting 0 9 4 1 ∷ []
  -- the keepalive is not polled by the calls, but by one more event call
  pub unpolled : polled (made (created creation) calls) ≡ []
  pub answered : (step here event).answer ≡ Ok (Polled (Some (SendKeepalive 9 4)))
  pub polls : polled (made (created creation) (calls ++ event ∷ [])) ≡ polling 9 4 ∷ []
  -- the settling wakes once, for the keepalive with counter 5
  pub settles : (step (step here (receiving batch)).world (settle 0 21000000000)).answer ≡ Ok (Woke 1)
  pub settled_grants : woken_grants (made (created creation) settled) ≡ granting 0 9 4 1 ∷ granting 0 9 5 1 ∷ []
  pub settled_polls : polled (made (created creation) settled) ≡ polling 9 4 ∷ polling 9 5 ∷ []
  -- two counters can be sent, and are the next ones; no two can be once the session is older than 170 s
  pub can_send : CanSend creation calls 2 12000000000
  pub sent : values_of (send_after creation calls 2 12000000000) ≡ 9 ∷ 5 ∷ 2 ∷ []
  pub cannot_send : CanSend creation calls 2 170001000001 → ⊥
  pub late : number_of (send_after creation calls 2 170001000001) ≡ 12
  -- none is missing from the fresh session, four from the young one, and in the end all of the window's counters but the last
  pub fresh : values_of (step (after (created creation) (take 2 calls)) (missing 257)).answer ≡ 0 ∷ []
  pub young : values_of (step (after (created creation) (take 4 calls)) (missing 257)).answer ≡ 4 ∷ []
  pub old : values_of (step here (missing 257)).answer ≡ 8191 ∷ []
  -- heard by no batch before the first, in the end by the one that jumped
  pub unheard : heard_of 0 (created creation) (take 3 calls) ≡ None
  pub heard_first : (slot_after creation (take 3 calls) 1).last_heard ≡ 1000000
  pub heard : heard_of 0 (created creation) calls ≡ Some 4000000
  pub heard_last : (slot_after creation calls 1).last_heard ≡ 4000000
