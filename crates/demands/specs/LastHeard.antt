-- Demand 2, last heard: when each session was last heard, said of the calls made on the tunnel and their answers.
use Rattle.std.specs.Prelude.{◌≡◌, true, List, [], ◌∷◌, ℕ, ◌^◌, ◌≤◌, ◌<◌, None, Option, Some}
use Rattle.base.specs.Choice.{choose}
use Rattle.demands.specs.Calls.{Call, World, Reply, after, Creation, created, Good}
use Rattle.demands.specs.Made.{Made, made, good_batch, insertions, message_of}
use Rattle.demands.specs.Missing.{slot_after}
use Rattle.sessions.specs.Laws.{commits}
use Rattle.sessions.specs.Sessions.{last_heard}
use Rattle.sessions.specs.declared.session.Session.{Session}

-- when a session was heard by a call, or else before it: at a batch for this session id, answered good, that gave a message verdict 0
unfoldable pub hearing : ℕ → Option ℕ → Call → Reply → Option ℕ
hearing id before call reply = good_batch id call reply (λ now counters. choose (commits reply.verdicts) (Some now) before) before

-- when a session was last heard by calls, or else before them
unfoldable pub heard_from : ℕ → Option ℕ → List Made → Option ℕ
heard_from id before [] = before
heard_from id before (m ∷ later) = heard_from id (hearing id before m.call m.reply) later

-- the time of the last batch that committed a message to a session, if one did
abbrev pub heard_of : ℕ → World → List Call → Option ℕ
heard_of id w calls = heard_from id None (made w calls)

-- What a session's record in a filled slot says, where it was inserted at this time and last heard by a batch at that time, if by any:
pub record LastHeardLaw (w : World) (x : Session) (inserted : ℕ) (last : Option ℕ) : Type 0 where
  -- the time of the last batch that committed a message to it
  pub committed : (now : ℕ) → last ≡ Some now → x.last_heard ≡ now
  -- where none did, the time from which its age counts, which is that of its insertion
  pub uncommitted : last ≡ None → x.last_heard ≡ x.established_at
  pub counts : x.established_at ≡ inserted
  -- never before that time, nor after the greatest one
  pub onward : x.established_at ≤ x.last_heard
  pub accepted : x.last_heard ≤ w.tunnel.greatest
  -- and the lookup by its local index answers it
  pub read : last_heard w.tunnel.control.sessions x.receiving_index ≡ Some x.last_heard

-- For every creation that is not turned down, every list of calls with fewer than 2^64 insertions and every filled slot.
abbrev pub LastHeard : Type 0
LastHeard =
    (c : Creation) → Good c → (calls : List Call) → insertions (made (created c) calls) < 2 ^ 64
    → (slot : ℕ) → slot < 8 → (slot_after c calls slot).filled ≡ true
    → LastHeardLaw (after (created c) calls) (slot_after c calls slot) (message_of (slot_after c calls slot).id (made (created c) calls)).at
    (heard_of (slot_after c calls slot).id (created c) calls)
