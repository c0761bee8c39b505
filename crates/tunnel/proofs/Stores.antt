-- Every operation and every call hands a store of 1,024 words back with so many.
-- Assumes nothing.
use mathlib.Core.Path.{◌≡◌}
use mathlib.Core.List.{List}
use Prim.Native.Nat.{ℕ}
use lib.ListN.{length}
use Rattle.base.proofs.Choice.{of_choice, of_result, known_results}
use Rattle.tunnel.specs.Control.{Turn}
use Rattle.tunnel.specs.HandleHandshake.{respond, handle_handshake_initiation, handle_handshake_response}
use Rattle.tunnel.specs.Decapsulate.{commit_decapsulate}
use Rattle.tunnel.specs.declared.control.Control.{Control}
use Rattle.sessions.specs.Batch.{Batched}
use Rattle.tunnel.specs.declared.control.Out.{Out}
use Rattle.tunnel.proofs.Wakings.{WakingKeeps, of_wake, of_repeat}
use Rattle.tunnel.specs.HandleTimeout.{clear_all, expire_control, handle_due, handle_timeout}
use Rattle.tunnel.specs.Settle.{settle}
use mathlib.Core.Bool.{Bool}
use Rattle.tunnel.specs.Tunnel.{kept}
use Rattle.tunnel.specs.declared.tunnel.Tunnel.{Tunnel}
use Rattle.sessions.proofs.Laws.{whole_law}
use Rattle.std.specs.Prelude.{Result}
use Rattle.error.specs.declared.Error.{Error}

-- a store of 1,024 words
abbrev pub Whole : List ℕ → Type 0
Whole store = length store ≡ 1024

-- the operations
module _ (c : Control) (store : List ℕ) (l : Whole store) where
  pub batch_store : (index id now : ℕ) (counters kinds verdicts skips : List ℕ) → Whole (commit_decapsulate c store index id now counters kinds verdicts skips).store
  unfolding commit_decapsulate
  batch_store index id now counters kinds verdicts skips =
      of_choice (λ (y : Batched Out). Whole y.store) _ _ _ l ((whole_law c.sessions store l).batch index id now counters kinds verdicts skips)

  pub response_store : (receiver peer : ℕ) (outcome : Result Unit Error) (now : ℕ) → Whole (handle_handshake_response c store receiver peer outcome now).store
  unfolding handle_handshake_response
  response_store receiver peer outcome now =
      of_choice (λ (y : Turn). Whole y.store) _ _ _ l
      (known_results (λ (y : Turn). Whole y.store) _ _ _ (λ n. l) (λ h s p. (whole_law c.sessions store l).insertion s))

  respond_store : (local peer : ℕ) (outcome : Result Unit Error) (now : ℕ) → Whole (respond c store local peer outcome now).store
  unfolding respond
  respond_store local peer outcome now =
      known_results (λ (y : Turn). Whole y.store) _ _ _ (λ n. l) (λ h s p. (whole_law c.sessions store l).insertion s)

pub initiation_store_lem : (c : Control) (store : List ℕ) (peer : ℕ) (outcome : Result Unit Error) (now : ℕ) → Whole store → Whole (handle_handshake_initiation c store peer outcome now).store
unfolding handle_handshake_initiation
initiation_store_lem c store peer outcome now l = of_choice (λ (y : Turn). Whole y.store) _ _ _ l (respond_store _ store l _ peer outcome now)

ended_whole : (c : Control) (store : List ℕ) (now : ℕ) → Whole store → Whole (expire_control c store now).store
unfolding expire_control clear_all
ended_whole c store now l = (whole_law c.sessions store l).clearing

pub wake_whole : (c : Control) (store : List ℕ) (jitter now : ℕ) → Whole store → Whole (handle_due c store jitter now).store
wake_whole c store jitter now l = of_wake (λ (x : Control) (words : List ℕ). Whole words) jitter now steps c store l l
  where
    steps : WakingKeeps (λ (x : Control) (words : List ℕ). Whole words) jitter now
    steps =
        record {
          schedules = λ x words m. m;
          keeps_alive = λ x words m. m;
          drops = λ x words m. m;
          ends = λ x words m. ended_whole x words now m;
          expires = λ x words m. (whole_law x.sessions words m).expiry now;
        }

pub timeout_store : (c : Control) (store : List ℕ) → Whole store → (jitter now : ℕ) → Whole (handle_timeout c store jitter now).store
unfolding handle_timeout
timeout_store c store l jitter now = of_choice (λ (y : Turn). Whole y.store) _ _ _ l (wake_whole c store jitter now l)

pub settle_store : (c : Control) (store : List ℕ) → Whole store → (jitter now : ℕ) → Whole (settle c store jitter now).store
unfolding settle
settle_store c store l jitter now =
    of_repeat (λ (x : Control) (words : List ℕ). Whole words) jitter now (λ x words m. timeout_store x words m jitter now) _ c store l

-- what a call leaves in place of the store that came
pub kept_whole : (t : Tunnel) (bad : Bool) (now : ℕ) (came left : List ℕ) → Whole came → Whole left → Whole (kept t bad now came left)
unfolding kept
kept_whole t bad now came left l m = of_result Whole _ _ _ (λ error. l) (λ passed. m)
