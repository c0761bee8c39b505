-- What the table of rights lets through and turns down.
-- Assumes nothing.
use mathlib.Core.Path.{◌≡◌, refl, ◌∙◌}
use mathlib.Core.Bool.{Bool, true, false}
use Prim.Native.Nat.{ℕ}
use Rattle.access.specs.Rights.{allowed, log_operation}
use Rattle.access.specs.User.{guard, send_as, receive_as, timeout_as, settle_as, event_as, deadline_as, missing_as, view_as, read_as}
use Rattle.access.specs.Laws.{Right, ThroughLaw, Outside, OutsideStored, OutsideBatch, OutsideView, OutsideRead, OutsideLaw}
use Rattle.access.specs.Laws.Right.{controller_reads_log, trainer_reads_log}
use Rattle.base.specs.Choice.{choose}
use Rattle.error.specs.declared.Error.TheVariants.{OutsideRights}
use Rattle.access.proofs.Table.{rights_law}
use Rattle.callout_log.proofs.Laws.{read_seen_law}
use Rattle.callout_log.specs.Log.{answer_number}
use Rattle.tunnel.specs.Answer.{number_of}
use Rattle.tunnel.specs.Tunnel.{refused}
use Rattle.tunnel.specs.declared.tunnel.Tunnel.{Tunnel}

-- what is not in the table is not allowed
not_allowed : (user operation : ℕ) → (Right user operation → ⊥) → allowed user operation ≡ false
not_allowed user operation no_right = decide (allowed user operation) refl
  where
    decide : (t : Bool) → allowed user operation ≡ t → allowed user operation ≡ false
    decide true e = absurd (no_right (rights_law.only user operation e))
    decide false e = e

module _ {A : Type 0} (user operation : ℕ) (through turned : A) where
  let_through_lem : Right user operation → guard user operation through turned ≡ through
  unfolding guard choose
  let_through_lem r = rw (rights_law.may user operation r) refl

  turned_down : (P : A → Type 0) → P turned → (Right user operation → ⊥) → P (guard user operation through turned)
  unfolding guard choose
  turned_down P p n = rw (not_allowed user operation n) p

pub through_law : ThroughLaw
unfolding send_as receive_as timeout_as settle_as event_as deadline_as missing_as view_as read_as
through_law =
    record {
      send = λ user t count now. let_through_lem user _ _ _;
      receive = λ user t store index id now counters kinds verdicts skips. let_through_lem user _ _ _;
      wake = λ user t store jitter now. let_through_lem user _ _ _;
      settle = λ user t store jitter now. let_through_lem user _ _ _;
      event = λ user t. let_through_lem user _ _ _;
      deadline = λ user t. let_through_lem user _ _ _;
      missing = λ user t store index. let_through_lem user _ _ _;
      controller_views = λ log used bytes. let_through_lem 1 log_operation _ _ controller_reads_log;
      controller_reads = λ log used l. let_through_lem 1 log_operation _ _ controller_reads_log ∙ read_seen_law.whole log used l;
      trainer_views = λ log used bytes. let_through_lem 2 log_operation _ _ trainer_reads_log;
      trainer_reads = λ log used l. let_through_lem 2 log_operation _ _ trainer_reads_log;
    }

-- a call that 20 turns down
is_outside : (t : Tunnel) → Outside t (refused t OutsideRights)
unfolding refused number_of
is_outside t = record { number = refl; tunnel = refl }

pub outside_law : OutsideLaw
unfolding send_as receive_as timeout_as settle_as event_as deadline_as missing_as view_as read_as answer_number
outside_law =
    record {
      send = λ user t count now. turned_down user _ _ _ (Outside t) (is_outside t);
      receive = λ user t store index id now counters kinds verdicts skips.
          turned_down user _ _ _ (OutsideBatch t store verdicts skips) (record { call = is_outside t; store = refl; verdicts = refl; skips = refl });
      wake = λ user t store jitter now. turned_down user _ _ _ (OutsideStored t store) (record { call = is_outside t; store = refl });
      settle = λ user t store jitter now. turned_down user _ _ _ (OutsideStored t store) (record { call = is_outside t; store = refl });
      event = λ user t. turned_down user _ _ _ (Outside t) (is_outside t);
      deadline = λ user t. turned_down user _ _ _ (Outside t) (is_outside t);
      missing = λ user t store index. turned_down user _ _ _ (Outside t) (is_outside t);
      view = λ user log used bytes. turned_down user _ _ _ (OutsideView bytes) (record { number = refl; bytes = refl });
      read = λ user log used l. turned_down user _ _ _ (OutsideRead l) (record { number = refl; lists = refl });
    }
