-- What is known after a batch: one that is turned down changes nothing, any other commits what its verdicts say to the session's past.
-- Assumes nothing.
use mathlib.Core.Path.{◌≡◌, refl}
use mathlib.Core.Bool.{Bool, true, false}
use mathlib.Core.List.{List}
use Prim.Native.Nat.{ℕ}
use lib.ListN.{length}
use borrow.Author.Tests.{eqb-true}
use Rattle.base.proofs.Choice.{of_choice}
use Rattle.base.specs.Choice.{choose, case_option, case_results}
use Rattle.tunnel.specs.Control.{refuse, done, with_sessions}
use Rattle.tunnel.specs.Decapsulate.{accept, commit_decapsulate}
use Rattle.tunnel.specs.declared.answer.Answer.TheVariants.{Done}
use Rattle.tunnel.specs.declared.control.Control.{Control}
use Rattle.tunnel.specs.declared.control.Out.{Out}
use Rattle.demands.proofs.Held.{Past}
use Rattle.demands.proofs.Changes.{held_judged}
use Rattle.demands.proofs.Known.{Known, Idle, idle_refused, known_carried, known_confirmed}
use Rattle.demands.proofs.Moves.{carried_current}
use Rattle.demands.specs.Made.{Insertion}
use Rattle.demands.specs.Sending.{Grant, PolledKeepalive}
use Rattle.sessions.specs.Batch.{untouched, fits, receiving_session, receive, Batched}
use Rattle.demands.specs.History.{recorded_all}
use Rattle.sessions.specs.Laws.{commits}
use Rattle.sessions.specs.Sessions.{put}
use Rattle.sessions.specs.Store.{whole}
use Rattle.sessions.specs.declared.batch.Progress.{Progress}
use Rattle.sessions.specs.declared.session.Session.{Session}
use Rattle.demands.proofs.Judged.{receive_judged}
use Rattle.std.specs.Prelude.{Err, None, Ok, Option, Result, Some}
use Rattle.error.specs.declared.Error.{Error}
use Rattle.error.specs.declared.Error.TheVariants.{InvalidArgument, ConnectionExpired, NoCurrentSession}

-- the session of a judged batch stored and, where a message was accepted, selected
known_accept : (ins : List Insertion) (h : ℕ → Past) (g k : List Grant) (polls : List PolledKeepalive) (c : Control) (store : List ℕ) (x : Session) (p : Progress) (index now : ℕ)
    → Known ins h g k polls (with_sessions c (put c.sessions x)) store → Known ins h g k polls (accept c x p index now) store
unfolding accept
known_accept ins h g k polls c store x p index now w =
    of_choice (λ (d : Control). Known ins h g k polls d store) _ _ _
    (known_confirmed ins h g k polls _ _ now store
    (known_carried ins h g k polls (with_sessions c (put c.sessions x)) _ store store (carried_current (put c.sessions x) store index) refl w))
    w

-- what a batch does: turned down, or judged
pub data Judged (c : Control) (store : List ℕ) (id now : ℕ) (counters : List ℕ) (b : Batched Out) : Type 0 where
  turned : (e : Error) → b.out.answer ≡ Err e → Idle c store b.out b.store → Judged c store id now counters b
  taken : b.out.answer ≡ Ok Done
      → ((ins : List Insertion) (h i : ℕ → Past) (g k : List Grant) (polls : List PolledKeepalive) → Known ins h g k polls c store
      → i id ≡ record { history = recorded_all (h id).history counters b.verdicts; heard = choose (commits b.verdicts) (Some now) (h id).heard }
      → ((y : ℕ) → (y ≡ id → ⊥) → i y ≡ h y) → Known ins i g k polls b.out.control b.store)
      → Judged c store id now counters b

module _ (c : Control) (store : List ℕ) (index id now : ℕ) (counters kinds verdicts skips : List ℕ) where
  -- what the control makes of what the sessions hand back
  abbrev made : Batched (Result (Session × Progress) Error) → Batched Out
  made b =
      record {
        out = case_results b.out (refuse c) (λ x p. done (accept c x p index now) Done);
        store = b.store;
        verdicts = b.verdicts;
        skips = b.skips;
      }

  rejected : (e : Error) → Judged c store id now counters (made (untouched (Err e) store verdicts skips))
  unfolding case_results refuse
  rejected e = turned e refl (idle_refused c store e)

  judged : (x : Session) → length store ≡ 1024 → fits counters kinds verdicts skips ≡ true → receiving_session c.sessions index id now ≡ Some x
      → Judged c store id now counters (made (receive c.sessions store index id now counters kinds verdicts skips))
  unfolding case_results done
  judged x size fit found =
      rw (receive_judged c.sessions store index id now counters kinds verdicts skips x size fit found)
      (taken refl
      (λ ins h i g k polls w mine others.
      known_accept ins i g k polls c _ _ _ index now
      (record {
        held = held_judged ins h g c.sessions store w.held index id now counters kinds verdicts skips x fit found i mine others;
        queue = w.queue;
      })))

  of_batch : (full fit : Bool) (found : Option Session) → whole store ≡ full → fits counters kinds verdicts skips ≡ fit → receiving_session c.sessions index id now ≡ found
      → Judged c store id now counters (made (receive c.sessions store index id now counters kinds verdicts skips))
  unfolding receive case_option choose
  of_batch false fit found a b e = rw a (rejected InvalidArgument)
  of_batch true false found a b e = rw (a, b) (rejected InvalidArgument)
  of_batch true true None a b e = rw (a, b, e) (rejected NoCurrentSession)
  of_batch true true (Some x) a b e = judged x (eqb-true _ _ a) b e

  pub judged_batch : Judged c store id now counters (commit_decapsulate c store index id now counters kinds verdicts skips)
  unfolding commit_decapsulate refuse
  judged_batch =
      of_choice (λ (b : Batched Out). Judged c store id now counters b) _ _ _ (turned ConnectionExpired refl (idle_refused c store ConnectionExpired))
      (of_batch (whole store) (fits counters kinds verdicts skips) (receiving_session c.sessions index id now) refl refl refl)
