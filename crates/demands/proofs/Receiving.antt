-- Demand 2, receiving: a batch for a live session is judged by what the calls so far committed there.
-- Assumes nothing.
use mathlib.Core.Path.{◌≡◌, refl, ap, sym, ◌∙◌}
use mathlib.Core.Bool.{Bool, true, false, true≢false}
use mathlib.Core.List.{List}
use Prim.Native.Nat.{ℕ, ◌<◌}
use native.Mathlib.Omega.{arith}
use lib.ListN.{length, get_or, take}
use borrow.Author.Tests.{eq-eqb, eqb-true}
use Rattle.base.specs.Choice.{choose, case_option, case_results, case_result}
use Rattle.tunnel.specs.Control.{refuse, done, expired_control}
use Rattle.tunnel.specs.Decapsulate.{commit_decapsulate}
use Rattle.tunnel.specs.declared.answer.Answer.TheVariants.{Done}
use Rattle.tunnel.specs.declared.control.Out.{Out}
use Rattle.demands.proofs.Held.{Past}
use Rattle.demands.proofs.After.{known_run}
use Rattle.demands.proofs.Gated.{gate_open, expired_control_lem, control_alive}
use Rattle.demands.proofs.Grown.{grown}
use Rattle.demands.proofs.Changes.{batch_judged}
use Rattle.demands.proofs.Known.{Known}
use Rattle.demands.proofs.Verdicts.{long_each, each_verdict}
use Rattle.demands.specs.Calls.{World, step, after, created}
use Rattle.demands.specs.Receiving.{Batch, receiving, Live, Judges, Receiving, OnlyLive}
use Rattle.demands.specs.Made.{Insertion}
use Rattle.demands.specs.Sending.{Grant, PolledKeepalive}
use lib.Dec.{eqb}
use Rattle.sessions.proofs.Laws.{fits_law, lookup_law}
use Rattle.sessions.specs.Laws.{IsBatch, InSlot}
use Rattle.sessions.specs.Batch.{fits, receiving_session, receive, Batched}
use Rattle.demands.specs.History.{recorded_all, verdicts_on, skips_on, BatchLaw, BatchCall}
use Rattle.sessions.specs.Index.{slot_of}
use Rattle.sessions.specs.Sessions.{slot_at}
use Rattle.sessions.specs.declared.session.Session.{Session}
use Rattle.sessions.specs.declared.sessions.Sessions.{Sessions}
use Rattle.base.proofs.Choice.{no_fault}
use Rattle.tunnel.proofs.Laws.{gate_law}
use Rattle.tunnel.specs.Arguments.{lacking, bad_batch}
use Rattle.tunnel.specs.Tunnel.{gate, refused, let_through, timed, kept, timed_batch, call_receive}
use Rattle.tunnel.specs.Answer.{number_of}
use Rattle.tunnel.specs.Damage.{undamaged}
use Rattle.std.specs.Prelude.{None, Option, Some, Result, Ok, Err}
use Rattle.error.specs.declared.Error.{Error}
use Rattle.error.proofs.Laws.{positive_law}

-- lists that make a batch are let through by number 2, and only those
module _ (store counters kinds verdicts skips : List ℕ) where
  batch_good : length store ≡ 1024 → IsBatch counters kinds verdicts skips → bad_batch store counters kinds verdicts skips ≡ false
  unfolding bad_batch lacking choose
  batch_good l y = rw (eq-eqb (length store) 1024 l, (fits_law counters kinds verdicts skips).fitting y) refl

  good_whole : (b f : Bool) → eqb (length store) 1024 ≡ b → choose (choose b false true) true (choose f false true) ≡ false → length store ≡ 1024
  unfolding choose
  good_whole true f p q = eqb-true _ _ p
  good_whole false f p q = absurd (true≢false q)

  good_batch_lem : bad_batch store counters kinds verdicts skips ≡ false → (length store ≡ 1024) × IsBatch counters kinds verdicts skips
  unfolding bad_batch lacking
  good_batch_lem e = (
    good_whole (eqb (length store) 1024) _ refl e,
    (fits_law counters kinds verdicts skips).batch (no_fault (lacking store) (fits counters kinds verdicts skips) e),
  )

-- a live batch
module _ (w : World) (u : undamaged w.tunnel ≡ true) (ins : List Insertion) (h : ℕ → Past) (g k : List Grant) (polls : List PolledKeepalive)
    (y : Known ins h g k polls w.tunnel.control w.store) (b : Batch) (slot : ℕ) (live : Live w b slot) where
  abbrev s : Sessions
  s = w.tunnel.control.sessions

  lists : IsBatch b.counters b.kinds b.verdicts b.skips
  lists =
      record {
        kinds_long = live.kinds_long;
        verdicts_long = live.verdicts_long;
        skips_long = live.skips_long;
        most = live.most;
        known = live.known;
      }

  fit : fits b.counters b.kinds b.verdicts b.skips ≡ true
  fit = (fits_law b.counters b.kinds b.verdicts b.skips).fitting lists

  passes : gate w.tunnel (bad_batch w.store b.counters b.kinds b.verdicts b.skips) b.now ≡ Ok tt
  passes = gate_open w.tunnel _ b.now u (batch_good w.store b.counters b.kinds b.verdicts b.skips live.whole lists) live.timely live.onward

  alive : expired_control w.tunnel.control ≡ false
  alive = control_alive w u live.alive

  in_slot : InSlot s b.index (slot_at s slot)
  in_slot =
      record {
        stored = ap (slot_at s) (ap slot_of (sym live.index) ∙ (y.held.slots slot live.among live.filled).placed);
        filled = live.filled;
        named = live.index;
      }

  its : receiving_session s b.index b.id b.now ≡ Some (slot_at s slot)
  its = rw (← live.id) ((lookup_law s).receives b.index b.now (slot_at s slot) in_slot (omega (arith, live.age)))

  abbrev call : BatchCall
  call =
      record {
        sessions = s;
        store = w.store;
        index = b.index;
        id = b.id;
        now = b.now;
        counters = b.counters;
        kinds = b.kinds;
        verdicts = b.verdicts;
        skips = b.skips;
      }

  law : BatchLaw call (h b.id).history
  law = batch_judged ins h g s w.store y.held b.index b.id b.now b.counters b.kinds b.verdicts b.skips (slot_at s slot) fit its

  -- what the call hands back
  abbrev out : Batched Out
  out = commit_decapsulate w.tunnel.control w.store b.index b.id b.now b.counters b.kinds b.verdicts b.skips

  answer_is : out.out.answer ≡ Ok Done
  unfolding commit_decapsulate case_results done choose
  answer_is = rw (alive, law.received)

  list_is : out.verdicts ≡ verdicts_on (h b.id).history b.counters b.kinds
  unfolding commit_decapsulate choose
  list_is = rw alive law.judges

  skip_list_is : out.skips ≡ skips_on (h b.id).history b.counters b.kinds
  unfolding commit_decapsulate choose
  skip_list_is = rw alive law.skips

  good : number_of (step w (receiving b)).answer ≡ 0
  unfolding step call_receive timed_batch timed let_through case_result number_of
  good = rw (passes, answer_is) refl

  verdicts_are : (step w (receiving b)).verdicts ≡ verdicts_on (h b.id).history b.counters b.kinds
  unfolding step call_receive timed_batch kept case_result
  verdicts_are = rw passes list_is

  skips_are : (step w (receiving b)).skips ≡ skips_on (h b.id).history b.counters b.kinds
  unfolding step call_receive timed_batch kept case_result
  skips_are = rw passes skip_list_is

  long : length (step w (receiving b)).verdicts ≡ length b.counters
  long = ap length verdicts_are ∙ long_each _ (h b.id).history b.counters b.kinds live.kinds_long

  skips_long : length (step w (receiving b)).skips ≡ length b.counters
  skips_long = ap length skips_are ∙ long_each _ (h b.id).history b.counters b.kinds live.kinds_long

  judges : (i : ℕ) → i < length b.counters
      → Judges (recorded_all (h b.id).history (take i b.counters) (take i (step w (receiving b)).verdicts)) (get_or b.counters i 0) (get_or b.kinds i 0)
      (get_or (step w (receiving b)).verdicts i 0) (get_or (step w (receiving b)).skips i 0)
  judges i l = rw (verdicts_are, skips_are) (each_verdict i (h b.id).history b.counters b.kinds live.kinds_long l)

pub receiving_law : Receiving
receiving_law c good_creation calls few b slot live =
    let y : Known _ _ _ _ _ _ _ = known_run c good_creation calls few in
    let u : undamaged (after (created c) calls).tunnel ≡ true = grown c good_creation calls in
    record {
      good = good (after (created c) calls) u _ _ _ _ _ y b slot live;
      long = long (after (created c) calls) u _ _ _ _ _ y b slot live;
      skips_long = skips_long (after (created c) calls) u _ _ _ _ _ y b slot live;
      judges = judges (after (created c) calls) u _ _ _ _ _ y b slot live;
    }

-- a batch that is answered good
module _ (w : World) (u : undamaged w.tunnel ≡ true) (b : Batch) where
  abbrev bad : Bool
  bad = bad_batch w.store b.counters b.kinds b.verdicts b.skips

  abbrev came : Option Session
  came = receiving_session w.tunnel.control.sessions b.index b.id b.now

  -- what it takes to be answered good
  record Passes : Type 0 where
    opened : gate w.tunnel bad b.now ≡ Ok tt
    alive : expired_control w.tunnel.control ≡ false
    session : Session
    found : came ≡ Some session

  good_passes : (opens : Result Unit Error) (ended whole fit : Bool) (found : Option Session) → gate w.tunnel bad b.now ≡ opens
      → expired_control w.tunnel.control ≡ ended → eqb (length w.store) 1024 ≡ whole → fits b.counters b.kinds b.verdicts b.skips ≡ fit → came ≡ found
      → number_of (step w (receiving b)).answer ≡ 0 → Passes
  unfolding step call_receive timed_batch timed let_through refused commit_decapsulate refuse receive case_result case_results case_option number_of choose
  good_passes (Err error) ended whole fit found p q r f e z = absurd (omega (arith, positive_law error, rw p at z))
  good_passes (Ok good) true whole fit found p q r f e z = absurd (omega (arith, rw (p, q) at z))
  good_passes (Ok good) false false fit found p q r f e z = absurd (omega (arith, rw (p, q, r) at z))
  good_passes (Ok good) false true false found p q r f e z = absurd (omega (arith, rw (p, q, r, f) at z))
  good_passes (Ok good) false true true None p q r f e z = absurd (omega (arith, rw (p, q, r, f, e) at z))
  good_passes (Ok good) false true true (Some x) p q r f e z = record { opened = p; alive = q; session = x; found = e }

  only : number_of (step w (receiving b)).answer ≡ 0 → (slot : ℕ) × Live w b slot
  only z =
      let p : Passes = good_passes _ _ _ _ _ refl refl refl refl refl z in
      let l : (length w.store ≡ 1024) × IsBatch b.counters b.kinds b.verdicts b.skips =
      good_batch_lem w.store b.counters b.kinds b.verdicts b.skips ((gate_law w.tunnel bad b.now).good p.opened) in
      let i = (lookup_law w.tunnel.control.sessions).receiving b.index b.id b.now p.session p.found in (
        slot_of b.index,
        record {
          timely = (gate_law w.tunnel bad b.now).limited p.opened;
          whole = l.0;
          kinds_long = l.1.kinds_long;
          verdicts_long = l.1.verdicts_long;
          skips_long = l.1.skips_long;
          most = l.1.most;
          known = l.1.known;
          onward = (gate_law w.tunnel bad b.now).onward p.opened;
          alive = λ e. true≢false (sym (expired_control_lem w e) ∙ p.alive);
          among = omega arith;
          filled = rw i.0.stored i.0.filled;
          index = rw i.0.stored i.0.named;
          id = rw i.0.stored i.1;
          age = rw i.0.stored (omega (arith, i.2));
        },
      )

pub only_live_law : OnlyLive
only_live_law c good_creation calls b z = only (after (created c) calls) (grown c good_creation calls) b z
