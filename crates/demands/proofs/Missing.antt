-- Demand 2, the missing report: the count of a filled slot is that of its session's history.
-- Assumes nothing.
use mathlib.Core.Path.{◌≡◌, refl, ap, sym, ◌∙◌}
use mathlib.Core.Bool.{Bool, true, false}
use mathlib.Core.List.{List, [], ◌∷◌}
use Prim.Native.Nat.{ℕ, ◌+◌, ◌-◌, ◌≤◌, ◌<◌, min}
use native.Mathlib.Omega.{arith}
use lib.Dec.{eqb}
use lib.ListN.{length, get_or}
use borrow.Author.Tests.{eq-eqb, le-leb}
use Rattle.base.specs.Choice.{choose, case_option, case_result}
use Rattle.base.proofs.Sums.{sum_cong, sum_parted, cycled_again}
use Rattle.window.specs.History.{member, expected, seen, among_last, past, Represents}
use Rattle.window.specs.Window.{bit_at, check_bit}
use Rattle.tunnel.specs.Control.{refuse, missing_report, out_of}
use Rattle.tunnel.specs.declared.answer.Answer.{Answer}
use Rattle.tunnel.specs.declared.answer.Answer.TheVariants.{Report}
use Rattle.demands.proofs.After.{known_run}
use Rattle.demands.proofs.Grown.{sound_after, sound_created}
use Rattle.demands.proofs.Held.{Past, SlotHeld}
use Rattle.demands.proofs.Known.{Known}
use Rattle.demands.specs.Calls.Call.{missing}
use Rattle.demands.specs.Calls.{World, step, after, created}
use Rattle.demands.specs.History.{uncommitted, CountLaw}
use Rattle.demands.specs.Missing.{ReportLaw, MissingReport, NoReport}
use Rattle.demands.specs.Made.{Insertion}
use Rattle.demands.specs.Sending.{Grant, PolledKeepalive}
use Rattle.sessions.proofs.Laws.{no_report_law}
use Rattle.sessions.specs.Index.{slot_of}
use Rattle.sessions.specs.Sessions as sessions
use Rattle.sessions.specs.Sessions.{slot_at, in_slot_of, get}
use Rattle.sessions.specs.Store.{slot_words, missing_of}
use Rattle.sessions.specs.declared.session.Session.{Session}
use Rattle.sessions.specs.declared.sessions.Sessions.{Sessions}
use Rattle.tunnel.specs.Answer.{number_of, values_of}
use Rattle.tunnel.specs.Arguments.{lacking}
use Rattle.tunnel.specs.Sound.{Sound}
use Rattle.tunnel.specs.Tunnel.{timeless_gate, let_through, timeless, call_missing}
use Rattle.error.specs.Error.{error_number}
use Rattle.std.specs.Prelude.{Ok, Some, Result, Err}
use Rattle.error.specs.declared.Error.{Error}

-- a counter of the history's window is missing or committed
parted : (b : Bool) → choose b 0 1 + choose b 1 0 ≡ 1
unfolding choose
parted true = refl
parted false = refl

uncommitted_rest : (history : List ℕ) → uncommitted history + among_last history ≡ min (expected history) 8192
unfolding uncommitted among_last seen
uncommitted_rest history = sum_parted _ _ (min (expected history) 8192) (λ k l. parted (member (expected history - 8192 + k) history))

-- the missing count
module _ (history words : List ℕ) (next : ℕ) (r : Represents history words next) where
  -- the bit of a counter of the window says whether it is in the history
  shows : (c : ℕ) → c < next → next ≤ c + 8192 → bit_at words c ≡ seen history c
  unfolding bit_at past choose
  shows c l h =
      let place : 8192 + c - 8192 ≡ c = omega arith in
      sym (cycled_again words c) ∙ r.bits (8192 + c) (omega arith) (omega arith) ∙ rw (le-leb 8192 (8192 + c) (omega arith), place) refl

  not_set : (b : Bool) → ◌≡◌ {A = ℕ} (choose (eqb (choose b 1 0) 1) 0 1) (choose b 0 1)
  unfolding choose
  not_set true = refl
  not_set false = refl

  counted : missing_of words next ≡ uncommitted history
  unfolding missing_of uncommitted check_bit seen
  counted =
      rw (← r.expects)
      (sum_cong _ _ (min next 8192)
      (λ k l.
      ap (λ (bit : ℕ). choose (eqb bit 1) 0 1) (shows (next - 8192 + k) (omega arith) (omega arith)) ∙ not_set (member (next - 8192 + k) history)))

  pub count_law : CountLaw history words next
  count_law = record { counts = counted; together = omega (arith, counted, uncommitted_rest history, ap (λ (n : ℕ). min n 8192) r.expects) }

-- no counter is uncommitted where none was committed
uncommitted_none : (history : List ℕ) → history ≡ [] → uncommitted history ≡ 0
unfolding expected
uncommitted_none history e = omega (arith, uncommitted_rest history, ap expected e)

module _ (w : World) (ins : List Insertion) (h : ℕ → Past) (g k : List Grant) (polls : List PolledKeepalive)
    (y : Known ins h g k polls w.tunnel.control w.store) (sound : Sound w.tunnel) where
  abbrev s : Sessions
  s = w.tunnel.control.sessions

  passes : timeless_gate w.tunnel (lacking w.store) ≡ Ok tt
  unfolding timeless_gate lacking choose
  passes = rw (eq-eqb (length w.store) 1024 y.held.size, sound.holds)

  -- a report that is turned down by 12
  turned_twelve : (found : Result ℕ Error) → case_result found error_number (λ count. 0) ≡ 12
      → number_of (case_result found (refuse w.tunnel.control) (λ count. out_of w.tunnel.control (Ok (Report count)) false false)).answer ≡ 12
  unfolding case_result refuse number_of
  turned_twelve (Err e) n = n
  turned_twelve (Ok count) n = absurd (omega (arith, n))

  -- an index that no filled slot holds
  unheld : (index : ℕ) → ((slot : ℕ) → slot < 8 → (slot_at s slot).filled ≡ true → (slot_at s slot).receiving_index ≡ index → ⊥)
      → number_of (step w (missing index)).answer ≡ 12
  unfolding step call_missing timeless let_through missing_report case_result
  unheld index none =
      rw passes
      (turned_twelve _ (no_report_law s w.store index (λ x i. none (slot_of index) (omega arith) (rw i.stored i.filled) (rw i.stored i.named)) y.held.size).number)

  -- a filled slot
  module _ (slot : ℕ) (low : slot < 8) (filled : (slot_at s slot).filled ≡ true) where
    abbrev x : Session
    x = slot_at s slot

    its : SlotHeld ins h g slot x (slot_words w.store slot)
    its = y.held.slots slot low filled

    found : get s x.receiving_index ≡ Some x
    unfolding get in_slot_of case_option choose
    found = rw (its.placed, filled, eq-eqb x.receiving_index x.receiving_index refl)

    counts : CountLaw (h x.id).history (slot_words w.store slot) x.next
    counts = count_law (h x.id).history (slot_words w.store slot) x.next its.stands

    missed : sessions.missing s w.store x.receiving_index ≡ Ok (uncommitted (h x.id).history)
    unfolding sessions.missing case_option choose
    missed = rw (eq-eqb (length w.store) 1024 y.held.size, found, its.placed) (ap Ok counts.counts)

    reported : (step w (missing x.receiving_index)).answer ≡ Ok (Report (uncommitted (h x.id).history))
    unfolding step call_missing timeless let_through missing_report case_result choose
    reported = rw (passes, missed)

    abbrev answer : Result Answer Error
    answer = (step w (missing x.receiving_index)).answer

    value : values_of answer ≡ uncommitted (h x.id).history ∷ []
    unfolding values_of
    value = rw reported refl

    -- what that says
    says : ReportLaw (h x.id).history answer
    unfolding number_of
    says =
        record {
          good = rw reported refl;
          counts = value;
          together = λ count e.
              (let same : count ≡ uncommitted (h x.id).history = ap (λ (l : List ℕ). get_or l 0 0) (sym e ∙ value) in
              omega (arith, same, counts.counts, counts.together, ap (λ (n : ℕ). min n 8192) its.stands.expects));
          fresh = λ e. value ∙ ap (λ (n : ℕ). n ∷ []) (uncommitted_none (h x.id).history e);
        }

pub missing_report_lem : MissingReport
missing_report_lem c good calls few slot low filled =
    says (after (created c) calls) _ _ _ _ _ (known_run c good calls few) (sound_after calls (created c) (sound_created c)) slot low filled

pub no_report : NoReport
no_report c good calls few index none =
    unheld (after (created c) calls) _ _ _ _ _ (known_run c good calls few) (sound_after calls (created c) (sound_created c)) index none
