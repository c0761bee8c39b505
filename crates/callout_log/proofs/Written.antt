-- Callouts appended one after another: none is turned down where they fit, what they leave, and that it reads back.
-- Assumes nothing.
use Rattle.std.specs.Prelude.{Result, Ok, Err}
use Rattle.error.specs.declared.Error.{Error}
use Rattle.error.specs.declared.Error.TheVariants.{InvalidTime, InvalidArgument, StoreFull}
use mathlib.Core.Path.{◌≡◌, refl, ap, sym, ◌∙◌}
use mathlib.Core.List.{List, [], ◌∷◌, ◌++◌, map}
use Prim.Native.Nat.{ℕ, ◌+◌, ◌≤◌}
use native.Mathlib.Omega.{arith}
use lib.ListN.{length, take, drop, length-append, length-drop, length-map}
use lib.Seq.{take-append_seam, drop-append-add, drop-drop}
use Rattle.base.specs.Choice.{choose}
use Rattle.base.proofs.Choice.{known_choice, of_choice}
use lib.Dec.{leb}
use borrow.Author.Tests.{leb-true}
use Rattle.callout_log.specs.declared.record.Record.{Record}
use Rattle.callout_log.specs.Trailer.{distance}
use Rattle.callout_log.specs.Log.{callout_bytes, log_bytes}
use Rattle.callout_log.specs.Append.{Appending, OneLength, Reports, append_answer, append_log, appended_by, appending, fitting_answer, records_of}
use Rattle.callout_log.specs.Read.{Lists, read_log}
use Rattle.callout_log.specs.Laws.{All, none, more, Appends, first, next, Report, Room, Timely, Verdict, WrittenLaw, answered, reports_of}
use Rattle.callout_log.proofs.Told.{values_answered, answer_lists}
use Rattle.callout_log.proofs.Format.{callout_size_lem}
use Rattle.callout_log.proofs.Appended.{fits_good, append_law, appended, store_true}
use Rattle.callout_log.proofs.ReadBack.{log_read}

module _ {A : Type 0} (P : A → Type 0) (Q : ℕ → Type 0) (f : A → ℕ) where
  -- a rule of elements makes a rule of what a function gives of them
  all_map : ((x : A) → P x → Q (f x)) → (list : List A) → All P list → All Q (map f list)
  all_map h [] none = none
  all_map h (x ∷ list) (more p rest) = more (h x p) (all_map h list rest)

module _ (callout : List Record) where
  -- a callout's lists have one length
  one_length : OneLength (reports_of callout)
  unfolding reports_of
  one_length =
      record {
        counters = length-map callout (λ (r : Record). r.counter) ∙ sym (length-map callout (λ (r : Record). r.time));
        session_ids = length-map callout (λ (r : Record). r.session_id) ∙ sym (length-map callout (λ (r : Record). r.time));
        local_indices = length-map callout (λ (r : Record). r.local_index) ∙ sym (length-map callout (λ (r : Record). r.time));
        verdicts = length-map callout (λ (r : Record). r.verdict) ∙ sym (length-map callout (λ (r : Record). r.time));
      }

  module _ (reports : All Report callout) where
    -- the times of reports keep rule 1
    all_timely : All Timely (reports_of callout).times
    unfolding reports_of
    all_timely = all_map Report Timely (λ (r : Record). r.time) (λ r p. p.time) callout reports

    -- the verdicts of reports are of the four
    all_verdicts : All Verdict (reports_of callout).verdicts
    unfolding reports_of
    all_verdicts = all_map Report Verdict (λ (r : Record). r.verdict) (λ r p. p.verdict) callout reports

  -- the distance of a callout's lists is the length of its bytes
  lists_size : distance (length (reports_of callout).times) ≡ length (callout_bytes callout)
  unfolding reports_of
  lists_size = ap distance (length-map callout (λ (r : Record). r.time)) ∙ sym (callout_size_lem callout)

-- an append that answers a used length answers that behind the callout, which is in the store
answer_used : (size used end : ℕ) (r : Reports) → append_answer size used r ≡ Ok end
    → (end ≡ used + distance (length r.times)) × (used + distance (length r.times) ≤ size)
unfolding append_answer fitting_answer
answer_used size used end r =
    of_choice P _ _ _ (of_choice P _ _ _ (of_choice P _ _ _ (of_choice P _ _ _ fits (no InvalidArgument)) (no InvalidArgument)) (no InvalidArgument)) (no InvalidTime)
  where
    to : ℕ
    to = used + distance (length r.times)

    P : Result ℕ Error → Type 0
    P answer = answer ≡ Ok end → (end ≡ to) × (to ≤ size)

    no : (error : Error) → P (Err error)
    no error e = cc

    fits : P (choose (leb to size) (Ok to) (Err StoreFull))
    fits =
        known_choice P (leb to size) (Ok to) (Err StoreFull)
        (λ t e. (cc, leb-true to size t)) (λ t. no StoreFull)

module _ (store : List ℕ) where
  -- the store that holds a log in its front
  abbrev filled : List ℕ → List ℕ
  filled log = log ++ drop (length log) store

  -- a store that holds a log in its front keeps its length
  filled_size : (log : List ℕ) → length log ≤ length store → length (filled log) ≡ length store
  filled_size log h = length-append log (drop (length log) store) ∙ omega (arith, length-drop (length log) store)

  -- bytes put behind the log are in the log
  put_behind : (log part : List ℕ) (end : ℕ) → length log + length part ≡ end
      → take (length log) (filled log) ++ part ++ drop end (filled log) ≡ filled (log ++ part)
  put_behind log part end h =
      let to : length (log ++ part) ≡ end = length-append log part ∙ h in
      rw (to, ← h, take-append_seam log (drop (length log) store), drop-append-add log (drop (length log) store) (length part), drop-drop (length part) (length log) store)

  module _ (callout : List Record) (older : List (List Record)) where
    -- the used length behind a callout
    end_size : length (log_bytes older) + distance (length (reports_of callout).times) ≡ length (log_bytes (callout ∷ older))
    unfolding log_bytes
    end_size = ap (λ (n : ℕ). length (log_bytes older) + n) (lists_size callout) ∙ sym (length-append (log_bytes older) (callout_bytes callout))

    -- what an append of the next callout leaves
    next_filled : (end : ℕ) → end ≡ length (log_bytes older) + distance (length (reports_of callout).times)
        → take (length (log_bytes older)) (filled (log_bytes older)) ++ callout_bytes (records_of (reports_of callout)) ++ drop end (filled (log_bytes older))
        ≡ filled (log_bytes (callout ∷ older))
    unfolding log_bytes
    next_filled end h =
        rw (append_law.records callout)
        (put_behind (log_bytes older) (callout_bytes callout) end (ap (λ (n : ℕ). length (log_bytes older) + n) (sym (lists_size callout)) ∙ sym h))

    -- the next callout is appended where it fits
    next_fits : All Report callout → length store ≤ 65536 → length (log_bytes (callout ∷ older)) ≤ length store
        → append_log (filled (log_bytes older)) (length (log_bytes older)) (reports_of callout)
        ≡ appending (Ok (length (log_bytes (callout ∷ older)))) (filled (log_bytes (callout ∷ older)))
    next_fits reports size within =
        let log : List ℕ = log_bytes older in
        let same : length (filled log) ≡ length store = filled_size log (omega (arith, end_size)) in
        fits_good (filled log) (length log) (reports_of callout) (all_timely callout reports) (omega arith) (one_length callout) (all_verdicts callout reports)
        (omega (arith, end_size))
        ∙ λ j. appending (Ok (end_size j)) (next_filled (length log + distance (length (reports_of callout).times)) refl j)

  -- callouts of reports that fit are appended, none turned down
  fits : (callouts : List (List Record)) → All (All Report) callouts → length store ≤ 65536 → length (log_bytes callouts) ≤ length store
      → Appends store callouts (filled (log_bytes callouts)) (length (log_bytes callouts))
  unfolding log_bytes
  fits [] all size within = first
  fits (callout ∷ older) (more reports all) size within =
      next callout (fits older all size (omega (arith, end_size callout older))) (next_fits callout older reports size within)

  -- What appends of callouts leave in the store: the callouts' bytes, and behind them what was there.
  record Made (callouts : List (List Record)) (left : List ℕ) (used : ℕ) : Type 0 where
    size : used ≡ length (log_bytes callouts)
    bytes : left ≡ filled (log_bytes callouts)
    within : length (log_bytes callouts) ≤ length store

  module _ (callout : List Record) (older : List (List Record)) (left after : List ℕ) (used end : ℕ) where
    -- what one more append leaves
    next_made : Made older left used → append_log left used (reports_of callout) ≡ appending (Ok end) after → Made (callout ∷ older) after end
    unfolding append_log appended_by
    next_made m e =
        let answer : append_answer (length left) used (reports_of callout) ≡ Ok end = ap (λ (a : Appending). a.answer) e in
        let found : (end ≡ used + distance (length (reports_of callout).times)) × (used + distance (length (reports_of callout).times) ≤ length left) =
        answer_used (length left) used end (reports_of callout) answer in
        let same : length left ≡ length store = ap length m.bytes ∙ filled_size (log_bytes older) m.within in
        record {
          size = omega (arith, found.0, m.size, end_size callout older);
          bytes =
              ap (λ (a : Appending). a.store) (sym e ∙ appended left used (reports_of callout) end answer)
              ∙ rw (m.size, m.bytes) (next_filled callout older end (omega (arith, found.0, m.size)));
          within = omega (arith, found.1, m.size, end_size callout older);
        }

  -- what all appends leave
  all_made : (callouts : List (List Record)) (left : List ℕ) (used : ℕ) → Appends store callouts left used → Made callouts left used
  unfolding log_bytes
  all_made callouts left used first = record { size = refl; bytes = refl; within = omega arith }
  all_made callouts left used (next {older = older} {left = before} {used = from} callout appends e) =
      next_made callout older before left from used (all_made older before from appends) e

  module _ (left : List ℕ) (used : ℕ) (callouts : List (List Record)) (l : Lists) where
    -- what appends leave reads back
    reads : All (All Report) callouts → Made callouts left used → Room callouts l → length store ≤ 65536 → read_log left used l ≡ answered callouts l
    unfolding read_log choose
    reads all m room size =
        let log : List ℕ = log_bytes callouts in
        let same : length left ≡ length store = ap length m.bytes ∙ filled_size log m.within in
        let front : take used left ≡ log = rw (m.size, m.bytes) (take-append_seam log (drop (length log) store)) in
        rw (store_true (length left) used (omega arith) (omega (arith, m.size, m.within)), front) (log_read callouts l all (omega (arith, m.within)) room)

-- callouts that fit are appended, what appends make is the callouts' bytes, and it reads back to them
pub written_law : WrittenLaw
written_law =
    record {
      fits = fits;
      made = λ store left used callouts a. ((all_made store callouts left used a).size, (all_made store callouts left used a).bytes);
      reads = λ store left used callouts l all a. reads store left used callouts l all (all_made store callouts left used a);
      answers = values_answered;
      lists = answer_lists;
    }
