-- An append and a read in numbers and values.
-- Assumes nothing.
use Rattle.std.specs.Prelude.{Ok, Err}
use Rattle.error.specs.declared.Error.{Error}
use Rattle.error.specs.Error.{error_number}
use Rattle.callout_log.specs.Log.{answer_number, answer_values}
use mathlib.Core.Path.{◌≡◌, refl, ap}
use mathlib.Core.List.{List, [], ◌∷◌, ◌++◌, map}
use Prim.Native.Nat.{ℕ}
use lib.ListN.{length, drop, length-map}
use Rattle.callout_log.specs.declared.record.Record.{Record}
use Rattle.callout_log.specs.Append.{Appending, Reports, appending, append_log}
use Rattle.callout_log.specs.Read.{Lists, Reading, listing, over, read_log, reading}
use Rattle.callout_log.specs.Laws.{IsAppended, Listed, NotAppended, NotRead, answered, records_in}

module _ (store : List ℕ) (used : ℕ) (r : Reports) where
  -- an append that is turned down
  pub append_declined : (error : Error) → append_log store used r ≡ appending (Err error) store → NotAppended store used r (error_number error)
  unfolding answer_number
  append_declined error e = record { refused = ap (λ (a : Appending). answer_number a.answer) e; left = ap (λ (a : Appending). a.store) e }

  -- an append that is good
  pub append_good : (end : ℕ) (after : List ℕ) → append_log store used r ≡ appending (Ok end) after → IsAppended store used r end after
  unfolding answer_number answer_values
  append_good end after e =
      record {
        number = ap (λ (a : Appending). answer_number a.answer) e;
        values = ap (λ (a : Appending). answer_values a.answer) e;
        left = ap (λ (a : Appending). a.store) e;
      }

-- a read that is turned down
pub read_declined : (store : List ℕ) (used : ℕ) (l : Lists) (error : Error) → read_log store used l ≡ reading (Err error) l → NotRead store used l (error_number error)
unfolding answer_number
read_declined store used l error e = record { refused = ap (λ (a : Reading). answer_number a.answer) e; left = ap (λ (a : Reading). a.lists) e }

-- a read that answers callouts
pub read_number : (store : List ℕ) (used : ℕ) (l : Lists) (callouts : List (List Record)) → read_log store used l ≡ answered callouts l
    → answer_number (read_log store used l).answer ≡ 0
unfolding answer_number answered
read_number store used l callouts e = ap (λ (a : Reading). answer_number a.answer) e

-- so many values in front of the rest
in_front_lem : {A : Type 0} (value : A → ℕ) (from : List A) (list : List ℕ) → over (map value from) list ≡ map value from ++ drop (length from) list
unfolding over
in_front_lem value from list = ap (λ (n : ℕ). map value from ++ drop n list) (length-map from value)

module _ (callouts : List (List Record)) (l : Lists) where
  -- the number of callouts
  pub values_answered : answer_values (answered callouts l).answer ≡ length callouts ∷ []
  unfolding answer_values answered
  values_answered = refl

  -- what the lists hold
  pub answer_lists : Listed callouts l (answered callouts l).lists
  unfolding answered listing
  answer_lists =
      record {
        counts = in_front_lem (λ (c : List Record). length c) callouts l.counts;
        times = in_front_lem (λ (r : Record). r.time) (records_in callouts) l.times;
        counters = in_front_lem (λ (r : Record). r.counter) (records_in callouts) l.counters;
        session_ids = in_front_lem (λ (r : Record). r.session_id) (records_in callouts) l.session_ids;
        local_indices = in_front_lem (λ (r : Record). r.local_index) (records_in callouts) l.local_indices;
        verdicts = in_front_lem (λ (r : Record). r.verdict) (records_in callouts) l.verdicts;
      }
