-- The log as it is seen, read: its trailers and records are looked at alike, and the hidden fields of its records are 0.
-- Assumes nothing.
use mathlib.Core.Path.{◌≡◌, refl, ap, ◌∙◌}
use mathlib.Core.Bool.{Bool, true, false}
use mathlib.Core.List.{List, map, map-map}
use Prim.Native.Nat.{ℕ}
use lib.ListN.{length}
use Rattle.std.specs.Prelude.{Ok, Err}
use Rattle.base.specs.Choice.{choose}
use Rattle.error.specs.declared.Error.TheVariants.{InvalidArgument, BrokenTrailer, BrokenRecord}
use Rattle.callout_log.specs.declared.record.Record.{Record}
use Rattle.callout_log.specs.Record.{blanked, is_record, record_at, shown}
use Rattle.callout_log.specs.Trailer.{count_before, is_trailer}
use Rattle.callout_log.specs.Log.{ends, every, places}
use Rattle.callout_log.specs.Read.{Lists, Reading, hold, listing, read_bytes, reading}
use Rattle.callout_log.specs.View.{hide_all, pointed, seen}
use Rattle.callout_log.proofs.Seen.{SameLog, hidden, hidden_records, hidden_same}

-- what is seen of a log with good trailers is as long as the log
pub seen_length : (log : List ℕ) (hides : Bool) → every (is_trailer log) (ends log) ≡ true → length (seen hides log) ≡ length log
unfolding seen pointed choose
seen_length log true good = rw good (hidden log good).long
seen_length log false good = refl

-- a broken trailer is seen as it is
pub seen_broken : (log : List ℕ) → every (is_trailer log) (ends log) ≡ false → seen true log ≡ log
unfolding seen pointed hide_all choose
seen_broken log e = rw e refl

-- a log with a broken trailer, read as it is seen
pub read_broken : (log : List ℕ) (l : Lists) (hides : Bool) → every (is_trailer log) (ends log) ≡ false → reading (Err BrokenTrailer) l ≡ read_bytes (seen hides log) l
unfolding read_bytes seen choose
read_broken log l true e = rw (seen_broken log e, e)
read_broken log l false e = rw e

-- a log with good trailers, read as it is seen, by the tests of its records and of the lists
module _ (log : List ℕ) (good : every (is_trailer log) (ends log) ≡ true) (l : Lists) where
  -- what a read answers and leaves that finds these records
  unfoldable pub read_as : (records : List Record) → (kept room : Bool) → Reading
  read_as records kept room =
      choose kept
      (choose room (reading (Ok (length (ends log))) (listing (map (count_before log) (ends log)) records l)) (reading (Err InvalidArgument) l))
      (reading (Err BrokenRecord) l)

  hidden_is : seen true log ≡ hide_all (places log) log
  unfolding seen pointed choose
  hidden_is = rw good refl

  pub read_plain : read_bytes log l ≡ read_as (map (record_at log) (places log)) (every (is_record log) (places log)) (hold (length (ends log)) (length (places log)) l)
  unfolding read_bytes read_as choose
  read_plain = rw good refl

  pub read_hidden : read_bytes (seen true log) l
      ≡ read_as (map blanked (map (record_at log) (places log))) (every (is_record log) (places log)) (hold (length (ends log)) (length (places log)) l)
  unfolding read_bytes read_as choose
  read_hidden =
      let same : SameLog log (hide_all (places log) log) = hidden_same log good in
      rw (hidden_is, same.trailers, same.records, same.counts, hidden_records log good, same.walk, same.kept)

  pub read_shown : (hides : Bool) → read_bytes (seen hides log) l
      ≡ read_as (map (λ (place : ℕ). shown hides (record_at log place)) (places log)) (every (is_record log) (places log)) (hold (length (ends log)) (length (places log)) l)
  unfolding seen shown choose
  read_shown true =
      read_hidden
      ∙ ap (λ (records : List Record). read_as records (every (is_record log) (places log)) (hold (length (ends log)) (length (places log)) l))
      (map-map blanked (record_at log) (places log))
  read_shown false = read_plain
