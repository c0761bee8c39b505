-- Which logs are turned down, in the order of the numbers.
-- Assumes nothing.
use Rattle.error.specs.declared.Error.TheVariants.{InvalidArgument, BrokenTrailer as TrailerBreaks, BrokenRecord as RecordBreaks}
use mathlib.Core.Path.{◌≡◌, ◌∙◌}
use mathlib.Core.Bool.{true, false}
use mathlib.Core.List.{List}
use Prim.Native.Nat.{ℕ, ◌≤◌}
use native.Mathlib.Omega.{arith}
use lib.ListN.{length, take}
use lib.Seq.{length-take-le}
use Rattle.base.specs.Choice.{choose}
use Rattle.endian.specs.LittleEndian.{Bytes}
use Rattle.callout_log.specs.Trailer.{is_trailer}
use Rattle.callout_log.specs.Log.{ends, every, is_store}
use Rattle.callout_log.specs.Read.{Lists, read_bytes, read_log}
use Rattle.callout_log.specs.Laws.{BrokenRecord, BrokenTrailer, Held, NotRead, RefusalLaw}
use Rattle.callout_log.proofs.Appended.{store_large, store_over}
use Rattle.callout_log.proofs.Broken.{all_records, all_trailers, record_fails, trailer_fails}
use Rattle.callout_log.proofs.Exact.{held, read_log_lem}
use Rattle.callout_log.proofs.Stands.{take_bytes}
use Rattle.callout_log.proofs.Told.{read_declined}

-- a store or a used length that breaks rule 2
no_store : (store : List ℕ) (used : ℕ) (l : Lists) → is_store (length store) used ≡ false → NotRead store used l 2
unfolding read_log choose
no_store store used l e = read_declined store used l InvalidArgument (rw e)

module _ (store : List ℕ) (used : ℕ) (l : Lists) (b : Bytes store) (size : length store ≤ 65536) (within : used ≤ length store) where
  -- the log that stands in the store
  abbrev log : List ℕ
  log = take used store

  -- its bytes
  bytes : Bytes log
  bytes = take_bytes used store b

  -- its length
  small : length log ≤ 65536
  small = omega (arith, length-take-le used store within)

  -- a broken trailer is turned down
  no_trailer : BrokenTrailer log → NotRead store used l 17
  unfolding read_bytes choose
  no_trailer x = read_declined store used l TrailerBreaks (read_log_lem store used size within l ∙ rw (trailer_fails log bytes small x))

  -- a broken record is turned down where no trailer is broken
  no_record : (BrokenTrailer log → ⊥) → BrokenRecord log → NotRead store used l 18
  unfolding read_bytes choose
  no_record sound x =
      let trailers : every (is_trailer log) (ends log) ≡ true = all_trailers log bytes small sound in
      read_declined store used l RecordBreaks (read_log_lem store used size within l ∙ rw (trailers, record_fails log bytes small trailers x))

  -- where nothing is broken the store holds callouts
  sound_store : (BrokenTrailer log → ⊥) → (BrokenRecord log → ⊥) → Held store used l
  sound_store sound whole = held store used size within b (all_trailers log bytes small sound) (all_records log bytes small sound whole) l

-- which logs are turned down
pub refusal_law : RefusalLaw
refusal_law =
    record {
      size = λ store used l h. no_store store used l (store_large (length store) used h);
      used = λ store used l h. no_store store used l (store_over (length store) used h);
      broken_trailer = no_trailer;
      broken_record = no_record;
      accepted = sound_store;
    }
