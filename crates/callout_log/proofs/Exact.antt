-- Each store that is read is what the appends of the callouts that are answered leave.
-- Assumes nothing.
use Rattle.std.specs.Prelude.{Ok, Err}
use Rattle.error.specs.declared.Error.{Error}
use Rattle.error.specs.declared.Error.TheVariants.{InvalidArgument, BrokenTrailer, BrokenRecord}
use mathlib.Core.Path.{◌≡◌, ap, sym, subst, ◌∙◌}
use mathlib.Core.Bool.{true}
use mathlib.Core.List.{List, ◌++◌}
use Prim.Native.Nat.{ℕ, ◌≤◌}
use native.Mathlib.Omega.{arith}
use lib.Dec.{leb}
use lib.ListN.{length, take, drop}
use lib.Seq.{length-take-le, take-length}
use borrow.Author.Tests.{leb-true}
use Rattle.base.specs.Choice.{choose}
use Rattle.base.proofs.Choice.{known_choice}
use Rattle.endian.specs.LittleEndian.{Bytes}
use Rattle.callout_log.specs.Record.{is_record}
use Rattle.callout_log.specs.Trailer.{is_trailer}
use Rattle.callout_log.specs.Log.{ends, every, is_store, log_bytes, places}
use Rattle.callout_log.specs.Read.{Lists, Reading, hold, read_bytes, read_log, reading}
use Rattle.callout_log.specs.Laws.{Accepted, Appends, ExactLaw, Held, Room, Written, answered}
use Rattle.callout_log.proofs.Told.{read_declined, read_number}
use Rattle.callout_log.proofs.Appended.{store_true}
use Rattle.callout_log.proofs.Kept.{Whole, callouts_in, no_room, reads, true_room, whole}
use Rattle.callout_log.proofs.ReadBack.{bytes_read}
use Rattle.callout_log.proofs.Stands.{take_bytes}
use Rattle.callout_log.proofs.Walk.{both}
use Rattle.callout_log.proofs.Written.{written_law}

-- a store that passes the test is within its bounds
pub true_store : (size used : ℕ) → is_store size used ≡ true → (size ≤ 65536) × (used ≤ size)
unfolding is_store
true_store size used e = (leb-true size 65536 (both (leb size 65536) (leb used size) e).0, leb-true used size (both (leb size 65536) (leb used size) e).1)

module _ (store : List ℕ) (used : ℕ) (size : length store ≤ 65536) (within : used ≤ length store) where
  -- the log that stands in the store
  abbrev log : List ℕ
  log = take used store

  -- a store within its bounds is read by its log
  pub read_log_lem : (l : Lists) → read_log store used l ≡ read_bytes log l
  unfolding read_log choose
  read_log_lem l = rw (store_true (length store) used size within)

  module _ (b : Bytes store) (trailers : every (is_trailer log) (ends log) ≡ true) (records : every (is_record log) (places log) ≡ true) where
    -- the callouts of the log are of reports, and the log is their bytes
    all : Whole log (take_bytes used store b) (length log)
    unfolding ends places
    all = whole log (take_bytes used store b) (length log) (length log) (omega arith) (omega arith) trailers records

    -- the log is the bytes of its callouts
    same_bytes : log_bytes (callouts_in log) ≡ log
    unfolding ends
    same_bytes = sym all.bytes ∙ take-length log

    -- their appends leave the log in each store of that length
    leave : (other : List ℕ) → length other ≡ length store → Appends other (callouts_in log) (log ++ drop used other) used
    unfolding ends
    leave other same =
        let full : length (log_bytes (callouts_in log)) ≡ used = ap length same_bytes ∙ length-take-le used store within in
        subst (λ (n : ℕ). Appends other (callouts_in log) (log ++ drop n other) n) full
        (subst (λ (bytes : List ℕ). Appends other (callouts_in log) (bytes ++ drop (length (log_bytes (callouts_in log))) other) (length (log_bytes (callouts_in log)))) same_bytes
        (written_law.fits other (callouts_in log) all.reports (omega arith) (omega arith)))

    -- the store is what the appends of its callouts leave
    pub written : Written store used (callouts_in log)
    unfolding ends
    written = record { reports = all.reports; bytes = leave }

    module _ (l : Lists) where
      -- with room its callouts are read
      pub read : Room (callouts_in log) l → read_log store used l ≡ answered (callouts_in log) l
      read room = read_log_lem l ∙ bytes_read log (callouts_in log) l (reads log trailers records) room

      -- a store that keeps its rules holds callouts
      pub held : Held store used l
      held = record { callouts = callouts_in log; reads = read; short = λ h. read_declined store used l InvalidArgument (read_log_lem l ∙ no_room log l trailers records h); written = written }

-- a read that is turned down answers no callouts
not_read : (error : Error) (count : ℕ) (l left : Lists) → reading (Err error) l ≡ reading (Ok count) left → ⊥
not_read error count l left e = let z : Err error ≡ Ok count = ap (λ (r : Reading). r.answer) e in cc

module _ (store : List ℕ) (used : ℕ) (l left : Lists) (count : ℕ) (b : Bytes store) where
  -- a read that answers callouts accepts the store
  accepts : read_log store used l ≡ reading (Ok count) left → Accepted store used l
  unfolding read_log read_bytes
  accepts =
      known_choice P (is_store (length store) used) (read_bytes log l) (reading (Err InvalidArgument) l)
      (λ s. known_choice P (every (is_trailer log) (ends log)) _ (reading (Err BrokenTrailer) l)
      (λ t. known_choice P (every (is_record log) (places log)) _ (reading (Err BrokenRecord) l)
      (λ r. known_choice P (hold (length (ends log)) (length (places log)) l) _ (reading (Err InvalidArgument) l)
      (λ h e. good (true_store (length store) used s) t r h) (λ h. no InvalidArgument)) (λ r. no BrokenRecord)) (λ t. no BrokenTrailer)) (λ s. no InvalidArgument)
    where
      log : List ℕ
      log = take used store

      P : Reading → Type 0
      P r = r ≡ reading (Ok count) left → Accepted store used l

      no : (error : Error) → P (reading (Err error) l)
      no error e = absurd (not_read error count l left e)

      good : (length store ≤ 65536) × (used ≤ length store) → every (is_trailer log) (ends log) ≡ true → every (is_record log) (places log) ≡ true
          → hold (length (ends log)) (length (places log)) l ≡ true → Accepted store used l
      good s t r h =
          let reads : read_log store used l ≡ answered (callouts_in log) l = read store used s.0 s.1 b t r l (true_room log l h) in
          record {
            callouts = callouts_in log;
            number = read_number store used l (callouts_in log) reads;
            reads = reads;
            written = written store used s.0 s.1 b t r;
          }

-- each store that is read is what the appends of its callouts leave
pub exact_law : ExactLaw
exact_law = record { exactly = accepts }
