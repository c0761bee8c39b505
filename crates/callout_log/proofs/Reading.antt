-- The ways through `read` and `view`.
-- Assumes nothing.
use mathlib.Core.Path.{◌≡◌, refl, ap, sym, ◌∙◌}
use mathlib.Core.Bool.{Bool, true, false}
use mathlib.Core.List.{List, ◌++◌, map}
use Prim.Native.Nat.{ℕ, ◌≤◌, ◌<◌}
use lib.Dec.{leb}
use lib.ListN.{length, take, drop}
use lib.Seq.{length-take-le}
use borrow.Author.Tests.{leb-true, lt-leb, le-leb}
use Rattle.std.specs.Prelude.{Result, Ok, Err}
use Rattle.base.specs.Choice.{choose}
use Rattle.error.specs.declared.Error.{Error}
use Rattle.error.specs.declared.Error.TheVariants.{InvalidArgument, BrokenTrailer, BrokenRecord}
use Rattle.callout_log.specs.Record.{is_record, record_at, shown}
use Rattle.callout_log.specs.Trailer.{count_before, is_trailer}
use Rattle.callout_log.specs.Log.{ends, every, is_store, opened, places}
use Rattle.callout_log.specs.Read.{Lists, hold, listing, over, reading}
use Rattle.callout_log.specs.View.{read_seen, seen, view_bytes, viewing, view_log}
use Rattle.callout_log.proofs.Shown.{read_as, read_broken, read_shown, seen_length}
use Rattle.callout_log.proofs.Walk.{both}

module _ (store : List ℕ) (used : ℕ) where
  -- the log that stands in the store
  abbrev log : List ℕ
  log = take used store

  -- what opening answers by the tests of the store, the trailers and the records
  unfoldable opened_by : (stored trailers records : Bool) → Result (List ℕ) Error
  opened_by stored trailers records = choose stored (choose trailers (choose records (Ok log) (Err BrokenRecord)) (Err BrokenTrailer)) (Err InvalidArgument)

  -- what a log that is opened tells
  pub record Opened (bytes : List ℕ) : Type 0 where
    pub stored : is_store (length store) used ≡ true
    pub trailers : every (is_trailer log) (ends log) ≡ true
    pub records : every (is_record log) (places log) ≡ true
    pub same : bytes ≡ log

  pub told : (bytes : List ℕ) → Ok bytes ≡ opened store used → Opened bytes
  unfolding opened opened_by choose
  told bytes e = decide (is_store (length store) used) (every (is_trailer log) (ends log)) (every (is_record log) (places log)) refl refl refl e
    where
      decide : (s t r : Bool) → is_store (length store) used ≡ s → every (is_trailer log) (ends log) ≡ t → every (is_record log) (places log) ≡ r
          → Ok bytes ≡ opened_by s t r → Opened bytes
      decide true true true p q k h = record { stored = p; trailers = q; records = k; same = cc }
      decide true true false p q k h = cc
      decide true false r p q k h = cc
      decide false t r p q k h = cc

  -- a store that is no log turns the read and the view down
  module _ (error : Error) (e : Err error ≡ opened store used) where
    pub read_err : (hides : Bool) (l : Lists) → reading (Err error) l ≡ read_seen hides store used l
    unfolding opened opened_by read_seen read_as choose
    read_err hides l = decide (is_store (length store) used) (every (is_trailer log) (ends log)) (every (is_record log) (places log)) refl refl refl e
      where
        decide : (s t r : Bool) → is_store (length store) used ≡ s → every (is_trailer log) (ends log) ≡ t → every (is_record log) (places log) ≡ r
            → Err error ≡ opened_by s t r → reading (Err error) l ≡ read_seen hides store used l
        decide true true true p q k h = cc
        decide true true false p q k h = let same : error ≡ BrokenRecord = cc in rw (same, p, read_shown log q l hides, k)
        decide true false r p q k h = let same : error ≡ BrokenTrailer = cc in rw (same, p) (read_broken log l hides q)
        decide false t r p q k h = let same : error ≡ InvalidArgument = cc in rw (same, p)

    pub view_err : (hides : Bool) (bytes : List ℕ) → viewing (Err error) bytes ≡ view_log hides store used bytes
    unfolding opened opened_by view_log view_bytes choose
    view_err hides bytes = decide (is_store (length store) used) (every (is_trailer log) (ends log)) (every (is_record log) (places log)) refl refl refl e
      where
        decide : (s t r : Bool) → is_store (length store) used ≡ s → every (is_trailer log) (ends log) ≡ t → every (is_record log) (places log) ≡ r
            → Err error ≡ opened_by s t r → viewing (Err error) bytes ≡ view_log hides store used bytes
        decide true true true p q k h = cc
        decide true true false p q k h = let same : error ≡ BrokenRecord = cc in rw (same, p, q, k)
        decide true false r p q k h = let same : error ≡ BrokenTrailer = cc in rw (same, p, q)
        decide false t r p q k h = let same : error ≡ InvalidArgument = cc in rw (same, p)

  -- the ways of an opened log
  module _ (bytes : List ℕ) (e : Ok bytes ≡ opened store used) (hides : Bool) where
    module _ (l : Lists) (callouts records : ℕ) (c : callouts ≡ length (ends bytes)) (n : records ≡ length (places bytes)) where
      room : (flag : Bool) → flag ≡ hold callouts records l → hold (length (ends log)) (length (places log)) l ≡ flag
      room flag h = sym (h ∙ rw (c, n, (told bytes e).same))

      pub read_short : false ≡ hold callouts records l → reading (Err InvalidArgument) l ≡ read_seen hides store used l
      unfolding read_seen read_as choose
      read_short h = rw ((told bytes e).stored, read_shown log (told bytes e).trailers l hides, (told bytes e).records, room false h)

      pub read_good : (left : Lists) → true ≡ hold callouts records l
          → left ≡ listing (map (count_before bytes) (ends bytes)) (map (λ (place : ℕ). shown hides (record_at bytes place)) (places bytes)) l
          → reading (Ok callouts) left ≡ read_seen hides store used l
      unfolding read_seen read_as choose
      read_good left h q =
          rw (q, c, (told bytes e).same, (told bytes e).stored, read_shown log (told bytes e).trailers l hides, (told bytes e).records, room true h)

    front : length log ≡ used
    unfolding is_store
    front = length-take-le used store (leb-true used (length store) (both (leb (length store) 65536) (leb used (length store)) (told bytes e).stored).1)

    pub view_short : (lent : List ℕ) → length lent < used → viewing (Err InvalidArgument) lent ≡ view_log hides store used lent
    unfolding view_log view_bytes choose
    view_short lent h = rw ((told bytes e).stored, (told bytes e).trailers, (told bytes e).records, front, lt-leb used (length lent) h)

    pub view_part : (lent : List ℕ) → used ≤ length lent → length (take used lent) ≡ length bytes
    view_part lent h = length-take-le used lent h ∙ sym front ∙ ap length (sym (told bytes e).same)

    pub view_good : (lent part : List ℕ) → used ≤ length lent → part ≡ seen hides bytes → viewing (Ok used) (part ++ drop used lent) ≡ view_log hides store used lent
    unfolding view_log view_bytes over choose
    view_good lent part h q =
        rw (
          q,
          (told bytes e).same,
          (told bytes e).stored,
          (told bytes e).trailers,
          (told bytes e).records,
          seen_length log hides (told bytes e).trailers,
          front,
          le-leb used (length lent) h,
        )

-- the ways through `read`
pub ruleset reads = (read_err, read_short)

-- the ways through `view`
pub ruleset views = (view_err, view_short, view_part, view_good)
