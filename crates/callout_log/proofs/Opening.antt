-- The ways through `open`.
-- Assumes nothing.
use mathlib.Core.Path.{◌≡◌, refl, ap, sym}
use mathlib.Core.Bool.{Bool, true, false}
use mathlib.Core.List.{List}
use Prim.Native.Nat.{ℕ}
use lib.Dec.{leb}
use lib.ListN.{length, take}
use borrow.Author.Tests.{leb-true}
use Rattle.std.specs.Prelude.{Result, Ok, Err}
use Rattle.base.specs.Choice.{choose}
use Rattle.base.proofs.Parts.{part_length}
use Rattle.error.specs.declared.Error.{Error}
use Rattle.error.specs.declared.Error.TheVariants.{InvalidArgument, BrokenTrailer, BrokenRecord}
use Rattle.callout_log.specs.Record.{is_record}
use Rattle.callout_log.specs.Trailer.{is_trailer}
use Rattle.callout_log.specs.Log.{ends, every, is_store, opened, places, walked_trailers}
use Rattle.callout_log.proofs.Walk.{both}

-- what a walk has found, by the test of the trailers
unfoldable found_by : (log : List ℕ) → Bool → Result (ℕ × ℕ) Error
found_by log good = choose good (Ok (length (ends log), length (places log))) (Err BrokenTrailer)

-- what a walk to the front tells
pub record Walked (log : List ℕ) (callouts records : ℕ) : Type 0 where
  pub trailers : every (is_trailer log) (ends log) ≡ true
  pub callouts_counted : callouts ≡ length (ends log)
  pub records_counted : records ≡ length (places log)

pub walked : (log : List ℕ) (callouts records : ℕ) → Ok (callouts, records) ≡ walked_trailers log → Walked log callouts records
unfolding walked_trailers found_by choose
walked log callouts records e = decide (every (is_trailer log) (ends log)) refl e
  where
    decide : (t : Bool) → every (is_trailer log) (ends log) ≡ t → Ok (callouts, records) ≡ found_by log t → Walked log callouts records
    decide true q p =
        let same : ◌≡◌ {A = ℕ × ℕ} (callouts, records) (length (ends log), length (places log)) = cc in
        record { trailers = q; callouts_counted = ap (λ (n : ℕ × ℕ). n.0) same; records_counted = ap (λ (n : ℕ × ℕ). n.1) same }
    decide false q p = cc

module _ (store : List ℕ) (used : ℕ) where
  pub open_no_store : false ≡ is_store (length store) used → Err InvalidArgument ≡ opened store used
  unfolding opened choose
  open_no_store s = rw (← s)

  module _ (s : true ≡ is_store (length store) used) where
    pub open_part : used ≡ length (take used store)
    unfolding is_store
    open_part = part_length store used (leb-true used (length store) (both (leb (length store) 65536) (leb used (length store)) (sym s)).1)

    pub open_broken : (error : Error) → Err error ≡ walked_trailers (take used store) → Err error ≡ opened store used
    unfolding opened walked_trailers found_by choose
    open_broken error e = decide (every (is_trailer (take used store)) (ends (take used store))) refl e
      where
        decide : (t : Bool) → every (is_trailer (take used store)) (ends (take used store)) ≡ t
            → Err error ≡ found_by (take used store) t → Err error ≡ opened store used
        decide true q p = cc
        decide false q p = let same : error ≡ BrokenTrailer = cc in rw (← s, q, same)

    module _ (callouts records : ℕ) (e : Ok (callouts, records) ≡ walked_trailers (take used store)) where
      pub open_bad : false ≡ every (is_record (take used store)) (places (take used store)) → Err BrokenRecord ≡ opened store used
      unfolding opened choose
      open_bad r = rw (← s, (walked (take used store) callouts records e).trailers, ← r)

      pub open_good : true ≡ every (is_record (take used store)) (places (take used store)) → Ok (take used store) ≡ opened store used
      unfolding opened choose
      open_good r = rw (← s, (walked (take used store) callouts records e).trailers, ← r)

-- the ways through `open`
pub ruleset ways = (open_no_store, open_part, open_broken, open_bad, open_good, walked)
