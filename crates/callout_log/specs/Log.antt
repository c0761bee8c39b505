-- A log of callouts: what bytes it is, and how it is walked from the last trailer to the front.
use Rattle.std.specs.Prelude.{Bool, true, List, [], ◌∷◌, ◌++◌, ℕ, zero, suc, ◌+◌, ◌-◌, leb, eqb, length, take, Result, Ok, Err}
use Rattle.base.specs.Choice.{choose, ◌and◌}
use Rattle.error.specs.Error.{error_number}
use Rattle.error.specs.declared.Error.{Error}
use Rattle.error.specs.declared.Error.TheVariants.{InvalidArgument, BrokenTrailer, BrokenRecord}
use Rattle.callout_log.specs.declared.record.Record.{Record}
use Rattle.callout_log.specs.Record.{is_record, records_bytes}
use Rattle.callout_log.specs.Trailer.{count_before, distance, is_trailer, trailer_bytes}

-- the bytes of a callout: its records, then the trailer
unfoldable pub callout_bytes : List Record → List ℕ
callout_bytes records = records_bytes records ++ trailer_bytes (length records)

-- the bytes of a log whose callouts are given from the last to the first: they stand in the order in which they came
unfoldable pub log_bytes : List (List Record) → List ℕ
log_bytes [] = []
log_bytes (callout ∷ older) = log_bytes older ++ callout_bytes callout

-- whether a store of so many bytes can hold a log of this used length
unfoldable pub is_store : (size used : ℕ) → Bool
is_store size used = leb size 65536 and leb used size

module _ {A : Type 0} where
  -- whether a test holds of every element
  unfoldable pub every : (A → Bool) → List A → Bool
  every test [] = true
  every test (x ∷ list) = test x and every test list

-- where the callouts up to a place end, the last one first, as far as trailers that keep their rule lead; so many at most
unfoldable pub ends_before : (most : ℕ) → List ℕ → (end : ℕ) → List ℕ
ends_before zero bytes end = []
ends_before (suc most) bytes end =
    choose (eqb end 0) []
    (end ∷ choose (is_trailer bytes end) (ends_before most bytes (end - distance (count_before bytes end))) [])

-- where the callouts of a log end: each has bytes of its own, so there are no more than bytes
unfoldable pub ends : List ℕ → List ℕ
ends log = ends_before (length log) log (length log)

-- the places of so many records, one behind another
unfoldable pub places_from : (first count : ℕ) → List ℕ
places_from first zero = []
places_from first (suc count) = first ∷ places_from (first + 32) count

-- the places of the records of callouts that end there, those of each front to back
unfoldable pub places_before : List ℕ → List ℕ → List ℕ
places_before log [] = []
places_before log (end ∷ older) = places_from (end - distance (count_before log end)) (count_before log end) ++ places_before log older

-- the places of all records of a log
unfoldable pub places : List ℕ → List ℕ
places log = places_before log (ends log)

-- what a walk over the trailers of a log finds: the numbers of callouts and of records
unfoldable pub walked_trailers : List ℕ → Result (ℕ × ℕ) Error
walked_trailers log = choose (every (is_trailer log) (ends log)) (Ok (length (ends log), length (places log))) (Err BrokenTrailer)

-- the log in a store up to its used length, where the store and its trailers and records keep their rules
unfoldable pub opened : List ℕ → (used : ℕ) → Result (List ℕ) Error
opened store used =
    choose (is_store (length store) used)
    (choose (every (is_trailer (take used store)) (ends (take used store)))
    (choose (every (is_record (take used store)) (places (take used store)))
    (Ok (take used store))
    (Err BrokenRecord))
    (Err BrokenTrailer))
    (Err InvalidArgument)

-- the number that turns a call down, or 0
unfoldable pub answer_number : Result ℕ Error → ℕ
answer_number (Err error) = error_number error
answer_number (Ok value) = 0

-- the values of an answer; none of a call turned down
unfoldable pub answer_values : Result ℕ Error → List ℕ
answer_values (Err error) = []
answer_values (Ok value) = value ∷ []
