-- The log as it is seen: whole, or with its hidden fields as zero bytes. Hidden are the counter, the session id and the local index of every record.
use Rattle.std.specs.Prelude.{Bool, List, [], ◌∷◌, ◌++◌, ℕ, ◌+◌, leb, length, take, drop, Result, Ok, Err}
use Rattle.base.specs.Choice.{choose}
use Rattle.base.specs.Lists.{zeros}
use Rattle.callout_log.specs.Record.{is_record}
use Rattle.callout_log.specs.Trailer.{is_trailer}
use Rattle.callout_log.specs.Log.{ends, every, is_store, places}
use Rattle.callout_log.specs.Read.{Lists, Reading, over, read_bytes, reading}
use Rattle.error.specs.declared.Error.{Error}
use Rattle.error.specs.declared.Error.TheVariants.{InvalidArgument, BrokenTrailer, BrokenRecord}

-- bytes in which the hidden fields of the record at a place are zero: its 20 bytes from the ninth on
unfoldable pub hide_at : ℕ → List ℕ → List ℕ
hide_at at bytes = take (at + 8) bytes ++ (zeros 20 ++ drop (at + 28) bytes)

-- bytes in which the hidden fields of the records at these places are zero
unfoldable pub hide_all : List ℕ → List ℕ → List ℕ
hide_all [] bytes = bytes
hide_all (at ∷ later) bytes = hide_all later (hide_at at bytes)

-- the places of the records that the trailers point to: of none where a trailer breaks its rule
unfoldable pub pointed : List ℕ → List ℕ
pointed log = choose (every (is_trailer log) (ends log)) (places log) []

-- a log as it is seen, with its fields hidden or not
unfoldable pub seen : (hides : Bool) → List ℕ → List ℕ
seen hides log = choose hides (hide_all (pointed log) log) log

-- What a call of view answers, and the bytes it leaves.
pub record Viewing : Type 0 where
  pub answer : Result ℕ Error
  pub bytes : List ℕ

-- this answer and bytes
abbrev pub viewing : Result ℕ Error → List ℕ → Viewing
viewing answer bytes = record { answer = answer; bytes = bytes }

-- what viewing a log that fills its bytes answers and leaves: BrokenTrailer, BrokenRecord, InvalidArgument for lent bytes that are too few
unfoldable pub view_bytes : (hides : Bool) → List ℕ → (bytes : List ℕ) → Viewing
view_bytes hides log bytes =
    choose (every (is_trailer log) (ends log))
    (choose (every (is_record log) (places log))
    (choose (leb (length log) (length bytes))
    (viewing (Ok (length log)) (over (seen hides log) bytes))
    (viewing (Err InvalidArgument) bytes))
    (viewing (Err BrokenRecord) bytes))
    (viewing (Err BrokenTrailer) bytes)

-- what viewing a store up to its used length answers and leaves
unfoldable pub view_log : (hides : Bool) → List ℕ → (used : ℕ) → (bytes : List ℕ) → Viewing
view_log hides store used bytes = choose (is_store (length store) used) (view_bytes hides (take used store) bytes) (viewing (Err InvalidArgument) bytes)

-- what reading the log as it is seen answers and leaves
unfoldable pub read_seen : (hides : Bool) → List ℕ → (used : ℕ) → Lists → Reading
read_seen hides store used l = choose (is_store (length store) used) (read_bytes (seen hides (take used store)) l) (reading (Err InvalidArgument) l)
