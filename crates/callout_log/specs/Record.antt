-- The record of a report in 32 bytes.
use Rattle.std.specs.Prelude.{Bool, true, List, [], ◌∷◌, ◌++◌, ℕ, ◌+◌, leb, eqb}
use Rattle.base.specs.Choice.{choose, ◌and◌}
use Rattle.base.specs.Lists.{zeros}
use Rattle.callout_log.specs.declared.record.Record.{Record}
use Rattle.endian.specs.LittleEndian.{field, to_le_bytes}

-- the bytes of a record: time, counter, session id, local index, verdict and three zero bytes
unfoldable pub record_bytes : Record → List ℕ
record_bytes r =
    to_le_bytes 8 r.time ++ to_le_bytes 8 r.counter ++ to_le_bytes 8 r.session_id ++ to_le_bytes 4 r.local_index ++ to_le_bytes 1 r.verdict ++ zeros 3

-- the bytes of records, one behind another
unfoldable pub records_bytes : List Record → List ℕ
records_bytes [] = []
records_bytes (r ∷ records) = record_bytes r ++ records_bytes records

-- a record with its hidden fields 0: the counter, the session id and the local index
unfoldable pub blanked : Record → Record
blanked r = record { time = r.time; counter = 0; session_id = 0; local_index = 0; verdict = r.verdict }

-- a record as it is seen, with its fields hidden or not
unfoldable pub shown : (hides : Bool) → Record → Record
shown hides r = choose hides (blanked r) r

-- the record that stands at a place
unfoldable pub record_at : List ℕ → ℕ → Record
record_at bytes at =
    record {
      time = field at 8 bytes;
      counter = field (at + 8) 8 bytes;
      session_id = field (at + 16) 8 bytes;
      local_index = field (at + 24) 4 bytes;
      verdict = field (at + 28) 1 bytes;
    }

-- whether a number is the verdict of a record: 0, 7, 9 or 10
unfoldable pub is_verdict : ℕ → Bool
is_verdict n = choose (eqb n 0) true (choose (eqb n 7) true (choose (eqb n 9) true (eqb n 10)))

-- whether a time keeps rule 1
unfoldable pub is_time : ℕ → Bool
is_time n = leb n 4000000000000000000

-- whether the record that stands at a place keeps its rule: the time, the verdict, and the three zero bytes
unfoldable pub is_record : List ℕ → ℕ → Bool
is_record bytes at = is_time (record_at bytes at).time and is_verdict (record_at bytes at).verdict and eqb (field (at + 29) 3 bytes) 0
