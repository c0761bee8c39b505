-- What document 02's note 3 says of the callout log, in its own numbers.
use Rattle.std.specs.Prelude.{◌≡◌, List, [], ◌∷◌, ◌++◌, map, ℕ, ◌+◌, ◌-◌, ◌*◌, ◌/◌, ◌%◌, ◌^◌, ◌≤◌, ◌<◌, length, get_or, take, drop, Ok}
use Rattle.endian.specs.LittleEndian.{Bytes}
use Rattle.callout_log.specs.declared.record.Record.{Record}
use Rattle.callout_log.specs.Record.{record_bytes}
use Rattle.callout_log.specs.Trailer.{trailer_bytes}
use Rattle.callout_log.specs.Log.{answer_number, answer_values, callout_bytes, log_bytes}
use Rattle.callout_log.specs.Append.{OneLength, Reports, appending, append_log, records_of}
use Rattle.callout_log.specs.Read.{Lists, Reading, listing, reading, read_log}

module _ {A : Type 0} (P : A → Type 0) where
  -- It holds of every element.
  pub data All : List A → Type 0 where
    none : All []
    more : {x : A} {list : List A} → P x → All list → All (x ∷ list)

-- Rule 1 of a time.
pub record Timely (time : ℕ) : Type 0 where
  pub limit : time ≤ 4000000000000000000

-- The verdicts of a log: committed, opening failed, out of the window, committed before.
pub data Verdict : ℕ → Type 0 where
  committed : Verdict 0
  failed : Verdict 7
  outside : Verdict 9
  again : Verdict 10

-- A report that a record can hold: its time and verdict keep their rules, and each number has its width.
pub record Report (r : Record) : Type 0 where
  pub time : Timely r.time
  pub counter : r.counter < 18446744073709551616
  pub session_id : r.session_id < 18446744073709551616
  pub local_index : r.local_index < 4294967296
  pub verdict : Verdict r.verdict

-- Where each field of a record and of a trailer stands, little-endian, and what a callout and a log are made of.
pub record FormatLaw : Type 0 where
  pub record_size : (r : Record) → length (record_bytes r) ≡ 32
  pub time : (r : Record) (i : ℕ) → i < 8 → get_or (record_bytes r) i 0 ≡ r.time / 256 ^ i % 256
  pub counter : (r : Record) (i : ℕ) → i < 8 → get_or (record_bytes r) (8 + i) 0 ≡ r.counter / 256 ^ i % 256
  pub session_id : (r : Record) (i : ℕ) → i < 8 → get_or (record_bytes r) (16 + i) 0 ≡ r.session_id / 256 ^ i % 256
  pub local_index : (r : Record) (i : ℕ) → i < 4 → get_or (record_bytes r) (24 + i) 0 ≡ r.local_index / 256 ^ i % 256
  pub verdict : (r : Record) → r.verdict < 256 → get_or (record_bytes r) 28 0 ≡ r.verdict
  pub record_zero : (r : Record) (i : ℕ) → i < 3 → get_or (record_bytes r) (29 + i) 0 ≡ 0
  pub trailer_size : (count : ℕ) → length (trailer_bytes count) ≡ 16
  pub distance : (count i : ℕ) → i < 8 → get_or (trailer_bytes count) i 0 ≡ (16 + 32 * count) / 256 ^ i % 256
  pub count : (count i : ℕ) → i < 4 → get_or (trailer_bytes count) (8 + i) 0 ≡ count / 256 ^ i % 256
  pub trailer_zero : (count i : ℕ) → i < 4 → get_or (trailer_bytes count) (12 + i) 0 ≡ 0
  pub callout_size : (records : List Record) → length (callout_bytes records) ≡ 16 + 32 * length records
  pub record_at : (before after : List Record) (r : Record) → take 32 (drop (32 * length before) (callout_bytes (before ++ r ∷ after))) ≡ record_bytes r
  pub trailer_at : (records : List Record) → drop (32 * length records) (callout_bytes records) ≡ trailer_bytes (length records)
  pub no_log : log_bytes [] ≡ []
  pub log : (callout : List Record) (older : List (List Record)) → log_bytes (callout ∷ older) ≡ log_bytes older ++ callout_bytes callout

-- the lists of a callout's reports
unfoldable pub reports_of : List Record → Reports
reports_of records =
    record {
      times = map (λ (r : Record). r.time) records;
      counters = map (λ (r : Record). r.counter) records;
      session_ids = map (λ (r : Record). r.session_id) records;
      local_indices = map (λ (r : Record). r.local_index) records;
      verdicts = map (λ (r : Record). r.verdict) records;
    }

-- An append is turned down by a number, and the store is as it came.
pub record NotAppended (store : List ℕ) (used : ℕ) (r : Reports) (number : ℕ) : Type 0 where
  pub refused : answer_number (append_log store used r).answer ≡ number
  pub left : (append_log store used r).store ≡ store

-- An append is good, with this new used length and this store.
pub record IsAppended (store : List ℕ) (used : ℕ) (r : Reports) (end : ℕ) (after : List ℕ) : Type 0 where
  pub number : answer_number (append_log store used r).answer ≡ 0
  pub values : answer_values (append_log store used r).answer ≡ end ∷ []
  pub left : (append_log store used r).store ≡ after

-- What an append answers, in the order 1, 2, 19, and the bytes that it writes: those of the callout, from the old to the new used length.
pub record AppendLaw : Type 0 where
  pub time : (store : List ℕ) (used : ℕ) (r : Reports) → (All Timely r.times → ⊥) → NotAppended store used r 1
  pub size : (store : List ℕ) (used : ℕ) (r : Reports) → All Timely r.times → 65536 < length store → NotAppended store used r 2
  pub used : (store : List ℕ) (used : ℕ) (r : Reports) → All Timely r.times → length store < used → NotAppended store used r 2
  pub lists : (store : List ℕ) (used : ℕ) (r : Reports) → All Timely r.times → (OneLength r → ⊥) → NotAppended store used r 2
  pub verdict : (store : List ℕ) (used : ℕ) (r : Reports) → All Timely r.times → (All Verdict r.verdicts → ⊥) → NotAppended store used r 2
  pub full : (store : List ℕ) (used : ℕ) (r : Reports) → All Timely r.times → length store ≤ 65536 → used ≤ length store → OneLength r → All Verdict r.verdicts
      → length store < used + (16 + 32 * length r.times) → NotAppended store used r 19
  pub good : (store : List ℕ) (used : ℕ) (r : Reports) → All Timely r.times → length store ≤ 65536 → OneLength r → All Verdict r.verdicts
      → used + (16 + 32 * length r.times) ≤ length store
      → IsAppended store used r (used + (16 + 32 * length r.times)) (take used store ++ callout_bytes (records_of r) ++ drop (used + (16 + 32 * length r.times)) store)
  pub records : (callout : List Record) → records_of (reports_of callout) ≡ callout

-- The appends of callouts, the last one first in the list, to a store from used length 0, none turned down: what they leave, and the used length.
pub data Appends (store : List ℕ) : List (List Record) → List ℕ → ℕ → Type 0 where
  first : Appends store [] store 0
  next : {older : List (List Record)} {left after : List ℕ} {used end : ℕ} (callout : List Record) → Appends store older left used
      → append_log left used (reports_of callout) ≡ appending (Ok end) after
      → Appends store (callout ∷ older) after end

-- the records of callouts, those of the last callout first, and of each front to back
unfoldable pub records_in : List (List Record) → List Record
records_in [] = []
records_in (callout ∷ older) = callout ++ records_in older

-- The lists have room for callouts and their records.
pub record Room (callouts : List (List Record)) (l : Lists) : Type 0 where
  pub counts : length callouts ≤ length l.counts
  pub times : length (records_in callouts) ≤ length l.times
  pub counters : length (records_in callouts) ≤ length l.counters
  pub session_ids : length (records_in callouts) ≤ length l.session_ids
  pub local_indices : length (records_in callouts) ≤ length l.local_indices
  pub verdicts : length (records_in callouts) ≤ length l.verdicts

-- what reading callouts answers and leaves: how many they are, the records of each, and all records
unfoldable pub answered : List (List Record) → Lists → Reading
answered callouts l =
    reading (Ok (length callouts)) (listing (map (λ (c : List Record). length c) callouts) (records_in callouts) l)

-- The lists after callouts were read: the number of records of each callout, then all records, from the front of each list, whose rest is as it came.
pub record Listed (callouts : List (List Record)) (l left : Lists) : Type 0 where
  pub counts : left.counts ≡ map (λ (c : List Record). length c) callouts ++ drop (length callouts) l.counts
  pub times : left.times ≡ map (λ (r : Record). r.time) (records_in callouts) ++ drop (length (records_in callouts)) l.times
  pub counters : left.counters ≡ map (λ (r : Record). r.counter) (records_in callouts) ++ drop (length (records_in callouts)) l.counters
  pub session_ids : left.session_ids ≡ map (λ (r : Record). r.session_id) (records_in callouts) ++ drop (length (records_in callouts)) l.session_ids
  pub local_indices : left.local_indices ≡ map (λ (r : Record). r.local_index) (records_in callouts) ++ drop (length (records_in callouts)) l.local_indices
  pub verdicts : left.verdicts ≡ map (λ (r : Record). r.verdict) (records_in callouts) ++ drop (length (records_in callouts)) l.verdicts

-- Callouts that fit into a store are appended, none turned down; what appends make is the callouts' bytes, and it reads back to them.
pub record WrittenLaw : Type 0 where
  pub fits : (store : List ℕ) (callouts : List (List Record)) → All (All Report) callouts → length store ≤ 65536 → length (log_bytes callouts) ≤ length store
      → Appends store callouts (log_bytes callouts ++ drop (length (log_bytes callouts)) store) (length (log_bytes callouts))
  pub made : (store left : List ℕ) (used : ℕ) (callouts : List (List Record)) → Appends store callouts left used
      → (used ≡ length (log_bytes callouts)) × (left ≡ log_bytes callouts ++ drop (length (log_bytes callouts)) store)
  pub reads : (store left : List ℕ) (used : ℕ) (callouts : List (List Record)) (l : Lists) → All (All Report) callouts → Appends store callouts left used → Room callouts l
      → length store ≤ 65536 → read_log left used l ≡ answered callouts l
  pub answers : (callouts : List (List Record)) (l : Lists) → answer_values (answered callouts l).answer ≡ length callouts ∷ []
  pub lists : (callouts : List (List Record)) (l : Lists) → Listed callouts l (answered callouts l).lists

-- A store is, up to its used length, what the appends of these callouts leave in each store of its length, none of them turned down.
pub record Written (store : List ℕ) (used : ℕ) (callouts : List (List Record)) : Type 0 where
  pub reports : All (All Report) callouts
  pub bytes : (other : List ℕ) → length other ≡ length store → Appends other callouts (take used store ++ drop used other) used

-- A read answers callouts, and the store is what their appends leave.
pub record Accepted (store : List ℕ) (used : ℕ) (l : Lists) : Type 0 where
  pub callouts : List (List Record)
  pub number : answer_number (read_log store used l).answer ≡ 0
  pub reads : read_log store used l ≡ answered callouts l
  pub written : Written store used callouts

-- Each store that read accepts is, up to its used length, what the appends of the callouts that it answers leave.
pub record ExactLaw : Type 0 where
  pub exactly : (store : List ℕ) (used : ℕ) (l left : Lists) (count : ℕ) → Bytes store → read_log store used l ≡ reading (Ok count) left → Accepted store used l

-- The trailer of so many records ends at a place of a log.
pub record TrailerAt (log : List ℕ) (end count : ℕ) : Type 0 where
  pub within : 16 + 32 * count ≤ end
  pub bytes : take 16 (drop (end - 16) log) ≡ trailer_bytes count

-- From the last trailer of a log, trailers lead to a place.
pub data Leads (log : List ℕ) : ℕ → Type 0 where
  last : Leads log (length log)
  back : (end count : ℕ) → Leads log end → TrailerAt log end count → Leads log (end - (16 + 32 * count))

-- Trailers lead to a place behind the front at which no trailer ends.
pub record BrokenTrailer (log : List ℕ) : Type 0 where
  pub end : ℕ
  pub leads : Leads log end
  pub behind : 0 < end
  pub broken : (count : ℕ) → TrailerAt log end count → ⊥

-- One of the records that a trailer points to is not the record of a report.
pub record BrokenRecord (log : List ℕ) : Type 0 where
  pub end : ℕ
  pub count : ℕ
  pub place : ℕ
  pub leads : Leads log end
  pub trailer : TrailerAt log end count
  pub within : place < count
  pub broken : (r : Record) → Report r → take 32 (drop (end - (16 + 32 * count) + 32 * place) log) ≡ record_bytes r → ⊥

-- A read is turned down by a number, and the lists are as they came.
pub record NotRead (store : List ℕ) (used : ℕ) (l : Lists) (number : ℕ) : Type 0 where
  pub refused : answer_number (read_log store used l).answer ≡ number
  pub left : (read_log store used l).lists ≡ l

-- A store holds callouts: read answers them where the lists have room, and else turns the lists down.
pub record Held (store : List ℕ) (used : ℕ) (l : Lists) : Type 0 where
  pub callouts : List (List Record)
  pub reads : Room callouts l → read_log store used l ≡ answered callouts l
  pub short : (Room callouts l → ⊥) → NotRead store used l 2
  pub written : Written store used callouts

-- Which logs are turned down, in the order 2, 17, 18, 2: 17 if any trailer is broken, whatever the records are.
pub record RefusalLaw : Type 0 where
  pub size : (store : List ℕ) (used : ℕ) (l : Lists) → 65536 < length store → NotRead store used l 2
  pub used : (store : List ℕ) (used : ℕ) (l : Lists) → length store < used → NotRead store used l 2
  pub broken_trailer : (store : List ℕ) (used : ℕ) (l : Lists) → Bytes store → length store ≤ 65536 → used ≤ length store
      → BrokenTrailer (take used store) → NotRead store used l 17
  pub broken_record : (store : List ℕ) (used : ℕ) (l : Lists) → Bytes store → length store ≤ 65536 → used ≤ length store
      → (BrokenTrailer (take used store) → ⊥) → BrokenRecord (take used store) → NotRead store used l 18
  pub accepted : (store : List ℕ) (used : ℕ) (l : Lists) → Bytes store → length store ≤ 65536 → used ≤ length store
      → (BrokenTrailer (take used store) → ⊥) → (BrokenRecord (take used store) → ⊥) → Held store used l
