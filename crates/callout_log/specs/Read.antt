-- Reading a log: what it answers and what it leaves in the lent lists.
use Rattle.std.specs.Prelude.{◌≡◌, Bool, List, [], ◌∷◌, ◌++◌, map, ℕ, suc, ◌≤◌, leb, length, set, take, drop, Result, Ok, Err}
use Rattle.base.specs.Choice.{choose, ◌and◌}
use Rattle.callout_log.specs.declared.record.Record.{Record}
use Rattle.error.specs.declared.Error.{Error}
use Rattle.error.specs.declared.Error.TheVariants.{InvalidArgument, BrokenTrailer, BrokenRecord}
use Rattle.callout_log.specs.Record.{record_at, is_record}
use Rattle.callout_log.specs.Trailer.{count_before, is_trailer}
use Rattle.callout_log.specs.Log.{ends, every, is_store, places}
use Rattle.callout_log.specs.declared.read.Lists.{Lists as Lent}

-- The lists lent to a call of read: the counts of the callouts, and five for the records.
pub record Lists : Type 0 where
  pub counts : List ℕ
  pub times : List ℕ
  pub counters : List ℕ
  pub session_ids : List ℕ
  pub local_indices : List ℕ
  pub verdicts : List ℕ

-- these lists
abbrev pub lists_of : (counts times counters session_ids local_indices verdicts : List ℕ) → Lists
lists_of counts times counters session_ids local_indices verdicts =
    record { counts = counts; times = times; counters = counters; session_ids = session_ids; local_indices = local_indices; verdicts = verdicts }

-- what lent lists hold
abbrev pub held : Lent → Lists
held l = lists_of l.counts.now l.times.now l.counters.now l.session_ids.now l.local_indices.now l.verdicts.now

-- Two values of lent lists are the same six references.
pub record SameLists (a b : Lent) : Type 0 where
  pub counts : a.counts.ghost_name ≡ b.counts.ghost_name
  pub times : a.times.ghost_name ≡ b.times.ghost_name
  pub counters : a.counters.ghost_name ≡ b.counters.ghost_name
  pub session_ids : a.session_ids.ghost_name ≡ b.session_ids.ghost_name
  pub local_indices : a.local_indices.ghost_name ≡ b.local_indices.ghost_name
  pub verdicts : a.verdicts.ghost_name ≡ b.verdicts.ghost_name

-- values stored from the front of a list, whose rest stays as it came
unfoldable pub over : List ℕ → List ℕ → List ℕ
over values list = values ++ drop (length values) list

-- whether the lists have room for so many callouts and records
unfoldable pub hold : (callouts records : ℕ) → Lists → Bool
hold callouts records l =
    leb callouts (length l.counts)
    and leb records (length l.times)
    and leb records (length l.counters)
    and leb records (length l.session_ids)
    and leb records (length l.local_indices)
    and leb records (length l.verdicts)

-- the lists with these counts and records
unfoldable pub listing : (counts : List ℕ) → List Record → Lists → Lists
listing counts records l =
    record {
      counts = over counts l.counts;
      times = over (map (λ (r : Record). r.time) records) l.times;
      counters = over (map (λ (r : Record). r.counter) records) l.counters;
      session_ids = over (map (λ (r : Record). r.session_id) records) l.session_ids;
      local_indices = over (map (λ (r : Record). r.local_index) records) l.local_indices;
      verdicts = over (map (λ (r : Record). r.verdict) records) l.verdicts;
    }

-- The five lists for records have so many elements or more.
pub record HasRoom (records : ℕ) (l : Lists) : Type 0 where
  pub times : records ≤ length l.times
  pub counters : records ≤ length l.counters
  pub session_ids : records ≤ length l.session_ids
  pub local_indices : records ≤ length l.local_indices
  pub verdicts : records ≤ length l.verdicts

-- the lists with a record at a place
abbrev pub put_at : (at : ℕ) → Record → Lists → Lists
put_at at r l =
    lists_of l.counts (set l.times at r.time) (set l.counters at r.counter) (set l.session_ids at r.session_id) (set l.local_indices at r.local_index) (set l.verdicts at r.verdict)

-- the lists with records from a place on
unfoldable pub put_all : (at : ℕ) → List Record → Lists → Lists
put_all at [] l = l
put_all at (r ∷ records) l = put_all (suc at) records (put_at at r l)

-- What a call of read answers, and the lists it leaves.
pub record Reading : Type 0 where
  pub answer : Result ℕ Error
  pub lists : Lists

-- this answer and lists
abbrev pub reading : Result ℕ Error → Lists → Reading
reading answer l = record { answer = answer; lists = l }

-- what reading a log that fills its bytes answers and leaves: BrokenTrailer, BrokenRecord, InvalidArgument for a list that is too short
unfoldable pub read_bytes : List ℕ → Lists → Reading
read_bytes log l =
    choose (every (is_trailer log) (ends log))
    (choose (every (is_record log) (places log))
    (choose (hold (length (ends log)) (length (places log)) l)
    (reading (Ok (length (ends log))) (listing (map (count_before log) (ends log)) (map (record_at log) (places log)) l))
    (reading (Err InvalidArgument) l))
    (reading (Err BrokenRecord) l))
    (reading (Err BrokenTrailer) l)

-- what reading a store up to its used length answers and leaves
unfoldable pub read_log : List ℕ → (used : ℕ) → Lists → Reading
read_log store used l = choose (is_store (length store) used) (read_bytes (take used store) l) (reading (Err InvalidArgument) l)
