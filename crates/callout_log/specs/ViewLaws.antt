-- What document 02's note 9 says of the log as it is seen, in its own numbers.
use Rattle.std.specs.Prelude.{◌≡◌, Bool, true, false, List, [], ◌∷◌, map, ℕ, ◌+◌, ◌-◌, ◌*◌, ◌≤◌, ◌<◌, length, get_or, take}
use Rattle.endian.specs.LittleEndian.{Bytes}
use Rattle.callout_log.specs.declared.record.Record.{Record}
use Rattle.callout_log.specs.Record.{blanked}
use Rattle.callout_log.specs.Log.{answer_number, answer_values}
use Rattle.callout_log.specs.Read.{Lists, read_log}
use Rattle.callout_log.specs.View.{read_seen, view_log}
use Rattle.callout_log.specs.Laws.{BrokenRecord, BrokenTrailer, Leads, Room, TrailerAt, Written, answered}

-- A byte of a log is hidden: no trailer is broken, and it stands in the counter, the session id or the local index of a record that a trailer points to, the
-- record's 20 bytes from its ninth on.
pub record HiddenByte (log : List ℕ) (i : ℕ) : Type 0 where
  pub sound : BrokenTrailer log → ⊥
  pub end : ℕ
  pub count : ℕ
  pub place : ℕ
  pub leads : Leads log end
  pub trailer : TrailerAt log end count
  pub within : place < count
  pub behind : end - (16 + 32 * count) + 32 * place + 8 ≤ i
  pub before : i < end - (16 + 32 * count) + 32 * place + 28

-- Two stores of one length whose bytes below a used length differ at most where they are hidden; what lies behind it is free.
pub record DifferHidden (a b : List ℕ) (used : ℕ) : Type 0 where
  pub size : length a ≡ length b
  pub same : (i : ℕ) → i < used → (HiddenByte (take used a) i → ⊥) → get_or a i 0 ≡ get_or b i 0

-- With their fields hidden, logs that differ only there are copied and read alike, refusals included.
pub record SameSeenLaw : Type 0 where
  pub views : (a b : List ℕ) (used : ℕ) (bytes : List ℕ) → Bytes a → DifferHidden a b used → view_log true a used bytes ≡ view_log true b used bytes
  pub reads : (a b : List ℕ) (used : ℕ) (l : Lists) → Bytes a → DifferHidden a b used → read_seen true a used l ≡ read_seen true b used l

-- A view is turned down by a number, and the lent bytes are as they came.
pub record NotViewed (hides : Bool) (store : List ℕ) (used : ℕ) (bytes : List ℕ) (number : ℕ) : Type 0 where
  pub refused : answer_number (view_log hides store used bytes).answer ≡ number
  pub left : (view_log hides store used bytes).bytes ≡ bytes

-- the callouts that a log seen with its fields hidden or not has
unfoldable pub seen_callouts : (hides : Bool) → List (List Record) → List (List Record)
seen_callouts true callouts = map (map blanked) callouts
seen_callouts false callouts = callouts

-- A view is good: it answers the used length, has the log's bytes with the hidden ones zero, and leaves the rest of the lent bytes; and it is a log, what the
-- appends of the callouts leave, their hidden fields 0 where they are hidden, and read answers these.
pub record IsViewed (hides : Bool) (store : List ℕ) (used : ℕ) (bytes left : List ℕ) : Type 0 where
  pub number : answer_number (view_log hides store used bytes).answer ≡ 0
  pub values : answer_values (view_log hides store used bytes).answer ≡ used ∷ []
  pub leaves : (view_log hides store used bytes).bytes ≡ left
  pub size : length left ≡ length bytes
  pub hidden : hides ≡ true → (i : ℕ) → HiddenByte (take used store) i → get_or left i 0 ≡ 0
  pub visible : (i : ℕ) → i < used → (hides ≡ true → HiddenByte (take used store) i → ⊥) → get_or left i 0 ≡ get_or store i 0
  pub rest : (i : ℕ) → used ≤ i → get_or left i 0 ≡ get_or bytes i 0
  pub callouts : List (List Record)
  pub written : Written store used callouts
  pub log : Written (take used left) used (seen_callouts hides callouts)
  pub reads : (l : Lists) → Room callouts l → read_log (take used left) used l ≡ answered (seen_callouts hides callouts) l

-- What a view answers, in the order 2, 17, 18, 2, and the bytes that it leaves.
pub record ViewLaw : Type 0 where
  pub size : (hides : Bool) (store : List ℕ) (used : ℕ) (bytes : List ℕ) → 65536 < length store → NotViewed hides store used bytes 2
  pub used : (hides : Bool) (store : List ℕ) (used : ℕ) (bytes : List ℕ) → length store < used → NotViewed hides store used bytes 2
  pub broken_trailer : (hides : Bool) (store : List ℕ) (used : ℕ) (bytes : List ℕ) → Bytes store → length store ≤ 65536 → used ≤ length store
      → BrokenTrailer (take used store) → NotViewed hides store used bytes 17
  pub broken_record : (hides : Bool) (store : List ℕ) (used : ℕ) (bytes : List ℕ) → Bytes store → length store ≤ 65536 → used ≤ length store
      → (BrokenTrailer (take used store) → ⊥) → BrokenRecord (take used store) → NotViewed hides store used bytes 18
  pub short : (hides : Bool) (store : List ℕ) (used : ℕ) (bytes : List ℕ) → Bytes store → length store ≤ 65536 → used ≤ length store
      → (BrokenTrailer (take used store) → ⊥) → (BrokenRecord (take used store) → ⊥) → length bytes < used → NotViewed hides store used bytes 2
  pub good : (hides : Bool) (store : List ℕ) (used : ℕ) (bytes : List ℕ) → Bytes store → length store ≤ 65536 → used ≤ length store
      → (BrokenTrailer (take used store) → ⊥) → (BrokenRecord (take used store) → ⊥) → used ≤ length bytes
      → IsViewed hides store used bytes (view_log hides store used bytes).bytes

-- A store holds callouts, and the reader on what is seen of it answers these as they are seen where the lists have room.
pub record HeldSeen (hides : Bool) (store : List ℕ) (used : ℕ) (l : Lists) : Type 0 where
  pub callouts : List (List Record)
  pub written : Written store used callouts
  pub reads : Room callouts l → read_seen hides store used l ≡ answered (seen_callouts hides callouts) l

-- The reader on what is seen answers as the reader on the log does, refusals included; of a log that is not broken it answers the callouts as they are seen.
pub record ReadSeenLaw : Type 0 where
  pub answer : (hides : Bool) (store : List ℕ) (used : ℕ) (l : Lists) → (read_seen hides store used l).answer ≡ (read_log store used l).answer
  pub whole : (store : List ℕ) (used : ℕ) (l : Lists) → read_seen false store used l ≡ read_log store used l
  pub refused : (hides : Bool) (store : List ℕ) (used : ℕ) (l : Lists) → (answer_number (read_log store used l).answer ≡ 0 → ⊥) → (read_seen hides store used l).lists ≡ l
  pub held : (hides : Bool) (store : List ℕ) (used : ℕ) (l : Lists) → Bytes store → length store ≤ 65536 → used ≤ length store
      → (BrokenTrailer (take used store) → ⊥) → (BrokenRecord (take used store) → ⊥) → HeldSeen hides store used l
