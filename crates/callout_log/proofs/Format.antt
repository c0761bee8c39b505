-- Where each field of a record and of a trailer stands, and where the records and the trailer of a callout stand.
-- Assumes nothing.
use mathlib.Core.Path.{◌≡◌, refl, ap, sym, subst, ◌∙◌}
use mathlib.Core.List.{List, [], ◌∷◌, ◌++◌, append_assoc}
use Prim.Native.Nat.{ℕ, ◌+◌, ◌*◌, ◌/◌, ◌%◌, ◌^◌, ◌<◌}
use native.Mathlib.Nat.{zero-add}
use native.Mathlib.Omega.{arith}
use lib.ListN.{length, get_or, take, drop, length-append, get_or-append}
use lib.Seq.{take_at, drop_at, get_or-append-add}
use Rattle.base.specs.Lists.{zeros}
use Rattle.base.proofs.Zeros.{zeros_at}
use Rattle.endian.specs.LittleEndian.{to_le_bytes}
use Rattle.endian.proofs.Laws.{little_endian_law}
use Rattle.callout_log.specs.declared.record.Record.{Record}
use Rattle.callout_log.specs.Record.{record_bytes, records_bytes}
use Rattle.callout_log.specs.Trailer.{distance, trailer_bytes}
use Rattle.callout_log.specs.Log.{callout_bytes, log_bytes}
use Rattle.callout_log.specs.Laws.{FormatLaw}

-- an element of a part that stands behind another
in_part : (front part rest : List ℕ) (at i : ℕ) → length front ≡ at → i < length part → get_or (front ++ (part ++ rest)) (at + i) 0 ≡ get_or part i 0
in_part front part rest at i h l =
    ap (λ (k : ℕ). get_or (front ++ (part ++ rest)) (k + i) 0) (sym h) ∙ get_or-append-add front (part ++ rest) i 0 ∙ get_or-append part rest 0 i l

-- a byte of a number that stands behind other bytes
byte_in : (front rest : List ℕ) (at width number i : ℕ) → length front ≡ at → i < width
    → get_or (front ++ (to_le_bytes width number ++ rest)) (at + i) 0 ≡ number / 256 ^ i % 256
byte_in front rest at width number i h l =
    in_part front (to_le_bytes width number) rest at i h (subst (λ (k : ℕ). i < k) (sym (little_endian_law.size width number)) l)
    ∙ little_endian_law.byte width number i l

-- the bytes of records are 32 for each
pub records_size : (records : List Record) → length (records_bytes records) ≡ 32 * length records
unfolding records_bytes record_bytes to_le_bytes zeros
records_size [] = refl
records_size (r ∷ records) = omega (arith, records_size records)

-- the bytes of records behind others
pub records_on : (before after : List Record) → records_bytes (before ++ after) ≡ records_bytes before ++ records_bytes after
unfolding records_bytes
records_on [] after = refl
records_on (r ∷ before) after =
    ap (λ (l : List ℕ). record_bytes r ++ l) (records_on before after) ∙ sym (append_assoc (record_bytes r) (records_bytes before) (records_bytes after))

module _ (r : Record) where
  -- a record has 32 bytes
  pub record_size_lem : length (record_bytes r) ≡ 32
  unfolding record_bytes to_le_bytes zeros
  record_size_lem = refl

  module _ (i : ℕ) where
    -- the time is the first number of a record
    time_byte : i < 8 → get_or (record_bytes r) i 0 ≡ r.time / 256 ^ i % 256
    unfolding record_bytes to_le_bytes zeros
    time_byte h =
        ap (λ (k : ℕ). get_or (record_bytes r) k 0) (sym (zero-add i))
        ∙ byte_in [] (drop 8 (record_bytes r)) 0 8 r.time i refl h

    -- the counter follows the time
    counter_byte : i < 8 → get_or (record_bytes r) (8 + i) 0 ≡ r.counter / 256 ^ i % 256
    unfolding record_bytes to_le_bytes zeros
    counter_byte h = byte_in (take 8 (record_bytes r)) (drop 16 (record_bytes r)) 8 8 r.counter i refl h

    -- the session id follows the counter
    session_byte : i < 8 → get_or (record_bytes r) (16 + i) 0 ≡ r.session_id / 256 ^ i % 256
    unfolding record_bytes to_le_bytes zeros
    session_byte h = byte_in (take 16 (record_bytes r)) (drop 24 (record_bytes r)) 16 8 r.session_id i refl h

    -- the local index follows the session id
    index_byte : i < 4 → get_or (record_bytes r) (24 + i) 0 ≡ r.local_index / 256 ^ i % 256
    unfolding record_bytes to_le_bytes zeros
    index_byte h = byte_in (take 24 (record_bytes r)) (drop 28 (record_bytes r)) 24 4 r.local_index i refl h

    -- zeros follow the verdict
    record_zero_lem : get_or (record_bytes r) (29 + i) 0 ≡ 0
    unfolding record_bytes to_le_bytes zeros
    record_zero_lem = get_or-append-add (take 29 (record_bytes r)) (zeros 3) i 0 ∙ zeros_at 3 i

  -- the verdict follows the local index
  verdict_byte : r.verdict < 256 → get_or (record_bytes r) 28 0 ≡ r.verdict
  unfolding record_bytes to_le_bytes zeros
  verdict_byte h = omega arith

module _ (count i : ℕ) where
  -- the distance is the first number of a trailer
  distance_byte : i < 8 → get_or (trailer_bytes count) i 0 ≡ distance count / 256 ^ i % 256
  unfolding trailer_bytes to_le_bytes zeros
  distance_byte h =
      ap (λ (k : ℕ). get_or (trailer_bytes count) k 0) (sym (zero-add i)) ∙ byte_in [] (drop 8 (trailer_bytes count)) 0 8 (distance count) i refl h

  -- the count follows the distance
  count_byte : i < 4 → get_or (trailer_bytes count) (8 + i) 0 ≡ count / 256 ^ i % 256
  unfolding trailer_bytes to_le_bytes zeros
  count_byte h = byte_in (take 8 (trailer_bytes count)) (drop 12 (trailer_bytes count)) 8 4 count i refl h

  -- zeros follow the count
  trailer_zero_lem : get_or (trailer_bytes count) (12 + i) 0 ≡ 0
  unfolding trailer_bytes to_le_bytes zeros
  trailer_zero_lem = get_or-append-add (take 12 (trailer_bytes count)) (zeros 4) i 0 ∙ zeros_at 4 i

-- a trailer has 16 bytes
trailer_size_lem : (count : ℕ) → length (trailer_bytes count) ≡ 16
unfolding trailer_bytes to_le_bytes zeros
trailer_size_lem count = refl

-- a callout has its records' bytes and 16
pub callout_size_lem : (records : List Record) → length (callout_bytes records) ≡ 16 + 32 * length records
unfolding callout_bytes
callout_size_lem records =
    length-append (records_bytes records) (trailer_bytes (length records)) ∙ omega (arith, records_size records, trailer_size_lem (length records))

-- the record behind others
record_at_lem : (before after : List Record) (r : Record) → take 32 (drop (32 * length before) (callout_bytes (before ++ r ∷ after))) ≡ record_bytes r
unfolding callout_bytes records_bytes
record_at_lem before after r =
    let trailer : List ℕ = trailer_bytes (length (before ++ r ∷ after)) in
    let split : records_bytes (before ++ r ∷ after) ++ trailer ≡ records_bytes before ++ (record_bytes r ++ (records_bytes after ++ trailer)) =
    ap (λ (l : List ℕ). l ++ trailer) (records_on before (r ∷ after))
    ∙ append_assoc (records_bytes before) (record_bytes r ++ records_bytes after) trailer
    ∙ ap (λ (l : List ℕ). records_bytes before ++ l) (append_assoc (record_bytes r) (records_bytes after) trailer) in
    ap (λ (l : List ℕ). take 32 (drop (32 * length before) l)) split
    ∙ ap (take 32) (drop_at (records_bytes before) (record_bytes r ++ (records_bytes after ++ trailer)) (32 * length before) (records_size before))
    ∙ take_at (record_bytes r) (records_bytes after ++ trailer) 32 (record_size_lem r)

-- the trailer behind the records
trailer_at_lem : (records : List Record) → drop (32 * length records) (callout_bytes records) ≡ trailer_bytes (length records)
unfolding callout_bytes
trailer_at_lem records = drop_at (records_bytes records) (trailer_bytes (length records)) (32 * length records) (records_size records)

-- the format of records, trailers, callouts and logs
pub format_law : FormatLaw
unfolding log_bytes
format_law =
    record {
      record_size = record_size_lem;
      time = time_byte;
      counter = counter_byte;
      session_id = session_byte;
      local_index = index_byte;
      verdict = verdict_byte;
      record_zero = λ r i h. record_zero_lem r i;
      trailer_size = trailer_size_lem;
      distance = distance_byte;
      count = count_byte;
      trailer_zero = λ count i h. trailer_zero_lem count i;
      callout_size = callout_size_lem;
      record_at = record_at_lem;
      trailer_at = trailer_at_lem;
      no_log = refl;
      log = λ callout older. refl;
    }
