-- What is written as a header reads back, and every accepted data message begins with a header.
-- Assumes nothing.
use mathlib.Core.Path.{◌≡◌, refl, ap, sym, ◌∙◌}
use mathlib.Core.Bool.{Bool, true, false}
use mathlib.Core.List.{List, [], ◌++◌, ◌∷◌}
use Prim.Native.Nat.{ℕ, ◌≤◌, ◌<◌}
use native.Mathlib.Omega.{arith}
use lib.Dec.{leb, eqb}
use lib.ListN.{length, get_or, take, drop, take-append-drop}
use lib.Seq.{take-add}
use borrow.Author.Tests.{eq-eqb, ne_eqb, leb-true, leb-false, eqb-true, eqb-false}
use Rattle.base.specs.Choice.{choose}
use Rattle.base.proofs.Choice.{known_choice}
use Rattle.endian.specs.LittleEndian.{field, from_le_bytes, to_le_bytes, Bytes}
use Rattle.endian.proofs.Laws.{little_endian_law}
use Rattle.message.specs.Message.{read_datagram, encrypted_part, encrypted_from, case_data, header, header_answer, header_bytes, message_number, message_values, written_number}
use Rattle.message.specs.Laws.{Says, Part}
use Rattle.error.specs.declared.Error.{Error}
use Rattle.std.specs.Prelude.{Result, Ok, Err}
use Rattle.message.specs.declared.ReceivedMessage.TheVariants.{HandshakeInitiation, HandshakeResponse, CookieReply, TransportData}
use Rattle.message.specs.declared.ReceivedMessage.{ReceivedMessage}
use Rattle.message.proofs.Reading.{is_data, other}

module _ (bytes : List ℕ) where
  pub answer_good : length bytes ≡ 16 → written_number (header_answer bytes) ≡ 0
  unfolding header_answer choose
  answer_good h = rw (eq-eqb (length bytes) 16 h)

  pub answer_refused : (length bytes ≡ 16 → ⊥) → written_number (header_answer bytes) ≡ 2
  unfolding header_answer choose
  answer_refused h = rw (ne_eqb (length bytes) 16 h)

  module _ (receiver counter : ℕ) where
    pub bytes_untouched : (length bytes ≡ 16 → ⊥) → header_bytes bytes receiver counter ≡ bytes
    unfolding header_bytes choose
    bytes_untouched h = rw (ne_eqb (length bytes) 16 h)

    bytes_written : length bytes ≡ 16 → header_bytes bytes receiver counter ≡ header receiver counter
    unfolding header_bytes choose
    bytes_written h = rw (eq-eqb (length bytes) 16 h)

    pub bytes_size : length (header_bytes bytes receiver counter) ≡ length bytes
    unfolding header_bytes header to_le_bytes
    bytes_size =
        known_choice (λ (l : List ℕ). length l ≡ length bytes) (eqb (length bytes) 16) (header receiver counter) bytes
        (λ e. sym (eqb-true (length bytes) 16 e)) (λ e. refl)

    -- a header with 16 bytes or more behind it
    module _ (rest : List ℕ) (h : length bytes ≡ 16) (long : 16 ≤ length rest) where
      read : read_datagram (header receiver counter ++ rest) ≡ Ok (TransportData (from_le_bytes (to_le_bytes 4 receiver)) (from_le_bytes (to_le_bytes 8 counter)))
      unfolding header to_le_bytes field from_le_bytes
      read = is_data (header receiver counter ++ rest) (omega arith) refl

      pub reads_back : receiver < 4294967296 → counter < 18446744073709551616 → Says (header_bytes bytes receiver counter ++ rest) (4 ∷ receiver ∷ counter ∷ [])
      unfolding message_number message_values
      reads_back r c =
          let same : read_datagram (header_bytes bytes receiver counter ++ rest) ≡ Ok (TransportData receiver counter) =
          ap (λ (l : List ℕ). read_datagram (l ++ rest)) (bytes_written h)
          ∙ read
          ∙ ap (λ (n : ℕ). Ok (TransportData n (from_le_bytes (to_le_bytes 8 counter)))) (little_endian_law.number 4 receiver r)
          ∙ ap (λ (n : ℕ). Ok (TransportData receiver n)) (little_endian_law.number 8 counter c) in
          record { accepted = ap message_number same; said = ap message_values same }

      pub part_back : Part (header_bytes bytes receiver counter ++ rest) rest 16
      unfolding encrypted_part encrypted_from case_data header to_le_bytes
      part_back =
          record {
            holds = ap (λ (l : List ℕ). encrypted_part (l ++ rest)) (bytes_written h) ∙ rw read;
            begins = ap (λ (l : List ℕ). encrypted_from (l ++ rest)) (bytes_written h) ∙ rw read;
          }

-- the header of a data message is made of the fields that stand in it
module _ (message : List ℕ) (b : Bytes message) where
  header_again : 32 ≤ length message → field 0 4 message ≡ 4 → header (field 4 4 message) (field 8 8 message) ≡ take 16 message
  unfolding header
  header_again l t =
      let first : to_le_bytes 4 4 ≡ take 4 (drop 0 message) = ap (to_le_bytes 4) (sym t) ∙ little_endian_law.part 0 4 message b (omega arith) in
      rw (first, little_endian_law.part 4 4 message b (omega arith), little_endian_law.part 8 8 message b (omega arith))
      (sym (take-add 8 8 message ∙ ap (λ (m : List ℕ). m ++ take 8 (drop 8 message)) (take-add 4 4 message)))

-- only a data message has a data message's values
data_values : (m : Result ReceivedMessage Error) (receiver counter : ℕ) → message_values m ≡ 4 ∷ receiver ∷ counter ∷ [] → m ≡ Ok (TransportData receiver counter)
unfolding message_values
data_values (Err error) receiver counter e = absurd (let z : ◌≡◌ {A = ℕ} 0 3 = ap length e in omega arith)
data_values (Ok (HandshakeInitiation sender)) receiver counter e = absurd (let z : ◌≡◌ {A = ℕ} 2 3 = ap length e in omega arith)
data_values (Ok (HandshakeResponse sender local)) receiver counter e = absurd (let z : ◌≡◌ {A = ℕ} 2 4 = ap (λ (l : List ℕ). get_or l 0 0) e in omega arith)
data_values (Ok (CookieReply local)) receiver counter e = absurd (let z : ◌≡◌ {A = ℕ} 2 3 = ap length e in omega arith)
data_values (Ok (TransportData local count)) receiver counter e =
    ap (λ (l : List ℕ). Ok (TransportData (get_or l 1 0) (get_or l 2 0))) e

-- a data message is long enough and has its type
long_data : (message : List ℕ) → ◌≡◌ {A = ℕ} (case_data (read_datagram message) 1 0) 1 → (32 ≤ length message) × (field 0 4 message ≡ 4)
long_data message e = decide (leb 32 (length message)) (eqb (field 0 4 message) 4) refl refl
  where
    decide : (l t : Bool) → leb 32 (length message) ≡ l → eqb (field 0 4 message) 4 ≡ t → (32 ≤ length message) × (field 0 4 message ≡ 4)
    decide true true p q = (leb-true 32 (length message) p, eqb-true (field 0 4 message) 4 q)
    decide false t p q =
        absurd (let z : ◌≡◌ {A = ℕ} 0 1 = sym (other {A = ℕ} 1 0 message (λ a b. let n : length message < 32 = leb-false 32 (length message) p in omega arith)) ∙ e in omega arith)
    decide true false p q = absurd (let z : ◌≡◌ {A = ℕ} 0 1 = sym (other {A = ℕ} 1 0 message (λ a b. eqb-false (field 0 4 message) 4 q b)) ∙ e in omega arith)

pub begins_with : (message bytes : List ℕ) (receiver counter : ℕ) → Bytes message → length bytes ≡ 16 → Says message (4 ∷ receiver ∷ counter ∷ [])
    → message ≡ header_bytes bytes receiver counter ++ encrypted_part message
unfolding case_data encrypted_part message_values
begins_with message bytes receiver counter b h s =
    let read : read_datagram message ≡ Ok (TransportData receiver counter) = data_values (read_datagram message) receiver counter s.said in
    let found : (32 ≤ length message) × (field 0 4 message ≡ 4) = long_data message (rw read) in
    let fields : ◌≡◌ {A = Result ReceivedMessage Error} (Ok (TransportData (field 4 4 message) (field 8 8 message))) (Ok (TransportData receiver counter)) =
    sym (is_data message found.0 found.1) ∙ read in
    rw (read, bytes_written bytes receiver counter h)
    (sym (ap (λ (l : List ℕ). l ++ drop 16 message) (headers (field 4 4 message) (field 8 8 message) fields ∙ header_again message b found.0 found.1)
    ∙ take-append-drop 16 message))
  where
    headers : (r c : ℕ) → ◌≡◌ {A = Result ReceivedMessage Error} (Ok (TransportData r c)) (Ok (TransportData receiver counter)) → header receiver counter ≡ header r c
    headers r c e = ap (λ (l : List ℕ). header (get_or l 1 0) (get_or l 2 0)) (sym (ap message_values e))
