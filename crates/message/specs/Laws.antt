-- What document 02's note 1 says of datagrams, byte by byte and in its own numbers.
use Rattle.std.specs.Prelude.{◌≡◌, List, [], ◌++◌, ◌∷◌, ℕ, ◌+◌, ◌*◌, ◌≤◌, ◌<◌, length}
use Rattle.base.specs.Lists.{zeros}
use Rattle.endian.specs.LittleEndian.{Bytes}
use Rattle.message.specs.Message.{read_datagram, encrypted_part, encrypted_from, header_answer, header_bytes, message_number, message_values, written_number}

-- the little-endian number of four bytes
abbrev pub four : (a b c d : ℕ) → ℕ
four a b c d = a + 256 * b + 65536 * c + 16777216 * d

-- the little-endian number of eight bytes
abbrev pub eight : (a b c d e f g h : ℕ) → ℕ
eight a b c d e f g h = four a b c d + 4294967296 * four e f g h

-- A datagram is accepted, with these values: its type, its indices and its counter.
pub record Says (bytes values : List ℕ) : Type 0 where
  pub accepted : message_number (read_datagram bytes) ≡ 0
  pub said : message_values (read_datagram bytes) ≡ values

-- A datagram is turned away by a number.
pub record TurnedAway (bytes : List ℕ) (number : ℕ) : Type 0 where
  pub refused : message_number (read_datagram bytes) ≡ number

-- The encrypted part of a datagram, and the place at which it begins.
pub record Part (bytes part : List ℕ) (from : ℕ) : Type 0 where
  pub holds : encrypted_part bytes ≡ part
  pub begins : encrypted_from bytes ≡ from

-- The lengths of each type.
pub data Length : (type size : ℕ) → Type 0 where
  of_initiation : Length 1 148
  of_response : Length 2 92
  of_cookie_reply : Length 3 64
  of_data : (size : ℕ) → 32 ≤ size → Length 4 size

-- What a datagram of each type says, and which datagrams are turned away.
pub record DatagramLaw : Type 0 where
  pub initiation : (a b c d : ℕ) (rest : List ℕ) → length rest ≡ 140
      → Says (1 ∷ 0 ∷ 0 ∷ 0 ∷ a ∷ b ∷ c ∷ d ∷ rest) (1 ∷ four a b c d ∷ [])
  pub response : (a b c d e f g h : ℕ) (rest : List ℕ) → length rest ≡ 80
      → Says (2 ∷ 0 ∷ 0 ∷ 0 ∷ a ∷ b ∷ c ∷ d ∷ e ∷ f ∷ g ∷ h ∷ rest) (2 ∷ four a b c d ∷ four e f g h ∷ [])
  pub cookie_reply : (a b c d : ℕ) (rest : List ℕ) → length rest ≡ 56
      → Says (3 ∷ 0 ∷ 0 ∷ 0 ∷ a ∷ b ∷ c ∷ d ∷ rest) (3 ∷ four a b c d ∷ [])
  pub transport_data : (a b c d e f g h i j k l : ℕ) (rest : List ℕ) → 16 ≤ length rest
      → Says (4 ∷ 0 ∷ 0 ∷ 0 ∷ a ∷ b ∷ c ∷ d ∷ e ∷ f ∷ g ∷ h ∷ i ∷ j ∷ k ∷ l ∷ rest) (4 ∷ four a b c d ∷ eight e f g h i j k l ∷ [])
  pub part : (a b c d e f g h i j k l : ℕ) (rest : List ℕ) → 16 ≤ length rest
      → Part (4 ∷ 0 ∷ 0 ∷ 0 ∷ a ∷ b ∷ c ∷ d ∷ e ∷ f ∷ g ∷ h ∷ i ∷ j ∷ k ∷ l ∷ rest) rest 16
  pub no_part : (bytes : List ℕ) → ((receiver counter : ℕ) → Says bytes (4 ∷ receiver ∷ counter ∷ []) → ⊥) → Part bytes [] (length bytes)
  pub unknown : (a b c d : ℕ) (rest : List ℕ) → ((1 ≤ a) × (a ≤ 4) × (b ≡ 0) × (c ≡ 0) × (d ≡ 0) → ⊥) → TurnedAway (a ∷ b ∷ c ∷ d ∷ rest) 15
  pub wrong : (type : ℕ) (rest : List ℕ) → 1 ≤ type → type ≤ 4 → (Length type (4 + length rest) → ⊥) → TurnedAway (type ∷ 0 ∷ 0 ∷ 0 ∷ rest) 16
  pub short : (bytes : List ℕ) → length bytes < 4 → TurnedAway bytes 16

-- A written header with 16 bytes or more behind it reads back, and every accepted data message begins with what is written for its fields.
pub record HeaderLaw : Type 0 where
  pub good : (bytes : List ℕ) → length bytes ≡ 16 → written_number (header_answer bytes) ≡ 0
  pub refused : (bytes : List ℕ) → (length bytes ≡ 16 → ⊥) → written_number (header_answer bytes) ≡ 2
  pub untouched : (bytes : List ℕ) (receiver counter : ℕ) → (length bytes ≡ 16 → ⊥) → header_bytes bytes receiver counter ≡ bytes
  pub size : (bytes : List ℕ) (receiver counter : ℕ) → length (header_bytes bytes receiver counter) ≡ length bytes
  pub reads : (bytes rest : List ℕ) (receiver counter : ℕ) → length bytes ≡ 16 → receiver < 4294967296 → counter < 18446744073709551616 → 16 ≤ length rest
      → Says (header_bytes bytes receiver counter ++ rest) (4 ∷ receiver ∷ counter ∷ [])
  pub part : (bytes rest : List ℕ) (receiver counter : ℕ) → length bytes ≡ 16 → 16 ≤ length rest
      → Part (header_bytes bytes receiver counter ++ rest) rest 16
  pub begins : (message bytes : List ℕ) (receiver counter : ℕ) → Bytes message → length bytes ≡ 16 → Says message (4 ∷ receiver ∷ counter ∷ [])
      → message ≡ header_bytes bytes receiver counter ++ encrypted_part message

-- A header for receiver 9 and counter 258, and sixteen zero bytes behind it.
pub record HeaderInstance : Type 0 where
  pub bytes : header_bytes (zeros 16) 9 258 ≡ 4 ∷ 0 ∷ 0 ∷ 0 ∷ 9 ∷ 0 ∷ 0 ∷ 0 ∷ 2 ∷ 1 ∷ 0 ∷ 0 ∷ 0 ∷ 0 ∷ 0 ∷ 0 ∷ []
  pub reads : Says (header_bytes (zeros 16) 9 258 ++ zeros 16) (4 ∷ 9 ∷ 258 ∷ [])
  pub part : Part (header_bytes (zeros 16) 9 258 ++ zeros 16) (zeros 16) 16
