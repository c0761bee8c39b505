-- Datagrams after whitepaper section 5.4, on lists of bytes: what one says, its encrypted part, and the header of a data message.
use Rattle.std.specs.Prelude.{◌≡◌, List, [], ◌++◌, ◌∷◌, ℕ, ◌+◌, ltb, leb, eqb, length, drop, Result, Ok, Err}
use Rattle.std.specs.Borrow.{Bor}
use Rattle.base.specs.Choice.{choose}
use Rattle.error.specs.declared.Error.{Error}
use Rattle.error.specs.declared.Error.TheVariants.{InvalidArgument, UnknownType, WrongLength}
use Rattle.error.specs.Error.{error_number, verdict_number}
use Rattle.endian.specs.LittleEndian.{field, to_le_bytes}
use Rattle.message.specs.declared.ReceivedMessage.TheVariants.{HandshakeInitiation, HandshakeResponse, CookieReply, TransportData}
use Rattle.message.specs.declared.ReceivedMessage.{ReceivedMessage}

-- type 1, of 148 bytes: the sender's index
unfoldable pub read_initiation : List ℕ → Result ReceivedMessage Error
read_initiation bytes = choose (eqb (length bytes) 148) (Ok (HandshakeInitiation (field 4 4 bytes))) (Err WrongLength)

-- type 2, of 92 bytes: the sender's and the receiver's index
unfoldable pub read_response : List ℕ → Result ReceivedMessage Error
read_response bytes = choose (eqb (length bytes) 92) (Ok (HandshakeResponse (field 4 4 bytes) (field 8 4 bytes))) (Err WrongLength)

-- type 3, of 64 bytes: the receiver's index
unfoldable pub read_cookie_reply : List ℕ → Result ReceivedMessage Error
read_cookie_reply bytes = choose (eqb (length bytes) 64) (Ok (CookieReply (field 4 4 bytes))) (Err WrongLength)

-- type 4, of 32 bytes or more: the receiver's index and the counter
unfoldable pub read_data : List ℕ → Result ReceivedMessage Error
read_data bytes = choose (leb 32 (length bytes)) (Ok (TransportData (field 4 4 bytes) (field 8 8 bytes))) (Err WrongLength)

-- what a datagram says: its first four bytes are its type
unfoldable pub read_datagram : List ℕ → Result ReceivedMessage Error
read_datagram bytes =
    choose (ltb (length bytes) 4) (Err WrongLength)
    (choose (eqb (field 0 4 bytes) 1) (read_initiation bytes)
    (choose (eqb (field 0 4 bytes) 2) (read_response bytes)
    (choose (eqb (field 0 4 bytes) 3) (read_cookie_reply bytes)
    (choose (eqb (field 0 4 bytes) 4) (read_data bytes)
    (Err UnknownType)))))

module _ {A : Type 0} where
  -- one value for a data message, and another for all else
  unfoldable pub case_data : Result ReceivedMessage Error → A → A → A
  case_data (Err error) x y = y
  case_data (Ok (HandshakeInitiation sender)) x y = y
  case_data (Ok (HandshakeResponse sender receiver)) x y = y
  case_data (Ok (CookieReply receiver)) x y = y
  case_data (Ok (TransportData receiver counter)) x y = x

-- the bytes after the header of a data message, and none of anything else
unfoldable pub encrypted_part : List ℕ → List ℕ
encrypted_part bytes = case_data (read_datagram bytes) (drop 16 bytes) []

-- where the encrypted part begins: behind the header of a data message, and at the end of anything else
unfoldable pub encrypted_from : List ℕ → ℕ
encrypted_from bytes = case_data (read_datagram bytes) 16 (length bytes)

-- The encrypted part of lent bytes: what it holds, and that it lies in the block of the lent bytes, so far behind their start.
pub record EncryptedPart (bytes part : Bor (List ℕ)) : Type 0 where
  pub holds : part.now ≡ encrypted_part bytes.now
  pub block : part.ref_ptr.0 ≡ bytes.ref_ptr.0
  pub offset : part.ref_ptr.1 ≡ encrypted_from bytes.now + bytes.ref_ptr.1

-- the header of a data message: type, receiver's index and counter
unfoldable pub header : (receiver counter : ℕ) → List ℕ
header receiver counter = to_le_bytes 4 4 ++ to_le_bytes 4 receiver ++ to_le_bytes 8 counter

-- what writing a header answers: 16 bytes are asked for
unfoldable pub header_answer : List ℕ → Result Unit Error
header_answer bytes = choose (eqb (length bytes) 16) (Ok tt) (Err InvalidArgument)

-- the bytes that writing a header leaves
unfoldable pub header_bytes : List ℕ → (receiver counter : ℕ) → List ℕ
header_bytes bytes receiver counter = choose (eqb (length bytes) 16) (header receiver counter) bytes

-- the number that turns a datagram away, or 0
unfoldable pub message_number : Result ReceivedMessage Error → ℕ
message_number (Err error) = error_number error
message_number (Ok message) = 0

-- the values of a datagram: its type, then its indices and counter; none of one turned away
unfoldable pub message_values : Result ReceivedMessage Error → List ℕ
message_values (Err error) = []
message_values (Ok (HandshakeInitiation sender)) = 1 ∷ sender ∷ []
message_values (Ok (HandshakeResponse sender receiver)) = 2 ∷ sender ∷ receiver ∷ []
message_values (Ok (CookieReply receiver)) = 3 ∷ receiver ∷ []
message_values (Ok (TransportData receiver counter)) = 4 ∷ receiver ∷ counter ∷ []

-- the number that turns the writing of a header down, or 0
abbrev pub written_number : Result Unit Error → ℕ
written_number answer = verdict_number answer
