-- The ways through `read_datagram`, the lengths of what is accepted, and the encrypted part.
-- Assumes nothing.
use mathlib.Core.Path.{◌≡◌, refl, ap, sym, ◌∙◌}
use mathlib.Core.List.{List, []}
use Prim.Native.Nat.{ℕ, ◌+◌, ◌-◌, ◌≤◌, ◌<◌}
use native.Mathlib.Omega.{arith}
use denote.Ref.{Bor}
use lib.ListN.{length, take, drop, length-drop}
use lib.Seq.{take_all, take-nil, drop-length}
use borrow.Author.Tests.{lt-ltb, le-ltb, le-leb, leb-true, eqb-true}
use borrow.Rule.Slice.PartAt.{sl_partˢ}
use borrow.Rule.Slice.Shared.{by_byte}
use lib.Dec.{ltb, leb, eqb}
use Rattle.base.specs.Choice.{choose}
use Rattle.base.proofs.Choice.{of_choice, known_choice}
use Rattle.endian.specs.LittleEndian.{field, from_le_bytes}
use Rattle.message.specs.Message.{read_initiation, read_response, read_cookie_reply, read_data, read_datagram, case_data, encrypted_part, encrypted_from, EncryptedPart}
use Rattle.error.specs.declared.Error.{Error}
use Rattle.error.specs.declared.Error.TheVariants.{UnknownType, WrongLength}
use Rattle.std.specs.Prelude.{Result, Ok, Err}
use Rattle.message.specs.declared.ReceivedMessage.TheVariants.{TransportData}
use Rattle.message.specs.declared.ReceivedMessage.{ReceivedMessage}

-- what a datagram of four bytes or more says, by its type
pub of_type : (bytes : List ℕ) → 4 ≤ length bytes → (type : ℕ) → field 0 4 bytes ≡ type
    → read_datagram bytes
    ≡ choose (eqb type 1) (read_initiation bytes)
    (choose (eqb type 2) (read_response bytes)
    (choose (eqb type 3) (read_cookie_reply bytes)
    (choose (eqb type 4) (read_data bytes)
    (Err UnknownType))))
unfolding read_datagram choose
of_type bytes long type e = rw (le-ltb (length bytes) 4 long, e)

pub too_short : (bytes : List ℕ) → length bytes < 4 → read_datagram bytes ≡ Err WrongLength
unfolding read_datagram choose
too_short bytes h = rw (lt-ltb (length bytes) 4 h)

-- what is no data message, and what is one
module _ {A : Type 0} (x y : A) (bytes : List ℕ) where
  abbrev Other : Result ReceivedMessage Error → Type 0
  Other m = case_data m x y ≡ y

  other_initiation : Other (read_initiation bytes)
  unfolding case_data read_initiation
  other_initiation = of_choice Other (eqb (length bytes) 148) _ (Err WrongLength) refl refl

  other_response : Other (read_response bytes)
  unfolding case_data read_response
  other_response = of_choice Other (eqb (length bytes) 92) _ (Err WrongLength) refl refl

  other_cookie_reply : Other (read_cookie_reply bytes)
  unfolding case_data read_cookie_reply
  other_cookie_reply = of_choice Other (eqb (length bytes) 64) _ (Err WrongLength) refl refl

  other_data : (32 ≤ length bytes → ⊥) → Other (read_data bytes)
  unfolding case_data read_data
  other_data h = known_choice Other (leb 32 (length bytes)) _ (Err WrongLength) (λ e. absurd (h (leb-true 32 (length bytes) e))) (λ e. refl)

  pub other : (32 ≤ length bytes → field 0 4 bytes ≡ 4 → ⊥) → case_data (read_datagram bytes) x y ≡ y
  unfolding case_data read_datagram
  other h =
      of_choice Other (ltb (length bytes) 4) (Err WrongLength) _ refl
      (of_choice Other (eqb (field 0 4 bytes) 1) (read_initiation bytes) _ other_initiation
      (of_choice Other (eqb (field 0 4 bytes) 2) (read_response bytes) _ other_response
      (of_choice Other (eqb (field 0 4 bytes) 3) (read_cookie_reply bytes) _ other_cookie_reply
      (known_choice Other (eqb (field 0 4 bytes) 4) (read_data bytes) (Err UnknownType)
      (λ e. other_data (λ l. h l (eqb-true (field 0 4 bytes) 4 e)))
      (λ e. refl)))))

pub is_data : (bytes : List ℕ) → 32 ≤ length bytes → field 0 4 bytes ≡ 4 → read_datagram bytes ≡ Ok (TransportData (field 4 4 bytes) (field 8 8 bytes))
unfolding read_datagram read_data choose
is_data bytes l t = rw (le-ltb (length bytes) 4 (omega arith), t, le-leb 32 (length bytes) l)

-- the part at the end of what is no data message, and the part of a data message
module _ (bytes : Bor (List ℕ)) where
  at_end : (32 ≤ length bytes.now → field 0 4 bytes.now ≡ 4 → ⊥)
      → EncryptedPart bytes (sl_partˢ bytes (by_byte (length bytes.now) bytes.ref_ptr.1) (length bytes.now) (length bytes.now))
  unfolding encrypted_part encrypted_from
  at_end h =
      record {
        holds = ap (λ (l : List ℕ). take (length bytes.now - length bytes.now) l) (drop-length bytes.now) ∙ take-nil (length bytes.now - length bytes.now)
            ∙ sym (other (drop 16 bytes.now) [] bytes.now h);
        block = refl;
        offset = ap (λ (n : ℕ). n + bytes.ref_ptr.1) (sym (other 16 (length bytes.now) bytes.now h));
      }

  pub end_short : length bytes.now < 32 → EncryptedPart bytes (sl_partˢ bytes (by_byte (length bytes.now) bytes.ref_ptr.1) (length bytes.now) (length bytes.now))
  end_short h = at_end (λ l t. omega arith)

  module _ (type : ℕ) (e : type ≡ from_le_bytes (take 4 (drop 0 bytes.now))) where
    pub end_type : (type ≡ 4 → ⊥) → EncryptedPart bytes (sl_partˢ bytes (by_byte (length bytes.now) bytes.ref_ptr.1) (length bytes.now) (length bytes.now))
    unfolding field
    end_type h = at_end (λ l t. h (e ∙ t))

    pub part_data : 32 ≤ length bytes.now → type ≡ 4 → EncryptedPart bytes (sl_partˢ bytes (by_byte 16 bytes.ref_ptr.1) 16 (length bytes.now))
    unfolding encrypted_part encrypted_from field case_data
    part_data l t =
        let said : read_datagram bytes.now ≡ Ok (TransportData (field 4 4 bytes.now) (field 8 8 bytes.now)) = is_data bytes.now l (sym e ∙ t) in
        record {
          holds = take_all (length bytes.now - 16) (drop 16 bytes.now) (omega (arith, length-drop 16 bytes.now)) ∙ rw said;
          block = refl;
          offset = rw said;
        }

-- the ways through `encrypted_part`
pub ruleset parts = (end_short, end_type, part_data)
