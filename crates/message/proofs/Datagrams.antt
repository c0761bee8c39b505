-- What a datagram of each type says, byte by byte, and which datagrams are turned away.
-- Assumes nothing.
use mathlib.Core.Path.{◌≡◌, refl, ap, sym, subst, ◌∙◌}
use mathlib.Core.List.{List, [], ◌∷◌}
use mathlib.Core.Bool.{false}
use lib.Dec.{eqb}
use Prim.Native.Nat.{ℕ, zero, suc, ◌+◌, ◌≤◌, ◌<◌}
use native.Mathlib.Omega.{arith}
use lib.ListN.{length, drop}
use borrow.Author.Tests.{lt-leb, eq-eqb, ne_eqb}
use Rattle.base.specs.Choice.{choose}
use Rattle.endian.specs.LittleEndian.{field, from_le_bytes}
use Rattle.message.specs.Message.{read_initiation, read_response, read_cookie_reply, read_data, read_datagram, encrypted_part, encrypted_from, case_data, message_number, message_values}
use Rattle.message.specs.Laws.{four, eight, Says, TurnedAway, Part, Length, of_initiation, of_response, of_cookie_reply, of_data}
use Rattle.error.specs.declared.Error.{Error}
use Rattle.error.specs.declared.Error.TheVariants.{UnknownType, WrongLength}
use Rattle.error.specs.Error.{error_number}
use Rattle.std.specs.Prelude.{Result, Ok, Err}
use Rattle.message.specs.declared.ReceivedMessage.TheVariants.{HandshakeInitiation, HandshakeResponse, CookieReply, TransportData}
use Rattle.message.specs.declared.ReceivedMessage.{ReceivedMessage}
use Rattle.message.proofs.Reading.{of_type, too_short, is_data, other}

-- what a datagram says, from what it is read as
says : (bytes values : List ℕ) (m : Result ReceivedMessage Error) → read_datagram bytes ≡ m → message_number m ≡ 0 → message_values m ≡ values → Says bytes values
says bytes values m e n v = record { accepted = ap message_number e ∙ n; said = ap message_values e ∙ v }

turned : (bytes : List ℕ) (error : Error) → read_datagram bytes ≡ Err error → TurnedAway bytes (error_number error)
unfolding message_number
turned bytes error e = record { refused = ap message_number e }

module _ (a b c d : ℕ) where
  four_bytes : from_le_bytes (a ∷ b ∷ c ∷ d ∷ []) ≡ four a b c d
  unfolding from_le_bytes
  four_bytes = omega arith

  eight_bytes : (e f g h : ℕ) → from_le_bytes (a ∷ b ∷ c ∷ d ∷ e ∷ f ∷ g ∷ h ∷ []) ≡ eight a b c d e f g h
  unfolding from_le_bytes
  eight_bytes e f g h = omega arith

  module _ (rest : List ℕ) where
    pub says_initiation : length rest ≡ 140 → Says (1 ∷ 0 ∷ 0 ∷ 0 ∷ a ∷ b ∷ c ∷ d ∷ rest) (1 ∷ four a b c d ∷ [])
    unfolding read_initiation field from_le_bytes choose message_number message_values
    says_initiation h =
        let bytes : List ℕ = 1 ∷ 0 ∷ 0 ∷ 0 ∷ a ∷ b ∷ c ∷ d ∷ rest in
        let size : length bytes ≡ 148 = omega arith in
        says bytes (1 ∷ four a b c d ∷ []) (Ok (HandshakeInitiation (field 4 4 bytes)))
        (of_type bytes (omega arith) 1 refl ∙ rw (eq-eqb (length bytes) 148 size))
        refl
        (ap (λ (n : ℕ). 1 ∷ n ∷ []) four_bytes)

    pub says_cookie_reply : length rest ≡ 56 → Says (3 ∷ 0 ∷ 0 ∷ 0 ∷ a ∷ b ∷ c ∷ d ∷ rest) (3 ∷ four a b c d ∷ [])
    unfolding read_cookie_reply field from_le_bytes choose message_number message_values
    says_cookie_reply h =
        let bytes : List ℕ = 3 ∷ 0 ∷ 0 ∷ 0 ∷ a ∷ b ∷ c ∷ d ∷ rest in
        let size : length bytes ≡ 64 = omega arith in
        says bytes (3 ∷ four a b c d ∷ []) (Ok (CookieReply (field 4 4 bytes)))
        (of_type bytes (omega arith) 3 refl ∙ rw (eq-eqb (length bytes) 64 size))
        refl
        (ap (λ (n : ℕ). 3 ∷ n ∷ []) four_bytes)

    -- a type that is none of the four
    pub turned_unknown : ((1 ≤ a) × (a ≤ 4) × (b ≡ 0) × (c ≡ 0) × (d ≡ 0) → ⊥) → TurnedAway (a ∷ b ∷ c ∷ d ∷ rest) 15
    unfolding from_le_bytes field choose
    turned_unknown h =
        let bytes : List ℕ = a ∷ b ∷ c ∷ d ∷ rest in
        let type : ℕ = from_le_bytes (a ∷ b ∷ c ∷ d ∷ []) in
        let first : eqb type 1 ≡ false = ne_eqb type 1 (known 1 (omega arith) (omega arith)) in
        let second : eqb type 2 ≡ false = ne_eqb type 2 (known 2 (omega arith) (omega arith)) in
        let third : eqb type 3 ≡ false = ne_eqb type 3 (known 3 (omega arith) (omega arith)) in
        let fourth : eqb type 4 ≡ false = ne_eqb type 4 (known 4 (omega arith) (omega arith)) in
        turned bytes UnknownType (of_type bytes (omega arith) type refl ∙ rw (first, second, third, fourth))
      where
        known : (type : ℕ) → 1 ≤ type → type ≤ 4 → from_le_bytes (a ∷ b ∷ c ∷ d ∷ []) ≡ type → ⊥
        known type l m t = h (omega arith, omega arith, omega arith, omega arith, omega arith)

  module _ (e f g h : ℕ) (rest : List ℕ) where
    pub says_response : length rest ≡ 80 → Says (2 ∷ 0 ∷ 0 ∷ 0 ∷ a ∷ b ∷ c ∷ d ∷ e ∷ f ∷ g ∷ h ∷ rest) (2 ∷ four a b c d ∷ four e f g h ∷ [])
    unfolding read_response field from_le_bytes choose message_number message_values
    says_response l =
        let bytes : List ℕ = 2 ∷ 0 ∷ 0 ∷ 0 ∷ a ∷ b ∷ c ∷ d ∷ e ∷ f ∷ g ∷ h ∷ rest in
        let size : length bytes ≡ 92 = omega arith in
        let second : from_le_bytes (e ∷ f ∷ g ∷ h ∷ []) ≡ four e f g h = omega arith in
        says bytes (2 ∷ four a b c d ∷ four e f g h ∷ []) (Ok (HandshakeResponse (field 4 4 bytes) (field 8 4 bytes)))
        (of_type bytes (omega arith) 2 refl ∙ rw (eq-eqb (length bytes) 92 size))
        refl
        (ap (λ (n : ℕ). 2 ∷ n ∷ field 8 4 bytes ∷ []) four_bytes ∙ ap (λ (n : ℕ). 2 ∷ four a b c d ∷ n ∷ []) second)

    module _ (i j k l : ℕ) (long : 16 ≤ length rest) where
      abbrev message : List ℕ
      message = 4 ∷ 0 ∷ 0 ∷ 0 ∷ i ∷ j ∷ k ∷ l ∷ a ∷ b ∷ c ∷ d ∷ e ∷ f ∷ g ∷ h ∷ rest

      read : read_datagram message ≡ Ok (TransportData (field 4 4 message) (field 8 8 message))
      unfolding field from_le_bytes
      read = is_data message (omega arith) refl

      pub says_data : Says message (4 ∷ four i j k l ∷ eight a b c d e f g h ∷ [])
      unfolding field from_le_bytes message_number message_values
      says_data =
          let index : from_le_bytes (i ∷ j ∷ k ∷ l ∷ []) ≡ four i j k l = omega arith in
          says message (4 ∷ four i j k l ∷ eight a b c d e f g h ∷ []) (Ok (TransportData (field 4 4 message) (field 8 8 message))) read refl
          (ap (λ (n : ℕ). 4 ∷ n ∷ field 8 8 message ∷ []) index ∙ ap (λ (n : ℕ). 4 ∷ four i j k l ∷ n ∷ []) (eight_bytes e f g h))

      pub part_of_data : Part message rest 16
      unfolding encrypted_part encrypted_from case_data
      part_of_data = record { holds = rw read; begins = rw read }

not_long : (n : ℕ) → (32 ≤ n → ⊥) → n < 32
not_long n h = omega arith

-- a type with a length that is not its own
pub turned_length : (type : ℕ) (rest : List ℕ) → 1 ≤ type → type ≤ 4 → (Length type (4 + length rest) → ⊥) → TurnedAway (type ∷ 0 ∷ 0 ∷ 0 ∷ rest) 16
unfolding read_initiation read_response read_cookie_reply read_data field from_le_bytes choose
turned_length zero rest l m h = absurd (omega arith)
turned_length (suc zero) rest l m h =
    let bytes : List ℕ = 1 ∷ 0 ∷ 0 ∷ 0 ∷ rest in
    let size : length bytes ≡ 148 → ⊥ = λ e. h (subst (Length 1) (sym e ∙ omega arith) of_initiation) in
    turned bytes WrongLength (of_type bytes (omega arith) 1 refl ∙ rw (ne_eqb (length bytes) 148 size))
turned_length (suc (suc zero)) rest l m h =
    let bytes : List ℕ = 2 ∷ 0 ∷ 0 ∷ 0 ∷ rest in
    let size : length bytes ≡ 92 → ⊥ = λ e. h (subst (Length 2) (sym e ∙ omega arith) of_response) in
    turned bytes WrongLength (of_type bytes (omega arith) 2 refl ∙ rw (ne_eqb (length bytes) 92 size))
turned_length (suc (suc (suc zero))) rest l m h =
    let bytes : List ℕ = 3 ∷ 0 ∷ 0 ∷ 0 ∷ rest in
    let size : length bytes ≡ 64 → ⊥ = λ e. h (subst (Length 3) (sym e ∙ omega arith) of_cookie_reply) in
    turned bytes WrongLength (of_type bytes (omega arith) 3 refl ∙ rw (ne_eqb (length bytes) 64 size))
turned_length (suc (suc (suc (suc zero)))) rest l m h =
    let bytes : List ℕ = 4 ∷ 0 ∷ 0 ∷ 0 ∷ rest in
    let size : length bytes < 32 = not_long (length bytes) (λ e. h (of_data (4 + length rest) (omega arith))) in
    turned bytes WrongLength (of_type bytes (omega arith) 4 refl ∙ rw (lt-leb 32 (length bytes) size))
turned_length (suc (suc (suc (suc (suc type))))) rest l m h = absurd (omega arith)

pub turned_short : (bytes : List ℕ) → length bytes < 4 → TurnedAway bytes 16
turned_short bytes h = turned bytes WrongLength (too_short bytes h)

-- what is no accepted data message has no part
pub no_part_lem : (bytes : List ℕ) → ((receiver counter : ℕ) → Says bytes (4 ∷ receiver ∷ counter ∷ []) → ⊥) → Part bytes [] (length bytes)
unfolding encrypted_part encrypted_from message_number message_values
no_part_lem bytes h = record { holds = other (drop 16 bytes) [] bytes none; begins = other 16 (length bytes) bytes none }
  where
    none : 32 ≤ length bytes → field 0 4 bytes ≡ 4 → ⊥
    none l t =
        h (field 4 4 bytes) (field 8 8 bytes)
        (says bytes (4 ∷ field 4 4 bytes ∷ field 8 8 bytes ∷ []) (Ok (TransportData (field 4 4 bytes) (field 8 8 bytes))) (is_data bytes l t) refl refl)
