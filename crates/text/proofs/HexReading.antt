-- Hexadecimal digits read pair by pair: where a loop begins, a turn, and where it ends; and the short words.
-- Assumes nothing.
use mathlib.Core.Path.{◌≡◌, refl, ap, sym, subst, ◌∙◌}
use mathlib.Core.Bool.{true, false, true≢false}
use mathlib.Core.List.{List, [], ◌∷◌, ◌++◌, append_assoc, append-nil}
use Prim.Native.Nat.{ℕ, suc, ◌+◌, ◌-◌, ◌*◌, ◌/◌, ◌%◌, ◌≤◌, ◌<◌}
use native.Mathlib.Numerals.{add-one}
use native.Mathlib.Omega.{arith}
use lib.ListN.{length, get_or, set, take, drop, length-set, length-drop, drop_of_length-le, take-append-drop}
use lib.Seq.{length-take-le, drop-cons, drop-drop, drop-set-lt, take-suc-set}
use lib.Dec.{eqb}
use borrow.Author.Tests.{le-leb, lt-leb, eq-eqb, ne_eqb, eqb-true}
use Rattle.std.proofs.Common.{Option, None, Some, option_map, is_some, IsSome}
use Rattle.base.specs.Choice.{choose, case_option}
use Rattle.base.proofs.Choice.{none_found, some_found, of_option}
use Rattle.text.specs.Hex.{byte_of, pair_bytes, read_hex, into_buffer, Reads}

-- the digits from a position on: a pair and the rest, or one alone
pair_at : (word : List ℕ) (i : ℕ) → i + 1 < length word → drop i word ≡ get_or word i 0 ∷ get_or word (i + 1) 0 ∷ drop (i + 2) word
pair_at word i h =
    let next : i + 2 ≡ suc (i + 1) = omega arith in
    drop-cons word i 0 (omega arith)
    ∙ ap (λ (l : List ℕ). get_or word i 0 ∷ l) (rw (← add-one i) (rw (drop-cons word (i + 1) 0 h, next)))

one_at : (word : List ℕ) (i : ℕ) → i < length word → length word ≤ i + 1 → drop i word ≡ get_or word i 0 ∷ []
one_at word i h k = drop-cons word i 0 h ∙ rw (drop_of_length-le word {i = suc i} (omega arith))

-- the digits that are left after all pairs, of which there is one or none
rest_read : (digits : List ℕ) → length digits < 2 → eqb (length digits) 0 ≡ is_some (pair_bytes digits)
unfolding pair_bytes
rest_read [] h = refl
rest_read (digit ∷ []) h = refl
rest_read (high ∷ low ∷ digits) h = let z : ⊥ = omega arith in absurd z

some_map : {A B : Type 0} (f : A → B) (o : Option A) → is_some (option_map f o) ≡ is_some o
some_map f None = refl
some_map f (Some a) = refl

unread : {A : Type 0} (o : Option A) → is_some o ≡ false → o ≡ None
unread None n = refl
unread (Some a) n = absurd (true≢false n)

-- what the digits from the pair `i` on read as
pair_step : (word : List ℕ) (i : ℕ) → i < length word / 2
    → pair_bytes (drop (2 * i) word)
    ≡ case_option (byte_of (get_or word (2 * i) 0) (get_or word (2 * i + 1) 0)) None
    (λ (byte : ℕ). option_map (λ (bytes : List ℕ). byte ∷ bytes) (pair_bytes (drop (2 * (i + 1)) word)))
unfolding pair_bytes
pair_step word i h =
    let next : 2 * (i + 1) ≡ 2 * i + 2 = omega arith in
    rw (pair_at word (2 * i) (omega arith), next)

module _ (word : List ℕ) (i : ℕ) (o : Option ℕ) (h : i < length word / 2) (e : o ≡ byte_of (get_or word (2 * i) 0) (get_or word (2 * i + 1) 0)) where
  no_pair_at : is_some o ≡ false → pair_bytes (drop (2 * i) word) ≡ None
  no_pair_at n = sym (none_found o _ None None _ e (unread o n) refl ∙ sym (pair_step word i h))

  pair_read : (byte : ℕ) → o ≡ Some byte
      → pair_bytes (drop (2 * i) word) ≡ option_map (λ (bytes : List ℕ). byte ∷ bytes) (pair_bytes (drop (2 * (i + 1)) word))
  pair_read byte s = sym (some_found o _ byte _ None _ e s refl ∙ sym (pair_step word i h))

-- the first `i` pairs of a word are pairs of digits
pub record Checking (word : List ℕ) (i : ℕ) : Type 0 where
  pub left : is_some (pair_bytes word) ≡ is_some (pair_bytes (drop (2 * i) word))

module _ (word : List ℕ) where
  pub checking_begins : Checking word 0
  checking_begins = record { left = refl }

  module _ (i : ℕ) (p : Checking word i) where
    pub checking_fails : (o : Option ℕ) → i < length word / 2 → o ≡ byte_of (get_or word (2 * i) 0) (get_or word (2 * i + 1) 0) → is_some o ≡ false
        → false ≡ is_some (pair_bytes word)
    checking_fails o h e n = sym (p.left ∙ ap is_some (no_pair_at word i o h e n))

    pub checking_more : (o : Option ℕ) (byte : ℕ) → i < length word / 2 → o ≡ byte_of (get_or word (2 * i) 0) (get_or word (2 * i + 1) 0) → o ≡ Some byte
        → Checking word (i + 1)
    checking_more o byte h e s = record { left = p.left ∙ ap is_some (pair_read word i o h e byte s) ∙ some_map _ (pair_bytes (drop (2 * (i + 1)) word)) }

    pub checking_ends : i ≤ length word / 2 → length word / 2 ≤ i → eqb (length word % 2) 0 ≡ is_some (pair_bytes word)
    checking_ends h k =
        let rest : length (drop (2 * i) word) ≡ length word % 2 = rw length-drop (omega arith) in
        rw (← rest) (rest_read (drop (2 * i) word) (omega (arith, rest)) ∙ sym p.left)

pub ruleset checking = (checking_begins, checking_fails, checking_more, checking_ends)

-- bytes that were read are half as many as the digits
data Sized (n : ℕ) : Option (List ℕ) → Type 0 where
  none : Sized n None
  read : (bytes : List ℕ) → n ≡ 2 * length bytes → Sized n (Some bytes)

sized_with : (n byte : ℕ) (o : Option (List ℕ)) → Sized n o → Sized (suc (suc n)) (option_map (λ (bytes : List ℕ). byte ∷ bytes) o)
sized_with n byte None none = none
sized_with n byte (Some bytes) (read _ e) = read (byte ∷ bytes) (omega arith)

sized : (digits : List ℕ) → Sized (length digits) (pair_bytes digits)
unfolding pair_bytes
sized [] = read [] refl
sized (high ∷ []) = none
sized (high ∷ low ∷ digits) =
    of_option (Sized (length (high ∷ low ∷ digits))) (byte_of high low) None (λ (byte : ℕ). option_map (λ (bytes : List ℕ). byte ∷ bytes) (pair_bytes digits))
    none
    (λ byte. sized_with (length digits) byte (pair_bytes digits) (sized digits))

-- what cannot be read, what does not fit, and what fits
module _ (came : List ℕ) where
  not_read : (o : Option (List ℕ)) → is_some o ≡ false → Reads o came came None
  unfolding into_buffer
  not_read None e = record { buffer = refl }
  not_read (Some bytes) e = absurd (true≢false e)

  no_room : (n : ℕ) (o : Option (List ℕ)) → Sized n o → length came < n / 2 → Reads o came came None
  unfolding into_buffer choose
  no_room n None none h = record { buffer = refl }
  no_room n (Some bytes) (read _ e) h = record { buffer = rw (lt-leb (length bytes) (length came) (omega arith)) }

  fits : (o : Option (List ℕ)) (bytes left : List ℕ) (n : ℕ) → o ≡ Some bytes → length bytes ≡ n → n ≤ length came → left ≡ bytes ++ drop n came
      → Reads o came left (Some n)
  unfolding into_buffer choose
  fits o bytes left n e l h k =
      record { buffer = rw (e, l, le-leb n (length came) h, k) }

module _ (word came : List ℕ) where
  pub pairs_unread : is_some (pair_bytes word) ≡ false → Reads (pair_bytes word) came came None
  pairs_unread e = not_read came (pair_bytes word) e

  pub pairs_long : length came < length word / 2 → Reads (pair_bytes word) came came None
  pairs_long h = no_room came (length word) (pair_bytes word) (sized word) h

-- bytes in front of those that were read
abbrev pub in_front : List ℕ → Option (List ℕ) → Option (List ℕ)
in_front front o = option_map (λ (bytes : List ℕ). front ++ bytes) o

in_front_with : (front : List ℕ) (byte : ℕ) (o : Option (List ℕ)) → in_front front (in_front (byte ∷ []) o) ≡ in_front (front ++ byte ∷ []) o
in_front_with front byte None = refl
in_front_with front byte (Some bytes) = ap Some (sym (append_assoc front (byte ∷ []) bytes))

in_front_none : (o : Option (List ℕ)) → o ≡ in_front [] o
in_front_none None = refl
in_front_none (Some bytes) = refl

-- the bytes of the first `i` pairs stand at the buffer's front
pub record Storing (word came now : List ℕ) (i : ℕ) : Type 0 where
  pub within : i ≤ length word / 2
  pub size : length now ≡ length came
  pub room : length word / 2 ≤ length came
  pub good : is_some (pair_bytes (drop (2 * i) word)) ≡ true
  pub front : pair_bytes word ≡ in_front (take i now) (pair_bytes (drop (2 * i) word))
  pub behind : drop i now ≡ drop i came

some_of : {A : Type 0} (o : Option A) → (is_some o ≡ false → ⊥) → IsSome o
some_of None n = absurd (n refl)
some_of (Some a) n = refl

module _ (word came : List ℕ) where
  pub storing_begins : is_some (pair_bytes word) ≡ true → length word / 2 ≤ length came → Storing word came came 0
  storing_begins e h =
      record { within = omega arith; size = refl; room = h; good = e; front = in_front_none (pair_bytes word); behind = refl }

  module _ (now : List ℕ) (i : ℕ) (s : Storing word came now i) where
    pub storing_pair : (o : Option ℕ) → i < length word / 2 → o ≡ byte_of (get_or word (2 * i) 0) (get_or word (2 * i + 1) 0) → IsSome o
    storing_pair o h e = some_of o (λ n. true≢false (sym s.good ∙ ap is_some (no_pair_at word i o h e n)))

    pub storing_more : (o : Option ℕ) (byte : ℕ) → i < length word / 2 → o ≡ byte_of (get_or word (2 * i) 0) (get_or word (2 * i + 1) 0) → o ≡ Some byte
        → Storing word came (set now i byte) (i + 1)
    storing_more o byte h e v =
        let longer : take (i + 1) (set now i byte) ≡ take i now ++ byte ∷ [] =
        rw add-one (take-suc-set now i byte (omega (arith, s.size, s.room)))
        in
        let rest : Option (List ℕ) = pair_bytes (drop (2 * (i + 1)) word) in
        let pair : pair_bytes (drop (2 * i) word) ≡ in_front (byte ∷ []) rest = pair_read word i o h e byte v in
        record {
          within = omega arith;
          size = length-set now i byte ∙ s.size;
          room = s.room;
          good = sym (some_map _ rest) ∙ ap is_some (sym pair) ∙ s.good;
          front = s.front ∙ ap (in_front (take i now)) pair ∙ in_front_with (take i now) byte rest ∙ rw longer;
          behind =
              drop-set-lt (i + 1) now i byte (omega arith) ∙ sym (drop-drop 1 i now) ∙ ap (λ (l : List ℕ). drop 1 l) s.behind ∙ drop-drop 1 i came;
        }

    all_read : length word / 2 ≤ i → pair_bytes word ≡ Some (take i now)
    unfolding pair_bytes
    all_read h =
        let rest : length (drop (2 * i) word) ≡ length word - 2 * i = length-drop (2 * i) word in
        let none : length (drop (2 * i) word) ≡ 0 = eqb-true _ 0 (rest_read (drop (2 * i) word) (omega (arith, rest, s.within)) ∙ s.good) in
        let past : length word ≤ 2 * i = omega (arith, rest, none) in
        s.front ∙ rw (drop_of_length-le word {i = 2 * i} past) (ap Some (append-nil (take i now)))

    pub storing_ends : length word / 2 ≤ i → Reads (pair_bytes word) came now (Some (length word / 2))
    storing_ends h =
        let last : i ≡ length word / 2 = omega (arith, s.within) in
        subst (λ (n : ℕ). Reads (pair_bytes word) came now (Some n)) last
        (fits came (pair_bytes word) (take i now) now i (all_read h)
        (length-take-le i now (omega (arith, s.size, s.room, s.within)))
        (omega (arith, s.room, s.within))
        (sym (take-append-drop i now) ∙ rw s.behind))

pub ruleset storing = (pairs_unread, pairs_long, storing_begins, storing_pair, storing_more, storing_ends)

-- a word of no bytes, of one, and of more
pub hex_none : (word came : List ℕ) → length word < 1 → Reads (read_hex word) came came None
unfolding read_hex
hex_none [] came h = not_read came None refl
hex_none (byte ∷ word) came h = let z : ⊥ = omega arith in absurd z

one_byte : (word : List ℕ) → 1 ≤ length word → length word < 2 → word ≡ get_or word 0 0 ∷ []
one_byte [] h k = let z : ⊥ = omega arith in absurd z
one_byte (byte ∷ []) h k = refl
one_byte (high ∷ low ∷ word) h k = let z : ⊥ = omega arith in absurd z

one_read : (word : List ℕ) → 1 ≤ length word → length word < 2 → read_hex word ≡ choose (eqb (get_or word 0 0) 45) (Some []) None
unfolding read_hex
one_read word h k = ap read_hex (one_byte word h k)

pub hex_dash : (word came : List ℕ) → 1 ≤ length word → length word < 2 → get_or word 0 0 ≡ 45 → Reads (read_hex word) came came (Some 0)
unfolding choose
hex_dash word came h k e =
    fits came (read_hex word) [] came 0 (one_read word h k ∙ rw (eq-eqb (get_or word 0 0) 45 e)) refl (omega arith) refl

pub hex_other : (word came : List ℕ) → 1 ≤ length word → length word < 2 → (get_or word 0 0 ≡ 45 → ⊥) → Reads (read_hex word) came came None
unfolding choose
hex_other word came h k e = not_read came (read_hex word) (ap is_some (one_read word h k) ∙ rw (ne_eqb (get_or word 0 0) 45 e))

pub long_read : (word : List ℕ) → 2 ≤ length word → pair_bytes word ≡ read_hex word
unfolding read_hex
long_read [] h = let z : ⊥ = omega arith in absurd z
long_read (byte ∷ []) h = let z : ⊥ = omega arith in absurd z
long_read (high ∷ low ∷ word) h = refl
