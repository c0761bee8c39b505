-- Decimal numbers: reading a word and spelling a number byte by byte, and that a written number reads back to itself.
-- Assumes nothing.
use mathlib.Core.Path.{◌≡◌, refl, ap, sym, subst, ◌∙◌}
use mathlib.Core.Bool.{Bool, true, false}
use mathlib.Core.List.{List, [], ◌∷◌}
use Prim.Native.Nat.{ℕ, zero, suc, ◌+◌, ◌-◌, ◌*◌, ◌/◌, ◌%◌, ◌≤◌, ◌<◌}
use native.Mathlib.Numerals.{add-one}
use native.Mathlib.Omega.{arith}
use lib.Dec.{eqb}
use lib.ListN.{length, get_or, set, drop, length-set, drop_of_length-le}
use lib.Seq.{drop-cons, drop-set-lt, get_or-set_same}
use borrow.Author.Tests.{le-ltb, eq-eqb, ne_eqb, eqb-true}
use Rattle.std.proofs.Common.{Option, None, Some}
use Rattle.base.specs.Choice.{choose, case_option}
use Rattle.text.specs.Number.{greatest, with_digit, number_from, number_of, digits_from, digits_of, Spelt, ReadsBack}

-- the first `i` bytes of a word have been read
pub record Counting (word : List ℕ) (value i : ℕ) : Type 0 where
  pub left : number_of word ≡ number_from value (drop i word)

-- a word of no bytes, and the start of one of some
pub none_read : (word : List ℕ) → length word ≡ 0 → None ≡ number_of word
unfolding number_of
none_read [] h = refl
none_read (byte ∷ word) h = let z : ⊥ = omega arith in absurd z

pub some_read : (word : List ℕ) (n : ℕ) (r : Option ℕ) → r ≡ number_of word → r ≡ Some n → 0 < length word
unfolding number_of
some_read [] n r d v = cc
some_read (byte ∷ word) n r d v = omega arith

pub read_begins : (word : List ℕ) → (length word ≡ 0 → ⊥) → Counting word 0 0
unfolding number_of
read_begins [] h = absurd (h refl)
read_begins (byte ∷ word) h = record { left = refl }

module _ (word : List ℕ) (value i : ℕ) (p : Counting word value i) where
  read_step : i < length word
      → number_of word ≡ case_option (with_digit value (get_or word i 0)) None (λ (more : ℕ). number_from more (drop (suc i) word))
  unfolding number_from
  read_step h = p.left ∙ rw (drop-cons word i 0 h)

  pub read_more : (r : Option ℕ) (more : ℕ) → i < length word → r ≡ with_digit value (get_or word i 0) → r ≡ Some more → Counting word more (i + 1)
  unfolding case_option
  read_more r more h d v = record { left = rw add-one (read_step h ∙ rw (← d, v)) }

  pub read_fails : (r : Option ℕ) → i < length word → r ≡ with_digit value (get_or word i 0) → r ≡ None → None ≡ number_of word
  unfolding case_option
  read_fails r h d v = sym (read_step h ∙ rw (← d, v))

  pub read_ends : length word ≤ i → Some value ≡ number_of word
  unfolding number_from
  read_ends h = sym (p.left ∙ rw (drop_of_length-le word {i = i} h))

pub ruleset counting = (none_read, read_begins, read_more, read_fails, read_ends)

-- the digits from a position on have been spelt
pub record Spelling (n : ℕ) (bytes : List ℕ) (i rest : ℕ) : Type 0 where
  pub within : i ≤ 20
  pub size : length bytes ≡ 20
  pub left : digits_from i rest (drop i bytes) ≡ digits_of n

pub spelling_begins : (n : ℕ) (bytes : List ℕ) → length bytes ≡ 20 → Spelling n bytes 20 n
unfolding digits_of
spelling_begins n bytes l =
    record { within = omega arith; size = l; left = ap (digits_from 20 n) (drop_of_length-le bytes {i = 20} (omega arith)) }

-- a store in front of the bytes from a position on
stored : (bytes : List ℕ) (j v : ℕ) → j < length bytes → drop j (set bytes j v) ≡ v ∷ drop (suc j) bytes
stored bytes j v h =
    let longer : j < length (set bytes j v) = rw length-set h in
    let later : drop (suc j) (set bytes j v) ≡ drop (suc j) bytes = drop-set-lt (suc j) bytes j v (omega arith) in
    drop-cons (set bytes j v) j 0 longer ∙ rw (get_or-set_same bytes j v 0 h, later)

module _ (n : ℕ) (bytes : List ℕ) (i rest : ℕ) (s : Spelling n bytes i rest) where
  spelling_step : 0 < i
      → choose (eqb (rest / 10) 0) (drop (i - 1) (set bytes (i - 1) (48 + rest % 10)))
      (digits_from (i - 1) (rest / 10) (drop (i - 1) (set bytes (i - 1) (48 + rest % 10))))
      ≡ digits_of n
  unfolding digits_from
  spelling_step h =
      let next : i ≡ suc (i - 1) = omega arith in
      rw (stored bytes (i - 1) (48 + rest % 10) (omega (arith, s.size, s.within)))
      (subst (λ (k : ℕ). digits_from k rest (drop k bytes) ≡ digits_of n) next s.left)

  pub spelling_more : 0 < i → (rest / 10 ≡ 0 → ⊥) → Spelling n (set bytes (i - 1) (48 + rest % 10)) (i - 1) (rest / 10)
  unfolding choose
  spelling_more h z =
      record {
        within = omega (arith, s.within);
        size = rw length-set s.size;
        left = rw (ne_eqb (rest / 10) 0 z) at (spelling_step h);
      }

  pub spelling_ends : 0 < i → rest / 10 ≡ 0 → Spelt n (set bytes (i - 1) (48 + rest % 10)) (i - 1)
  unfolding choose
  spelling_ends h z =
      record {
        within = omega (arith, s.within);
        size = rw length-set s.size;
        digits = rw (eq-eqb (rest / 10) 0 z) at (spelling_step h);
      }

  pub spelling_full : i ≤ 0 → Spelt n bytes i
  unfolding digits_from
  spelling_full h =
      let none : i ≡ 0 = omega arith in
      record {
        within = s.within;
        size = s.size;
        digits = subst (λ (k : ℕ). drop i bytes ≡ digits_from k rest (drop i bytes)) (sym none) refl ∙ s.left;
      }

pub ruleset spelling = (spelling_begins, spelling_full)

-- a digit read after a value
digit_read : (value digit : ℕ) (text : List ℕ) → digit < 10 → value * 10 + digit ≤ greatest
    → number_from value ((48 + digit) ∷ text) ≡ number_from (value * 10 + digit) text
unfolding number_from with_digit case_option choose
digit_read value digit text h k =
    let same : 48 + digit - 48 ≡ digit = omega arith in
    rw (le-ltb (48 + digit) 48 (omega arith), le-ltb 57 (48 + digit) (omega arith), same, le-ltb greatest (value * 10 + digit) k)

-- numbers of at most so many digits are below this one
unfoldable tens : ℕ → ℕ
tens zero = 1
tens (suc places) = 10 * tens places

-- what the digits of a number and a text read as
digits_step : (places n : ℕ) (text : List ℕ) (t : Bool) → n ≤ greatest → eqb (n / 10) 0 ≡ t
    → number_from 0 (digits_from places (n / 10) ((48 + n % 10) ∷ text)) ≡ number_from (n / 10) ((48 + n % 10) ∷ text)
    → number_from 0 (choose t ((48 + n % 10) ∷ text) (digits_from places (n / 10) ((48 + n % 10) ∷ text))) ≡ number_from n text
unfolding choose
digits_step places n text true h e more =
    let none : n / 10 ≡ 0 = eqb-true (n / 10) 0 e in
    let same : 0 * 10 + n % 10 ≡ n = omega arith in
    digit_read 0 (n % 10) text (omega arith) (omega arith) ∙ rw same
digits_step places n text false h e more =
    let same : n / 10 * 10 + n % 10 ≡ n = omega arith in
    more ∙ digit_read (n / 10) (n % 10) text (omega arith) (omega arith) ∙ rw same

digits_read : (places n : ℕ) (text : List ℕ) → n ≤ greatest → n < tens places → number_from 0 (digits_from places n text) ≡ number_from n text
unfolding digits_from tens
digits_read zero n text h k = let none : n ≡ 0 = omega arith in rw none
digits_read (suc places) n text h k =
    digits_step places n text (eqb (n / 10) 0) h refl
    (digits_read places (n / 10) ((48 + n % 10) ∷ text) (omega arith) (omega arith))

-- no digit is taken away from a text
longer_either : (t : Bool) (k : ℕ) (x y : List ℕ) → k ≤ length x → k ≤ length y → k ≤ length (choose t x y)
unfolding choose
longer_either true k x y h l = h
longer_either false k x y h l = l

longer : (places n : ℕ) (text : List ℕ) → length text ≤ length (digits_from places n text)
unfolding digits_from
longer zero n text = omega arith
longer (suc places) n text =
    longer_either (eqb (n / 10) 0) (length text) ((48 + n % 10) ∷ text) (digits_from places (n / 10) ((48 + n % 10) ∷ text))
    (omega arith)
    (omega (arith, longer places (n / 10) ((48 + n % 10) ∷ text)))

some_digit : (places n : ℕ) (text : List ℕ) → length (digits_from (suc places) n text) ≡ 0 → ⊥
unfolding digits_from
some_digit places n text e =
    let some : 1 ≤ length (digits_from (suc places) n text) =
    longer_either (eqb (n / 10) 0) 1 ((48 + n % 10) ∷ text) (digits_from places (n / 10) ((48 + n % 10) ∷ text))
    (omega arith)
    (omega (arith, longer places (n / 10) ((48 + n % 10) ∷ text)))
    in omega arith

pub reads_back : ReadsBack
unfolding digits_of number_from tens
reads_back =
    record {
      same = λ (n : ℕ) (h : n ≤ greatest).
          (read_begins (digits_from 20 n []) (some_digit 19 n [])).left ∙ digits_read 20 n [] h (omega arith);
    }
