-- Rules for `choose`: a value equals a choice if the test is known and the value equals the side that it picks.
-- `search picks` follows a function's tests through its definition.
-- Assumes nothing.
use mathlib.Core.Path.{◌≡◌, refl, ap}
use mathlib.Core.Bool.{Bool, true, false, true≢false}
use Prim.Native.Nat.{ℕ, ◌≤◌, ◌<◌}
use lib.Dec.{ltb, leb, eqb}
use borrow.Author.Tests.{lt-ltb, le-ltb, le-leb, lt-leb, eq-eqb, ne_eqb}
use Rattle.std.specs.Prelude.{Option, None, Some, Result, Ok, Err}
use Rattle.base.specs.Choice.{choose, case_option, case_pair, case_result, case_results}

module _ {A : Type 0} where
  pub yes_flag : (t : Bool) (v x y : A) → t ≡ true → v ≡ x → v ≡ choose t x y
  unfolding choose
  yes_flag t v x y p q = rw p q

  pub no_flag : (t : Bool) (v x y : A) → t ≡ false → v ≡ y → v ≡ choose t x y
  unfolding choose
  no_flag t v x y p q = rw p q

  pub yes_lt : (a b : ℕ) (v x y : A) → a < b → v ≡ x → v ≡ choose (ltb a b) x y
  yes_lt a b v x y p = yes_flag (ltb a b) v x y (lt-ltb a b p)

  pub no_lt : (a b : ℕ) (v x y : A) → b ≤ a → v ≡ y → v ≡ choose (ltb a b) x y
  no_lt a b v x y p = no_flag (ltb a b) v x y (le-ltb a b p)

  pub yes_le : (a b : ℕ) (v x y : A) → a ≤ b → v ≡ x → v ≡ choose (leb a b) x y
  yes_le a b v x y p = yes_flag (leb a b) v x y (le-leb a b p)

  pub no_le : (a b : ℕ) (v x y : A) → b < a → v ≡ y → v ≡ choose (leb a b) x y
  no_le a b v x y p = no_flag (leb a b) v x y (lt-leb a b p)

  pub yes_eq : (a b : ℕ) (v x y : A) → a ≡ b → v ≡ x → v ≡ choose (eqb a b) x y
  yes_eq a b v x y p = yes_flag (eqb a b) v x y (eq-eqb a b p)

  pub no_eq : (a b : ℕ) (v x y : A) → (a ≡ b → ⊥) → v ≡ y → v ≡ choose (eqb a b) x y
  no_eq a b v x y p = no_flag (eqb a b) v x y (ne_eqb a b p)

  -- a flag that a call answered
  pub yes_call : (f t : Bool) (v x y : A) → f ≡ t → f ≡ true → v ≡ x → v ≡ choose t x y
  unfolding choose
  yes_call f t v x y e p q = rw (← e, p) q

  pub no_call : (f t : Bool) (v x y : A) → f ≡ t → f ≡ false → v ≡ y → v ≡ choose t x y
  unfolding choose
  no_call f t v x y e p q = rw (← e, p) q

  -- both sides the same
  pub same_choice : (t : Bool) (x : A) → choose t x x ≡ x
  unfolding choose
  same_choice true x = refl
  same_choice false x = refl

pub ruleset picks = (yes_flag, no_flag, yes_lt, no_lt, yes_le, no_le, yes_eq, no_eq, yes_call, no_call)

-- a value equals a choice by cases if the case is known, of the value or of one that equals it, and the value equals what the case gives
module _ {A B : Type 0} where
  pub is_none : (o : Option B) (v x : A) (f : B → A) → o ≡ None → v ≡ x → v ≡ case_option o x f
  unfolding case_option
  is_none o v x f p q = rw p q

  pub is_some : (o : Option B) (b : B) (v x : A) (f : B → A) → o ≡ Some b → v ≡ f b → v ≡ case_option o x f
  unfolding case_option
  is_some o b v x f p q = rw p q

  pub none_found : (got o : Option B) (v x : A) (f : B → A) → got ≡ o → got ≡ None → v ≡ x → v ≡ case_option o x f
  unfolding case_option
  none_found got o v x f e p q = rw (← e, p) q

  pub some_found : (got o : Option B) (b : B) (v x : A) (f : B → A) → got ≡ o → got ≡ Some b → v ≡ f b → v ≡ case_option o x f
  unfolding case_option
  some_found got o b v x f e p q = rw (← e, p) q

module _ {A B C : Type 0} where
  pub no_pair : (got o : Option (B × C)) (v x : A) (f : B → C → A) → got ≡ o → got ≡ None → v ≡ x → v ≡ case_pair o x f
  unfolding case_pair
  no_pair got o v x f e p q = rw (← e, p) q

  pub is_pair : (got o : Option (B × C)) (b : B) (c : C) (v x : A) (f : B → C → A) → got ≡ o → got ≡ Some (b, c) → v ≡ f b c → v ≡ case_pair o x f
  unfolding case_pair
  is_pair got o b c v x f e p q = rw (← e, p) q

module _ {A B E : Type 0} where
  pub is_err : (got r : Result B E) (e : E) (v : A) (f : E → A) (g : B → A) → got ≡ r → got ≡ Err e → v ≡ f e → v ≡ case_result r f g
  unfolding case_result
  is_err got r e v f g s p q = rw (← s, p) q

  pub is_ok : (got r : Result B E) (b : B) (v : A) (f : E → A) (g : B → A) → got ≡ r → got ≡ Ok b → v ≡ g b → v ≡ case_result r f g
  unfolding case_result
  is_ok got r b v f g s p q = rw (← s, p) q

module _ {A B C E : Type 0} where
  pub are_err : (got r : Result (B × C) E) (e : E) (v : A) (f : E → A) (g : B → C → A) → got ≡ r → got ≡ Err e → v ≡ f e → v ≡ case_results r f g
  unfolding case_results
  are_err got r e v f g s p q = rw (← s, p) q

  pub are_ok : (got r : Result (B × C) E) (b : B) (c : C) (v : A) (f : E → A) (g : B → C → A) → got ≡ r → got ≡ Ok (b, c) → v ≡ g b c → v ≡ case_results r f g
  unfolding case_results
  are_ok got r b c v f g s p q = rw (← s, p) q

pub ruleset cases = (is_none, is_some, none_found, some_found, no_pair, is_pair, is_err, is_ok, are_err, are_ok)

-- equal pairs of good answers, or of things, have equal parts
module _ {B C E : Type 0} (a x : B) (b y : C) where
  answer : Result (B × C) E → B × C
  answer (Err e) = (a, b)
  answer (Ok p) = p

  pub ok_parts : ◌≡◌ {A = Result (B × C) E} (Ok (a, b)) (Ok (x, y)) → (a ≡ x) × (b ≡ y)
  unfolding answer
  ok_parts e = (ap (λ (r : Result (B × C) E). (answer r).0) e, ap (λ (r : Result (B × C) E). (answer r).1) e)

-- what holds of every case holds of the choice by cases, with the case known or not
module _ {A : Type 0} (P : A → Type 0) where
  pub known_option : {B : Type 0} (o : Option B) (x : A) (f : B → A) → P x → ((b : B) → o ≡ Some b → P (f b)) → P (case_option o x f)
  unfolding case_option
  known_option None x f p q = p
  known_option (Some b) x f p q = q b refl

  pub of_option : {B : Type 0} (o : Option B) (x : A) (f : B → A) → P x → ((b : B) → P (f b)) → P (case_option o x f)
  of_option o x f p q = known_option o x f p (λ b e. q b)

  pub known_pair : {B C : Type 0} (o : Option (B × C)) (x : A) (f : B → C → A) → P x → ((b : B) (c : C) → o ≡ Some (b, c) → P (f b c)) → P (case_pair o x f)
  unfolding case_pair
  known_pair None x f p q = p
  known_pair (Some (b, c)) x f p q = q b c refl

  pub of_pair : {B C : Type 0} (o : Option (B × C)) (x : A) (f : B → C → A) → P x → ((b : B) (c : C) → P (f b c)) → P (case_pair o x f)
  of_pair o x f p q = known_pair o x f p (λ b c e. q b c)

  pub known_result : {B E : Type 0} (r : Result B E) (f : E → A) (g : B → A) → ((e : E) → P (f e)) → ((b : B) → r ≡ Ok b → P (g b)) → P (case_result r f g)
  unfolding case_result
  known_result (Err e) f g p q = p e
  known_result (Ok b) f g p q = q b refl

  pub of_result : {B E : Type 0} (r : Result B E) (f : E → A) (g : B → A) → ((e : E) → P (f e)) → ((b : B) → P (g b)) → P (case_result r f g)
  of_result r f g p q = known_result r f g p (λ b e. q b)

  pub known_results : {B C E : Type 0} (r : Result (B × C) E) (f : E → A) (g : B → C → A) → ((e : E) → P (f e)) → ((b : B) (c : C) → r ≡ Ok (b, c) → P (g b c)) → P (case_results r f g)
  unfolding case_results
  known_results (Err e) f g p q = p e
  known_results (Ok (b, c)) f g p q = q b c refl

-- what holds of every side of a choice holds of the choice, with the test known or not
module _ {A : Type 0} (P : A → Type 0) where
  pub known_choice : (f : Bool) (x y : A) → (f ≡ true → P x) → (f ≡ false → P y) → P (choose f x y)
  unfolding choose
  known_choice true x y p q = p refl
  known_choice false x y p q = q refl

  pub of_choice : (f : Bool) (x y : A) → P x → P y → P (choose f x y)
  of_choice f x y p q = known_choice f x y (λ e. p) (λ e. q)

-- of two faults, one of which is a test that fails, there is none
pub no_fault : (bad good : Bool) → choose bad true (choose good false true) ≡ false → good ≡ true
unfolding choose
no_fault true good e = absurd (true≢false e)
no_fault false true e = refl
no_fault false false e = absurd (true≢false e)
