-- The choice between two values by a test, and the choice by cases over an `Option` or a `Result`: every definition that goes by tests or cases is written with them.
use Rattle.std.specs.Prelude.{Bool, true, false, Option, None, Some, Result, Ok, Err}

module _ {A : Type 0} where
  -- the first value where the test holds, else the second
  unfoldable pub choose : Bool → A → A → A
  choose true x y = x
  choose false x y = y

  -- one value for nothing, one for each thing
  unfoldable pub case_option : {B : Type 0} → Option B → A → (B → A) → A
  case_option None x f = x
  case_option (Some b) x f = f b

  -- one value for nothing, one for each pair
  unfoldable pub case_pair : {B C : Type 0} → Option (B × C) → A → (B → C → A) → A
  case_pair None x f = x
  case_pair (Some p) x f = f p.0 p.1

  -- one value for each error, one for each good answer
  unfoldable pub case_result : {B E : Type 0} → Result B E → (E → A) → (B → A) → A
  case_result (Err e) f g = f e
  case_result (Ok b) f g = g b

  -- one value for each error, one for each pair of good answers
  unfoldable pub case_results : {B C E : Type 0} → Result (B × C) E → (E → A) → (B → C → A) → A
  case_results (Err e) f g = f e
  case_results (Ok p) f g = g p.0 p.1

infixr 30 ◌and◌
-- both hold
abbrev pub ◌and◌ : Bool → Bool → Bool
a and b = choose a b false
