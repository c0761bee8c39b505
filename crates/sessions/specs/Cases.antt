-- The choice by cases over a role, and its rules: a value equals the choice if the role is known and the value equals what its case gives.
use Rattle.std.specs.Prelude.{◌≡◌}
use Rattle.sessions.specs.declared.session.Role.{Role}
use Rattle.sessions.specs.declared.session.Role.TheVariants.{Initiator, Responder}

module _ {A : Type 0} where
  -- one value for each role
  unfoldable pub case_role : Role → A → A → A
  case_role Initiator x y = x
  case_role Responder x y = y

  pub is_initiator : (role : Role) (v x y : A) → role ≡ Initiator → v ≡ x → v ≡ case_role role x y
  unfolding case_role
  is_initiator role v x y p q = rw p q

  pub is_responder : (role : Role) (v x y : A) → role ≡ Responder → v ≡ y → v ≡ case_role role x y
  unfolding case_role
  is_responder role v x y p q = rw p q

pub ruleset roles = (is_initiator, is_responder)
