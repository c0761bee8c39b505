-- The three conditions of demand 3 as tests of a list of steps: where a test is true, its condition holds.
-- Assumes nothing.
use mathlib.Core.Path.{◌≡◌, refl, subst}
use mathlib.Core.Bool.{Bool, true, false}
use mathlib.Core.List.{List, [], ◌∷◌, ◌++◌}
use mathlib.Core.Logic.{◌⊎◌, inl, inr}
use Prim.Native.Nat.{ℕ, ◌≤◌, ◌<◌}
use native.Mathlib.Omega.{arith}
use lib.Dec.{ltb, leb, eqb}
use borrow.Author.Tests.{ltb-true, leb-true, eqb-true}
use Rattle.base.specs.Choice.{choose, case_option}
use Rattle.tunnel.specs.Answer.{number_of}
use Rattle.tunnel.specs.declared.answer.Answer.TheVariants.{Deadline}
use Rattle.tunnel.specs.declared.answer.Answer.{Answer}
use Rattle.demands.specs.Calls.Call.{send, timeout, deadline}
use Rattle.demands.specs.Calls.{Call, World, step, after, Expired}
use Rattle.demands.specs.Wakings.{Step, shared, extra, woken_calls, Ran, ran, ran_after, Current, BeforeDeadline, time_of, NotEarlier, ComesEarly, CurrentOrUnset, InOrder}
use Rattle.sessions.specs.Sessions.{current_of}
use Rattle.sessions.specs.declared.session.Session.{Session}
use Rattle.std.specs.Prelude.{None, Option, Some, Result, Ok}
use Rattle.error.specs.declared.Error.{Error}

-- both tests hold
of_both : (a b : Bool) → choose a b false ≡ true → (a ≡ true) × (b ≡ true)
unfolding choose
of_both true b e = (refl, e)
of_both false b e = cc

-- one of two tests holds
of_either : (a b : Bool) → choose a true b ≡ true → (a ≡ true) ⊎ (b ≡ true)
unfolding choose
of_either true b e = inl refl
of_either false b e = inr e

-- an answer that is number 11
unfoldable pub is_eleven : Result Answer Error → Bool
is_eleven answer = eqb (number_of answer) 11

-- an answer that is a deadline above a time
unfoldable pub is_above : ℕ → Result Answer Error → Bool
is_above now (Ok (Deadline (Some due))) = ltb now due
is_above now _ = false

of_above : (now : ℕ) (answer : Result Answer Error) → is_above now answer ≡ true → (due : ℕ) × (answer ≡ Ok (Deadline (Some due))) × (now < due)
unfolding is_above
of_above now (Ok (Deadline (Some due))) e = (due, refl, ltb-true now due e)
of_above now _ e = cc

-- whether a tunnel is expired
unfoldable pub test_expired : World → Bool
test_expired w = is_eleven (step w (send 1 w.tunnel.greatest)).answer

expired_is : (w : World) → test_expired w ≡ true → Expired w
unfolding test_expired is_eleven
expired_is w e = eqb-true _ 11 e

-- the first condition
unfoldable pub test_early : World → List Step → Bool
test_early w [] = true
test_early w (shared call ∷ steps) = test_early (step w call).world steps
test_early w (extra jitter now ∷ steps) =
    choose (choose (test_expired w) true (is_above now (step w deadline).answer)) (test_early (step w (timeout jitter now)).world steps) false

early_at : (w : World) (now : ℕ) → choose (test_expired w) true (is_above now (step w deadline).answer) ≡ true → BeforeDeadline w now ⊎ Expired w
early_at w now e = elim (of_either (test_expired w) (is_above now (step w deadline).answer) e) [
  | inl x ↦ inr (expired_is w x)
  | inr y ↦ inl (of_above now _ y)
]

early_go : (before later : List Step) (jitter now : ℕ) (w : World) → test_early w (before ++ extra jitter now ∷ later) ≡ true
    → BeforeDeadline (after w (woken_calls before)) now ⊎ Expired (after w (woken_calls before))
unfolding test_early after woken_calls
early_go [] later jitter now w e = early_at w now (of_both _ _ e).0
early_go (shared call ∷ before) later jitter now w e = early_go before later jitter now (step w call).world e
early_go (extra j n ∷ before) later jitter now w e = early_go before later jitter now (step w (timeout j n)).world (of_both _ _ e).1

pub early_is : (w : World) (steps : List Step) → test_early w steps ≡ true → ComesEarly w steps
early_is w steps t before later jitter now e = early_go before later jitter now w (subst (λ (s : List Step). test_early w s ≡ true) e t)

-- the second condition
unfoldable pub test_held : ℕ → Ran → World → List Step → Bool
test_held keepalive r w [] = true
test_held keepalive r w (shared call ∷ steps) = test_held keepalive (ran r call) (step w call).world steps
test_held keepalive r w (extra jitter now ∷ steps) =
    choose (choose (test_expired w) true (choose (eqb keepalive 0) true (case_option (current_of r.control.sessions) false (λ session. true))))
    (test_held keepalive (ran r (timeout jitter now)) (step w (timeout jitter now)).world steps) false

of_current : (found : Option Session) → case_option found false (λ session. true) ≡ true → (session : Session) × (found ≡ Some session)
unfolding case_option
of_current None e = cc
of_current (Some session) e = (session, refl)

held_at : (keepalive : ℕ) (r : Ran) → choose (eqb keepalive 0) true (case_option (current_of r.control.sessions) false (λ session. true)) ≡ true
    → Current r ⊎ (keepalive ≡ 0)
held_at keepalive r e = elim (of_either (eqb keepalive 0) _ e) [
  | inl k ↦ inr (eqb-true keepalive 0 k)
  | inr f ↦ inl (of_current (current_of r.control.sessions) f)
]

held_alive : (keepalive : ℕ) (r : Ran) (w : World)
    → choose (test_expired w) true (choose (eqb keepalive 0) true (case_option (current_of r.control.sessions) false (λ session. true))) ≡ true
    → (Expired w → ⊥) → Current r ⊎ (keepalive ≡ 0)
held_alive keepalive r w e alive = elim (of_either (test_expired w) _ e) [
  | inl x ↦ absurd (alive (expired_is w x))
  | inr h ↦ held_at keepalive r h
]

held_go : (before later : List Step) (jitter now keepalive : ℕ) (r : Ran) (w : World) → test_held keepalive r w (before ++ extra jitter now ∷ later) ≡ true
    → (Expired (after w (woken_calls before)) → ⊥) → Current (ran_after r (woken_calls before)) ⊎ (keepalive ≡ 0)
unfolding test_held after woken_calls ran_after
held_go [] later jitter now keepalive r w e = held_alive keepalive r w (of_both _ _ e).0
held_go (shared call ∷ before) later jitter now keepalive r w e = held_go before later jitter now keepalive (ran r call) (step w call).world e
held_go (extra j n ∷ before) later jitter now keepalive r w e =
    held_go before later jitter now keepalive (ran r (timeout j n)) (step w (timeout j n)).world (of_both _ _ e).1

pub held_is : (keepalive : ℕ) (r : Ran) (w : World) (steps : List Step) → test_held keepalive r w steps ≡ true → CurrentOrUnset keepalive r w steps
held_is keepalive r w steps t before later jitter now e =
    held_go before later jitter now keepalive r w (subst (λ (s : List Step). test_held keepalive r w s ≡ true) e t)

-- the third condition
unfoldable pub none_earlier : ℕ → List Step → Bool
none_earlier time [] = true
none_earlier time (shared call ∷ steps) = choose (case_option (time_of call) true (λ now. leb time now)) (none_earlier time steps) false
none_earlier time (extra jitter now ∷ steps) = none_earlier time steps

unfoldable pub test_order : List Step → Bool
test_order [] = true
test_order (shared call ∷ steps) = test_order steps
test_order (extra jitter now ∷ steps) = choose (none_earlier now steps) (test_order steps) false

not_earlier : (time : ℕ) (of : Option ℕ) → case_option of true (λ now. leb time now) ≡ true → (now : ℕ) → of ≡ Some now → time ≤ now
unfolding case_option
not_earlier time None e now p = cc
not_earlier time (Some at) e now p = let q : at ≡ now = cc in let l = leb-true time at e in omega arith

none_go : (between later : List Step) (time : ℕ) (call : Call) → none_earlier time (between ++ shared call ∷ later) ≡ true → NotEarlier time call
unfolding none_earlier
none_go [] later time call e = not_earlier time (time_of call) (of_both _ _ e).0
none_go (shared x ∷ between) later time call e = none_go between later time call (of_both _ _ e).1
none_go (extra j n ∷ between) later time call e = none_go between later time call e

order_go : (before between later : List Step) (jitter now : ℕ) (call : Call)
    → test_order (before ++ extra jitter now ∷ (between ++ shared call ∷ later)) ≡ true → NotEarlier now call
unfolding test_order
order_go [] between later jitter now call e = none_go between later now call (of_both _ _ e).0
order_go (shared x ∷ before) between later jitter now call e = order_go before between later jitter now call e
order_go (extra j n ∷ before) between later jitter now call e = order_go before between later jitter now call (of_both _ _ e).1

pub order_is : (steps : List Step) → test_order steps ≡ true → InOrder steps
order_is steps t before between later jitter now call e =
    order_go before between later jitter now call (subst (λ (s : List Step). test_order s ≡ true) e t)
