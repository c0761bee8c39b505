-- The frames of the calls give 1, 2, 14 and 13 in this order, and then the number of what stands beneath them.
-- Assumes nothing.
use mathlib.Core.Path.{◌≡◌, refl, ap, sym, ◌∙◌}
use mathlib.Core.Bool.{Bool, true, false, ◌||◌, true≢false}
use Prim.Native.Nat.{ℕ, ◌≤◌}
use native.Mathlib.Omega.{arith}
use lib.Dec.{ltb, eqb}
use borrow.Author.Tests.{ltb-false, le-ltb}
use Rattle.base.specs.Choice.{choose, case_result}
use Rattle.error.specs.declared.Error.TheVariants.{InvalidTime, InvalidArgument, ClockWentBack, DamagedState}
use Rattle.error.specs.declared.Error.{Error}
use Rattle.std.specs.Prelude.{Result, Ok, Err}
use Rattle.sessions.specs.Session.{time_limit}
use Rattle.tunnel.proofs.Facts.{undamaged_facts, undamaged_holds}
use Rattle.tunnel.specs.Answer.{number_of}
use Rattle.tunnel.specs.Damage.{undamaged}
use Rattle.tunnel.specs.Facts.{Undamaged}
use Rattle.tunnel.specs.Numbers.{Just, Always, FirstFailing, Timely, Onward}
use Rattle.tunnel.specs.Tunnel.{gate, timeless_gate, refused, let_through, timed, timeless}
use Rattle.tunnel.specs.declared.control.Out.{Out}
use Rattle.tunnel.specs.declared.tunnel.Tunnel.{Tunnel}

-- a test has this value just where a fact holds
pub record Tells (test is : Bool) (fact : Type 0) : Type 0 where
  pub to : test ≡ is → fact
  pub from : fact → test ≡ is

-- the number of an operation that the checks let through: not theirs, and 11 just where the tunnel is not alive
pub record Beneath (number : ℕ) (alive : Type 0) : Type 0 where
  pub one : number ≡ 1 → ⊥
  pub two : number ≡ 2 → ⊥
  pub fourteen : number ≡ 14 → ⊥
  pub thirteen : number ≡ 13 → ⊥
  pub dead : number ≡ 11 → alive → ⊥
  pub dies : (alive → ⊥) → number ≡ 11

-- two things neither of which holds
pub neither : {P Q : Type 0} → (P → ⊥) → (Q → ⊥) → Just P Q
neither p q = (λ x. absurd (p x), λ x. absurd (q x))

-- four tests in order, and the number beneath them
module _ (timely good sound onward alive : Type 0) (n : ℕ) where
  pub first_failing : (late bad firm back : Bool) → Tells late false timely → Tells bad false good → Tells firm true sound → Tells back false onward
      → (bad ≡ false → Beneath n alive)
      → FirstFailing (choose late 1 (choose bad 2 (choose firm (choose back 13 n) 14))) timely good sound onward alive
  unfolding choose
  first_failing true bad firm back l b w k u =
      let f : timely → ⊥ = λ x. true≢false (l.from x) in
      record {
        one = (λ e. f, λ x. refl);
        two = neither (λ e. omega arith) (λ x. f x.0);
        fourteen = neither (λ e. omega arith) (λ x. f x.0);
        thirteen = neither (λ e. omega arith) (λ x. f x.0);
        eleven = neither (λ e. omega arith) (λ x. f x.0);
      }
  first_failing false true firm back l b w k u =
      let f : good → ⊥ = λ x. true≢false (b.from x) in
      record {
        one = neither (λ e. omega arith) (λ x. x (l.to refl));
        two = (λ e. (l.to refl, f), λ x. refl);
        fourteen = neither (λ e. omega arith) (λ x. f x.1);
        thirteen = neither (λ e. omega arith) (λ x. f x.1);
        eleven = neither (λ e. omega arith) (λ x. f x.1);
      }
  first_failing false false false back l b w k u =
      let f : sound → ⊥ = λ x. true≢false (sym (w.from x)) in
      record {
        one = neither (λ e. omega arith) (λ x. x (l.to refl));
        two = neither (λ e. omega arith) (λ x. x.1 (b.to refl));
        fourteen = (λ e. (l.to refl, b.to refl, f), λ x. refl);
        thirteen = neither (λ e. omega arith) (λ x. f x.2);
        eleven = neither (λ e. omega arith) (λ x. f x.2);
      }
  first_failing false false true true l b w k u =
      let f : onward → ⊥ = λ x. true≢false (k.from x) in
      record {
        one = neither (λ e. omega arith) (λ x. x (l.to refl));
        two = neither (λ e. omega arith) (λ x. x.1 (b.to refl));
        fourteen = neither (λ e. omega arith) (λ x. x.2 (w.to refl));
        thirteen = (λ e. (l.to refl, b.to refl, w.to refl, f), λ x. refl);
        eleven = neither (λ e. omega arith) (λ x. f x.3);
      }
  first_failing false false true false l b w k u =
      let v : Beneath n alive = u refl in
      record {
        one = neither v.one (λ x. x (l.to refl));
        two = neither v.two (λ x. x.1 (b.to refl));
        fourteen = neither v.fourteen (λ x. x.2 (w.to refl));
        thirteen = neither v.thirteen (λ x. x.3 (k.to refl));
        eleven = (λ e. (l.to refl, b.to refl, w.to refl, k.to refl, v.dead e), λ x. v.dies x.4);
      }

-- the tests of the frames
pub never_fails : Tells false false Always
never_fails = record { to = λ e. tt; from = λ x. refl }

pub at_most : (most n : ℕ) → Tells (ltb most n) false (n ≤ most)
at_most most n = record { to = ltb-false most n; from = le-ltb most n }

pub its_undamaged : (t : Tunnel) → Tells (undamaged t) true (Undamaged t)
its_undamaged t = record { to = undamaged_facts t; from = undamaged_holds t }

-- the number that a frame answers
pub timed_by : (late bad firm back : Bool) (t : Tunnel) (now : ℕ) (out : Out)
    → number_of
    (case_result
    (choose {A = Result Unit Error} late (Err InvalidTime) (choose bad (Err InvalidArgument) (choose firm (choose back (Err ClockWentBack) (Ok tt)) (Err DamagedState))))
    (refused t)
    (λ good. let_through t now out)).answer
    ≡ choose late 1 (choose bad 2 (choose firm (choose back 13 (number_of out.answer)) 14))
unfolding choose case_result let_through refused number_of
timed_by true bad firm back t now out = refl
timed_by false true firm back t now out = refl
timed_by false false false back t now out = refl
timed_by false false true true t now out = refl
timed_by false false true false t now out = refl

pub timeless_by : (bad firm : Bool) (t : Tunnel) (out : Out)
    → number_of (case_result (choose {A = Result Unit Error} bad (Err InvalidArgument) (choose firm (Ok tt) (Err DamagedState))) (refused t) (λ good. let_through t 0 out)).answer
    ≡ choose false 1 (choose bad 2 (choose firm (choose false 13 (number_of out.answer)) 14))
unfolding choose case_result let_through refused number_of
timeless_by true firm t out = refl
timeless_by false false t out = refl
timeless_by false true t out = refl

-- the frames
module _ (t : Tunnel) (bad : Bool) (good alive : Type 0) (out : Out) (b : Tells bad false good) (u : bad ≡ false → Beneath (number_of out.answer) alive) where
  pub timed_first : (now : ℕ) → FirstFailing (number_of (timed t bad now out).answer) (Timely now) good (Undamaged t) (Onward t now) alive
  unfolding timed gate
  timed_first now =
      rw (timed_by (ltb time_limit now) bad (undamaged t) (ltb now t.greatest) t now out)
      (first_failing (Timely now) good (Undamaged t) (Onward t now) alive (number_of out.answer) _ _ _ _ (at_most time_limit now) b (its_undamaged t)
      (at_most now t.greatest) u)

  pub timeless_first : FirstFailing (number_of (timeless t bad out).answer) Always good (Undamaged t) Always alive
  unfolding timeless timeless_gate
  timeless_first =
      rw (timeless_by bad (undamaged t) t out)
      (first_failing Always good (Undamaged t) Always alive (number_of out.answer) _ _ _ _ never_fails b (its_undamaged t) never_fails u)

-- a number that is none of the five
abbrev pub of_five : ℕ → Bool
of_five n = eqb n 1 || (eqb n 2 || (eqb n 14 || (eqb n 13 || eqb n 11)))

abbrev pub Other : ℕ → Type 0
Other n = of_five n ≡ false

pub not_of : (n five : ℕ) → of_five five ≡ true → Other n → n ≡ five → ⊥
not_of n five f o e = true≢false (sym f ∙ ap of_five (sym e) ∙ o)

-- an operation that the expired state does not turn down
pub beneath_always : (n : ℕ) → Other n → Beneath n Always
beneath_always n o =
    record {
      one = not_of n 1 refl o;
      two = not_of n 2 refl o;
      fourteen = not_of n 14 refl o;
      thirteen = not_of n 13 refl o;
      dead = λ e x. not_of n 11 refl o e;
      dies = λ f. absurd (f tt);
    }
