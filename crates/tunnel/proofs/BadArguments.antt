-- Which arguments number 2 turns down, as facts in document 01's terms.
-- Assumes nothing.
use mathlib.Core.Path.{◌≡◌, refl, sym}
use mathlib.Core.Bool.{Bool, true, false, true≢false}
use mathlib.Core.List.{List}
use mathlib.Core.Logic.{inl, inr}
use Prim.Native.Nat.{ℕ, ◌≤◌}
use native.Mathlib.Omega.{arith}
use lib.Dec.{ltb, eqb}
use lib.ListN.{length}
use borrow.Author.Tests.{eqb-true, eqb-false, eq-eqb, ne_eqb}
use Rattle.base.proofs.Choice.{known_choice}
use Rattle.base.specs.Choice.{choose, case_option, case_result}
use Rattle.error.specs.declared.Error.TheVariants.{InvalidTime, InvalidArgument}
use Rattle.error.specs.declared.Error.{Error}
use Rattle.std.specs.Prelude.{Option, Result, Ok, Err}
use Rattle.base.specs.Lists.{zeros}
use Rattle.sessions.proofs.Laws.{fits_law}
use Rattle.sessions.specs.Batch.{fits}
use Rattle.sessions.specs.Laws.{IsBatch}
use Rattle.sessions.specs.Session.{time_limit}
use Rattle.sessions.specs.Store.{whole}
use Rattle.tunnel.specs.Answer.{number_of}
use Rattle.tunnel.specs.Arguments.{opening_outcome, initiation_outcome, unnamed, lacking, bad_outcome, bad_jitter, bad_batch, creation_number}
use Rattle.tunnel.specs.Numbers.{Always, FirstFailing, Timely, IsStore, OpeningNamed, InitiationNamed}
use Rattle.tunnel.specs.Timers.{max_jitter, greatest_interval}
use Rattle.tunnel.specs.Tunnel.{answered, new_tunnel, refused, Called, call_new}
use Rattle.tunnel.specs.declared.answer.Answer.TheVariants.{Done}
use Rattle.tunnel.specs.declared.tunnel.Tunnel.{Tunnel}
use Rattle.tunnel.proofs.FirstFailing.{Tells, first_failing, never_fails, at_most, beneath_always}

-- a creation
pub new_by : (late big lack : Bool) (made none : Tunnel) (left store : List ℕ)
    → number_of
    (case_result {A = Called}
    (choose {A = Result Unit Error} late (Err InvalidTime) (choose big (Err InvalidArgument) (choose lack (Err InvalidArgument) (Ok tt))))
    (λ error. record { answered = refused none error; store = store })
    (λ good. record { answered = answered made (Ok Done); store = left })).answered.answer
    ≡ choose late 1 (choose (choose big true lack) 2 (choose true (choose false 13 0) 14))
unfolding choose case_result refused number_of
new_by true big lack made none left store = refl
new_by false true lack made none left store = refl
new_by false false true made none left store = refl
new_by false false false made none left store = refl

-- tests of arguments: one that two tests make, one that a test's opposite makes
module _ {A B : Type 0} where
  pub both : (a b : Bool) → Tells a false A → Tells b false B → Tells (choose a true b) false (A × B)
  unfolding choose
  both true b x y = record { to = λ e. absurd (true≢false e); from = λ p. absurd (true≢false (x.from p.0)) }
  both false b x y = record { to = λ e. (x.to refl, y.to e); from = λ p. y.from p.1 }

  pub swapped : (test : Bool) → Tells test false (A × B) → Tells test false (B × A)
  swapped test x = record { to = λ e. (let p : A × B = x.to e in (p.1, p.0)); from = λ p. x.from (p.1, p.0) }

module _ {A : Type 0} where
  pub opposite : (test : Bool) → Tells test true A → Tells (choose test false true) false A
  unfolding choose
  opposite true x = record { to = λ e. x.to refl; from = λ p. refl }
  opposite false x = record { to = λ e. absurd (true≢false e); from = λ p. sym (x.from p) }

-- the arguments of each call
pub counted : (count : ℕ) → Tells (eqb count 0) false (1 ≤ count)
counted count = record { to = λ e. (let n : count ≡ 0 → ⊥ = eqb-false count 0 e in omega arith); from = λ l. ne_eqb count 0 (omega arith) }

pub stored : (store : List ℕ) → Tells (lacking store) false (IsStore store)
unfolding lacking
stored store = opposite (whole store) (record { to = eqb-true (length store) 1024; from = eq-eqb (length store) 1024 })

pub batched : (store counters kinds verdicts skips : List ℕ) → Tells (bad_batch store counters kinds verdicts skips) false (IsStore store × IsBatch counters kinds verdicts skips)
unfolding bad_batch
batched store counters kinds verdicts skips =
    both (lacking store) _ (stored store)
    (opposite (fits counters kinds verdicts skips)
    (record { to = (fits_law counters kinds verdicts skips).batch; from = (fits_law counters kinds verdicts skips).fitting }))

pub jittered : (jitter : ℕ) (store : List ℕ) → Tells (bad_jitter jitter store) false (IsStore store × (jitter ≤ 333000000))
unfolding bad_jitter
jittered jitter store = swapped _ (both (ltb max_jitter jitter) _ (at_most max_jitter jitter) (stored store))

pub opening_named : (n : ℕ) → Tells (unnamed (opening_outcome n)) false (OpeningNamed n)
unfolding opening_outcome unnamed case_option choose
opening_named n =
    record {
      to = known_choice Named (eqb n 0) _ _ (λ e x. inl (eqb-true n 0 e))
          (λ y. known_choice Named (eqb n 7) _ _ (λ e x. inr (eqb-true n 7 e)) (λ e x. absurd (true≢false x)));
      from = λ p. elim p [
        | inl e ↦ rw e refl
        | inr e ↦ rw e refl
      ];
    }
  where
    Named : Option (Result Unit Error) → Type 0
    Named k = unnamed k ≡ false → OpeningNamed n

pub initiation_named : (n : ℕ) → Tells (unnamed (initiation_outcome n)) false (InitiationNamed n)
unfolding initiation_outcome unnamed case_option choose
initiation_named n =
    record {
      to = known_choice Named (eqb n 0) _ _ (λ e x. inl (eqb-true n 0 e))
          (λ a. known_choice Named (eqb n 3) _ _ (λ e x. inr (inl (eqb-true n 3 e)))
          (λ b. known_choice Named (eqb n 4) _ _ (λ e x. inr (inr (inl (eqb-true n 4 e))))
          (λ c. known_choice Named (eqb n 5) _ _ (λ e x. inr (inr (inr (inl (eqb-true n 5 e)))))
          (λ d. known_choice Named (eqb n 7) _ _ (λ e x. inr (inr (inr (inr (eqb-true n 7 e))))) (λ e x. absurd (true≢false x))))));
      from = λ p. elim p [
        | inl e ↦ rw e refl
        | inr (inl e) ↦ rw e refl
        | inr (inr (inl e)) ↦ rw e refl
        | inr (inr (inr (inl e))) ↦ rw e refl
        | inr (inr (inr (inr e))) ↦ rw e refl
      ];
    }
  where
    Named : Option (Result Unit Error) → Type 0
    Named k = unnamed k ≡ false → InitiationNamed n

-- an outcome that comes with a store
pub of_outcome : (found : Option (Result Unit Error)) (store : List ℕ) (named : Type 0) → Tells (unnamed found) false named
    → Tells (bad_outcome found store) false (IsStore store × named)
unfolding bad_outcome
of_outcome found store named x = swapped _ (both (unnamed found) _ x (stored store))

pub new_first : (store : List ℕ) (index keepalive now : ℕ)
    → FirstFailing (number_of (call_new store index keepalive now).answered.answer) (Timely now) ((keepalive ≤ 65535) × IsStore store) Always Always Always
unfolding call_new creation_number
new_first store index keepalive now =
    rw (new_by (ltb time_limit now) (ltb greatest_interval keepalive) (lacking store) (new_tunnel index keepalive now) (new_tunnel 0 0 0) (zeros 1024) store)
    (first_failing (Timely now) ((keepalive ≤ 65535) × IsStore store) Always Always Always 0 _ _ true false (at_most time_limit now)
    (both (ltb greatest_interval keepalive) _ (at_most greatest_interval keepalive) (stored store))
    (record { to = λ e. tt; from = λ x. refl })
    never_fails
    (λ e. beneath_always 0 refl))
