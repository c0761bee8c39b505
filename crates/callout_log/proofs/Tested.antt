-- What the tests of the log say: a time, a verdict, every element of a list, lists of one length.
-- Assumes nothing.
use mathlib.Core.Path.{◌≡◌, refl, sym, subst}
use mathlib.Core.Bool.{Bool, true, false}
use mathlib.Core.List.{List, [], ◌∷◌}
use Prim.Native.Nat.{ℕ}
use lib.Dec.{eqb}
use lib.ListN.{length}
use borrow.Author.Tests.{leb-true, le-leb, eqb-true, eq-eqb}
use Rattle.base.specs.Choice.{choose, ◌and◌}
use Rattle.base.proofs.Choice.{known_choice}
use Rattle.callout_log.specs.Record.{is_time, is_verdict}
use Rattle.callout_log.specs.Log.{every}
use Rattle.callout_log.specs.Append.{OneLength, Reports, beside}
use Rattle.callout_log.specs.Laws.{All, none, more, Timely, Verdict, committed, failed, outside, again}
use Rattle.callout_log.proofs.Walk.{both}

-- a test that does not hold fails
pub fails : (test : Bool) → (test ≡ true → ⊥) → test ≡ false
fails true h = absurd (h refl)
fails false h = refl

-- what holds with another holds
pub and_true : (a b : Bool) → a ≡ true → b ≡ true → a and b ≡ true
unfolding choose
and_true a b p q = rw p q

module _ {A : Type 0} (P : A → Type 0) (test : A → Bool) where
  -- a test that says a rule holds of every element where the rule does
  pub every_true : ((x : A) → P x → test x ≡ true) → (list : List A) → All P list → every test list ≡ true
  unfolding every
  every_true says [] none = refl
  every_true says (x ∷ list) (more h rest) = and_true (test x) (every test list) (says x h) (every_true says list rest)

  -- and the rule holds of every element where the test does
  pub true_every : ((x : A) → test x ≡ true → P x) → (list : List A) → every test list ≡ true → All P list
  unfolding every
  true_every means [] e = none
  true_every means (x ∷ list) e =
      more (means x (both (test x) (every test list) e).0) (true_every means list (both (test x) (every test list) e).1)

-- a time that keeps rule 1 passes its test
pub time_true : (n : ℕ) → Timely n → is_time n ≡ true
unfolding is_time
time_true n h = le-leb n 4000000000000000000 h.limit

-- a time that passes its test keeps rule 1
pub true_time : (n : ℕ) → is_time n ≡ true → Timely n
unfolding is_time
true_time n e = record { limit = leb-true n 4000000000000000000 e }

-- each of the four verdicts passes the test
pub verdict_true : (n : ℕ) → Verdict n → is_verdict n ≡ true
unfolding is_verdict choose
verdict_true n committed = refl
verdict_true n failed = refl
verdict_true n outside = refl
verdict_true n again = refl

-- a number that passes the test is one of the four verdicts
pub true_verdict : (n : ℕ) → is_verdict n ≡ true → Verdict n
unfolding is_verdict
true_verdict n =
    first 0 (choose (eqb n 7) true (choose (eqb n 9) true (eqb n 10))) committed
    (first 7 (choose (eqb n 9) true (eqb n 10)) failed (first 9 (eqb n 10) outside (λ e. same 10 again e)))
  where
    same : (k : ℕ) → Verdict k → eqb n k ≡ true → Verdict n
    same k v e = subst Verdict (sym (eqb-true n k e)) v

    first : (k : ℕ) (rest : Bool) → Verdict k → (rest ≡ true → Verdict n) → choose (eqb n k) true rest ≡ true → Verdict n
    first k rest v h = known_choice (λ (b : Bool). b ≡ true → Verdict n) (eqb n k) true rest (λ p e. same k v p) (λ p. h)

-- lists of one length pass the test
pub one_length_true : (r : Reports) → OneLength r → beside r ≡ true
unfolding beside choose
one_length_true r h =
    rw (
      eq-eqb (length r.counters) (length r.times) h.counters,
      eq-eqb (length r.session_ids) (length r.times) h.session_ids,
      eq-eqb (length r.local_indices) (length r.times) h.local_indices,
      eq-eqb (length r.verdicts) (length r.times) h.verdicts,
    )

-- lists that pass the test have one length
pub true_one_length : (r : Reports) → beside r ≡ true → OneLength r
unfolding beside
true_one_length r e =
    let a : Bool = eqb (length r.counters) (length r.times) in
    let b : Bool = eqb (length r.session_ids) (length r.times) in
    let c : Bool = eqb (length r.local_indices) (length r.times) in
    let d : Bool = eqb (length r.verdicts) (length r.times) in
    let later : (b and c and d ≡ true) = (both a (b and c and d) e).1 in
    let last : (c and d ≡ true) = (both b (c and d) later).1 in
    record {
      counters = eqb-true (length r.counters) (length r.times) (both a (b and c and d) e).0;
      session_ids = eqb-true (length r.session_ids) (length r.times) (both b (c and d) later).0;
      local_indices = eqb-true (length r.local_indices) (length r.times) (both c d last).0;
      verdicts = eqb-true (length r.verdicts) (length r.times) (both c d last).1;
    }
