-- The frames of the calls by cases: what a call leaves where a check turns it down, where its operation does, and where neither does.
-- Assumes nothing.
use mathlib.Core.Path.{◌≡◌, refl, ap}
use mathlib.Core.Bool.{Bool, true, false}
use mathlib.Core.List.{List}
use Prim.Native.Nat.{ℕ, ◌≤◌}
use native.Mathlib.Omega.{arith}
use lib.Dec.{ltb}
use Rattle.base.specs.Choice.{choose, case_result}
use Rattle.error.specs.Error.{error_number}
use Rattle.error.specs.declared.Error.TheVariants.{InvalidTime, InvalidArgument, WrongKey, ReplayedHandshakeInitiation, InitiationPredatesTunnel, WrongIndex, InvalidAeadTag, UnexpectedPacket, InvalidCounter, DuplicateCounter, ConnectionExpired, NoCurrentSession, ClockWentBack, DamagedState, UnknownType, WrongLength, BrokenTrailer, BrokenRecord, StoreFull, OutsideRights}
use Rattle.error.specs.declared.Error.{Error}
use Rattle.std.specs.Prelude.{Result, Ok, Err}
use Rattle.sessions.specs.Batch.{Batched}
use Rattle.sessions.specs.Session.{time_limit}
use Rattle.tunnel.specs.AfterStates.{TurnedDown, with_greatest}
use Rattle.tunnel.specs.Answer.{number_of}
use Rattle.tunnel.specs.Control.{Turn, done}
use Rattle.tunnel.specs.Damage.{undamaged}
use Rattle.tunnel.specs.Tunnel.{gate, timeless_gate, refused, let_through, timed, timeless, kept, Called, timed_turn, timed_batch}
use Rattle.tunnel.specs.declared.answer.Answer.TheVariants.{NoAnswer}
use Rattle.tunnel.specs.declared.control.Control.{Control}
use Rattle.tunnel.specs.declared.control.Out.{Out}
use Rattle.tunnel.specs.declared.tunnel.Answered.{Answered}
use Rattle.tunnel.specs.declared.tunnel.Tunnel.{Tunnel}

-- an operation leaves the control and the times as they came
pub record Untouched (c : Control) (out : Out) : Type 0 where
  pub control : out.control ≡ c
  pub raises : out.raises ≡ false
  pub updates : out.updates ≡ false

-- an operation that answers by a number leaves all as it came, and one that does not raises the greatest time
pub record Ways (c : Control) (out : Out) : Type 0 where
  pub down : TurnedDown out.answer → Untouched c out
  pub up : number_of out.answer ≡ 0 → out.raises ≡ true

-- the same of an operation with a store, and of a batch
pub record TurnWays (c : Control) (store : List ℕ) (turn : Turn) : Type 0 where
  pub out : Ways c turn.out
  pub words : TurnedDown turn.out.answer → turn.store ≡ store

pub record BatchWays (c : Control) (store verdicts skips : List ℕ) (batch : Batched Out) : Type 0 where
  pub out : Ways c batch.out
  pub words : TurnedDown batch.out.answer → batch.store ≡ store
  pub list : TurnedDown batch.out.answer → batch.verdicts ≡ verdicts
  pub skip_list : TurnedDown batch.out.answer → batch.skips ≡ skips

-- a tunnel that its operation leaves as it came
pub let_through_same : (t : Tunnel) (now : ℕ) (out : Out) → Untouched t.control out → (let_through t now out).tunnel ≡ t
unfolding let_through choose
let_through_same t now out u = rw (u.control, u.raises, u.updates) refl

-- the number of an error is not 0
pub error_counts : (error : Error) → error_number error ≡ 0 → ⊥
error_counts InvalidTime e = omega arith
error_counts InvalidArgument e = omega arith
error_counts WrongKey e = omega arith
error_counts ReplayedHandshakeInitiation e = omega arith
error_counts InitiationPredatesTunnel e = omega arith
error_counts WrongIndex e = omega arith
error_counts InvalidAeadTag e = omega arith
error_counts UnexpectedPacket e = omega arith
error_counts InvalidCounter e = omega arith
error_counts DuplicateCounter e = omega arith
error_counts ConnectionExpired e = omega arith
error_counts NoCurrentSession e = omega arith
error_counts ClockWentBack e = omega arith
error_counts DamagedState e = omega arith
error_counts UnknownType e = omega arith
error_counts WrongLength e = omega arith
error_counts BrokenTrailer e = omega arith
error_counts BrokenRecord e = omega arith
error_counts StoreFull e = omega arith
error_counts OutsideRights e = omega arith

-- the number of a check
tested_beside : (late bad whole back : Bool) (error : Error)
    → choose {A = Result Unit Error} late (Err InvalidTime)
    (choose bad (Err InvalidArgument) (choose whole (choose back (Err ClockWentBack) (Ok tt)) (Err DamagedState)))
    ≡ Err error → 3 ≤ error_number error → error_number error ≤ 12 → ⊥
unfolding choose
tested_beside true bad whole back error e l m = let x : InvalidTime ≡ error = cc in let y = ap error_number x in omega arith
tested_beside false true whole back error e l m = let x : InvalidArgument ≡ error = cc in let y = ap error_number x in omega arith
tested_beside false false true true error e l m = let x : ClockWentBack ≡ error = cc in let y = ap error_number x in omega arith
tested_beside false false true false error e l m = absurd (cc)
tested_beside false false false back error e l m = let x : DamagedState ≡ error = cc in let y = ap error_number x in omega arith

-- a call that a check turns down has its number
pub refused_counts : (t : Tunnel) (error : Error) → number_of (refused t error).answer ≡ 0 → ⊥
unfolding refused number_of
refused_counts t error e = error_counts error e

-- a call at a time
module _ (t : Tunnel) (bad : Bool) (now : ℕ) where
  pub gate_beside : (error : Error) → gate t bad now ≡ Err error → 3 ≤ error_number error → error_number error ≤ 12 → ⊥
  unfolding gate
  gate_beside error = tested_beside (ltb time_limit now) bad (undamaged t) (ltb now t.greatest) error

  abbrev Passed : Type 0
  Passed = gate t bad now ≡ Ok tt

  abbrev Fails : Error → Type 0
  Fails error = gate t bad now ≡ Err error

  pub of_timed : (P : Answered → Type 0) (out : Out) → (Passed → P (let_through t now out)) → ((error : Error) → Fails error → P (refused t error))
      → P (timed t bad now out)
  unfolding timed case_result
  of_timed P out p q = go (gate t bad now) refl
    where
      go : (r : Result Unit Error) → gate t bad now ≡ r → P (timed t bad now out)
      go (Ok passed) e = rw e (p e)
      go (Err error) e = rw e (q error e)

  pub of_turn : (P : Called → Type 0) (store : List ℕ) (turn : Turn) → (Passed → P (record { answered = let_through t now turn.out; store = turn.store }))
      → ((error : Error) → Fails error → P (record { answered = refused t error; store = store })) → P (timed_turn t bad now store turn)
  unfolding timed_turn timed kept case_result
  of_turn P store turn p q = go (gate t bad now) refl
    where
      go : (r : Result Unit Error) → gate t bad now ≡ r → P (timed_turn t bad now store turn)
      go (Ok passed) e = rw e (p e)
      go (Err error) e = rw e (q error e)

  pub of_batch : (P : Batched Answered → Type 0) (store verdicts skips : List ℕ) (batch : Batched Out)
      → (Passed → P (record { out = let_through t now batch.out; store = batch.store; verdicts = batch.verdicts; skips = batch.skips }))
      → ((error : Error) → Fails error → P (record { out = refused t error; store = store; verdicts = verdicts; skips = skips }))
      → P (timed_batch t bad now store verdicts skips batch)
  unfolding timed_batch timed kept case_result
  of_batch P store verdicts skips batch p q = go (gate t bad now) refl
    where
      go : (r : Result Unit Error) → gate t bad now ≡ r → P (timed_batch t bad now store verdicts skips batch)
      go (Ok passed) e = rw e (p e)
      go (Err error) e = rw e (q error e)

  -- an operation that leaves all as it came
  pub timed_same : (out : Out) → Untouched t.control out → (timed t bad now out).tunnel ≡ t
  unfolding refused
  timed_same out u = of_timed (λ (a : Answered). a.tunnel ≡ t) out (λ z. let_through_same t now out u) (λ error z. refl)

  -- turned down, it leaves all as it came
  pub timed_down : (out : Out) → (Passed → Ways t.control out) → TurnedDown (timed t bad now out).answer → (timed t bad now out).tunnel ≡ t
  unfolding let_through refused
  timed_down out k =
      of_timed (λ (a : Answered). TurnedDown a.answer → a.tunnel ≡ t) out (λ z d. let_through_same t now out ((k z).down d)) (λ error z d. refl)

  pub turn_down : (store : List ℕ) (turn : Turn) → (Passed → TurnWays t.control store turn)
      → TurnedDown (timed_turn t bad now store turn).answered.answer
      → ((timed_turn t bad now store turn).answered.tunnel ≡ t) × ((timed_turn t bad now store turn).store ≡ store)
  unfolding let_through refused
  turn_down store turn k =
      of_turn (λ (a : Called). TurnedDown a.answered.answer → (a.answered.tunnel ≡ t) × (a.store ≡ store)) store turn
      (λ z d. (let_through_same t now turn.out ((k z).out.down d), (k z).words d))
      (λ error z d. (refl, refl))

  pub batch_down : (store verdicts skips : List ℕ) (batch : Batched Out) → (Passed → BatchWays t.control store verdicts skips batch)
      → TurnedDown (timed_batch t bad now store verdicts skips batch).out.answer
      → ((timed_batch t bad now store verdicts skips batch).out.tunnel ≡ t)
      × ((timed_batch t bad now store verdicts skips batch).store ≡ store)
      × ((timed_batch t bad now store verdicts skips batch).verdicts ≡ verdicts)
      × ((timed_batch t bad now store verdicts skips batch).skips ≡ skips)
  unfolding let_through refused
  batch_down store verdicts skips batch k =
      of_batch
      (λ (a : Batched Answered).
      TurnedDown a.out.answer → (a.out.tunnel ≡ t) × (a.store ≡ store) × (a.verdicts ≡ verdicts) × (a.skips ≡ skips)) store verdicts skips batch
      (λ z d. (let_through_same t now batch.out ((k z).out.down d), (k z).words d, (k z).list d, (k z).skip_list d))
      (λ error z d. (refl, refl, refl, refl))

  -- not turned down, it raises the greatest time
  pub timed_up : (out : Out) → (Passed → number_of out.answer ≡ 0 → out.raises ≡ true) → number_of (timed t bad now out).answer ≡ 0
      → (timed t bad now out).tunnel.greatest ≡ now
  unfolding let_through choose
  timed_up out k =
      of_timed (λ (a : Answered). number_of a.answer ≡ 0 → a.tunnel.greatest ≡ now) out (λ z e. rw (k z e) refl)
      (λ error z e. absurd (refused_counts t error e))

  -- an operation that answers nothing and changes nothing
  pub timed_nothing : (out : Out) → out ≡ done t.control NoAnswer → number_of (timed t bad now out).answer ≡ 0
      → ((timed t bad now out).answer ≡ Ok NoAnswer) × ((timed t bad now out).tunnel ≡ with_greatest t now)
  unfolding let_through choose done
  timed_nothing out k =
      of_timed (λ (a : Answered). number_of a.answer ≡ 0 → (a.answer ≡ Ok NoAnswer) × (a.tunnel ≡ with_greatest t now)) out
      (λ z e. (rw k refl, rw k refl))
      (λ error z e. absurd (refused_counts t error e))

-- a call without a time
module _ (t : Tunnel) (bad : Bool) where
  pub of_timeless : (P : Answered → Type 0) (out : Out) → (timeless_gate t bad ≡ Ok tt → P (let_through t 0 out))
      → ((error : Error) → timeless_gate t bad ≡ Err error → P (refused t error)) → P (timeless t bad out)
  unfolding timeless case_result
  of_timeless P out p q = go (timeless_gate t bad) refl
    where
      go : (r : Result Unit Error) → timeless_gate t bad ≡ r → P (timeless t bad out)
      go (Ok passed) e = rw e (p e)
      go (Err error) e = rw e (q error e)

  pub timeless_same : (out : Out) → Untouched t.control out → (timeless t bad out).tunnel ≡ t
  unfolding refused
  timeless_same out u = of_timeless (λ (a : Answered). a.tunnel ≡ t) out (λ z. let_through_same t 0 out u) (λ error z. refl)
