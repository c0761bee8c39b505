-- Calls that the checks let through, and expired tunnels by number 11.
-- Assumes nothing.
use mathlib.Core.Path.{◌≡◌, refl}
use mathlib.Core.Bool.{Bool, true, false}
use mathlib.Core.List.{List}
use Prim.Native.Nat.{ℕ, ◌≤◌}
use native.Mathlib.Omega.{arith}
use borrow.Author.Tests.{le-ltb}
use Rattle.base.specs.Choice.{choose, case_result}
use Rattle.demands.specs.Calls.Call.{send}
use Rattle.demands.specs.Calls.{World, step, Expired}
use Rattle.sessions.specs.Session.{time_limit}
use Rattle.tunnel.proofs.Laws.{undamaged_law, numbers_law}
use Rattle.tunnel.specs.Answer.{number_of}
use Rattle.tunnel.specs.Cases.{case_state}
use Rattle.tunnel.specs.Control.{Turn, expired_control}
use Rattle.tunnel.specs.Damage.{undamaged}
use Rattle.tunnel.specs.Facts.{Undamaged}
use Rattle.tunnel.specs.Handshake.{is_expired}
use Rattle.tunnel.specs.Numbers.{Alive}
use Rattle.tunnel.specs.Tunnel.{Called, gate, refused, let_through, timed, kept, timed_turn}
use Rattle.tunnel.specs.declared.control.Out.{Out}
use Rattle.tunnel.specs.declared.handshake.HandshakeState as states
use Rattle.tunnel.specs.declared.handshake.HandshakeState.TheVariants.{None as NoHandshake, InitSent}
use Rattle.tunnel.specs.declared.handshake.HandshakeState.{HandshakeState}
use Rattle.tunnel.specs.declared.tunnel.Tunnel.{Tunnel}
use Rattle.std.specs.Prelude.{Result, Ok, Err}
use Rattle.error.specs.declared.Error.{Error}

-- a call at a time that the checks let through
module _ (t : Tunnel) (bad : Bool) (now : ℕ) where
  pub gate_open : undamaged t ≡ true → bad ≡ false → now ≤ time_limit → t.greatest ≤ now → gate t bad now ≡ Ok tt
  unfolding gate choose
  gate_open u b l g = rw (le-ltb time_limit now l, b, u, le-ltb now t.greatest g) refl

  pub timed_open : (out : Out) → gate t bad now ≡ Ok tt → (timed t bad now out).answer ≡ out.answer
  unfolding timed let_through case_result
  timed_open out e = rw e refl

-- a call with a store: what holds of it let through by the checks and of it turned down holds of what it hands back
module _ (P : Called → Type 0) (t : Tunnel) (bad : Bool) (now : ℕ) (store : List ℕ) (turn : Turn) where
  pub of_turn : (gate t bad now ≡ Ok tt → P (record { answered = let_through t now turn.out; store = turn.store }))
      → ((e : Error) → P (record { answered = refused t e; store = store })) → P (timed_turn t bad now store turn)
  unfolding timed_turn timed kept case_result
  of_turn p q = go (gate t bad now) refl
    where
      go : (r : Result Unit Error) → gate t bad now ≡ r → P (timed_turn t bad now store turn)
      go (Ok good) s = rw s (p s)
      go (Err e) s = rw s (q e)

-- the test for an expired tunnel
test_alive : (state : HandshakeState) → (state ≡ states.TheVariants.Expired → ⊥) → case_state state false (λ local sent. false) true ≡ false
unfolding case_state
test_alive NoHandshake d = refl
test_alive (InitSent local sent) d = refl
test_alive states.TheVariants.Expired d = absurd (d refl)

test_ended : (state : HandshakeState) → case_state state false (λ local sent. false) true ≡ true → state ≡ states.TheVariants.Expired
unfolding case_state
test_ended NoHandshake e = cc
test_ended (InitSent local sent) e = cc
test_ended states.TheVariants.Expired e = refl

module _ (t : Tunnel) where
  pub alive_test : Alive t → expired_control t.control ≡ false
  unfolding expired_control is_expired
  alive_test a = test_alive t.control.handshake.state a

  pub ended_test : expired_control t.control ≡ true → Alive t → ⊥
  unfolding expired_control is_expired
  ended_test e a = a (test_ended t.control.handshake.state e)

  ended_state : t.control.handshake.state ≡ states.TheVariants.Expired → expired_control t.control ≡ true
  unfolding expired_control is_expired case_state
  ended_state s = rw s refl

  of_ended : (f : Bool) → expired_control t.control ≡ f → (Alive t → ⊥) → f ≡ true
  of_ended true e d = refl
  of_ended false e d =
      absurd (d (λ s. let z : expired_control t.control ≡ true = ended_state s in cc))

-- 11 is an expired tunnel's
module _ (w : World) where
  pub eleven_ended : (count now : ℕ) → number_of (step w (send count now)).answer ≡ 11 → Alive w.tunnel → ⊥
  unfolding step
  eleven_ended count now e = (((numbers_law w.tunnel w.store).send count now).eleven.0 e).4

  pub ended_eleven : undamaged w.tunnel ≡ true → (Alive w.tunnel → ⊥) → Expired w
  unfolding step
  ended_eleven u d =
      let facts : Undamaged w.tunnel = undamaged_law.facts w.tunnel u in
      ((numbers_law w.tunnel w.store).send 1 w.tunnel.greatest).eleven.1 (facts.latest, omega arith, facts, omega arith, d)

  pub expired_control_lem : Expired w → expired_control w.tunnel.control ≡ true
  expired_control_lem e = of_ended w.tunnel (expired_control w.tunnel.control) refl (eleven_ended 1 w.tunnel.greatest e)

  of_alive : (f : Bool) → expired_control w.tunnel.control ≡ f → undamaged w.tunnel ≡ true → (Expired w → ⊥) → f ≡ false
  of_alive false e u h = refl
  of_alive true e u h = absurd (h (ended_eleven u (ended_test w.tunnel e)))

  pub control_alive : undamaged w.tunnel ≡ true → (Expired w → ⊥) → expired_control w.tunnel.control ≡ false
  control_alive u h = of_alive (expired_control w.tunnel.control) refl u h
