-- Which number turns down a handshake message or an early look that 1, 2, 14, 13 and 11 let through: that of its operation.
-- Assumes nothing.
use mathlib.Core.Path.{◌≡◌, refl, sym, ◌∙◌}
use mathlib.Core.Bool.{Bool, true, false, true≢false}
use mathlib.Core.List.{List}
use mathlib.Core.Logic.{inl, inr}
use Prim.Native.Nat.{ℕ, ◌+◌, ◌<◌}
use native.Mathlib.Omega.{arith}
use lib.Dec.{ltb}
use lib.ListN.{length}
use borrow.Author.Tests.{eq-eqb, ne_eqb, eqb-true, lt-leb, le-leb}
use Rattle.base.proofs.Choice.{same_choice, known_choice}
use Rattle.base.specs.Choice.{choose, case_option, case_result, case_results}
use Rattle.error.specs.Error.{verdict_number}
use Rattle.error.specs.declared.Error.{Error}
use Rattle.sessions.specs.Session.{time_limit, expired_at, will_receive}
use Rattle.sessions.specs.Sessions.{in_slot_of}
use Rattle.std.specs.Prelude.{Result, Ok, Err}
use Rattle.tunnel.proofs.BadArguments.{stored, opening_named, initiation_named, of_outcome}
use Rattle.tunnel.proofs.FirstFailing.{Tells, at_most, its_undamaged, timed_by}
use Rattle.tunnel.proofs.Numbers.{is_dead}
use Rattle.tunnel.specs.Answer.{number_of}
use Rattle.tunnel.specs.Arguments.{opening_outcome, initiation_outcome, unnamed, named_of, bad_outcome}
use Rattle.tunnel.specs.Cases.{case_state}
use Rattle.tunnel.specs.Control.{with_handshake, refuse, done, expired_control}
use Rattle.tunnel.specs.Damage.{undamaged}
use Rattle.tunnel.specs.Decapsulate.{begin_decapsulate}
use Rattle.tunnel.specs.HandleHandshake.{respond, handle_handshake_initiation, handle_handshake_response, handle_cookie_reply}
use Rattle.tunnel.specs.Handshake.{awaits, expects, receive_handshake_initialization, receive_handshake_response, receive_cookie_reply}
use Rattle.tunnel.specs.Numbers.{IsStore, OpeningNamed, InitiationNamed}
use Rattle.tunnel.specs.Refusals.{LetThrough, Awaits, Awaited, slot_record, YoungInSlot, RefusalsLaw}
use Rattle.tunnel.specs.Tunnel.{gate, timed, timed_turn, call_look, call_initiation, call_response, call_cookie}
use Rattle.tunnel.specs.declared.answer.Answer.TheVariants.{Done}
use Rattle.tunnel.specs.declared.control.Control.{Control}
use Rattle.tunnel.specs.declared.control.Out.{Out}
use Rattle.tunnel.specs.declared.handshake.Handshake.{Handshake}
use Rattle.tunnel.specs.declared.handshake.HandshakeState.TheVariants.{None as NoHandshake, InitSent, Expired}
use Rattle.tunnel.specs.declared.handshake.HandshakeState.{HandshakeState}
use Rattle.tunnel.specs.declared.tunnel.Tunnel.{Tunnel}

-- an outcome that is named stands for its own number
opening_number : (n : ℕ) → OpeningNamed n → verdict_number (named_of (opening_outcome n)) ≡ n
unfolding opening_outcome named_of case_option choose
opening_number n p = elim p [
  | inl e ↦ rw e refl
  | inr e ↦ rw e refl
]

initiation_number : (n : ℕ) → InitiationNamed n → verdict_number (named_of (initiation_outcome n)) ≡ n
unfolding initiation_outcome named_of case_option choose
initiation_number n p = elim p [
  | inl e ↦ rw e refl
  | inr (inl e) ↦ rw e refl
  | inr (inr (inl e)) ↦ rw e refl
  | inr (inr (inr (inl e))) ↦ rw e refl
  | inr (inr (inr (inr e))) ↦ rw e refl
]

-- the outcome 7 is named, so that the store alone can be bad
seven : (store : List ℕ) → Tells (bad_outcome (opening_outcome 7) store) false (IsStore store)
unfolding opening_outcome bad_outcome unnamed choose
seven store = stored store

-- whether a response is for one of the two latest initiations
awaiting : (s : HandshakeState) (index : ℕ) → Tells (awaits s index) true (Awaits s index)
unfolding awaits case_state
awaiting s index = record { to = to s; from = λ p. rw p.1 (eq-eqb index index refl) }
  where
    to : (s : HandshakeState) → awaits s index ≡ true → Awaits s index
    to NoHandshake e = absurd (true≢false (sym e))
    to (InitSent local sent) e = (sent, rw (eqb-true local index e) refl)
    to Expired e = absurd (true≢false (sym e))

expected : (t : Tunnel) (index : ℕ) → Tells (expects t.control.handshake index) true (Awaited t index)
unfolding expects choose
expected t index =
    record {
      to = known_choice (λ (b : Bool). b ≡ true → Awaited t index) (awaits t.control.handshake.state index) _ _
          (λ e x. inl ((awaiting t.control.handshake.state index).to e))
          (λ e x. inr ((awaiting t.control.handshake.previous index).to x));
      from = λ p. elim p [
        | inl x ↦ rw ((awaiting t.control.handshake.state index).from x) refl
        | inr x ↦ rw ((awaiting t.control.handshake.previous index).from x) (same_choice (awaits t.control.handshake.state index) true)
      ];
    }

-- the number of what an operation hands back
abbrev Gives : ℕ → Out → Type 0
Gives number out = number_of out.answer ≡ number

-- a handshake message that only its outcome can turn down
respond_number : (c : Control) (store : List ℕ) (local peer : ℕ) (outcome : Result Unit Error) (now : ℕ)
    → Gives (verdict_number outcome) (respond c store local peer outcome now).out
unfolding respond receive_handshake_initialization refuse done number_of case_result case_results
respond_number c store local peer (Ok good) now = refl
respond_number c store local peer (Err error) now = refl

cookie_number : (c : Control) (h : Handshake) (m n : Error) (awaited same : Bool) (outcome : Result Unit Error) → awaited ≡ true → same ≡ true
    → Gives (verdict_number outcome)
    (case_result
    (choose awaited (choose same (case_result {A = Result Handshake Error} outcome (λ error. Err error) (λ good. Ok h)) (Err m)) (Err n))
    (refuse c)
    (λ handshake. done (with_handshake c handshake) Done))
unfolding refuse done number_of choose case_result
cookie_number c h m n awaited same (Ok good) e f = rw (e, f) refl
cookie_number c h m n awaited same (Err error) e f = rw (e, f) refl

-- a test that does not hold
fails : (test : Bool) → (test ≡ true → ⊥) → test ≡ false
fails true f = absurd (f refl)
fails false f = refl

-- a call that 1, 2, 14, 13 and 11 let through gives its operation's number
module _ (t : Tunnel) (good : Type 0) (now : ℕ) (p : LetThrough t good now) where
  let_number : (bad : Bool) (out : Out) (number : ℕ) → Tells bad false good → Gives number out → number_of (timed t bad now out).answer ≡ number
  unfolding timed gate choose
  let_number bad out number b g =
      timed_by (ltb time_limit now) bad (undamaged t) (ltb now t.greatest) t now out
      ∙ rw ((at_most time_limit now).from p.timely, b.from p.good, (its_undamaged t).from p.sound, (at_most now t.greatest).from p.onward) g

  living : expired_control t.control ≡ false
  living = fails _ (λ e. p.alive (is_dead t.control e))

  initiation_gives : (store : List ℕ) (peer : ℕ) (outcome : Result Unit Error)
      → Gives (verdict_number outcome) (handle_handshake_initiation t.control store peer outcome now).out
  unfolding handle_handshake_initiation choose
  initiation_gives store peer outcome = rw living (respond_number _ store _ peer outcome now)

  -- a response
  module _ (store : List ℕ) (receiver peer : ℕ) where
    unexpected_gives : (outcome : Result Unit Error) → (Awaited t receiver → ⊥) → Gives 8 (handle_handshake_response t.control store receiver peer outcome now).out
    unfolding handle_handshake_response receive_handshake_response refuse number_of choose case_results
    unexpected_gives outcome none = rw (living, fails _ (λ e. none ((expected t receiver).to e))) refl

    unopened_gives : Awaited t receiver → Gives 7 (handle_handshake_response t.control store receiver peer (named_of (opening_outcome 7)) now).out
    unfolding handle_handshake_response receive_handshake_response opening_outcome named_of refuse number_of choose case_option case_result case_results
    unopened_gives a = rw (living, (expected t receiver).from a) refl

  -- a cookie reply
  module _ (receiver : ℕ) (outcome : Result Unit Error) where
    no_cookie_gives : t.control.handshake.cookies.last_mac1 ≡ false → Gives 8 (handle_cookie_reply t.control receiver outcome now)
    unfolding handle_cookie_reply receive_cookie_reply refuse number_of choose case_result
    no_cookie_gives e = rw (living, e) refl

    other_cookie_gives : t.control.handshake.cookies.last_mac1 ≡ true → (receiver ≡ t.control.handshake.cookies.index → ⊥)
        → Gives 6 (handle_cookie_reply t.control receiver outcome now)
    unfolding handle_cookie_reply receive_cookie_reply refuse number_of choose case_result
    other_cookie_gives e n = rw (living, e, ne_eqb receiver t.control.handshake.cookies.index n) refl

    cookie_gives : t.control.handshake.cookies.last_mac1 ≡ true → receiver ≡ t.control.handshake.cookies.index
        → Gives (verdict_number outcome) (handle_cookie_reply t.control receiver outcome now)
    unfolding handle_cookie_reply receive_cookie_reply choose
    cookie_gives e n = rw living (cookie_number t.control _ _ _ _ _ outcome e (eq-eqb receiver t.control.handshake.cookies.index n))

  -- an early look
  module _ (store : List ℕ) (index counter : ℕ) where
    no_session_gives : (YoungInSlot t index now → ⊥) → Gives 12 (begin_decapsulate t.control store index counter now)
    unfolding begin_decapsulate in_slot_of expired_at refuse number_of choose case_option
    no_session_gives none =
        known_choice (λ (u : Unit {0}). Gives 12 (begin_decapsulate t.control store index counter now)) (slot_record t index).filled tt tt
        (λ f.
        let old : now < (slot_record t index).established_at + 180000000000 → ⊥ = λ y. none (record { filled = f; young = y }) in
        rw (living, f, le-leb ((slot_record t index).established_at + 180000000000) now (omega arith)) refl)
        (λ f. rw (living, f) refl)

    other_session_gives : length store ≡ 1024 → YoungInSlot t index now → ((slot_record t index).receiving_index ≡ index → ⊥)
        → Gives 6 (begin_decapsulate t.control store index counter now)
    unfolding begin_decapsulate in_slot_of expired_at will_receive refuse number_of choose case_option case_result
    other_session_gives l y n =
        rw (living, y.filled, lt-leb _ now y.young, eq-eqb (length store) 1024 l, ne_eqb index (slot_record t index).receiving_index (λ e. n (sym e))) refl

-- the number that turns down a message or a look
pub refusal_numbers : (t : Tunnel) (store : List ℕ) → RefusalsLaw t store
unfolding call_look call_initiation call_response call_cookie timed_turn
refusal_numbers t store =
    record {
      initiation = λ peer outcome now p.
          let_number t _ now p _ _ outcome (of_outcome _ store _ (initiation_named outcome))
          (initiation_gives t _ now p store peer (named_of (initiation_outcome outcome)) ∙ initiation_number outcome p.good.1);
      unexpected = λ receiver peer outcome now p none.
          let_number t _ now p _ _ 8 (of_outcome _ store _ (opening_named outcome)) (unexpected_gives t _ now p store receiver peer (named_of (opening_outcome outcome)) none);
      unopened = λ receiver peer now p a. let_number t _ now p _ _ 7 (seven store) (unopened_gives t _ now p store receiver peer a);
      no_cookie = λ receiver outcome now p e.
          let_number t _ now p _ _ 8 (opening_named outcome) (no_cookie_gives t _ now p receiver (named_of (opening_outcome outcome)) e);
      other_cookie = λ receiver outcome now p e n.
          let_number t _ now p _ _ 6 (opening_named outcome) (other_cookie_gives t _ now p receiver (named_of (opening_outcome outcome)) e n);
      cookie = λ receiver outcome now p e n.
          let_number t _ now p _ _ outcome (opening_named outcome)
          (cookie_gives t _ now p receiver (named_of (opening_outcome outcome)) e n ∙ opening_number outcome p.good);
      no_session = λ index counter now p none. let_number t _ now p _ _ 12 (stored store) (no_session_gives t _ now p store index counter none);
      other_session = λ index counter now p y n. let_number t _ now p _ _ 6 (stored store) (other_session_gives t _ now p store index counter p.good y n);
    }
