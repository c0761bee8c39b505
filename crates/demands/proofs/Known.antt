-- What is known of the control and the store after any calls, and the operations of the Rust's that insert, commit and grant nothing.
-- Assumes nothing.
use mathlib.Core.Path.{◌≡◌, refl}
use mathlib.Core.Bool.{Bool, false}
use mathlib.Core.List.{List, [], ◌++◌, append-nil}
use Prim.Native.Nat.{ℕ}
use native.Mathlib.Omega.{arith}
use Rattle.base.proofs.Choice.{of_choice, of_option, of_result}
use Rattle.error.proofs.Laws.{positive_law}
use Rattle.tunnel.specs.Answer.{number_of}
use Rattle.tunnel.specs.Control.{out_of, refuse, done, queueing, poll_event, missing_report}
use Rattle.tunnel.specs.InitiateHandshake.{initiate, initiating, restart_handshake, start_handshake}
use Rattle.tunnel.specs.HandleHandshake.{handle_cookie_reply}
use Rattle.tunnel.specs.Decapsulate.{begin_decapsulate, confirm_first_session}
use Rattle.tunnel.specs.declared.answer.Answer.TheVariants.{NoAnswer, Keepalive, Granted, Polled, Deadline}
use Rattle.tunnel.specs.declared.answer.Answer.{Answer}
use Rattle.tunnel.specs.declared.control.Control.{Control}
use Rattle.tunnel.specs.declared.control.Out.{Out}
use Rattle.demands.proofs.Held.{Past, Held, held_carried, Carried}
use Rattle.demands.proofs.Moves.{carried_next}
use Rattle.demands.proofs.Queued.{keepalive_in, Queue, queue_push, queue_pop}
use Rattle.demands.specs.Calls.{World}
use Rattle.demands.specs.Made.{case_answer, Insertion}
use Rattle.demands.specs.Sending.{Grant, answered_grant, PolledKeepalive, polled_by}
use Rattle.tunnel.specs.Cases.{case_event}
use Rattle.tunnel.specs.declared.event.Event.TheVariants.{Established}
use Rattle.tunnel.specs.declared.event.Event.{Event}
use Rattle.sessions.specs.declared.range.Range.{Range}
use Rattle.base.specs.Choice.{case_option}
use Rattle.error.specs.declared.Error.TheVariants.{ConnectionExpired, NoCurrentSession}
use Rattle.std.specs.Prelude.{Err, Ok, Option, Result, Some}
use Rattle.error.specs.declared.Error.{Error}

-- after these insertions, with these pasts, grants, grants of wakings and keepalives polled
pub record Known (ins : List Insertion) (h : ℕ → Past) (g k : List Grant) (polls : List PolledKeepalive) (c : Control) (store : List ℕ) : Type 0 where
  pub held : Held ins h g c.sessions store
  pub queue : Queue k polls c.events

-- the number of a reason is not 0
pub turned_number : (e : Error) → number_of (Err e) ≡ 0 → ⊥
unfolding number_of
turned_number e z = omega (arith, z, positive_law e)

-- an answer that stands for no grant and no keepalive polled
pub record Plain (answer : Result Answer Error) : Type 0 where
  pub granted : (count : ℕ) (w : World) → answered_grant count w answer ≡ []
  pub polled : polled_by answer ≡ []
  pub ungranted : (range : Range) → answer ≡ Ok (Granted range) → ⊥

-- every answer is one but a granted range, a keepalive and an event
pub plain_of : (answer : Result Answer Error) → ◌≡◌ {A = ℕ} (case_answer answer (λ range. 1) (λ peer counter. 1) (λ event. 1) 0) 0 → Plain answer
unfolding answered_grant polled_by case_answer
plain_of (Ok (Granted range)) e = absurd (omega (arith, e))
plain_of (Ok (Keepalive peer counter)) e = absurd (omega (arith, e))
plain_of (Ok (Polled event)) e = absurd (omega (arith, e))
plain_of _ e = record { granted = λ n w. refl; polled = refl; ungranted = λ r p. cc }

-- the same insertions, grants and keepalives, said otherwise
pub known_as : (ins m : List Insertion) (h : ℕ → Past) (g f k l : List Grant) (polls z : List PolledKeepalive) (c : Control) (store : List ℕ)
    → m ≡ ins → f ≡ g → l ≡ k → z ≡ polls → Known ins h g k polls c store → Known m h f l z c store
known_as ins m h g f k l polls z c store p q r o w = rw (p, q, r, o) w

-- nothing more inserted, granted or polled
pub known_same : (ins m : List Insertion) (h : ℕ → Past) (g a k v : List Grant) (polls z : List PolledKeepalive) (c : Control) (store : List ℕ)
    → m ≡ [] → a ≡ [] → v ≡ [] → z ≡ [] → Known ins h g k polls c store → Known (ins ++ m) h (g ++ (a ++ v)) (k ++ v) (polls ++ z) c store
known_same ins m h g a k v polls z c store e p q r w =
    known_as ins _ h g _ k _ polls _ c store (rw e (append-nil ins)) (rw (p, q) (append-nil g)) (rw q (append-nil k)) (rw r (append-nil polls)) w

-- what an operation that inserts, commits and grants nothing hands back
pub record Idle (c : Control) (store : List ℕ) (out : Out) (left : List ℕ) : Type 0 where
  pub known : (ins : List Insertion) (h : ℕ → Past) (g k : List Grant) (polls : List PolledKeepalive) → Known ins h g k polls c store → Known ins h g k polls out.control left
  pub plain : Plain out.answer

-- slots carried on, and the ring as it was
pub known_carried : (ins : List Insertion) (h : ℕ → Past) (g k : List Grant) (polls : List PolledKeepalive) (c d : Control) (store left : List ℕ)
    → Carried c.sessions d.sessions store left → d.events ≡ c.events → Known ins h g k polls c store → Known ins h g k polls d left
known_carried ins h g k polls c d store left a e w = record { held = held_carried ins h g _ _ store left w.held a; queue = rw e w.queue }

-- an event queued that is no keepalive
known_queued : (ins : List Insertion) (h : ℕ → Past) (g k : List Grant) (polls : List PolledKeepalive) (c : Control) (event : Event) (store : List ℕ)
    → keepalive_in (Some event) ≡ [] → Known ins h g k polls c store → Known ins h g k polls (queueing c event) store
unfolding queueing
known_queued ins h g k polls c event store e w = record { held = w.held; queue = queue_push k polls c.events w.queue event e }

established_none : (a b : ℕ) → keepalive_in (Some (Established a b)) ≡ []
unfolding polled_by case_answer case_option case_event
established_none a b = refl

-- the first session confirmed
pub known_confirmed : (ins : List Insertion) (h : ℕ → Past) (g k : List Grant) (polls : List PolledKeepalive) (c : Control) (started now : ℕ) (store : List ℕ)
    → Known ins h g k polls c store → Known ins h g k polls (confirm_first_session c started now) store
unfolding confirm_first_session
known_confirmed ins h g k polls c started now store w =
    of_choice (λ (d : Control). Known ins h g k polls d store) _ _ _ w
    (let q : Known ins h g k polls (queueing c (Established started now)) store = known_queued ins h g k polls c _ store (established_none started now) w in
    record { held = q.held; queue = q.queue })

module _ (c : Control) (store : List ℕ) where
  -- the operations that leave the control as it was
  unmoved : (answer : Result Answer Error) (raises updates : Bool) → Plain answer → Idle c store (out_of c answer raises updates) store
  unmoved answer raises updates p = record { known = λ ins h g k polls w. w; plain = p }

  pub idle_refused : (e : Error) → Idle c store (refuse c e) store
  unfolding refuse case_answer
  idle_refused e = unmoved _ _ _ (plain_of _ refl)

  idle_nothing : Idle c store (done c NoAnswer) store
  unfolding done case_answer
  idle_nothing = unmoved _ _ _ (plain_of _ refl)

  -- starting and restarting
  pub idle_restart : (now : ℕ) → Idle c store (restart_handshake c now) store
  unfolding restart_handshake done initiate initiating case_answer
  idle_restart now =
      of_choice (λ (o : Out). Idle c store o store) _ _ _ idle_nothing
      (record {
        known = λ ins h g k polls w. known_carried ins h g k polls c _ store store (carried_next c.sessions store) refl w;
        plain = plain_of _ refl;
      })

  pub idle_start : (now : ℕ) → Idle c store (start_handshake c now) store
  unfolding start_handshake
  idle_start now = of_choice (λ (o : Out). Idle c store o store) _ _ _ idle_nothing (idle_restart now)

  -- the early look
  pub idle_look : (index counter now : ℕ) → Idle c store (begin_decapsulate c store index counter now) store
  unfolding begin_decapsulate case_answer
  idle_look index counter now =
      of_choice (λ (o : Out). Idle c store o store) _ _ _ (idle_refused ConnectionExpired)
      (of_option (λ (o : Out). Idle c store o store) _ _ _ (idle_refused NoCurrentSession)
      (λ session. of_choice (λ (o : Out). Idle c store o store) _ _ _ (idle_refused NoCurrentSession)
      (of_result (λ (o : Out). Idle c store o store) _ _ _ idle_refused (λ good. unmoved _ _ _ (plain_of _ refl)))))

  -- a cookie reply
  pub idle_cookie : (receiver : ℕ) (outcome : Result Unit Error) (now : ℕ) → Idle c store (handle_cookie_reply c receiver outcome now) store
  unfolding handle_cookie_reply done case_answer
  idle_cookie receiver outcome now =
      of_choice (λ (o : Out). Idle c store o store) _ _ _ (idle_refused ConnectionExpired)
      (of_result (λ (o : Out). Idle c store o store) _ _ _ idle_refused
      (λ handshake. record { known = λ ins h g k polls w. record { held = w.held; queue = w.queue }; plain = plain_of _ refl }))

  -- the oldest event, polled
  pub known_event : (ins : List Insertion) (h : ℕ → Past) (g k : List Grant) (polls : List PolledKeepalive) → Known ins h g k polls c store
      → Known ins h g k (polls ++ polled_by (poll_event c).answer) (poll_event c).control store
  unfolding poll_event
  known_event ins h g k polls w = record { held = w.held; queue = queue_pop k polls c.events w.queue }

  pub ungranted_event : (count : ℕ) (w : World) → answered_grant count w (poll_event c).answer ≡ []
  unfolding poll_event answered_grant case_answer
  ungranted_event count w = refl

  -- the deadline
  pub idle_deadline : (time : Option ℕ) → Idle c store (out_of c (Ok (Deadline time)) false false) store
  unfolding case_answer
  idle_deadline time = unmoved _ _ _ (plain_of _ refl)

  -- the missing report
  pub idle_missing : (index : ℕ) → Idle c store (missing_report c store index) store
  unfolding missing_report case_answer
  idle_missing index = of_result (λ (o : Out). Idle c store o store) _ _ _ idle_refused (λ count. unmoved _ _ _ (plain_of _ refl))
