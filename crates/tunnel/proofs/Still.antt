-- What changes nothing but the greatest time: an empty batch, and a call that answers nothing; and what the event call takes.
-- Assumes nothing.
use mathlib.Core.Path.{◌≡◌, refl, ap, sym}
use mathlib.Core.Bool.{Bool, true, false, true≢false}
use mathlib.Core.List.{List, []}
use Prim.Native.Nat.{ℕ}
use lib.ListN.{length, drop}
use Rattle.base.proofs.Choice.{of_choice}
use Rattle.base.specs.Choice.{choose, case_results}
use Rattle.sessions.proofs.Laws.{empty_batch_law}
use Rattle.sessions.specs.Batch.{Batched, receive}
use Rattle.tunnel.proofs.AfterStates.{batch_ways}
use Rattle.tunnel.proofs.Facts.{undamaged_facts}
use Rattle.tunnel.proofs.Queue.{queue_of_newest}
use Rattle.tunnel.proofs.TurnedDown.{refused_counts, of_timeless, of_turn, of_batch}
use Rattle.tunnel.specs.AfterStates.{with_greatest, with_control, IsExpired}
use Rattle.tunnel.specs.Answer.{number_of}
use Rattle.tunnel.specs.Arguments.{bad_batch, bad_jitter}
use Rattle.tunnel.specs.Cases.{case_state}
use Rattle.tunnel.specs.Control.{with_events, refuse, done, expired_control, poll_event}
use Rattle.tunnel.specs.Damage.{undamaged}
use Rattle.tunnel.specs.Decapsulate.{accept, commit_decapsulate}
use Rattle.tunnel.specs.HandleTimeout.{handle_timeout}
use Rattle.tunnel.specs.Handshake.{is_in_progress, is_expired}
use Rattle.tunnel.specs.InitiateHandshake.{restart_handshake, start_handshake}
use Rattle.tunnel.specs.PollTimeout.{poll_timeout}
use Rattle.tunnel.specs.RingBuffer.{Ring, queued, oldest}
use Rattle.tunnel.specs.Settle.{waking_due, repeat_waking, woke, settle}
use Rattle.tunnel.specs.Tunnel.{timeless_gate, refused, let_through, Called, call_receive, call_timeout, call_settle, call_event, call_deadline}
use Rattle.tunnel.specs.declared.answer.Answer.TheVariants.{NoAnswer, Done, Polled, Deadline, Woke}
use Rattle.tunnel.specs.declared.control.Control.{Control}
use Rattle.tunnel.specs.declared.control.Out.{Out}
use Rattle.tunnel.specs.declared.handshake.HandshakeState.TheVariants.{InitSent, Expired}
use Rattle.tunnel.specs.declared.tunnel.Answered.{Answered}
use Rattle.tunnel.specs.declared.tunnel.Tunnel.{Tunnel}
use Rattle.std.specs.Prelude.{Err, None, Ok, Result, Option}
use Rattle.error.specs.declared.Error.{Error}
use Rattle.sessions.specs.declared.session.Session.{Session}
use Rattle.sessions.specs.declared.batch.Progress.{Progress}
use Rattle.error.specs.declared.Error.TheVariants.{InvalidArgument, DamagedState}
use Rattle.tunnel.specs.declared.event.Event.{Event}

-- an expired control, and one whose initiation awaits its response
module _ (c : Control) where
  expired_test : c.handshake.state ≡ Expired → expired_control c ≡ true
  unfolding expired_control is_expired case_state
  expired_test e = rw e refl

  idle_test : c.handshake.state ≡ Expired → is_in_progress c.handshake ≡ false
  unfolding is_in_progress case_state
  idle_test e = rw e refl

  pub restart_expired : (now : ℕ) → c.handshake.state ≡ Expired → restart_handshake c now ≡ done c NoAnswer
  unfolding restart_handshake choose
  restart_expired now e = rw (expired_test e) refl

  pub start_expired : (now : ℕ) → c.handshake.state ≡ Expired → start_handshake c now ≡ done c NoAnswer
  unfolding start_handshake choose
  start_expired now e = rw (idle_test e) (restart_expired now e)

  pub start_again : (now local sent : ℕ) → c.handshake.state ≡ InitSent local sent → start_handshake c now ≡ done c NoAnswer
  unfolding start_handshake is_in_progress case_state choose
  start_again now local sent e = rw e refl

  timeout_expired : (store : List ℕ) (jitter now : ℕ) → c.handshake.state ≡ Expired
      → handle_timeout c store jitter now ≡ record { out = done c NoAnswer; store = store }
  unfolding handle_timeout choose
  timeout_expired store jitter now e = rw (expired_test e) refl

  settle_expired : (store : List ℕ) (jitter now : ℕ) → c.handshake.state ≡ Expired → settle c store jitter now ≡ record { out = woke c 0; store = store }
  unfolding settle repeat_waking waking_due choose
  settle_expired store jitter now e = rw (expired_test e) refl

  deadline_expired : (last : ℕ) → c.handshake.state ≡ Expired → poll_timeout c last ≡ None
  unfolding poll_timeout choose
  deadline_expired last e = rw (expired_test e) refl

-- the waking of an expired tunnel
pub timeout_nothing : (t : Tunnel) (store : List ℕ) (jitter now : ℕ) → IsExpired t → number_of (call_timeout t store jitter now).answered.answer ≡ 0
    → ((call_timeout t store jitter now).answered.answer ≡ Ok NoAnswer)
    × ((call_timeout t store jitter now).answered.tunnel ≡ with_greatest t now)
    × ((call_timeout t store jitter now).store ≡ store)
unfolding call_timeout let_through done choose
timeout_nothing t store jitter now x =
    of_turn t (bad_jitter jitter store) now
    (λ (a : Called). number_of a.answered.answer ≡ 0
    → (a.answered.answer ≡ Ok NoAnswer) × (a.answered.tunnel ≡ with_greatest t now) × (a.store ≡ store))
    store _
    (λ z e. rw (timeout_expired t.control store jitter now x) (refl, refl, refl))
    (λ error z e. absurd (refused_counts t error e))

-- settling it
pub settle_nothing : (t : Tunnel) (store : List ℕ) (jitter now : ℕ) → IsExpired t → number_of (call_settle t store jitter now).answered.answer ≡ 0
    → ((call_settle t store jitter now).answered.answer ≡ Ok (Woke 0))
    × ((call_settle t store jitter now).answered.tunnel ≡ with_greatest t now)
    × ((call_settle t store jitter now).store ≡ store)
unfolding call_settle let_through choose
settle_nothing t store jitter now x =
    of_turn t (bad_jitter jitter store) now
    (λ (a : Called). number_of a.answered.answer ≡ 0
    → (a.answered.answer ≡ Ok (Woke 0)) × (a.answered.tunnel ≡ with_greatest t now) × (a.store ≡ store))
    store _
    (λ z e. rw (settle_expired t.control store jitter now x) (refl, refl, refl))
    (λ error z e. absurd (refused_counts t error e))

-- an empty batch
module _ (c : Control) (store : List ℕ) (index id now : ℕ) where
  abbrev none : Batched Out
  none = commit_decapsulate c store index id now [] [] [] []

  empty_out : number_of none.out.answer ≡ 0 → none.out ≡ done c Done
  unfolding commit_decapsulate case_results accept refuse done choose
  empty_out z = go (expired_control c) (receive c.sessions store index id now [] [] [] []).out refl refl ((batch_ways c store index id now [] [] [] []).out.up z)
    where
      go : (b : Bool) (r : Result (Session × Progress) Error) → expired_control c ≡ b → (receive c.sessions store index id now [] [] [] []).out ≡ r → none.out.raises ≡ true
          → none.out ≡ done c Done
      go true r p q u = absurd (true≢false (sym (rw p at u)))
      go false (Err n) p q u = absurd (true≢false (sym (rw (p, q) at u)))
      go false (Ok (x, y)) p q u = let l = (empty_batch_law c.sessions store index id now).answer x y q in rw (p, q, l.1, l.0) refl

  empty_store : none.store ≡ store
  unfolding commit_decapsulate
  empty_store = of_choice (λ (b : Batched Out). b.store ≡ store) _ _ _ refl (empty_batch_law c.sessions store index id now).words

  empty_list : none.verdicts ≡ []
  unfolding commit_decapsulate
  empty_list = of_choice (λ (b : Batched Out). b.verdicts ≡ []) _ _ _ refl (empty_batch_law c.sessions store index id now).list

  empty_skips : none.skips ≡ []
  unfolding commit_decapsulate
  empty_skips = of_choice (λ (b : Batched Out). b.skips ≡ []) _ _ _ refl (empty_batch_law c.sessions store index id now).skip_list

pub empty_nothing : (t : Tunnel) (store : List ℕ) (index id now : ℕ) → number_of (call_receive t store index id now [] [] [] []).out.answer ≡ 0
    → ((call_receive t store index id now [] [] [] []).out.tunnel ≡ with_greatest t now)
    × ((call_receive t store index id now [] [] [] []).store ≡ store)
    × ((call_receive t store index id now [] [] [] []).verdicts ≡ [])
    × ((call_receive t store index id now [] [] [] []).skips ≡ [])
unfolding call_receive let_through done choose
empty_nothing t store index id now =
    of_batch t (bad_batch store [] [] [] []) now
    (λ (a : Batched Answered).
    number_of a.out.answer ≡ 0 → (a.out.tunnel ≡ with_greatest t now) × (a.store ≡ store) × (a.verdicts ≡ []) × (a.skips ≡ [])) store [] [] _
    (λ z e. (
      rw (empty_out t.control store index id now e) refl,
      empty_store t.control store index id now,
      empty_list t.control store index id now,
      empty_skips t.control store index id now,
    ))
    (λ error z e. absurd (refused_counts t error e))

-- the deadline of an expired tunnel
pub deadline_nothing : (t : Tunnel) → IsExpired t → number_of (call_deadline t).answer ≡ 0 → (call_deadline t).answer ≡ Ok (Deadline None)
unfolding call_deadline let_through
deadline_nothing t x =
    of_timeless t false (λ (a : Answered). number_of a.answer ≡ 0 → a.answer ≡ Ok (Deadline None)) _
    (λ z e. ap (λ (time : Option ℕ). Ok (Deadline time)) (deadline_expired t.control t.last_update x))
    (λ error z e. absurd (refused_counts t error e))

-- the ring of a tunnel with sixteen places that the check lets through
timeless_whole : (whole : Bool) → choose {A = Result Unit Error} false (Err InvalidArgument) (choose whole (Ok tt) (Err DamagedState)) ≡ Ok tt → whole ≡ true
unfolding choose
timeless_whole true e = refl
timeless_whole false e = absurd (cc)

module _ (t : Tunnel) (long : length t.control.events.slots ≡ 16) where
  its_ring : timeless_gate t false ≡ Ok tt → Ring t.control.events
  unfolding timeless_gate
  its_ring z = record { places = long; within = (undamaged_facts t (timeless_whole (undamaged t) z)).control.events.ring }

  -- what the event call answers and takes
  pub event_answer : number_of (call_event t).answer ≡ 0 → (call_event t).answer ≡ Ok (Polled (oldest (queued t.control.events)))
  unfolding call_event let_through poll_event
  event_answer =
      of_timeless t false (λ (a : Answered). number_of a.answer ≡ 0 → a.answer ≡ Ok (Polled (oldest (queued t.control.events)))) _
      (λ z e. ap (λ (event : Option Event). Ok (Polled event)) (queue_of_newest.answered t.control.events (its_ring z)))
      (λ error z e. absurd (refused_counts t error e))

  pub event_queue : number_of (call_event t).answer ≡ 0 → queued (call_event t).tunnel.control.events ≡ drop 1 (queued t.control.events)
  unfolding call_event let_through poll_event
  event_queue =
      of_timeless t false (λ (a : Answered). number_of a.answer ≡ 0 → queued a.tunnel.control.events ≡ drop 1 (queued t.control.events)) _
      (λ z e. queue_of_newest.left t.control.events (its_ring z))
      (λ error z e. absurd (refused_counts t error e))

pub event_rest : (t : Tunnel) → (call_event t).tunnel ≡ with_control t (with_events t.control (call_event t).tunnel.control.events)
unfolding call_event let_through poll_event refused choose
event_rest t =
    of_timeless t false (λ (a : Answered). a.tunnel ≡ with_control t (with_events t.control a.tunnel.control.events)) _ (λ z. refl) (λ error z. refl)
