-- Two tunnels with the same control and the same store: a call that is not earlier than the wakings which only one of them had gives both the same.
-- Assumes nothing.
use mathlib.Core.Path.{◌≡◌, refl, ap, ap₂, sym, ◌∙◌}
use mathlib.Core.Bool.{Bool, true, false}
use mathlib.Core.List.{List}
use Prim.Native.Nat.{ℕ, ◌≤◌, ◌<◌}
use native.Mathlib.Omega.{arith}
use lib.Dec.{ltb}
use borrow.Author.Tests.{ltb-true, ltb-false, lt-ltb, le-ltb}
use Rattle.base.specs.Choice.{choose, case_option, case_result}
use Rattle.tunnel.specs.Control.{Turn, expired_control, poll_event, missing_report}
use Rattle.tunnel.specs.PollTimeout.{next_deadline, not_before, poll_timeout}
use Rattle.tunnel.specs.InitiateHandshake.{start_handshake, restart_handshake}
use Rattle.tunnel.specs.HandleHandshake.{handle_handshake_initiation, handle_handshake_response, handle_cookie_reply}
use Rattle.tunnel.specs.Encapsulate as encapsulate
use Rattle.tunnel.specs.Decapsulate as decapsulate
use Rattle.tunnel.specs.declared.answer.Answer.TheVariants.{Deadline}
use Rattle.tunnel.specs.declared.answer.Answer.{Answer}
use Rattle.tunnel.specs.declared.control.Control.{Control}
use Rattle.tunnel.specs.declared.control.Out.{Out}
use Rattle.demands.specs.Calls.Call.{start, restart, send, receive, look, initiation, response, cookie, timeout, settle, event, deadline, missing}
use Rattle.demands.specs.Calls.{Call, World, Reply, plain, stored, batched, step}
use Rattle.demands.specs.Wakings.Alike.{equal, come}
use Rattle.sessions.specs.Sessions.{slot_at}
use Rattle.demands.specs.Wakings.{HeardAlike, time_of, NotEarlier, Alike, Same}
use Rattle.tunnel.specs.RingBuffer.{ring_is_empty}
use Rattle.sessions.specs.Batch.{Batched}
use Rattle.tunnel.proofs.Laws.{deadline_law, undamaged_law}
use Rattle.tunnel.specs.Arguments.{opening_outcome, initiation_outcome, named_of, lacking, bad_outcome, bad_jitter, bad_batch}
use Rattle.tunnel.specs.Damage.{undamaged}
use Rattle.tunnel.specs.Tunnel.{gate, timeless_gate, refused, let_through, timed, timeless, kept, timed_turn, timed_batch, call_start, call_restart, call_send, call_receive, call_look, call_initiation, call_response, call_cookie, call_timeout, call_settle, call_event, call_deadline, call_missing}
use Rattle.tunnel.specs.declared.tunnel.Answered.{Answered}
use Rattle.tunnel.specs.declared.tunnel.Tunnel.{Tunnel}
use Rattle.tunnel.specs.HandleTimeout.{handle_timeout}
use Rattle.tunnel.specs.Settle as settling
use Rattle.std.specs.Prelude.{None, Option, Some, Result, Ok, Err}
use Rattle.error.specs.declared.Error.{Error}

-- the plain and the woken tunnel have the same control; the woken one's greatest time is at most this later than the plain one's
pub record TwinTunnels (latest : ℕ) (p w : Tunnel) : Type 0 where
  pub control : p.control ≡ w.control
  pub older : p.greatest ≤ w.greatest
  pub bound : (time : ℕ) → latest ≤ time → p.greatest ≤ time → w.greatest ≤ time

-- and the same store
pub record Twins (latest : ℕ) (p w : World) : Type 0 where
  pub tunnels : TwinTunnels latest p.tunnel w.tunnel
  pub store : p.store ≡ w.store

-- each slot of both was last heard at the same time
heard_alike : {latest : ℕ} {p w : Tunnel} → TwinTunnels latest p w → (slot : ℕ) → slot < 8
    → HeardAlike (slot_at p.control.sessions slot) (slot_at w.control.sessions slot)
heard_alike h slot low = rw h.control (record { filled = refl; heard = λ f. refl })

-- a call gives twins the same and leaves them twins
pub record Pair (latest : ℕ) (p w : Reply) : Type 0 where
  pub same : Same p w
  pub twins : Twins latest p.world w.world

record AnsweredAlike (latest : ℕ) (a b : Answered) : Type 0 where
  answer : a.answer ≡ b.answer
  tunnels : TwinTunnels latest a.tunnel b.tunnel

-- number 13 turns a call down for both or for none
same_back : (a b latest now : ℕ) → a ≤ b → ((time : ℕ) → latest ≤ time → a ≤ time → b ≤ time) → latest ≤ now → ltb now a ≡ ltb now b
same_back a b latest now older bound h = go (ltb now a) refl
  where
    go : (t : Bool) → ltb now a ≡ t → ltb now a ≡ ltb now b
    go true e = e ∙ sym (lt-ltb now b (let x : now < a = ltb-true now a e in omega arith))
    go false e = e ∙ sym (le-ltb now b (bound now h (ltb-false now a e)))

module _ {latest : ℕ} where
  -- a choice by the same checks
  of_same_checks : (checked : Result Unit Error) (a b : Error → Answered) (x y : Answered) → ((e : Error) → AnsweredAlike latest (a e) (b e))
      → AnsweredAlike latest x y → AnsweredAlike latest (case_result checked a (λ good. x)) (case_result checked b (λ good. y))
  unfolding case_result
  of_same_checks (Err e) a b x y h k = h e
  of_same_checks (Ok good) a b x y h k = k

  module _ {p w : Tunnel} (h : TwinTunnels latest p w) where
    -- what the checks let through
    raised : (raises : Bool) (now : ℕ) → choose raises now p.greatest ≤ choose raises now w.greatest
    unfolding choose
    raised true now = omega arith
    raised false now = h.older

    bounded : (raises : Bool) (now time : ℕ) → latest ≤ time → choose raises now p.greatest ≤ time → choose raises now w.greatest ≤ time
    unfolding choose
    bounded true now time l b = b
    bounded false now time l b = h.bound time l b

    let_through_alike : (now : ℕ) (out : Out) → AnsweredAlike latest (let_through p now out) (let_through w now out)
    unfolding let_through
    let_through_alike now out =
        record {
          answer = refl;
          tunnels = record { control = refl; older = raised out.raises now; bound = bounded out.raises now };
        }

    refused_alike : (e : Error) → AnsweredAlike latest (refused p e) (refused w e)
    unfolding refused
    refused_alike e = record { answer = refl; tunnels = h }

    module _ (u : undamaged p ≡ true) (v : undamaged w ≡ true) where
      -- a call at a time
      module _ (bad : Bool) (now : ℕ) (l : latest ≤ now) where
        same_gate : gate p bad now ≡ gate w bad now
        unfolding gate
        same_gate = rw (u, v, same_back p.greatest w.greatest latest now h.older h.bound l) refl

        timed_alike : (is : Bool) (out shall : Out) → bad ≡ is → out ≡ shall → AnsweredAlike latest (timed p bad now out) (timed w is now shall)
        unfolding timed
        timed_alike is out shall b e =
            rw (← b, ← e, same_gate) (of_same_checks (gate w bad now) _ _ _ _ refused_alike (let_through_alike now out))

        kept_alike : (is : Bool) (came left had shall : List ℕ) → bad ≡ is → came ≡ had → left ≡ shall → kept p bad now came left ≡ kept w is now had shall
        unfolding kept
        kept_alike is came left had shall b e k = rw (← b, ← e, ← k, same_gate) refl

      -- a call without a time
      timeless_alike : (bad is : Bool) (out shall : Out) → bad ≡ is → out ≡ shall → AnsweredAlike latest (timeless p bad out) (timeless w is shall)
      unfolding timeless timeless_gate
      timeless_alike bad is out shall b e =
          rw (← b, ← e, u, v) (of_same_checks _ _ _ _ _ refused_alike (let_through_alike 0 out))

-- equal answers are alike
equal_alike : (latest : ℕ) (a b : Result Answer Error) → a ≡ b → Alike latest a b
equal_alike latest a b e = rw e (equal b)

-- two deadlines of one control
later_of : (x y : Bool) (at p w latest : ℕ) → ltb at p ≡ x → ltb at w ≡ y → p ≤ latest → w ≤ latest
    → Alike latest (Ok (Deadline (Some (choose x p at)))) (Ok (Deadline (Some (choose y w at))))
unfolding choose
later_of true true at p w latest e f a b = come p w a b
later_of true false at p w latest e f a b = come p at a (let z : at < p = ltb-true at p e in omega arith)
later_of false true at p w latest e f a b = come at w (let z : at < w = ltb-true at w f in omega arith) b
later_of false false at p w latest e f a b = equal (Ok (Deadline (Some at)))

by_deadline : (next : Option ℕ) (p w latest : ℕ) → p ≤ latest → w ≤ latest → Alike latest (Ok (Deadline (not_before next p))) (Ok (Deadline (not_before next w)))
unfolding not_before case_option
by_deadline None p w latest a b = equal (Ok (Deadline None))
by_deadline (Some at) p w latest a b = later_of (ltb at p) (ltb at w) at p w latest refl refl a b

by_queue : (ended quiet : Bool) (next : Option ℕ) (p w latest : ℕ) → p ≤ latest → w ≤ latest
    → Alike latest (Ok (Deadline (choose ended None (choose quiet (not_before next p) (Some p))))) (Ok (Deadline (choose ended None (choose quiet (not_before next w) (Some w)))))
unfolding choose
by_queue true quiet next p w latest a b = equal (Ok (Deadline None))
by_queue false true next p w latest a b = by_deadline next p w latest a b
by_queue false false next p w latest a b = come p w a b

deadlines_alike : (c : Control) (p w latest : ℕ) → p ≤ latest → w ≤ latest → Alike latest (Ok (Deadline (poll_timeout c p))) (Ok (Deadline (poll_timeout c w)))
unfolding poll_timeout
deadlines_alike c p w latest a b = by_queue (expired_control c) (ring_is_empty c.events) (next_deadline c) p w latest a b

-- the deadline leaves the tunnel as it was
pub deadline_still : (t : Tunnel) → undamaged t ≡ true → (call_deadline t).tunnel ≡ t
unfolding call_deadline timeless timeless_gate let_through case_result choose
deadline_still t u = rw u refl

module _ {latest : ℕ} {p w : World} (h : Twins latest p w) (u : undamaged p.tunnel ≡ true) (v : undamaged w.tunnel ≡ true) where
  plain_pair : (a b : Answered) → AnsweredAlike latest a b → Pair latest (plain p.store a) (plain w.store b)
  plain_pair a b k =
      record {
        same = record { answers = equal_alike _ _ _ k.answer; verdicts = refl; skips = refl; stores = h.store; heard = heard_alike k.tunnels };
        twins = record { tunnels = k.tunnels; store = h.store };
      }

  turn_pair : (bad is : Bool) (now : ℕ) (turn shall : Turn) → latest ≤ now → bad ≡ is → turn ≡ shall
      → Pair latest (stored (timed_turn p.tunnel bad now p.store turn)) (stored (timed_turn w.tunnel is now w.store shall))
  unfolding timed_turn
  turn_pair bad is now turn shall l b e =
      let k = timed_alike h.tunnels u v bad now l is turn.out shall.out b (ap (λ (x : Turn). x.out) e) in
      let s = kept_alike h.tunnels u v bad now l is p.store turn.store w.store shall.store b h.store (ap (λ (x : Turn). x.store) e) in
      record {
        same = record { answers = equal_alike _ _ _ k.answer; verdicts = refl; skips = refl; stores = s; heard = heard_alike k.tunnels };
        twins = record { tunnels = k.tunnels; store = s };
      }

  batch_pair : (bad is : Bool) (now : ℕ) (verdicts skips : List ℕ) (batch shall : Batched Out) → latest ≤ now → bad ≡ is → batch ≡ shall
      → Pair latest (batched (timed_batch p.tunnel bad now p.store verdicts skips batch)) (batched (timed_batch w.tunnel is now w.store verdicts skips shall))
  unfolding timed_batch
  batch_pair bad is now verdicts skips batch shall l b e =
      let k = timed_alike h.tunnels u v bad now l is batch.out shall.out b (ap (λ (x : Batched Out). x.out) e) in
      let s = kept_alike h.tunnels u v bad now l is p.store batch.store w.store shall.store b h.store (ap (λ (x : Batched Out). x.store) e) in
      let z = kept_alike h.tunnels u v bad now l is verdicts batch.verdicts verdicts shall.verdicts b refl (ap (λ (x : Batched Out). x.verdicts) e) in
      let j = kept_alike h.tunnels u v bad now l is skips batch.skips skips shall.skips b refl (ap (λ (x : Batched Out). x.skips) e) in
      record {
        same = record { answers = equal_alike _ _ _ k.answer; verdicts = z; skips = j; stores = s; heard = heard_alike k.tunnels };
        twins = record { tunnels = k.tunnels; store = s };
      }

  timed_pair : (bad is : Bool) (now : ℕ) (out shall : Out) → latest ≤ now → bad ≡ is → out ≡ shall
      → Pair latest (plain p.store (timed p.tunnel bad now out)) (plain w.store (timed w.tunnel is now shall))
  timed_pair bad is now out shall l b e = plain_pair _ _ (timed_alike h.tunnels u v bad now l is out shall b e)

  -- the deadline
  deadline_pair : Pair latest (plain p.store (call_deadline p.tunnel)) (plain w.store (call_deadline w.tunnel))
  deadline_pair =
      record {
        same =
            record {
              answers =
                  rw (deadline_still w.tunnel v, (deadline_law p.tunnel).answer u, (deadline_law w.tunnel).answer v, h.tunnels.control)
                  (deadlines_alike w.tunnel.control _ _ _
                  (let a = (undamaged_law.facts p.tunnel u).updated in let b = h.tunnels.older in omega arith)
                  (undamaged_law.facts w.tunnel v).updated);
              verdicts = refl;
              skips = refl;
              stores = h.store;
              heard = rw (deadline_still p.tunnel u, deadline_still w.tunnel v) (heard_alike h.tunnels);
            };
        twins = record { tunnels = rw (deadline_still p.tunnel u, deadline_still w.tunnel v) h.tunnels; store = h.store };
      }

  -- every call
  pub calls_alike : (call : Call) → NotEarlier latest call → Pair latest (step p call) (step w call)
  unfolding step time_of call_start call_restart call_send call_receive call_look call_initiation call_response call_cookie call_timeout call_settle call_event call_missing
  calls_alike (start now) l = timed_pair _ _ now _ _ (l now refl) refl (ap (λ (c : Control). start_handshake c now) h.tunnels.control)
  calls_alike (restart now) l = timed_pair _ _ now _ _ (l now refl) refl (ap (λ (c : Control). restart_handshake c now) h.tunnels.control)
  calls_alike (send count now) l = timed_pair _ _ now _ _ (l now refl) refl (ap (λ (c : Control). encapsulate.send c count now) h.tunnels.control)
  calls_alike (receive index id now counters kinds verdicts skips) l =
      batch_pair _ _ now verdicts skips _ _ (l now refl) (ap (λ (s : List ℕ). bad_batch s counters kinds verdicts skips) h.store)
      (ap₂ (λ (c : Control) (s : List ℕ). decapsulate.commit_decapsulate c s index id now counters kinds verdicts skips) h.tunnels.control h.store)
  calls_alike (look index counter now) l =
      timed_pair _ _ now _ _ (l now refl) (ap lacking h.store)
      (ap₂ (λ (c : Control) (s : List ℕ). decapsulate.begin_decapsulate c s index counter now) h.tunnels.control h.store)
  calls_alike (initiation peer outcome now) l =
      turn_pair _ _ now _ _ (l now refl) (ap (bad_outcome (initiation_outcome outcome)) h.store)
      (ap₂ (λ (c : Control) (s : List ℕ). handle_handshake_initiation c s peer (named_of (initiation_outcome outcome)) now) h.tunnels.control h.store)
  calls_alike (response receiver peer outcome now) l =
      turn_pair _ _ now _ _ (l now refl) (ap (bad_outcome (opening_outcome outcome)) h.store)
      (ap₂ (λ (c : Control) (s : List ℕ). handle_handshake_response c s receiver peer (named_of (opening_outcome outcome)) now) h.tunnels.control h.store)
  calls_alike (cookie receiver outcome now) l =
      timed_pair _ _ now _ _ (l now refl) refl (ap (λ (c : Control). handle_cookie_reply c receiver (named_of (opening_outcome outcome)) now) h.tunnels.control)
  calls_alike (timeout jitter now) l =
      turn_pair _ _ now _ _ (l now refl) (ap (bad_jitter jitter) h.store)
      (ap₂ (λ (c : Control) (s : List ℕ). handle_timeout c s jitter now) h.tunnels.control h.store)
  calls_alike (settle jitter now) l =
      turn_pair _ _ now _ _ (l now refl) (ap (bad_jitter jitter) h.store)
      (ap₂ (λ (c : Control) (s : List ℕ). settling.settle c s jitter now) h.tunnels.control h.store)
  calls_alike event l = plain_pair _ _ (timeless_alike h.tunnels u v _ _ _ _ refl (ap poll_event h.tunnels.control))
  calls_alike deadline l = deadline_pair
  calls_alike (missing index) l =
      plain_pair _ _
      (timeless_alike h.tunnels u v _ _ _ _ (ap lacking h.store)
      (ap₂ (λ (c : Control) (s : List ℕ). missing_report c s index) h.tunnels.control h.store))
