-- Demand 2, sending: the counters that a session grants are 0, 1, 2 on, the keepalives polled are those of wakings and settlings, and a send is
-- answered by what the current session has left.
-- Assumes nothing.
use mathlib.Core.Path.{◌≡◌, refl, ap, sym, ◌∙◌}
use mathlib.Core.Bool.{true}
use mathlib.Core.List.{List, [], ◌∷◌}
use Prim.Native.Nat.{ℕ, ◌+◌, ◌-◌, ◌^◌, ◌≤◌, ◌<◌}
use native.Mathlib.Omega.{arith}
use lib.ListN.{length, get_or}
use borrow.Author.Tests.{ne_eqb}
use Rattle.base.proofs.Counting.{length-up_from, up_from-at}
use Rattle.base.specs.Lists.{up_from}
use Rattle.demands.proofs.After.{past_of, known_run}
use Rattle.demands.proofs.Gated.{gate_open, timed_open, alive_test, ended_test, eleven_ended, ended_eleven}
use Rattle.demands.proofs.Grown.{grown, none_current}
use Rattle.demands.proofs.Held.{Runs, message_in}
use Rattle.demands.proofs.Known.{Known}
use Rattle.demands.proofs.Peers.{sends, wakes}
use Rattle.demands.proofs.Queued.{queue_polls}
use Rattle.demands.proofs.Ran.{ran_created}
use Rattle.demands.proofs.Sendable.{current_message, current_counter, Meets, meets_may, may_meets, send_granted, send_twelve}
use Rattle.demands.specs.Calls.Call.{send}
use Rattle.demands.specs.Calls.{Call, World, step, Creation, created, Good, Expired}
use Rattle.demands.specs.Made.{Insertion, inserted, insertions, message_of}
use Rattle.demands.specs.Sending.{current_in, woken_grants, grants, polled, world_after, made_by, granted_to, CanSend, send_after, Sending}
use Rattle.demands.specs.Wakings.{Ran, ran_new, ran_after}
use Rattle.sessions.proofs.Laws.{lookup_law}
use Rattle.sessions.specs.Laws.{MaySend}
use Rattle.sessions.specs.Range.{range}
use Rattle.sessions.specs.Sessions.{current_of}
use Rattle.sessions.specs.declared.session.Session.{Session}
use Rattle.tunnel.specs.Answer.{number_of, values_of}
use Rattle.tunnel.specs.Damage.{undamaged}
use Rattle.tunnel.specs.Encapsulate as encapsulate
use Rattle.tunnel.specs.Numbers.{Alive}
use Rattle.tunnel.specs.Tunnel.{call_send}
use Rattle.tunnel.specs.declared.answer.Answer.TheVariants.{Granted}
use Rattle.tunnel.specs.declared.answer.Answer.{Answer}
use Rattle.std.specs.Prelude.{None, Some, Result, Ok}
use Rattle.error.specs.declared.Error.{Error}

-- counters that run are the first ones, below LIMIT
module _ (l : List ℕ) (r : Runs l) where
  runs_long : length l ≡ r.count
  runs_long = ap length r.are ∙ length-up_from 0 r.count

  runs_counts : l ≡ up_from 0 (length l)
  runs_counts = r.are ∙ ap (λ (i : ℕ). up_from 0 i) (sym runs_long)

  runs_below : (i : ℕ) → i < length l → get_or l i 0 < 2 ^ 64 - 8193
  runs_below i low =
      let at : get_or l i 0 ≡ 0 + i = ap (λ (m : List ℕ). get_or m i 0) r.are ∙ up_from-at 0 r.count i (omega (arith, low, runs_long)) in
      omega (arith, at, low, runs_long, r.below)

-- the answer of a send that the checks let through
module _ (w : World) (u : undamaged w.tunnel ≡ true) (count now : ℕ) (some : 1 ≤ count) (timely : now ≤ 4000000000000000000)
    (onward : w.tunnel.greatest ≤ now) where
  send_open : (step w (send count now)).answer ≡ (encapsulate.send w.tunnel.control count now).answer
  unfolding step call_send
  send_open =
      timed_open w.tunnel _ now _ (gate_open w.tunnel _ now u (ne_eqb count 0 (λ z. omega (arith, z, some))) timely onward)

-- what a granted range says
module _ (answer : Result Answer Error) (peer first count : ℕ) (e : answer ≡ Ok (Granted (range peer first count))) where
  granted_number : number_of answer ≡ 0
  unfolding number_of
  granted_number = rw e refl

  granted_values : values_of answer ≡ peer ∷ first ∷ count ∷ []
  unfolding values_of
  granted_values = rw e refl

same_values : (a b c d n : ℕ) → a ≡ b → c ≡ d → b ∷ d ∷ n ∷ [] ≡ a ∷ c ∷ n ∷ []
same_values a b c d n p q = cc

got_nothing : (x : Session) → Some x ≡ None → ⊥
got_nothing x e = cc

module _ (c : Creation) (good : Good c) (calls : List Call) (few : insertions (made_by c calls) < 2 ^ 64) where
  abbrev here : World
  here = world_after c calls

  known : Known (inserted (made_by c calls)) (λ id. past_of id (created c) calls) (grants (made_by c calls)) (woken_grants (made_by c calls))
      (polled (made_by c calls)) here.tunnel.control here.store
  known = known_run c good calls few

  -- the session that is current by the Rust's calls is the tunnel's
  current_here : (x : Session) → current_of (ran_after (ran_new c) calls).control.sessions ≡ Some x → current_in here ≡ Some x
  current_here x e = ap (λ (r : Ran). current_of r.control.sessions) (sym (ran_created c good calls)) ∙ e

  current_ran : (x : Session) → current_in here ≡ Some x → current_of (ran_after (ran_new c) calls).control.sessions ≡ Some x
  current_ran x e = ap (λ (r : Ran). current_of r.control.sessions) (ran_created c good calls) ∙ e

  module _ (x : Session) (current : current_in here ≡ Some x) where
    message_is : message_of x.id (made_by c calls) ≡ message_in x
    message_is = current_message _ _ _ here.tunnel.control.sessions here.store known.held x current

    counter_is : granted_to x.id (made_by c calls) ≡ x.sending_key_counter
    counter_is = current_counter _ _ _ here.tunnel.control.sessions here.store known.held x current

    -- a tunnel with a current session is not expired
    alive : Alive here.tunnel
    alive e = got_nothing x (sym current ∙ none_current c good calls e)

  module _ (count now : ℕ) where
    -- a send that a session can meet
    can_meets : (can : CanSend c calls count now)
        → Meets (message_of can.current.0.id (made_by c calls)) (granted_to can.current.0.id (made_by c calls)) count now
    can_meets can = record { prompt = can.prompt; young = can.young; left = can.left }

    can_granted : (can : CanSend c calls count now)
        → send_after c calls count now ≡ Ok (Granted (range can.current.0.sending_index can.current.0.sending_key_counter count))
    can_granted can =
        let x : Session = can.current.0 in
        let e : current_in here ≡ Some x = current_here x can.current.1 in
        let n : granted_to x.id (made_by c calls) ≡ x.sending_key_counter = counter_is x e in
        let may : MaySend x now = meets_may x _ _ count now (message_is x e) n can.some (can_meets can) in
        send_open here (grown c good calls) count now can.some can.timely can.onward
        ∙ send_granted here.tunnel.control count now x ((lookup_law here.tunnel.control.sessions).sends now x e may)
        (omega (arith, n, can.left)) (alive_test here.tunnel (alive x e))

    met : (can : CanSend c calls count now) → (number_of (send_after c calls count now) ≡ 0)
        × (values_of (send_after c calls count now)
        ≡ (message_of can.current.0.id (made_by c calls)).peer ∷ granted_to can.current.0.id (made_by c calls) ∷ count ∷ [])
    met can =
        let x : Session = can.current.0 in
        let e : current_in here ≡ Some x = current_here x can.current.1 in (
          granted_number _ _ _ _ (can_granted can),
          granted_values _ _ _ _ (can_granted can) ∙ same_values _ _ _ _ count (ap (λ (m : Insertion). m.peer) (message_is x e)) (counter_is x e),
        )

    eleven : number_of (send_after c calls count now) ≡ 11 → Expired here
    eleven e = ended_eleven here (grown c good calls) (eleven_ended here count now e)

    twelve : number_of (send_after c calls count now) ≡ 12 → CanSend c calls count now → ⊥
    twelve e can = omega (arith, e, (met can).0)

    -- one that no session can meet
    module _ (some : 1 ≤ count) (timely : now ≤ 4000000000000000000) (onward : here.tunnel.greatest ≤ now) where
      can_send_lem : (x : Session) → current_in here ≡ Some x → MaySend x now → x.sending_key_counter + count ≤ 2 ^ 64 - 8193 → CanSend c calls count now
      can_send_lem x e may below =
          let m : Meets (message_of x.id (made_by c calls)) (granted_to x.id (made_by c calls)) count now =
          may_meets x _ _ count now (message_is x e) (counter_is x e) may below in
          record {
            some = some;
            timely = timely;
            onward = onward;
            current = (x, current_ran x e);
            prompt = m.prompt;
            young = m.young;
            left = m.left;
          }

      otherwise : (Expired here → ⊥) → (CanSend c calls count now → ⊥) → number_of (send_after c calls count now) ≡ 12
      otherwise living cannot =
          ap number_of (send_open here (grown c good calls) count now some timely onward)
          ∙ send_twelve here.tunnel.control count now (λ e. living (ended_eleven here (grown c good calls) (ended_test here.tunnel e)))
          (λ x e may below. cannot (can_send_lem x e may below))

pub sending_law : Sending
sending_law c good calls few =
    let y : Known _ _ _ _ _ _ _ = known c good calls few in
    record {
      counts = λ id. runs_counts _ (y.held.runs id);
      below = λ id. runs_below _ (y.held.runs id);
      sends = sends (world_after c calls) _ _ _ _ _ y;
      wakes = wakes (world_after c calls) _ _ _ _ _ y;
      polls = queue_polls _ _ _ y.queue;
      met = met c good calls few;
      eleven = eleven c good calls few;
      twelve = twelve c good calls few;
      otherwise = otherwise c good calls few;
    }
