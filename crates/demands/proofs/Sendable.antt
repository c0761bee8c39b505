-- The current session and a send: its handshake message and the counters granted so far tell whether it may send and what it answers.
-- Assumes nothing.
use mathlib.Core.Path.{◌≡◌, refl, ap, ◌∙◌}
use mathlib.Core.Bool.{true, false}
use mathlib.Core.List.{List}
use Prim.Native.Nat.{ℕ, ◌+◌, ◌-◌, ◌^◌, ◌≤◌, ◌<◌}
use native.Mathlib.Omega.{arith}
use lib.ListN.{length}
use Rattle.base.specs.Choice.{choose, case_option, case_pair}
use Rattle.base.proofs.Choice.{known_choice, known_option, known_pair}
use Rattle.base.proofs.Counting.{length-up_from}
use Rattle.demands.proofs.Granting.{reserved}
use Rattle.demands.proofs.Held.{Past, message_in, insertion_at, SlotHeld, Held, held_found}
use Rattle.demands.specs.Made.{Insertion}
use Rattle.demands.specs.Sending.{Grant, counters_of}
use Rattle.sessions.proofs.Laws.{lookup_law, reserve_law}
use Rattle.sessions.specs.Cases.{case_role}
use Rattle.sessions.specs.Index.{slot_of}
use Rattle.sessions.specs.Laws.{MaySend}
use Rattle.sessions.specs.Range.{range}
use Rattle.sessions.specs.Session.{prepare_packet_data, reserve_counters, with_counter}
use Rattle.sessions.specs.Sessions.{current_of, sending_session}
use Rattle.sessions.specs.Store.{slot_words}
use Rattle.sessions.specs.declared.session.Role.TheVariants.{Initiator, Responder}
use Rattle.sessions.specs.declared.session.Role.{Role}
use Rattle.sessions.specs.declared.session.Session.{Session}
use Rattle.sessions.specs.declared.sessions.Sessions.{Sessions}
use Rattle.tunnel.specs.Answer.{number_of}
use Rattle.tunnel.specs.Control.{refuse, done, expired_control}
use Rattle.tunnel.specs.Encapsulate.{finish_encapsulate, grant, send}
use Rattle.tunnel.specs.declared.answer.Answer.TheVariants.{Granted}
use Rattle.tunnel.specs.declared.control.Control.{Control}
use Rattle.tunnel.specs.declared.control.Out.{Out}
use Rattle.std.specs.Prelude.{Some, Ok}

-- what is known of the current session
module _ (ins : List Insertion) (h : ℕ → Past) (g : List Grant) (s : Sessions) (store : List ℕ) (w : Held ins h g s store) (x : Session)
    (current : current_of s ≡ Some x) where
  its_slot : SlotHeld ins h g (slot_of x.receiving_index) x (slot_words store (slot_of x.receiving_index))
  its_slot = held_found ins h g s store w x.receiving_index x ((lookup_law s).current x current)

  -- its handshake message is that of its id
  pub current_message : insertion_at ins x.id ≡ message_in x
  current_message = its_slot.message

  -- its send counter is the number of counters that it granted
  pub current_counter : length (counters_of x.id g) ≡ x.sending_key_counter
  current_counter = ap length its_slot.granted ∙ length-up_from 0 x.sending_key_counter

-- a session that can meet a send, by its handshake message and the number of counters that it granted
pub record Meets (message : Insertion) (granted count now : ℕ) : Type 0 where
  pub prompt : message.initiated ≡ true → now - message.at ≤ 170000000000
  pub young : message.initiated ≡ false → now - message.at < 180000000000
  pub left : granted + count ≤ 2 ^ 64 - 8193

module _ (x : Session) (message : Insertion) (granted count now : ℕ) (is : message ≡ message_in x) (counted : granted ≡ x.sending_key_counter) where
  at_is : message.at ≡ x.established_at
  at_is = ap (λ (m : Insertion). m.at) is

  of_role : (role : Role) → x.role ≡ role → message.initiated ≡ case_role role true false
  of_role role e = ap (λ (m : Insertion). m.initiated) is ∙ ap (λ (r : Role). case_role r true false) e

  by_initiator : x.role ≡ Initiator → message.initiated ≡ true
  unfolding case_role
  by_initiator e = of_role Initiator e

  by_responder : x.role ≡ Responder → message.initiated ≡ false
  unfolding case_role
  by_responder e = of_role Responder e

  -- such a session may send
  meets_young : (role : Role) → x.role ≡ role → Meets message granted count now → now < x.established_at + 180000000000
  meets_young Initiator e m = omega (arith, at_is, m.prompt (by_initiator e))
  meets_young Responder e m = omega (arith, at_is, m.young (by_responder e))

  pub meets_may : 1 ≤ count → Meets message granted count now → MaySend x now
  meets_may some m =
      record {
        counter = omega (arith, some, counted, m.left);
        young = meets_young x.role refl m;
        prompt = λ e. omega (arith, at_is, m.prompt (by_initiator e));
      }

  -- and one that may send and has the counters left can meet it
  initiator_by : (role : Role) → x.role ≡ role → message.initiated ≡ true → x.role ≡ Initiator
  initiator_by Initiator e t = e
  initiator_by Responder e t = let f : message.initiated ≡ false = by_responder e in cc

  pub may_meets : MaySend x now → x.sending_key_counter + count ≤ 2 ^ 64 - 8193 → Meets message granted count now
  may_meets m l =
      record {
        prompt = λ t. omega (arith, at_is, m.prompt (initiator_by x.role refl t));
        young = λ t. omega (arith, at_is, m.young);
        left = omega (arith, counted, l);
      }

module _ (c : Control) (count now : ℕ) where
  -- a session that may send and has the counters left answers its peer, its send counter and the count
  module _ (x : Session) (found : sending_session c.sessions now ≡ Some x) (below : x.sending_key_counter + count ≤ 2 ^ 64 - 8193)
      (alive : expired_control c ≡ false) where
    reserves : reserve_counters (prepare_packet_data x) count
        ≡ Some (x.sending_key_counter, (with_counter (prepare_packet_data x) (x.sending_key_counter + count)))
    unfolding prepare_packet_data
    reserves = (reserve_law (prepare_packet_data x) count).grants below

    pub send_granted : (send c count now).answer ≡ Ok (Granted (range x.sending_index x.sending_key_counter count))
    unfolding send grant finish_encapsulate case_option case_pair prepare_packet_data done choose
    send_granted = rw (alive, found, reserves) refl

  -- a send of a tunnel that is not expired gives 12 where no session may send that has the counters left
  pub send_twelve : (expired_control c ≡ true → ⊥)
      → ((x : Session) → current_of c.sessions ≡ Some x → MaySend x now → x.sending_key_counter + count ≤ 2 ^ 64 - 8193 → ⊥)
      → number_of (send c count now).answer ≡ 12
  unfolding send grant finish_encapsulate refuse number_of prepare_packet_data
  send_twelve alive cannot =
      known_choice (λ (o : Out). number_of o.answer ≡ 12) (expired_control c) _ _ (λ e. absurd (alive e))
      (λ e. known_option (λ (o : Out). number_of o.answer ≡ 12) (sending_session c.sessions now) _ _ refl
      (λ x p. known_pair (λ (o : Out). number_of o.answer ≡ 12) (reserve_counters (prepare_packet_data x) count) _ _ refl
      (λ first y q. absurd
      (cannot x ((lookup_law c.sessions).sending now x p).0 ((lookup_law c.sessions).sending now x p).1
      (reserved (prepare_packet_data x) count first y q).below))))
