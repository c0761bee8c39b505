-- Whose a grant is: a send's range and a waking's keepalive name the peer of the current session's handshake message.
-- Assumes nothing.
use mathlib.Core.Path.{◌≡◌, sym, ap, ◌∙◌}
use mathlib.Core.List.{List, []}
use Prim.Native.Nat.{ℕ}
use Rattle.base.proofs.Choice.{of_result}
use Rattle.demands.proofs.Granting.Sends.{none, some}
use Rattle.demands.proofs.Granting.{Sends, sends_some}
use Rattle.demands.proofs.Held.{Past, insertion_at}
use Rattle.demands.proofs.Known.{Known}
use Rattle.demands.proofs.Queued.{keepalive_in, put_none}
use Rattle.demands.proofs.Sendable.{current_message}
use Rattle.demands.proofs.Repeated.{pushed, woke_step}
use Rattle.demands.proofs.Waked.Waked.{silent, queues, grants}
use Rattle.demands.proofs.Waked.{Waked}
use Rattle.demands.specs.Calls.Call.{send, timeout}
use Rattle.demands.specs.Calls.{World, step}
use Rattle.demands.specs.Made.{case_answer, Insertion}
use Rattle.demands.specs.Sending.{Grant, current_in, put_by, PolledKeepalive, polled_by}
use Rattle.sessions.specs.declared.range.Range.{Range}
use Rattle.sessions.specs.declared.session.Session.{Session}
use Rattle.tunnel.specs.Cases.{case_event}
use Rattle.tunnel.specs.Tunnel.{refused, let_through, timed, call_send}
use Rattle.tunnel.specs.declared.answer.Answer.TheVariants.{Granted}
use Rattle.tunnel.specs.declared.control.Out.{Out}
use Rattle.tunnel.specs.declared.event.Event.TheVariants.{SendKeepalive}
use Rattle.tunnel.specs.declared.tunnel.Answered.{Answered}
use Rattle.std.specs.Prelude.{Some, None, Result, Ok}
use Rattle.error.specs.declared.Error.{Error}
use Rattle.base.specs.Choice.{case_option}
use Rattle.tunnel.specs.declared.answer.Answer.{Answer}

module _ (w : World) (ins : List Insertion) (h : ℕ → Past) (g k : List Grant) (polls : List PolledKeepalive)
    (y : Known ins h g k polls w.tunnel.control w.store) where
  abbrev pub Whose : ℕ → Type 0
  Whose peer = (session : Session) × (current_in w ≡ Some session) × ((insertion_at ins session.id).peer ≡ peer)

  -- the peer of the current session's handshake message
  its_peer : (x : Session) → current_in w ≡ Some x → (insertion_at ins x.id).peer ≡ x.sending_index
  its_peer x e = ap (λ (m : Insertion). m.peer) (current_message ins h g w.tunnel.control.sessions w.store y.held x e)

  -- a send
  granted_same : (a b : Range) → ◌≡◌ {A = Result Answer Error} (Ok (Granted a)) (Ok (Granted b)) → a ≡ b
  granted_same a b e = cc

  of_sends : (out : Out) (range : Range) → Sends w.tunnel.control w.store out → out.answer ≡ Ok (Granted range) → Whose range.peer
  of_sends out range (none i) e = absurd (i.plain.ungranted range e)
  of_sends out range (some x peer first len v q) e =
      (x, v.current, its_peer x v.current ∙ v.peer_is ∙ ap (λ (r : Range). r.peer) (granted_same _ range (sym q ∙ e)))

  refused_none : (error : Error) (range : Range) → (refused w.tunnel error).answer ≡ Ok (Granted range) → Whose range.peer
  unfolding refused
  refused_none error range e = cc

  pub sends : (count now : ℕ) (range : Range) → (step w (send count now)).answer ≡ Ok (Granted range) → Whose range.peer
  unfolding step call_send timed let_through
  sends count now range =
      of_result (λ (a : Answered). a.answer ≡ Ok (Granted range) → Whose range.peer) _ _ _ (λ e. refused_none e range)
      (λ good. of_sends _ range (sends_some w.tunnel.control w.store count now))

  -- a waking
  keepalive_peer : (a b x y : ℕ) → Some (SendKeepalive a b) ≡ Some (SendKeepalive x y) → a ≡ x
  keepalive_peer a b x y e = cc

  keepalive_some : (peer counter : ℕ) → keepalive_in (Some (SendKeepalive peer counter)) ≡ [] → ⊥
  unfolding polled_by case_answer case_option case_event
  keepalive_some peer counter e = cc

  module _ (jitter now peer counter : ℕ) where
    of_waked : Waked w.tunnel.control w.store (step w (timeout jitter now)).world.tunnel.control (step w (timeout jitter now)).world.store
        → put_by w (timeout jitter now) ≡ Some (SendKeepalive peer counter) → Whose peer
    of_waked (silent v e) p =
        let q : Some (SendKeepalive peer counter) ≡ None = sym p ∙ put_none _ _ e in
        cc
    of_waked (queues ev u v e) p =
        absurd (keepalive_some peer counter (ap keepalive_in (sym (sym (pushed ins h g k polls w y jitter now ev e) ∙ p)) ∙ u.granted))
    of_waked (grants x to first q r v e) p =
        (x, q, its_peer x q ∙ r ∙ keepalive_peer to first peer counter (sym (pushed ins h g k polls w y jitter now _ e) ∙ p))

    pub wakes : put_by w (timeout jitter now) ≡ Some (SendKeepalive peer counter) → Whose peer
    wakes = of_waked (woke_step ins h g k polls w y jitter now).waked
