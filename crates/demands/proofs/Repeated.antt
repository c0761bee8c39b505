-- A single waking keeps what is known, with its grant added, and so do the wakings that a settling repeats.
-- Assumes nothing.
use mathlib.Core.Path.{◌≡◌, refl, sym}
use mathlib.Core.List.{List, [], ◌∷◌, ◌++◌, append_assoc, append-nil}
use Prim.Native.Nat.{ℕ}
use Rattle.base.proofs.Choice.{of_choice}
use Rattle.demands.proofs.Gated.{of_turn}
use Rattle.demands.proofs.Held.{Past}
use Rattle.demands.proofs.Known.{Known, Plain, plain_of, known_as}
use Rattle.demands.proofs.Queued.{queue_push, queue_granted, put_none, put_pushed}
use Rattle.demands.proofs.Waked.Waked.{silent, queues, grants}
use Rattle.demands.proofs.Waked.{Waked, From, woken}
use Rattle.demands.specs.Calls.Call.{timeout}
use Rattle.demands.specs.Calls.{Call, World, Reply, stored, step}
use Rattle.demands.specs.Made.{case_answer, Insertion}
use Rattle.demands.specs.Sending.{Grant, granting, current_in, put_by, keepalive_by, waking_grant, waking_grants, PolledKeepalive}
use Rattle.sessions.specs.declared.session.Session.{Session}
use Rattle.tunnel.specs.Cases.{case_event}
use Rattle.tunnel.specs.Control.{Turn, done}
use Rattle.tunnel.specs.HandleTimeout.{handle_timeout}
use Rattle.tunnel.specs.RingBuffer.{push_back}
use Rattle.tunnel.specs.Settled.Repeats.{rests, wakes}
use Rattle.tunnel.specs.Settled.{Repeats}
use Rattle.tunnel.specs.Tunnel.{Called, refused, let_through, call_timeout}
use Rattle.tunnel.specs.declared.event.Event.TheVariants.{SendKeepalive}
use Rattle.tunnel.specs.declared.event.Event.{Event}
use Rattle.tunnel.specs.declared.tunnel.Tunnel.{Tunnel}
use Rattle.base.specs.Choice.{case_option}
use Rattle.std.specs.Prelude.{Some, None, Option}
use Rattle.error.specs.declared.Error.{Error}

module _ (ins : List Insertion) (h : ℕ → Past) (g k : List Grant) (polls : List PolledKeepalive) (w : World)
    (y : Known ins h g k polls w.tunnel.control w.store) (jitter now : ℕ) where
  abbrev waking : Call
  waking = timeout jitter now

  -- what a waking does, with its answer
  pub record OneWaking (reply : Reply) : Type 0 where
    pub waked : Waked w.tunnel.control w.store reply.world.tunnel.control reply.world.store
    pub plain : Plain reply.answer

  from_here : From w.tunnel.control w.store w.tunnel.control.sessions w.tunnel.control.events w.store
  from_here = record { held = λ m i f z. z; ring = refl; current = λ x e. e; eight = y.held.eight; size = y.held.size }

  same_waked : Waked w.tunnel.control w.store w.tunnel.control w.store
  same_waked = silent (λ m i f z. z) refl

  -- one that the checks let through, and one turned down
  abbrev let_through_lem : Turn → Reply
  let_through_lem t = stored (record { answered = let_through w.tunnel now t.out; store = t.store })

  woke_through : OneWaking (let_through_lem (handle_timeout w.tunnel.control w.store jitter now))
  unfolding handle_timeout let_through done case_answer
  woke_through =
      of_choice (λ (t : Turn). OneWaking (let_through_lem t)) _ _ _ (record { waked = same_waked; plain = plain_of _ refl })
      (record { waked = woken w.tunnel.control w.store jitter now from_here; plain = plain_of _ refl })

  turned_down : (e : Error) → OneWaking (stored (record { answered = refused w.tunnel e; store = w.store }))
  unfolding refused case_answer
  turned_down e = record { waked = same_waked; plain = plain_of _ refl }

  pub woke_step : OneWaking (step w waking)
  unfolding step call_timeout
  woke_step = of_turn (λ (c : Called). OneWaking (stored c)) w.tunnel _ now w.store _ (λ z. woke_through) turned_down

  -- the event that it puts last into the ring, and its grant
  pub pushed : (e : Event) → (step w waking).world.tunnel.control.events ≡ push_back w.tunnel.control.events e → put_by w waking ≡ Some e
  pushed e p = rw p (put_pushed w.tunnel.control.events e y.queue.ring)

  empty_none : keepalive_by (current_in w) None ≡ []
  unfolding keepalive_by case_option
  empty_none = refl

  ungranted : (e : Option Event) → put_by w waking ≡ e → keepalive_by (current_in w) e ≡ [] → waking_grant w jitter now ≡ []
  unfolding waking_grant
  ungranted e p q = rw p q

  granted : (x : Session) (peer first : ℕ) → put_by w waking ≡ Some (SendKeepalive peer first) → current_in w ≡ Some x
      → waking_grant w jitter now ≡ granting x.id peer first 1 ∷ []
  unfolding waking_grant keepalive_by case_event case_option
  granted x peer first p q = rw (p, q)

  -- what is known after it
  abbrev After : List Grant → Type 0
  After more = Known ins h (g ++ more) (k ++ more) polls (step w waking).world.tunnel.control (step w waking).world.store

  none_more : waking_grant w jitter now ≡ [] → Known ins h g k polls (step w waking).world.tunnel.control (step w waking).world.store
      → After (waking_grant w jitter now)
  none_more e v = known_as ins _ h g _ k _ polls _ _ _ refl (rw e (append-nil g)) (rw e (append-nil k)) refl v

  of_waked : Waked w.tunnel.control w.store (step w waking).world.tunnel.control (step w waking).world.store → After (waking_grant w jitter now)
  of_waked (silent v e) =
      none_more (ungranted None (put_none _ _ e) empty_none) (record { held = v ins h g y.held; queue = rw e y.queue })
  of_waked (queues ev u v e) =
      none_more (ungranted (Some ev) (pushed ev e) (u.grants _))
      (record { held = v ins h g y.held; queue = rw e (queue_push k polls _ y.queue ev u.granted) })
  of_waked (grants x peer first q r v e) =
      rw (granted x peer first (pushed _ e) q)
      (record { held = v ins h g k polls y; queue = rw e (queue_granted k polls _ y.queue x.id peer first) })

  pub known_waking : After (waking_grant w jitter now)
  known_waking = of_waked woke_step.waked

-- what is known after the wakings of a repetition
pub known_repeated : {jitter now wakings : ℕ} {t last : Tunnel} {store left : List ℕ} → Repeats jitter now t store wakings last left
    → (ins : List Insertion) (h : ℕ → Past) (g k : List Grant) (polls : List PolledKeepalive) → Known ins h g k polls t.control store
    → Known ins h (g ++ waking_grants wakings (record { tunnel = t; store = store }) jitter now)
    (k ++ waking_grants wakings (record { tunnel = t; store = store }) jitter now) polls last.control left
unfolding waking_grants step
known_repeated (rests l) ins h g k polls y = known_as ins _ h g _ k _ polls _ _ _ refl (append-nil g) (append-nil k) refl y
known_repeated (wakes c r) ins h g k polls y =
    known_as ins _ h _ _ _ _ polls _ _ _ refl (sym (append_assoc g _ _)) (sym (append_assoc k _ _)) refl
    (known_repeated r ins h _ _ polls (known_waking ins h g k polls _ y _ _))
