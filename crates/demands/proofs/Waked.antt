-- What is known after a waking: it puts at most one event into the ring, and a keepalive that it puts there is a grant of the current session.
-- Assumes nothing.
use mathlib.Core.Path.{◌≡◌, refl, ap, ◌∙◌}
use mathlib.Core.Bool.{Bool, false}
use mathlib.Core.List.{List, [], ◌∷◌, ◌++◌}
use Prim.Native.Nat.{ℕ}
use lib.ListN.{length}
use Rattle.base.proofs.Choice.{of_choice, of_option}
use Rattle.tunnel.specs.Control.{with_sessions, queueing}
use Rattle.tunnel.specs.InitiateHandshake.{initiate, initiating}
use Rattle.tunnel.specs.Cases.{case_event}
use Rattle.tunnel.specs.Encapsulate.{encrypt_keepalive}
use Rattle.tunnel.specs.declared.control.Control.{Control}
use Rattle.tunnel.specs.declared.encapsulate.Encrypted.{Encrypted}
use Rattle.demands.proofs.Granting.Encrypts.{skips, sends}
use Rattle.demands.proofs.Granting.{Encrypts, encrypts}
use Rattle.demands.proofs.Held.{Past, Held, held_carried}
use Rattle.demands.proofs.Known.{Known}
use Rattle.demands.proofs.Moves.{carried_next, Thinned, thinned_expire, thinned_clear}
use Rattle.demands.proofs.Queued.{keepalive_in}
use Rattle.demands.specs.Made.{case_answer, Insertion}
use Rattle.demands.specs.Sending.{Grant, granting, keepalive_by, PolledKeepalive, polled_by}
use Rattle.tunnel.specs.RingBuffer.{push_back}
use Rattle.tunnel.specs.declared.event.Event.TheVariants.{SendHandshakeInitiation, SendKeepalive, ConnectionExpired}
use Rattle.tunnel.specs.declared.event.Event.{Event}
use Rattle.tunnel.specs.declared.ring_buffer.RingBuffer.{RingBuffer}
use Rattle.sessions.specs.Sessions.{current_of, expire, clear}
use Rattle.sessions.specs.declared.session.Session.{Session}
use Rattle.sessions.specs.declared.sessions.Sessions.{Sessions}
use Rattle.tunnel.specs.HandleTimeout.{Inner, inner, clear_all, expire_control, scheduling, queue_keepalive, send_keepalive, keepalive_if_due, rekey_or_keepalive, give_up_or_retry, maintain_connection, expire_sessions, send_scheduled, handle_due}
use Rattle.base.specs.Choice.{case_option, case_pair}
use Rattle.std.specs.Prelude.{None, Option, Some}
use Rattle.error.specs.declared.Error.TheVariants.{ConnectionExpired}

-- an event that is no grant
pub record Ungranted (event : Event) : Type 0 where
  pub granted : keepalive_in (Some event) ≡ []
  pub grants : (found : Option Session) → keepalive_by found (Some event) ≡ []

initiation_none : (local : ℕ) → Ungranted (SendHandshakeInitiation local)
unfolding keepalive_by polled_by case_answer case_option case_event
initiation_none local = record { granted = refl; grants = λ found. refl }

module _ (c : Control) (store : List ℕ) where
  -- what a waking does: nothing to the ring, an event without a grant, or a keepalive that the current session grants
  pub data Waked (d : Control) (left : List ℕ) : Type 0 where
    silent : ((ins : List Insertion) (h : ℕ → Past) (g : List Grant) → Held ins h g c.sessions store → Held ins h g d.sessions left)
        → d.events ≡ c.events → Waked d left
    queues : (event : Event) → Ungranted event
        → ((ins : List Insertion) (h : ℕ → Past) (g : List Grant) → Held ins h g c.sessions store → Held ins h g d.sessions left)
        → d.events ≡ push_back c.events event → Waked d left
    grants : (x : Session) (peer first : ℕ) → current_of c.sessions ≡ Some x → x.sending_index ≡ peer
        → ((ins : List Insertion) (h : ℕ → Past) (g k : List Grant) (polls : List PolledKeepalive) → Known ins h g k polls c store
        → Held ins h (g ++ granting x.id peer first 1 ∷ []) d.sessions left)
        → d.events ≡ push_back c.events (SendKeepalive peer first) → Waked d left

  -- sessions, a ring and a store on the way, before anything is put into the ring
  pub record From (s : Sessions) (r : RingBuffer) (left : List ℕ) : Type 0 where
    pub held : (ins : List Insertion) (h : ℕ → Past) (g : List Grant) → Held ins h g c.sessions store → Held ins h g s left
    pub ring : r ≡ c.events
    pub current : (x : Session) → current_of s ≡ Some x → current_of c.sessions ≡ Some x
    pub eight : length s.slots ≡ 8
    pub size : length left ≡ 1024

  from_thinned : (s t : Sessions) (r : RingBuffer) (mid left : List ℕ) → From s r mid → Thinned s t mid left → From t r left
  from_thinned s t r mid left f y =
      record {
        held = λ ins h g w. held_carried ins h g s t mid left (f.held ins h g w) y.carried;
        ring = f.ring;
        current = λ x e. f.current x (y.current x e);
        eight = y.carried.eight ∙ f.eight;
        size = y.carried.size ∙ f.size;
      }

  -- the connection ended
  ended : (d : Control) (left : List ℕ) (now : ℕ) → From d.sessions d.events left
      → Waked (expire_control d left now).control (expire_control d left now).store
  unfolding expire_control clear_all queueing keepalive_by polled_by case_answer case_option case_event
  ended d left now f =
      let t : From (clear d.sessions left).sessions d.events (clear d.sessions left).store =
      from_thinned d.sessions _ d.events left _ f (thinned_clear d.sessions left now f.eight f.size) in
      queues ConnectionExpired
      (record { granted = refl; grants = λ found. refl })
      t.held (ap (λ (r : RingBuffer). push_back r ConnectionExpired) f.ring)

  -- a keepalive queued, if there is a session for it
  module _ (d : Control) (left : List ℕ) (now : ℕ) (f : From d.sessions d.events left) where
    of_keepalive : (e : Encrypted) → Encrypts d left e
        → Waked (case_pair e.keepalive e.control (λ peer counter. queueing e.control (SendKeepalive peer counter))) left
    unfolding case_pair queueing
    of_keepalive e (skips p q) = rw (q, p) (silent f.held f.ring)
    of_keepalive e (sends x peer first g q r) =
        rw q
        (grants x peer first (f.current x g.current) g.peer_is
        (λ ins h l k polls w. (g.known ins h l k polls (record { held = f.held ins h l w.held; queue = rw f.ring w.queue })).held)
        (ap (λ (y : RingBuffer). push_back y (SendKeepalive peer first)) (r ∙ f.ring)))

    queued_keepalive : Waked (queue_keepalive d now) left
    unfolding queue_keepalive
    queued_keepalive = of_keepalive (encrypt_keepalive d now) (encrypts d left now)

  module _ (left : List ℕ) (now : ℕ) where
    kept_alive : (d : Control) → From d.sessions d.events left → Waked (keepalive_if_due d now) left
    unfolding keepalive_if_due send_keepalive
    kept_alive d f = of_choice (λ (y : Control). Waked y left) _ _ _ (queued_keepalive _ left now f) (silent f.held f.ring)

    module _ (jitter : ℕ) (required : Bool) where
      scheduled : (d : Control) → From d.sessions d.events left → Waked (scheduling d jitter now) left
      unfolding scheduling
      scheduled d f = silent f.held f.ring

      idle : (d : Control) → From d.sessions d.events left → Waked (rekey_or_keepalive d required jitter now) left
      unfolding rekey_or_keepalive
      idle d f =
          of_choice (λ (y : Control). Waked y left) _ _ _ (scheduled d f)
          (of_choice (λ (y : Control). Waked y left) _ _ _ (scheduled d f) (kept_alive d f))

      progress : (d : Control) → From d.sessions d.events left
          → Waked (give_up_or_retry d left required jitter now).control (give_up_or_retry d left required jitter now).store
      unfolding give_up_or_retry
      progress d f =
          of_choice (λ (y : Inner). Waked y.control y.store) _ _ _ (ended d left now f)
          (of_choice (λ (y : Inner). Waked y.control y.store) _ _ _ (scheduled d f)
          (of_choice (λ (y : Inner). Waked y.control y.store) _ _ _ (scheduled d f) (silent f.held f.ring)))

      of_retry : (retry : Option ℕ) (d : Control) → From d.sessions d.events left
          → Waked
          (case_option retry (inner (rekey_or_keepalive d required jitter now) left) (λ at. give_up_or_retry d left required jitter now)).control
          (case_option retry (inner (rekey_or_keepalive d required jitter now) left) (λ at. give_up_or_retry d left required jitter now)).store
      unfolding case_option
      of_retry None d f = idle d f
      of_retry (Some at) d f = progress d f

      maintained : (d : Control) → From d.sessions d.events left
          → Waked (maintain_connection d left required jitter now).control (maintain_connection d left required jitter now).store
      unfolding maintain_connection
      maintained d f = of_choice (λ (y : Inner). Waked y.control y.store) _ _ _ (ended _ left now f) (of_retry _ _ f)

  module _ (jitter now : ℕ) (f : From c.sessions c.events store) where
    expired : Waked (expire_sessions c store jitter now).control (expire_sessions c store jitter now).store
    unfolding expire_sessions
    expired =
        let d : Control = with_sessions c (expire c.sessions store now).expired.sessions in
        let left : List ℕ = (expire c.sessions store now).store in
        let g : From d.sessions d.events left =
        from_thinned c.sessions _ c.events store _ f (thinned_expire c.sessions store now f.eight f.size) in
        of_option (λ (y : Inner). Waked y.control y.store) _ _ _ (maintained left now jitter false d g)
        (λ session. of_choice (λ (y : Inner). Waked y.control y.store) _ _ _ (ended d left now g) (maintained left now jitter _ d g))

    -- the scheduled handshake sent
    sent_scheduled : Waked (send_scheduled c now) store
    unfolding send_scheduled initiate initiating queueing
    sent_scheduled =
        queues _ (initiation_none _)
        (λ ins h g w. held_carried ins h g c.sessions _ store store w (carried_next c.sessions store)) refl

    of_scheduled : (at : Option ℕ) → Waked (case_option at (expire_sessions c store jitter now) (λ at. inner c store)).control
        (case_option at (expire_sessions c store jitter now) (λ at. inner c store)).store
    unfolding case_option
    of_scheduled None = expired
    of_scheduled (Some at) = silent f.held f.ring

    pub woken : Waked (handle_due c store jitter now).control (handle_due c store jitter now).store
    unfolding handle_due
    woken = of_choice (λ (y : Inner). Waked y.control y.store) _ _ _ sent_scheduled (of_scheduled _)
