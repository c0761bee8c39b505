-- Settling comes to the plain repetition of single wakings.
-- Assumes nothing.
use mathlib.Core.Path.{◌≡◌, refl, ap, sym, subst, ◌∙◌}
use mathlib.Core.Bool.{Bool, true, false, true≢false}
use mathlib.Core.List.{List}
use Prim.Native.Nat.{ℕ, zero, suc, ◌≤◌, ◌<◌}
use native.Mathlib.Omega.{arith}
use lib.Dec.{ltb}
use lib.ListN.{length}
use borrow.Author.Tests.{leb-true, leb-false, lt-ltb, le-ltb}
use Rattle.base.proofs.Choice.{of_choice, same_choice}
use Rattle.base.specs.Choice.{choose, case_option, case_result}
use Rattle.sessions.specs.Session.{time_limit, due_by}
use Rattle.tunnel.proofs.BadArguments.{jittered}
use Rattle.tunnel.proofs.Deadline.{deadline_answer}
use Rattle.tunnel.proofs.Facts.{undamaged_facts, undamaged_holds}
use Rattle.tunnel.proofs.Framed.{gate_onward, gate_now, gate_good, gate_whole, small_jitter}
use Rattle.tunnel.proofs.Kept.{on_new_ring}
use Rattle.tunnel.proofs.Repeated.{living, three_most}
use Rattle.tunnel.proofs.SoundCalls.{its_control, timed_sound}
use Rattle.tunnel.proofs.SoundWaking.{timeout_sound}
use Rattle.tunnel.proofs.Stores.{timeout_store}
use Rattle.tunnel.proofs.TurnedDown.{refused_counts, of_turn}
use Rattle.tunnel.specs.Answer.{number_of}
use Rattle.tunnel.specs.Arguments.{bad_jitter}
use Rattle.tunnel.specs.Control.{with_events, expired_control}
use Rattle.tunnel.specs.Damage.{undamaged}
use Rattle.tunnel.specs.Facts.{Undamaged}
use Rattle.tunnel.specs.HandleTimeout.{handle_timeout}
use Rattle.tunnel.specs.PollTimeout.{scheduled_handshake, earliest_expiry, cookie_deadline, reject_deadline, attempt_deadline, handshake_rekey_timeout, response_deadline, passive_deadline, persistent_deadline, current_persistent_deadline, common_deadline, rekey_deadline, keepalive_deadline, unscheduled_deadline, next_deadline, not_before, poll_timeout}
use Rattle.tunnel.specs.RingBuffer.{new_ring, ring_is_empty}
use Rattle.tunnel.specs.Settle.{waking_due, Woken, counted, repeat_waking, settle}
use Rattle.tunnel.specs.Settled.{without_events, HasCome, IsLater, none, later, Repeats, rests, wakes, ComesTo, Settles}
use Rattle.tunnel.specs.Sound.{Sound}
use Rattle.tunnel.specs.Timers.{max_jitter}
use Rattle.tunnel.specs.Tunnel.{gate, let_through, timed, kept, timed_turn, Called, call_timeout, call_settle, call_deadline}
use Rattle.tunnel.specs.declared.answer.Answer.TheVariants.{Deadline}
use Rattle.tunnel.specs.declared.control.Control.{Control}
use Rattle.tunnel.specs.declared.ring_buffer.RingBuffer.{RingBuffer}
use Rattle.tunnel.specs.declared.tunnel.Tunnel.{Tunnel}
use Rattle.std.specs.Prelude.{None, Option, Some, Ok, Result}
use Rattle.tunnel.specs.declared.answer.Answer.{Answer}
use Rattle.error.specs.declared.Error.{Error}

-- the next deadline does not look at the events
next_same : (c : Control) (r : RingBuffer) → next_deadline (with_events c r) ≡ next_deadline c
unfolding scheduled_handshake earliest_expiry cookie_deadline reject_deadline attempt_deadline handshake_rekey_timeout response_deadline passive_deadline persistent_deadline current_persistent_deadline common_deadline rekey_deadline keepalive_deadline unscheduled_deadline next_deadline
next_same c r = refl

expired_same : (c : Control) (r : RingBuffer) → expired_control (with_events c r) ≡ expired_control c
unfolding expired_control
expired_same c r = refl

new_empty : ring_is_empty new_ring ≡ true
unfolding new_ring ring_is_empty
new_empty = refl

module _ (t : Tunnel) (u : Undamaged t) where
  eventless : undamaged (without_events t) ≡ true
  eventless =
      undamaged_holds (without_events t)
      (record {
        latest = u.latest;
        updated = u.updated;
        control = record {
          timers = u.control.timers;
          handshake = u.control.handshake;
          first = u.control.first;
          sessions = u.control.sessions;
          events = on_new_ring t.greatest;
        };
      })

  -- the deadline of a tunnel without its events
  deadline_is : (call_deadline (without_events t)).answer ≡ Ok (Deadline (choose (expired_control t.control) None (not_before (next_deadline t.control) t.last_update)))
  unfolding poll_timeout choose
  deadline_is =
      deadline_answer (without_events t) eventless
      ∙ rw (expired_same t.control new_ring, new_empty, next_same t.control new_ring) refl

-- a deadline that has come, and one that has not
come_at : (next : Option ℕ) (last now : ℕ) → last ≤ now → due_by next now ≡ true → (at : ℕ) × (not_before next last ≡ Some at) × (at ≤ now)
unfolding due_by not_before case_option
come_at None last now l d = absurd (true≢false (sym d))
come_at (Some a) last now l d = (choose (ltb a last) last a, refl, of_choice (λ (x : ℕ). x ≤ now) _ _ _ l (leb-true a now d))

data Later (time : Option ℕ) (now : ℕ) : Type 0 where
  never : time ≡ None → Later time now
  above : (at : ℕ) → time ≡ Some at → now < at → Later time now

later_at : (next : Option ℕ) (last now : ℕ) → last ≤ now → due_by next now ≡ false → Later (not_before next last) now
unfolding due_by not_before case_option choose
later_at None last now l d = never refl
later_at (Some a) last now l d =
    let b : now < a = leb-false a now d in
    above a (rw (le-ltb a last (omega arith)) refl) b

module _ (t : Tunnel) (u : Undamaged t) (now : ℕ) (l : t.last_update ≤ now) where
  has_come : waking_due t.control now ≡ true → HasCome t now
  unfolding waking_due choose
  has_come d = go (expired_control t.control) refl
    where
      go : (b : Bool) → expired_control t.control ≡ b → HasCome t now
      go true e = absurd (true≢false (sym (rw e at d)))
      go false e =
          let x = come_at (next_deadline t.control) t.last_update now l (rw e at d) in
          record { at = x.0; deadline = deadline_is t u ∙ rw (e, x.1) refl; come = x.2 }

  is_later : waking_due t.control now ≡ false → IsLater t now
  unfolding waking_due choose
  is_later d = go (expired_control t.control) refl
    where
      by : expired_control t.control ≡ false → Later (not_before (next_deadline t.control) t.last_update) now → IsLater t now
      by e (never n) = none (deadline_is t u ∙ rw (e, n) refl)
      by e (above at n a) = later at (deadline_is t u ∙ rw (e, n) refl) a

      go : (b : Bool) → expired_control t.control ≡ b → IsLater t now
      go true e = none (deadline_is t u ∙ rw e refl)
      go false e = by e (later_at (next_deadline t.control) t.last_update now l (rw e at d))

-- a repetition has one end
same_time : (a b : ℕ) → ◌≡◌ {A = Result Answer Error} (Ok (Deadline (Some a))) (Ok (Deadline (Some b))) → a ≡ b
same_time a b e = cc

not_none : (a : ℕ) → ◌≡◌ {A = Result Answer Error} (Ok (Deadline (Some a))) (Ok (Deadline None)) → ⊥
not_none a e = cc

apart : (t : Tunnel) (now : ℕ) → HasCome t now → IsLater t now → ⊥
apart t now c (none e) = not_none _ (sym c.deadline ∙ e)
apart t now c (later at e l) = let s = same_time _ _ (sym c.deadline ∙ e) in let m = c.come in omega arith

one_end : {jitter now : ℕ} {t a b : Tunnel} {store x y : List ℕ} {m n : ℕ} → Repeats jitter now t store m a x → Repeats jitter now t store n b y
    → (m ≡ n) × (a ≡ b) × (x ≡ y)
one_end (rests p) (rests q) = (refl, refl, refl)
one_end (rests p) (wakes q s) = absurd (apart _ _ q p)
one_end (wakes p r) (rests q) = absurd (apart _ _ p q)
one_end (wakes p r) (wakes q s) = let e = one_end r s in (ap suc e.0, e.1, e.2)

-- what the checks let through
module _ (jitter now : ℕ) (n : now ≤ time_limit) (j : jitter ≤ max_jitter) where
  record Open (t : Tunnel) (store : List ℕ) : Type 0 where
    sound : Sound t
    long : length store ≡ 1024
    onward : t.greatest ≤ now

  module _ (t : Tunnel) (store : List ℕ) (o : Open t store) where
    whole : Undamaged t
    whole = undamaged_facts t o.sound.holds

    updated : t.last_update ≤ now
    updated = let a = whole.updated in let b = o.onward in omega arith

    passes : gate t (bad_jitter jitter store) now ≡ Ok tt
    unfolding gate choose
    passes =
        rw (le-ltb time_limit now n, (jittered jitter store).from (o.long, j), o.sound.holds, le-ltb now t.greatest o.onward) refl

    -- a waking of a tunnel that is not expired
    module _ (living : expired_control t.control ≡ false) where
      woken_is : (call_timeout t store jitter now).answered.tunnel
          ≡ record { control = (handle_timeout t.control store jitter now).out.control; last_update = now; greatest = now }
      unfolding call_timeout timed_turn timed let_through handle_timeout choose case_result
      woken_is = rw (passes, living) refl

      store_is : (call_timeout t store jitter now).store ≡ (handle_timeout t.control store jitter now).store
      unfolding call_timeout timed_turn kept choose case_result
      store_is = rw passes refl

    still_sound : Sound (call_timeout t store jitter now).answered.tunnel
    unfolding call_timeout timed_turn
    still_sound =
        timed_sound t o.sound _ now _ (λ b l. timeout_sound t.greatest now l t.control (its_control t o.sound) store jitter j)

    timeout_open : expired_control t.control ≡ false → Open (call_timeout t store jitter now).answered.tunnel (call_timeout t store jitter now).store
    timeout_open living =
        record {
          sound = still_sound;
          long = rw (store_is living) (timeout_store t.control store o.long jitter now);
          onward = rw (woken_is living) (omega arith);
        }

  -- the tunnel to which so many wakings at this time come
  abbrev last_of : Tunnel → Woken → Tunnel
  last_of t w =
      record {
        control = w.control;
        last_update = choose (ltb 0 w.wakings) now t.last_update;
        greatest = choose (ltb 0 w.wakings) now t.greatest;
      }

  abbrev wakings_of : ℕ → Tunnel → List ℕ → Woken
  wakings_of most t store = repeat_waking most t.control store jitter now

  abbrev RepeatsTo : Tunnel → List ℕ → Woken → Type 0
  RepeatsTo t store w = Repeats jitter now t store w.wakings (last_of t w) w.store

  at_rest : (t : Tunnel) (store : List ℕ) → Open t store → waking_due t.control now ≡ false → RepeatsTo t store (record { control = t.control; store = store; wakings = 0 })
  unfolding choose
  at_rest t store o r = rests (is_later t (whole t store o) now (updated t store o) r)

  once_more : (t : Tunnel) (store : List ℕ) (w : Woken) → Open t store → waking_due t.control now ≡ true → expired_control t.control ≡ false
      → RepeatsTo (call_timeout t store jitter now).answered.tunnel (call_timeout t store jitter now).store w → RepeatsTo t store (counted w)
  unfolding choose
  once_more t store w o d living r =
      wakes (has_come t (whole t store o) now (updated t store o) d) (subst
      (λ (x : Tunnel). Repeats jitter now (call_timeout t store jitter now).answered.tunnel (call_timeout t store jitter now).store w.wakings x w.store)
      same r)
    where
      same : last_of (call_timeout t store jitter now).answered.tunnel w ≡ last_of t (counted w)
      same = rw (woken_is t store o living, same_choice (ltb 0 w.wakings) now, lt-ltb 0 (suc w.wakings) (omega arith)) refl

  repeated : (most : ℕ) (t : Tunnel) (store : List ℕ) → Open t store → waking_due (wakings_of most t store).control now ≡ false
      → RepeatsTo t store (wakings_of most t store)
  unfolding repeat_waking choose
  repeated zero t store o r = at_rest t store o r
  repeated (suc most) t store o r = go (λ next left. repeated most next left) (waking_due t.control now) refl
    where
      go : ((next : Tunnel) (left : List ℕ) → Open next left → waking_due (wakings_of most next left).control now ≡ false → RepeatsTo next left (wakings_of most next left))
          → (b : Bool) → waking_due t.control now ≡ b → RepeatsTo t store (wakings_of (suc most) t store)
      go again false e = rw e (at_rest t store o e)
      go again true e =
          let alive : expired_control t.control ≡ false = living jitter now t.control e in
          let next : Tunnel = (call_timeout t store jitter now).answered.tunnel in
          let left : List ℕ = (call_timeout t store jitter now).store in
          let w : Woken = repeat_waking most (handle_timeout t.control store jitter now).out.control (handle_timeout t.control store jitter now).store jitter now in
          let same : wakings_of most next left ≡ w = rw (woken_is t store o alive, store_is t store o alive) refl in
          let end : waking_due w.control now ≡ false = rw e at r in
          let rest : RepeatsTo next left (wakings_of most next left) = again next left (timeout_open t store o alive) (rw same end) in
          rw e (once_more t store w o e alive (subst (RepeatsTo next left) same rest))

  -- no more wakings than so many
  few : (most : ℕ) (c : Control) (store : List ℕ) → (repeat_waking most c store jitter now).wakings ≤ most
  unfolding repeat_waking
  few zero c store = omega arith
  few (suc most) c store =
      of_choice (λ (w : Woken). w.wakings ≤ suc most) _ _ _ (let l = few most (handle_timeout c store jitter now).out.control (handle_timeout c store jitter now).store in omega arith)
      (omega arith)

  module _ (t : Tunnel) (store : List ℕ) (o : Open t store) where
    abbrev three : Woken
    three = wakings_of 3 t store

    settle_ends : Settles t store jitter now
    unfolding call_settle timed_turn timed kept let_through settle choose case_result
    settle_ends =
        record {
          wakings = three.wakings;
          last = last_of t three;
          left = three.store;
          repeats = repeated 3 t store o (three_most jitter now t.control store o.long (whole t store o).control.timers.interval);
          most = few 3 t.control store;
          comes = record { answer = rw (passes t store o) refl; tunnel = rw (passes t store o) refl; words = rw (passes t store o) refl };
        }

-- a settling that is not turned down was let through
module _ (t : Tunnel) (store : List ℕ) (jitter now : ℕ) where
  settle_passed : number_of (call_settle t store jitter now).answered.answer ≡ 0 → gate t (bad_jitter jitter store) now ≡ Ok tt
  unfolding call_settle
  settle_passed =
      of_turn t (bad_jitter jitter store) now (λ (a : Called). number_of a.answered.answer ≡ 0 → gate t (bad_jitter jitter store) now ≡ Ok tt) store _
      (λ z e. z) (λ error z e. absurd (refused_counts t error e))

  module _ (eight : length t.control.sessions.slots ≡ 8) (sixteen : length t.control.events.slots ≡ 16)
      (e : number_of (call_settle t store jitter now).answered.answer ≡ 0) where
    pub settle_comes : Settles t store jitter now
    settle_comes =
        let z : gate t (bad_jitter jitter store) now ≡ Ok tt = settle_passed e in
        let good : bad_jitter jitter store ≡ false = gate_good t _ now z in
        settle_ends jitter now (gate_now t _ now z) (small_jitter jitter store _ refl good) t store
        (record {
          sound = record { holds = gate_whole t _ now z; eight = eight; sixteen = sixteen };
          long = ((jittered jitter store).to good).0;
          onward = gate_onward t _ now z;
        })

    pub settle_only : (wakings : ℕ) (last : Tunnel) (left : List ℕ) → Repeats jitter now t store wakings last left → ComesTo t store jitter now wakings last left
    settle_only wakings last left r = let s = settle_comes in let u = one_end r s.repeats in rw (u.0, u.1, u.2) s.comes
