-- Demand 3: extra wakings that come early, or find the tunnel expired, leave the two tunnels twins, and so every shared call gives both the same.
-- Assumes nothing.
use mathlib.Core.Path.{◌≡◌, refl, ap, sym, subst, ◌∙◌}
use mathlib.Core.Bool.{Bool, true, false}
use mathlib.Core.List.{List, [], ◌∷◌, ◌++◌}
use mathlib.Core.Logic.{◌⊎◌, inl, inr, ⊎_elim}
use Prim.Native.Nat.{ℕ, ◌≤◌, ◌<◌}
use native.Mathlib.Omega.{arith}
use lib.Dec.{ltb, leb}
use borrow.Author.Tests.{lt-leb}
use Rattle.base.specs.Choice.{choose, case_option, case_result}
use Rattle.tunnel.specs.Control.{Turn, new_control, done, expired_control}
use Rattle.tunnel.specs.PollTimeout.{next_deadline, not_before, poll_timeout}
use Rattle.tunnel.specs.declared.answer.Answer.TheVariants.{Deadline}
use Rattle.tunnel.specs.declared.control.Control.{Control}
use Rattle.demands.proofs.Grown.{sound_created, sound_step}
use Rattle.demands.proofs.Created.{good_made}
use Rattle.demands.proofs.Gated.{expired_control_lem}
use Rattle.demands.proofs.Ran.{ran_of, ran_step, created_ran}
use Rattle.demands.proofs.Settings.{setting_stays}
use Rattle.demands.proofs.Twins.{Twins, Pair, calls_alike}
use Rattle.demands.specs.Calls.Call.{timeout}
use Rattle.demands.specs.Calls.{Call, World, step, after, Creation, created, Expired}
use Rattle.demands.specs.Wakings.{Step, shared, extra, plain_calls, woken_calls, Ran, ran, ran_after, Current, BeforeDeadline, NotEarlier, ComesEarly, CurrentOrUnset, InOrder, Admissible, Same, CreatedAlike, ExtraWakingsLaw}
use Rattle.tunnel.specs.RingBuffer.{ring_is_empty}
use Rattle.tunnel.specs.Timers.{new_timers}
use Rattle.sessions.specs.Session.{due_by}
use Rattle.base.specs.Lists.{zeros}
use Rattle.tunnel.proofs.Laws.{deadline_law, quiet_law}
use Rattle.tunnel.proofs.Laws.{undamaged_law, gate_law}
use Rattle.tunnel.specs.Arguments.{interval_of, bad_jitter}
use Rattle.tunnel.specs.Damage.{undamaged}
use Rattle.tunnel.specs.Sound.{Sound}
use Rattle.tunnel.specs.Tunnel.{new_tunnel, gate, refused, let_through, timed, kept, timed_turn, call_timeout}
use Rattle.tunnel.specs.Quiet.{Early}
use Rattle.tunnel.specs.HandleTimeout.{Inner, handle_timeout}
use Rattle.std.specs.Prelude.{None, Option, Some, Result, Ok, Err}
use Rattle.error.specs.declared.Error.{Error}
use Rattle.tunnel.specs.declared.answer.Answer.{Answer}

-- a time before the reported deadline and not before the last update is before the next deadline
before_next : (t : Bool) (at last due now : ℕ) → ltb at last ≡ t → Some (choose t last at) ≡ Some due → now < due → last ≤ now → leb at now ≡ false
unfolding choose
before_next true at last due now e p b l = let q : last ≡ due = cc in absurd (omega arith)
before_next false at last due now e p b l = let q : at ≡ due = cc in lt-leb at now (omega arith)

before_due : (ended quiet : Bool) (next : Option ℕ) (last due now : ℕ) → choose ended None (choose quiet (not_before next last) (Some last)) ≡ Some due
    → now < due → last ≤ now → due_by next now ≡ false
unfolding choose not_before due_by case_option
before_due true quiet next last due now p b l = cc
before_due false true None last due now p b l = refl
before_due false true (Some at) last due now p b l = before_next (ltb at last) at last due now refl p b l
before_due false false next last due now p b l = let q : last ≡ due = cc in absurd (omega arith)

before_deadline : (w : World) (now : ℕ) → undamaged w.tunnel ≡ true → w.tunnel.greatest ≤ now → BeforeDeadline w now
    → due_by (next_deadline w.tunnel.control) now ≡ false
unfolding step poll_timeout
before_deadline w now u g b =
    let a : ◌≡◌ {A = Result Answer Error} (Ok (Deadline (poll_timeout w.tunnel.control w.tunnel.last_update))) (Ok (Deadline (Some b.0))) =
    sym ((deadline_law w.tunnel).answer u) ∙ b.1 in
    let l = (undamaged_law.facts w.tunnel u).updated in
    before_due (expired_control w.tunnel.control) (ring_is_empty w.tunnel.control.events) _ w.tunnel.last_update b.0 now (cc) b.2 (omega arith)

-- a waking that finds the tunnel expired, or comes early, leaves the control and the store
record Still (c : Control) (kept : List ℕ) (turn : Turn) : Type 0 where
  control : turn.out.control ≡ c
  store : turn.store ≡ kept
  raises : turn.out.raises ≡ true

still_turn : (c : Control) (kept : List ℕ) (jitter now : ℕ) (ended : Bool) → expired_control c ≡ ended → (ended ≡ false → Early c now)
    → Still c kept (handle_timeout c kept jitter now)
unfolding handle_timeout done choose
still_turn c kept jitter now true e h = rw e (record { control = refl; store = refl; raises = refl })
still_turn c kept jitter now false e h =
    let q = (quiet_law c kept jitter now).quiet (h refl) in
    rw e (record { control = ap (λ (i : Inner). i.control) q; store = ap (λ (i : Inner). i.store) q; raises = refl })

-- and twins as they were; let through, it is the latest extra waking
module _ {latest : ℕ} (p w : World) (h : Twins latest p w) (bad : Bool) (now : ℕ) (turn : Turn) where
  abbrev Left : World
  Left =
      record {
        tunnel = (timed_turn w.tunnel bad now w.store turn).answered.tunnel;
        store = (timed_turn w.tunnel bad now w.store turn).store;
      }

  left_twins : (w.tunnel.greatest ≤ now → Still w.tunnel.control w.store turn) → Twins latest p Left ⊎ Twins now p Left
  unfolding timed_turn timed kept let_through refused case_result choose
  left_twins k = go (gate w.tunnel bad now) refl
    where
      go : (checked : Result Unit Error) → gate w.tunnel bad now ≡ checked → Twins latest p Left ⊎ Twins now p Left
      go (Err error) e = rw e (inl h)
      go (Ok good) e =
          let g = (gate_law w.tunnel bad now).onward e in
          let s = k g in
          let o = h.tunnels.older in
          rw e (inr (record {
            tunnels =
                record {
                  control = h.tunnels.control ∙ sym s.control;
                  older = rw s.raises (omega arith);
                  bound = λ time l b. rw s.raises l;
                };
            store = h.store ∙ sym s.store;
          }))

-- the conditions on steps that begin at any world, with the Rust's state there
record AdmissibleFrom (keepalive : ℕ) (r : Ran) (w : World) (steps : List Step) : Type 0 where
  early : ComesEarly w steps
  held : CurrentOrUnset keepalive r w steps
  order : InOrder steps

-- every shared call is not earlier than a time
abbrev Ordered : ℕ → List Step → Type 0
Ordered latest steps = (between later : List Step) (call : Call) → steps ≡ between ++ shared call ∷ later → NotEarlier latest call

module _ (keepalive : ℕ) (r : Ran) (w : World) (steps : List Step) where
  -- they hold of the steps after the first
  from_shared : (call : Call) → AdmissibleFrom keepalive r w (shared call ∷ steps) → AdmissibleFrom keepalive (ran r call) (step w call).world steps
  unfolding after woken_calls ran_after
  from_shared call a =
      record {
        early = λ before later jitter now e. a.early (shared call ∷ before) later jitter now (ap (λ (s : List Step). shared call ∷ s) e);
        held = λ before later jitter now e. a.held (shared call ∷ before) later jitter now (ap (λ (s : List Step). shared call ∷ s) e);
        order = λ before between later jitter now x e. a.order (shared call ∷ before) between later jitter now x (ap (λ (s : List Step). shared call ∷ s) e);
      }

  module _ (j n : ℕ) (a : AdmissibleFrom keepalive r w (extra j n ∷ steps)) where
    from_extra : AdmissibleFrom keepalive (ran r (timeout j n)) (step w (timeout j n)).world steps
    unfolding after woken_calls ran_after
    from_extra =
        record {
          early = λ before later jitter now e. a.early (extra j n ∷ before) later jitter now (ap (λ (s : List Step). extra j n ∷ s) e);
          held = λ before later jitter now e. a.held (extra j n ∷ before) later jitter now (ap (λ (s : List Step). extra j n ∷ s) e);
          order = λ before between later jitter now x e. a.order (extra j n ∷ before) between later jitter now x (ap (λ (s : List Step). extra j n ∷ s) e);
        }

    -- what they say of an extra waking that comes first
    first_early : BeforeDeadline w n ⊎ Expired w
    unfolding after woken_calls
    first_early = a.early [] steps j n refl

    first_held_lem : (Expired w → ⊥) → Current r ⊎ (keepalive ≡ 0)
    unfolding after woken_calls ran_after
    first_held_lem = a.held [] steps j n refl

    first_order : Ordered n steps
    first_order between later call e = a.order [] between later j n call (ap (λ (s : List Step). extra j n ∷ s) e)

-- an extra waking leaves twins
module _ (keepalive : ℕ) {latest : ℕ} (p w : World) (steps : List Step) (h : Twins latest p w) (u : undamaged w.tunnel ≡ true)
    (off : keepalive ≡ 0 → w.tunnel.control.timers.persistent_keepalive ≡ None) (jitter now : ℕ)
    (a : AdmissibleFrom keepalive (ran_of w.tunnel w.store) w (extra jitter now ∷ steps)) where
  its_early : w.tunnel.greatest ≤ now → expired_control w.tunnel.control ≡ false → Early w.tunnel.control now
  its_early g f =
      let alive : Expired w → ⊥ = λ x. (let y = expired_control_lem w x in cc) in
      record {
        waits = ⊎_elim (λ b. before_deadline w now u g b) (λ x. absurd (alive x)) (first_early keepalive _ w steps jitter now a);
        held = ⊎_elim (λ s. inl s) (λ k. inr (off k)) (first_held_lem keepalive _ w steps jitter now a alive);
      }

  extra_twins : Twins latest p (step w (timeout jitter now)).world ⊎ Twins now p (step w (timeout jitter now)).world
  unfolding step call_timeout
  extra_twins =
      left_twins p w h (bad_jitter jitter w.store) now (handle_timeout w.tunnel.control w.store jitter now)
      (λ g. still_turn w.tunnel.control w.store jitter now (expired_control w.tunnel.control) refl (its_early g))

made_off : (index keepalive now : ℕ) → keepalive ≡ 0 → (new_tunnel index keepalive now).control.timers.persistent_keepalive ≡ None
unfolding new_tunnel new_control new_timers interval_of choose
made_off index keepalive now k = rw k refl

made_twins : (index keepalive now : ℕ) (store : List ℕ)
    → Twins 0 (record { tunnel = new_tunnel index keepalive now; store = store }) (record { tunnel = new_tunnel index keepalive now; store = store })
made_twins index keepalive now store =
    record { tunnels = record { control = refl; older = omega arith; bound = λ time l b. b }; store = refl }

-- what is known of both tunnels where such steps begin
record Ready (keepalive latest : ℕ) (p w : World) (steps : List Step) : Type 0 where
  twins : Twins latest p w
  plainly : Sound p.tunnel
  wakingly : Sound w.tunnel
  off : keepalive ≡ 0 → w.tunnel.control.timers.persistent_keepalive ≡ None
  conditions : AdmissibleFrom keepalive (ran_of w.tunnel w.store) w steps
  ordered : Ordered latest steps

module _ {keepalive latest : ℕ} {p w : World} {steps : List Step} where
  pair : (call : Call) → Ready keepalive latest p w (shared call ∷ steps) → Pair latest (step p call) (step w call)
  pair call r = calls_alike r.twins r.plainly.holds r.wakingly.holds call (r.ordered [] steps call refl)

  -- ready for the steps after a shared call, and after an extra waking
  ready_shared : (call : Call) → Ready keepalive latest p w (shared call ∷ steps)
      → Ready keepalive latest (step p call).world (step w call).world steps
  ready_shared call r =
      record {
        twins = (pair call r).twins;
        plainly = sound_step p call r.plainly;
        wakingly = sound_step w call r.wakingly;
        off = λ k. setting_stays None w call (r.off k);
        conditions =
            subst (λ (x : Ran). AdmissibleFrom keepalive x (step w call).world steps) (ran_step w call r.wakingly.holds)
            (from_shared keepalive _ w steps call r.conditions);
        ordered = λ between later x e. r.ordered (shared call ∷ between) later x (ap (λ (s : List Step). shared call ∷ s) e);
      }

  module _ (jitter now : ℕ) (r : Ready keepalive latest p w (extra jitter now ∷ steps)) where
    ready_extra : (time : ℕ) → Twins time p (step w (timeout jitter now)).world → Ordered time steps
        → Ready keepalive time p (step w (timeout jitter now)).world steps
    ready_extra time h o =
        record {
          twins = h;
          plainly = r.plainly;
          wakingly = sound_step w (timeout jitter now) r.wakingly;
          off = λ k. setting_stays None w (timeout jitter now) (r.off k);
          conditions =
              subst (λ (x : Ran). AdmissibleFrom keepalive x (step w (timeout jitter now)).world steps)
              (ran_step w (timeout jitter now) r.wakingly.holds)
              (from_extra keepalive _ w steps jitter now r.conditions);
          ordered = o;
        }

    after_extra : Ready keepalive latest p (step w (timeout jitter now)).world steps ⊎ Ready keepalive now p (step w (timeout jitter now)).world steps
    after_extra =
        ⊎_elim
        (λ h. inl (ready_extra latest h (λ between later x e. r.ordered (extra jitter now ∷ between) later x (ap (λ (s : List Step). extra jitter now ∷ s) e))))
        (λ h. inr (ready_extra now h (first_order keepalive _ w steps jitter now r.conditions)))
        (extra_twins keepalive p w steps r.twins r.wakingly.holds r.off jitter now r.conditions)

agree : (before later : List Step) (call : Call) (keepalive latest : ℕ) (p w : World) → Ready keepalive latest p w (before ++ shared call ∷ later)
    → Same (step (after p (plain_calls before)) call) (step (after w (woken_calls before)) call)
unfolding after plain_calls woken_calls
agree [] later call keepalive latest p w r = (pair call r).same
agree (shared x ∷ before) later call keepalive latest p w r =
    agree before later call keepalive latest (step p x).world (step w x).world (ready_shared x r)
agree (extra jitter now ∷ before) later call keepalive latest p w r =
    ⊎_elim (λ y. agree before later call keepalive latest p (step w (timeout jitter now)).world y)
    (λ y. agree before later call keepalive now p (step w (timeout jitter now)).world y) (after_extra jitter now r)

ready_made : (plain woken : Creation) (steps : List Step) → CreatedAlike plain woken → Admissible woken steps
    → Ready woken.keepalive 0 (created plain) (created woken) steps
ready_made plain woken steps alike a =
    let p = good_made plain alike.plainly in
    let w = good_made woken alike.wakingly in
    record {
      twins = rw (p, w, alike.index, alike.keepalive, alike.now) (made_twins woken.index woken.keepalive woken.now (zeros 1024));
      plainly = sound_created plain;
      wakingly = sound_created woken;
      off = rw w (made_off woken.index woken.keepalive woken.now);
      conditions =
          subst (λ (r : Ran). AdmissibleFrom woken.keepalive r (created woken) steps)
          (created_ran woken alike.wakingly)
          (record { early = a.early; held = a.held; order = a.order });
      ordered = λ between later call e now t. omega arith;
    }

pub extra_wakings_law : ExtraWakingsLaw
extra_wakings_law plain woken steps alike a before later call e =
    agree before later call woken.keepalive 0 (created plain) (created woken)
    (subst (λ (s : List Step). Ready woken.keepalive 0 (created plain) (created woken) s) e (ready_made plain woken steps alike a))
