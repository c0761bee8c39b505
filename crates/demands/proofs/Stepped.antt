-- Each call keeps what is known, with what it inserts, commits, grants and polls added.
-- Assumes nothing.
use mathlib.Core.Path.{◌≡◌, refl, ap, sym, ◌∙◌}
use mathlib.Core.Bool.{Bool, true, false}
use mathlib.Core.List.{List, [], ◌∷◌, ◌++◌, append-nil}
use Prim.Native.Nat.{ℕ, ◌+◌, ◌^◌, ◌<◌}
use native.Mathlib.Omega.{arith}
use lib.Dec.{eqb}
use lib.ListN.{length}
use Rattle.base.proofs.Choice.{yes_eq, no_eq, same_choice, of_choice, of_result}
use Rattle.base.specs.Choice.{choose, case_option, case_result}
use Rattle.tunnel.specs.Answer.{number_of}
use Rattle.tunnel.specs.Control.{Turn, refuse, poll_event}
use Rattle.tunnel.specs.declared.answer.Answer.TheVariants.{Done, Woke}
use Rattle.tunnel.specs.declared.answer.Answer.{Answer}
use Rattle.tunnel.specs.declared.control.Control.{Control}
use Rattle.tunnel.specs.declared.control.Out.{Out}
use Rattle.demands.proofs.Gated.{of_turn}
use Rattle.demands.proofs.Granting.Sends.{none, some}
use Rattle.demands.proofs.Granting.{Sends, sends_some}
use Rattle.demands.proofs.Held.{Past, SlotHeld}
use Rattle.demands.proofs.Inserting.Inserts.{nothing, responds, completes}
use Rattle.demands.proofs.Inserting.{Inserts, inserts_initiation, inserts_response}
use Rattle.demands.proofs.Judging.Judged.{turned, taken}
use Rattle.demands.proofs.Judging.{Judged, judged_batch}
use Rattle.demands.proofs.Known.{Known, turned_number, Plain, plain_of, known_as, known_same, Idle, idle_refused, idle_start, idle_restart, idle_look, idle_cookie, known_event, ungranted_event, idle_deadline, idle_missing}
use Rattle.demands.proofs.Repeated.{woke_step, known_waking, known_repeated}
use Rattle.demands.specs.Calls.Call.{start, restart, send, receive, look, initiation, response, cookie, timeout, settle, event, deadline, missing}
use Rattle.demands.specs.Calls.{Call, World, Reply, stored, batched, step}
use Rattle.demands.specs.Made.{case_batch, case_waking, case_message, case_answer, wakings_of, Insertion, insertion, insertion_by}
use Rattle.demands.specs.LastHeard.{hearing}
use Rattle.demands.specs.Receiving.{committing}
use Rattle.demands.specs.Sending.{Grant, granting, waking_grants, woken_grant, answered_grant, PolledKeepalive, polled_by}
use Rattle.demands.specs.History.{recorded_all}
use Rattle.sessions.specs.Laws.{commits}
use Rattle.sessions.specs.Batch.{Batched}
use Rattle.tunnel.proofs.Laws.{gate_law, response_law, settle_law}
use Rattle.tunnel.specs.Arguments.{initiation_outcome, opening_outcome, named_of}
use Rattle.tunnel.specs.Sound.{Sound}
use Rattle.tunnel.specs.Tunnel.{Called, gate, refused, let_through, timed, timeless, kept, timed_turn, timed_batch, call_start, call_restart, call_send, call_receive, call_look, call_initiation, call_response, call_cookie, call_settle, call_event, call_deadline, call_missing}
use Rattle.tunnel.specs.declared.tunnel.Answered.{Answered}
use Rattle.tunnel.specs.Settle as settling
use Rattle.tunnel.specs.Settled.{Repeats, Settles}
use Rattle.tunnel.specs.declared.tunnel.Tunnel.{Tunnel}
use Rattle.std.specs.Prelude.{Err, Ok, Option, Result, Some}
use Rattle.error.specs.declared.Error.{Error}

-- a session's past with a call
abbrev passing : ℕ → Past → Call → Reply → Past
passing id past call reply = record { history = committing id past.history call reply; heard = hearing id past.heard call reply }

past_is : (past : Past) (history : List ℕ) (heard : Option ℕ) → history ≡ past.history → heard ≡ past.heard
    → ◌≡◌ {A = Past} (record { history = history; heard = heard }) past
past_is past history heard e f = rw (e, f) refl

-- what is known after a call
abbrev pub Next : (ins : List Insertion) (h : ℕ → Past) (g k : List Grant) (polls : List PolledKeepalive) → World → Call → Reply → Type 0
Next ins h g k polls w call reply =
    Known (ins ++ insertion_by call reply.answer) (λ id. passing id (h id) call reply)
    (g ++ (answered_grant (length ins) w reply.answer ++ woken_grant w call reply))
    (k ++ woken_grant w call reply)
    (polls ++ polled_by reply.answer)
    reply.world.tunnel.control
    reply.world.store

-- the frames of operations that insert, commit and grant nothing
record Quiet (ins : List Insertion) (h : ℕ → Past) (g k : List Grant) (polls : List PolledKeepalive) (store : List ℕ) (a : Answered) : Type 0 where
  known : Known ins h g k polls a.tunnel.control store
  plain : Plain a.answer

module _ (ins : List Insertion) (h : ℕ → Past) (g k : List Grant) (polls : List PolledKeepalive) (w : World)
    (y : Known ins h g k polls w.tunnel.control w.store) where
  turned_down : (e : Error) → Quiet ins h g k polls w.store (refused w.tunnel e)
  unfolding refused refuse
  turned_down e = record { known = y; plain = (idle_refused w.tunnel.control w.store e).plain }

  quiet_timed : (bad : Bool) (now : ℕ) (out : Out) → Idle w.tunnel.control w.store out w.store
      → Quiet ins h g k polls w.store (timed w.tunnel bad now out)
  unfolding timed let_through
  quiet_timed bad now out i =
      of_result (λ (a : Answered). Quiet ins h g k polls w.store a) _ _ _ turned_down (λ good. record { known = i.known ins h g k polls y; plain = i.plain })

  quiet_timeless : (bad : Bool) (out : Out) → Idle w.tunnel.control w.store out w.store
      → Quiet ins h g k polls w.store (timeless w.tunnel bad out)
  unfolding timeless let_through
  quiet_timeless bad out i =
      of_result (λ (a : Answered). Quiet ins h g k polls w.store a) _ _ _ turned_down (λ good. record { known = i.known ins h g k polls y; plain = i.plain })

  -- what is known after a call that is no batch and no waking
  abbrev Then : List Insertion → Result Answer Error → Control → List ℕ → Type 0
  Then m answer c store =
      Known (ins ++ m) h (g ++ (answered_grant (length ins) w answer ++ [])) (k ++ []) (polls ++ polled_by answer) c store

  none_more : (f : Bool) → ins ++ choose f [] [] ≡ ins
  none_more f = ap (λ (l : List Insertion). ins ++ l) (same_choice f []) ∙ append-nil ins

  next_quiet : (m : List Insertion) (a : Answered) → m ≡ [] → Quiet ins h g k polls w.store a → Then m a.answer a.tunnel.control w.store
  next_quiet m a e q = known_same ins m h g _ k [] polls _ a.tunnel.control w.store e (q.plain.granted (length ins) w) refl q.plain.polled q.known

  next_start : (now : ℕ) → Next ins h g k polls w (start now) (step w (start now))
  unfolding step call_start committing hearing case_batch woken_grant case_waking insertion_by case_message
  next_start now = next_quiet _ _ (same_choice _ []) (quiet_timed _ now _ (idle_start w.tunnel.control w.store now))

  next_restart : (now : ℕ) → Next ins h g k polls w (restart now) (step w (restart now))
  unfolding step call_restart committing hearing case_batch woken_grant case_waking insertion_by case_message
  next_restart now = next_quiet _ _ (same_choice _ []) (quiet_timed _ now _ (idle_restart w.tunnel.control w.store now))

  next_look : (index counter now : ℕ) → Next ins h g k polls w (look index counter now) (step w (look index counter now))
  unfolding step call_look committing hearing case_batch woken_grant case_waking insertion_by case_message
  next_look index counter now =
      next_quiet _ _ (same_choice _ []) (quiet_timed _ now _ (idle_look w.tunnel.control w.store index counter now))

  next_cookie : (receiver outcome now : ℕ) → Next ins h g k polls w (cookie receiver outcome now) (step w (cookie receiver outcome now))
  unfolding step call_cookie committing hearing case_batch woken_grant case_waking insertion_by case_message
  next_cookie receiver outcome now =
      next_quiet _ _ (same_choice _ []) (quiet_timed _ now _ (idle_cookie w.tunnel.control w.store receiver _ now))

  next_deadline_lem : Next ins h g k polls w deadline (step w deadline)
  unfolding step call_deadline committing hearing case_batch woken_grant case_waking insertion_by case_message
  next_deadline_lem = next_quiet _ _ (same_choice _ []) (quiet_timeless _ _ (idle_deadline w.tunnel.control w.store _))

  next_missing : (index : ℕ) → Next ins h g k polls w (missing index) (step w (missing index))
  unfolding step call_missing committing hearing case_batch woken_grant case_waking insertion_by case_message
  next_missing index = next_quiet _ _ (same_choice _ []) (quiet_timeless _ _ (idle_missing w.tunnel.control w.store index))

  -- the oldest event
  of_event : (m : List Insertion) → m ≡ [] → Then m (poll_event w.tunnel.control).answer (poll_event w.tunnel.control).control w.store
  of_event m e =
      known_as ins _ h g _ k _ _ _ _ w.store (rw e (append-nil ins)) (rw (ungranted_event w.tunnel.control w.store (length ins) w) (append-nil g))
      (append-nil k) refl (known_event w.tunnel.control w.store ins h g k polls y)

  next_event : Next ins h g k polls w event (step w event)
  unfolding step call_event timeless let_through committing hearing case_batch woken_grant case_waking insertion_by case_message
  next_event =
      of_result (λ (a : Answered). Then (choose (eqb (number_of a.answer) 0) [] []) a.answer a.tunnel.control w.store) _ _ _
      (λ e. next_quiet _ _ (same_choice _ []) (turned_down e)) (λ good. of_event _ (same_choice _ []))

  -- a send
  of_send : (m : List Insertion) (out : Out) → m ≡ [] → Sends w.tunnel.control w.store out → Then m out.answer out.control w.store
  unfolding answered_grant polled_by case_answer case_option
  of_send m out p (none i) =
      known_same ins m h g _ k [] polls _ out.control w.store p (i.plain.granted (length ins) w) refl i.plain.polled (i.known ins h g k polls y)
  of_send m out p (some x peer first len v e) =
      known_as ins _ h _ _ k _ polls _ out.control w.store (rw p (append-nil ins)) (rw (e, v.current)) (append-nil k) (rw e (append-nil polls))
      (v.known ins h g k polls y)

  next_send : (count now : ℕ) → Next ins h g k polls w (send count now) (step w (send count now))
  unfolding step call_send timed let_through committing hearing case_batch woken_grant case_waking insertion_by case_message
  next_send count now =
      of_result (λ (a : Answered). Then (choose (eqb (number_of a.answer) 0) [] []) a.answer a.tunnel.control w.store) _ _ _
      (λ e. next_quiet _ _ (same_choice _ []) (turned_down e)) (λ good. of_send _ _ (same_choice _ []) (sends_some w.tunnel.control w.store count now))

  -- a batch
  pointwise : (i : ℕ → Past) (c : Control) (store : List ℕ) → ((id : ℕ) → i id ≡ h id) → Known ins h g k polls c store
      → Known ins i g k polls c store
  pointwise i c store e v =
      record {
        held = record {
          eight = v.held.eight;
          size = v.held.size;
          count = v.held.count;
          slots = λ j low f.
              (let s : SlotHeld ins h g j _ _ = v.held.slots j low f in
              record { placed = s.placed; named = s.named; message = s.message; stands = rw (e _) s.stands; heard = rw (e _) s.heard; granted = s.granted });
          apart = v.held.apart;
          unborn = λ id l. e id ∙ v.held.unborn id l;
          ungranted = v.held.ungranted;
          runs = v.held.runs;
        };
        queue = v.queue;
      }

  module _ (index id now : ℕ) (counters kinds verdicts skips : List ℕ) where
    abbrev batch : Call
    batch = receive index id now counters kinds verdicts skips

    -- turned down
    next_turned : (reply : Reply) (error : Error) → reply.answer ≡ Err error
        → Known ins h g k polls reply.world.tunnel.control reply.world.store → Next ins h g k polls w batch reply
    unfolding committing hearing case_batch woken_grant case_waking number_of insertion_by case_message answered_grant polled_by case_answer
    next_turned reply error e v =
        known_as ins _ _ g _ k _ polls _ _ _ (none_more _) (rw e (append-nil g)) (append-nil k)
        (rw e (append-nil polls))
        (pointwise _ _ _ (λ y. past_is (h y) _ _
        (of_choice (λ (l : List ℕ). l ≡ (h y).history) _ _ _ (rw e (sym (no_eq _ 0 (h y).history _ _ (turned_number error) refl))) refl)
        (of_choice (λ (l : Option ℕ). l ≡ (h y).heard) _ _ _ (rw e (sym (no_eq _ 0 (h y).heard _ _ (turned_number error) refl))) refl)) v)

    -- judged
    next_taken : (reply : Reply) → reply.answer ≡ Ok Done
        → ((i : ℕ → Past) → i id ≡ record { history = recorded_all (h id).history counters reply.verdicts; heard = choose (commits reply.verdicts) (Some now) (h id).heard }
        → ((z : ℕ) → (z ≡ id → ⊥) → i z ≡ h z)
        → Known ins i g k polls reply.world.tunnel.control reply.world.store)
        → Next ins h g k polls w batch reply
    unfolding committing hearing case_batch woken_grant case_waking number_of insertion_by case_message answered_grant polled_by case_answer
    next_taken reply e v =
        known_as ins _ _ g _ k _ polls _ _ _ (none_more _) (rw e (append-nil g)) (append-nil k)
        (rw e (append-nil polls))
        (v _
        (past_is _ _ _ (sym (yes_eq id id _ _ _ refl (rw e (yes_eq 0 0 _ _ _ refl refl)))) (sym (yes_eq id id _ _ _ refl (rw e (yes_eq 0 0 _ _ _ refl refl)))))
        (λ z d. past_is (h z) _ _ (sym (no_eq id z _ _ _ (λ q. d (sym q)) refl)) (sym (no_eq id z _ _ _ (λ q. d (sym q)) refl))))

    of_batch : (b : Batched Out) → Judged w.tunnel.control w.store id now counters b
        → Next ins h g k polls w batch
        (record {
          world = record { tunnel = (let_through w.tunnel now b.out).tunnel; store = b.store };
          answer = (let_through w.tunnel now b.out).answer;
          verdicts = b.verdicts;
          skips = b.skips;
        })
    unfolding let_through
    of_batch b (turned error e i) = next_turned _ error e (i.known ins h g k polls y)
    of_batch b (taken e v) = next_taken _ e (λ i mine others. v ins h i g k polls y mine others)

    -- what a batch hands back, by what its checks say
    framed : (checked : Result Unit Error) (b : Batched Out) → Batched Answered
    framed checked b =
        record {
          out = case_result checked (refused w.tunnel) (λ good. let_through w.tunnel now b.out);
          store = case_result checked (λ error. w.store) (λ good. b.store);
          verdicts = case_result checked (λ error. verdicts) (λ good. b.verdicts);
          skips = case_result checked (λ error. skips) (λ good. b.skips);
        }

    of_framed : (checked : Result Unit Error) (b : Batched Out) → Judged w.tunnel.control w.store id now counters b
        → Next ins h g k polls w batch (batched (framed checked b))
    unfolding framed case_result refused
    of_framed (Ok good) b j = of_batch b j
    of_framed (Err error) b j = next_turned _ error refl y

    next_receive : Next ins h g k polls w batch (step w batch)
    unfolding step call_receive timed_batch timed kept framed
    next_receive = of_framed (gate w.tunnel _ now) _ (judged_batch w.tunnel.control w.store index id now counters kinds verdicts skips)

  -- grants added to what is known, by a call whose answer stands for none
  next_woken : (m : List Insertion) (more : List Grant) (reply : Reply) → m ≡ [] → Plain reply.answer
      → Known ins h (g ++ more) (k ++ more) polls reply.world.tunnel.control reply.world.store
      → Known (ins ++ m) h (g ++ (answered_grant (length ins) w reply.answer ++ more)) (k ++ more) (polls ++ polled_by reply.answer)
      reply.world.tunnel.control reply.world.store
  next_woken m more reply e p v =
      known_as ins _ h _ _ _ _ polls _ _ _ (rw e (append-nil ins)) (rw (p.granted (length ins) w)) refl (rw p.polled (append-nil polls)) v

  module _ (jitter now : ℕ) where
    -- a waking
    next_timeout : Next ins h g k polls w (timeout jitter now) (step w (timeout jitter now))
    unfolding committing hearing case_batch woken_grant case_waking insertion_by case_message
    next_timeout =
        next_woken _ _ (step w (timeout jitter now)) (same_choice _ []) (woke_step ins h g k polls w y jitter now).plain
        (known_waking ins h g k polls w y jitter now)

    -- a settling that hands this back: one that stands for a repetition, and one turned down
    abbrev Settled : Called → Type 0
    Settled c = Next ins h g k polls w (settle jitter now) (stored c)

    of_settles : (c : Called) (wakings : ℕ) (last : Tunnel) (left : List ℕ) → Repeats jitter now w.tunnel w.store wakings last left
        → c.answered.answer ≡ Ok (Woke wakings) → c.answered.tunnel.control ≡ last.control → c.store ≡ left → Settled c
    unfolding committing hearing case_batch woken_grant case_waking wakings_of insertion_by case_message case_answer
    of_settles c wakings last left r a t e =
        next_woken _ _ (stored c) (same_choice _ []) (rw a (plain_of (Ok (Woke wakings)) refl))
        (rw (a, t, e) (known_repeated r ins h g k polls y))

    settle_refused : (e : Error) → Settled (record { answered = refused w.tunnel e; store = w.store })
    unfolding committing hearing case_batch woken_grant case_waking wakings_of waking_grants insertion_by case_message refused
    settle_refused e = next_quiet _ _ (same_choice _ []) (turned_down e)

    next_settle : Sound w.tunnel → Next ins h g k polls w (settle jitter now) (step w (settle jitter now))
    unfolding step call_settle let_through settling.settle number_of
    next_settle s =
        of_turn (λ (c : Called). (number_of c.answered.answer ≡ 0 → Settled c) → Settled c) w.tunnel _ now w.store _
        (λ z settled. settled refl) (λ e settled. settle_refused e)
        (λ z.
        let e : Settles w.tunnel w.store jitter now = (settle_law w.tunnel w.store jitter now s.eight s.sixteen).ends z in
        of_settles _ e.wakings e.last e.left e.repeats e.comes.answer (ap (λ (t : Tunnel). t.control) e.comes.tunnel) e.comes.words)

  -- an incoming initiation and a response
  module _ (now : ℕ) where
    -- the insertion of a message, by its answer
    abbrev inserted_by : Insertion → Result Answer Error → List Insertion
    inserted_by message answer = choose (eqb (number_of answer) 0) (message ∷ []) []

    module _ (message : Insertion) where
      one_inserted : (answer : Result Answer Error) → number_of answer ≡ 0 → inserted_by message answer ≡ message ∷ []
      one_inserted answer e = sym (yes_eq _ 0 _ _ _ e refl)

      none_inserted : (answer : Result Answer Error) → (number_of answer ≡ 0 → ⊥) → inserted_by message answer ≡ []
      none_inserted answer d = sym (no_eq _ 0 _ _ _ d refl)

      few_inserted : (answer : Result Answer Error) → number_of answer ≡ 0 → length ins + length (inserted_by message answer) < 2 ^ 64 → length ins + 1 < 2 ^ 64
      few_inserted answer e few = let one : length (inserted_by message answer) ≡ 1 = ap length (one_inserted answer e) in omega (arith, one, few)

      of_inserts : (t : Turn) → length ins + length (inserted_by message t.out.answer) < 2 ^ 64 → Inserts w.tunnel.control w.store message t
          → Then (inserted_by message t.out.answer) t.out.answer t.out.control t.store
      unfolding answered_grant polled_by case_answer number_of
      of_inserts t few (nothing i d) =
          known_same ins _ h g _ k [] polls _ _ _ (none_inserted t.out.answer d) (i.plain.granted (length ins) w) refl i.plain.polled (i.known ins h g k polls y)
      of_inserts t few (responds local peer e v) =
          known_as _ _ h g _ k _ polls _ _ _ (ap (λ (l : List Insertion). ins ++ l) (one_inserted t.out.answer (ap number_of e))) (rw e (append-nil g)) (append-nil k)
          (rw e (append-nil polls)) (v ins h g k polls (few_inserted t.out.answer (ap number_of e) few) y)
      of_inserts t few (completes peer counter e v) =
          known_as _ _ h (g ++ granting (length ins) peer counter 1 ∷ []) _ k _ polls _ _ _
          (ap (λ (l : List Insertion). ins ++ l) (one_inserted t.out.answer (ap number_of e))) (rw e) (append-nil k) (rw e (append-nil polls))
          (v ins h g k polls (few_inserted t.out.answer (ap number_of e) few) y)

      -- what is known after a message that hands this back, if it inserts few enough
      abbrev InsertedBy : Called → Type 0
      InsertedBy c =
          length ins + length (inserted_by message c.answered.answer) < 2 ^ 64
          → Then (inserted_by message c.answered.answer) c.answered.answer c.answered.tunnel.control c.store

      of_inserted : (bad : Bool) (t : Turn) → (gate w.tunnel bad now ≡ Ok tt → Inserts w.tunnel.control w.store message t)
          → InsertedBy (timed_turn w.tunnel bad now w.store t)
      unfolding let_through refused number_of
      of_inserted bad t i =
          of_turn InsertedBy w.tunnel bad now w.store t (λ z few. of_inserts t few (i z))
          (λ e few. next_quiet _ _ (none_inserted (Err e) (turned_number e)) (turned_down e))

    next_initiation : (peer outcome : ℕ)
        → length ins + length (insertion_by (initiation peer outcome now) (step w (initiation peer outcome now)).answer) < 2 ^ 64
        → Next ins h g k polls w (initiation peer outcome now) (step w (initiation peer outcome now))
    unfolding step call_initiation committing hearing case_batch woken_grant case_waking insertion_by case_message
    next_initiation peer outcome few =
        of_inserted (insertion false peer now) _ _
        (λ z. inserts_initiation w.tunnel.control w.store peer (named_of (initiation_outcome outcome)) now) few

    next_response : Sound w.tunnel → (receiver peer outcome : ℕ)
        → length ins + length (insertion_by (response receiver peer outcome now) (step w (response receiver peer outcome now)).answer) < 2 ^ 64
        → Next ins h g k polls w (response receiver peer outcome now) (step w (response receiver peer outcome now))
    unfolding step call_response committing hearing case_batch woken_grant case_waking insertion_by case_message
    next_response s receiver peer outcome few =
        of_inserted (insertion true peer now) _ _
        (λ z. inserts_response w.tunnel.control w.store receiver peer (named_of (opening_outcome outcome)) now
        (λ handshake. response_law w.tunnel s handshake w.store receiver peer now ((gate_law w.tunnel _ now).onward z) y.held.size))
        few

  -- every call
  pub next : Sound w.tunnel → (call : Call) → length ins + length (insertion_by call (step w call).answer) < 2 ^ 64
      → Next ins h g k polls w call (step w call)
  next s (start now) few = next_start now
  next s (restart now) few = next_restart now
  next s (send count now) few = next_send count now
  next s (receive index id now counters kinds verdicts skips) few = next_receive index id now counters kinds verdicts skips
  next s (look index counter now) few = next_look index counter now
  next s (initiation peer outcome now) few = next_initiation now peer outcome few
  next s (response receiver peer outcome now) few = next_response now s receiver peer outcome few
  next s (cookie receiver outcome now) few = next_cookie receiver outcome now
  next s (timeout jitter now) few = next_timeout jitter now
  next s (settle jitter now) few = next_settle jitter now s
  next s event few = next_event
  next s deadline few = next_deadline_lem
  next s (missing index) few = next_missing index
