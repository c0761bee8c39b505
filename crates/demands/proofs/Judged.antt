-- A batch judged by a history: the verdicts and skips that it gives are those that the history calls for, and its slot stands for the history afterwards.
-- Assumes nothing.
use mathlib.Core.Path.{◌≡◌, refl, ap, sym, ◌∙◌}
use mathlib.Core.Bool.{Bool, true, false}
use mathlib.Core.List.{List, [], ◌∷◌}
use Prim.Native.Nat.{ℕ, ◌+◌, ◌%◌, ◌≤◌, ◌<◌}
use native.Mathlib.Omega.{arith}
use lib.Dec.{eqb}
use lib.ListN.{length, get_or, set}
use lib.Seq.{get_or-set_same}
use borrow.Author.Tests.{eqb-false, eq-eqb, ne_eqb}
use Rattle.base.specs.Choice.{choose, case_option, case_result}
use Rattle.window.specs.Window.{limit, will_accept}
use Rattle.window.specs.History.{member, expected, judged, Skips, Represents, commit_to}
use Rattle.window.proofs.Laws.{fresh_law, judged_law, standing_law}
use Rattle.sessions.specs.declared.batch.Progress.{Progress}
use Rattle.sessions.specs.declared.session.Session.{Session}
use Rattle.sessions.specs.declared.sessions.Sessions.{Sessions}
use Rattle.sessions.specs.Index.{slot_of}
use Rattle.sessions.specs.Store.{slot_words, put_slot}
use Rattle.base.specs.Lists.{zeros}
use Rattle.sessions.specs.Session.{empty_session, with_id}
use Rattle.sessions.specs.Sessions.{slot_at, put, inserting, insert}
use Rattle.demands.specs.History.{verdict_on, skip_on, recorded, recorded_all, each_on, verdicts_on, skips_on, Stands, VerdictLaw, BatchLaw, InsertedLaw, BatchCall, BatchFor}
use Rattle.sessions.proofs.Laws.{lookup_law, slot_law}
use Rattle.sessions.specs.Laws.{InSlot}
use Rattle.sessions.specs.Batch.{Batched, fits, receiving_session, finish_receive_packet_data, finish_all, after_batch, receive}
use Rattle.std.specs.Prelude.{Result, Ok, Err, Some}
use Rattle.error.proofs.Laws.{positive_law}
use Rattle.error.specs.Error.{error_number, verdict_number}
use Rattle.error.specs.declared.Error.{Error}

module _ (store : List ℕ) (x : Session) (counters kinds : List ℕ) where
  -- the messages judged over the words of a session's slot
  abbrev pub batch_of : Batched Progress
  batch_of = finish_all (slot_words store (slot_of x.receiving_index)) (record { next = x.next; accepted = false; «data» = false }) counters kinds

  -- the store after them
  abbrev pub store_after : List ℕ
  store_after = put_slot store (slot_of x.receiving_index) batch_of.store

-- the session after the messages of a batch at a time
abbrev pub session_after : (store : List ℕ) (x : Session) (now : ℕ) (counters kinds : List ℕ) → Session
session_after store x now counters kinds = after_batch x (batch_of store x counters kinds).out now

-- what a batch that is not turned down hands back
pub receive_judged : (s : Sessions) (store : List ℕ) (index id now : ℕ) (counters kinds verdicts skips : List ℕ) (x : Session)
    → length store ≡ 1024 → fits counters kinds verdicts skips ≡ true → receiving_session s index id now ≡ Some x
    → receive s store index id now counters kinds verdicts skips
    ≡ record {
      out = Ok ((session_after store x now counters kinds), (batch_of store x counters kinds).out);
      store = store_after store x counters kinds;
      verdicts = (batch_of store x counters kinds).verdicts;
      skips = (batch_of store x counters kinds).skips;
    }
unfolding receive case_option choose
receive_judged s store index id now counters kinds verdicts skips x l f g = rw (eq-eqb (length store) 1024 l, f, g)

-- one message
module _ (history words : List ℕ) (p : Progress) (r : Represents history words p.next) (c k : ℕ) where
  rule : verdict_number (will_accept words p.next c) ≡ judged history c
  rule = (standing_law history words p.next r).judges c

  -- a refused counter has another number than 0
  refused_number : (error : Error) → will_accept words p.next c ≡ Err error → judged history c ≡ 0 → ⊥
  refused_number error e z = let n : error_number error ≡ judged history c = rw e at rule in omega (arith, n, z, positive_law error)

  -- what is recorded of a message is what the window commits of it
  recorded_failed : eqb k 2 ≡ true → recorded history c (verdict_on history c k) ≡ history
  unfolding recorded verdict_on choose
  recorded_failed e = rw e

  recorded_opened : eqb k 2 ≡ false → recorded history c (verdict_on history c k) ≡ commit_to history c
  unfolding recorded verdict_on commit_to choose
  recorded_opened e = rw e

  -- a refused counter adds nothing to the history
  recorded_refused : eqb k 2 ≡ false → (judged history c ≡ 0 → ⊥) → recorded history c (verdict_on history c k) ≡ history
  unfolding commit_to choose
  recorded_refused e d = recorded_opened e ∙ rw (ne_eqb (judged history c) 0 d)

  verdict_by : (b : Bool) (v : Result Unit Error) → eqb k 2 ≡ b → will_accept words p.next c ≡ v
      → verdict_number (finish_receive_packet_data words p c k).finished.verdict ≡ verdict_on history c k
  unfolding finish_receive_packet_data verdict_on case_result choose
  verdict_by true v e f = rw e refl
  verdict_by false (Ok good) e f = rw (e, f) (rw f at rule)
  verdict_by false (Err error) e f = rw (e, f) (rw f at rule)

  skip_by : (b : Bool) (v : Result Unit Error) → eqb k 2 ≡ b → will_accept words p.next c ≡ v
      → (finish_receive_packet_data words p c k).finished.skipped ≡ skip_on history c k
  unfolding finish_receive_packet_data skip_on case_result choose
  skip_by true v e f = rw e refl
  skip_by false (Ok good) e f = rw (e, f) ((standing_law history words p.next r).skips c)
  skip_by false (Err error) e f = rw (e, f) (sym ((judged_law history c).skips.refused (refused_number error f)))

  stands_by : (b : Bool) (v : Result Unit Error) → eqb k 2 ≡ b → will_accept words p.next c ≡ v
      → Represents (recorded history c (verdict_on history c k)) (finish_receive_packet_data words p c k).words (finish_receive_packet_data words p c k).finished.progress.next
  unfolding finish_receive_packet_data case_result choose
  stands_by true v e f = rw (recorded_failed e, e) r
  stands_by false (Ok good) e f = rw (recorded_opened e, e, f) ((standing_law history words p.next r).stands c)
  stands_by false (Err error) e f = rw (recorded_refused e (refused_number error f), e, f) r

  message_verdict : verdict_number (finish_receive_packet_data words p c k).finished.verdict ≡ verdict_on history c k
  message_verdict = verdict_by (eqb k 2) (will_accept words p.next c) refl refl

  message_skip : (finish_receive_packet_data words p c k).finished.skipped ≡ skip_on history c k
  message_skip = skip_by (eqb k 2) (will_accept words p.next c) refl refl

  message_stands : Represents (recorded history c (verdict_on history c k)) (finish_receive_packet_data words p c k).words (finish_receive_packet_data words p c k).finished.progress.next
  message_stands = stands_by (eqb k 2) (will_accept words p.next c) refl refl

-- the messages of a batch, in order
judges_all : (history words : List ℕ) (p : Progress) → Represents history words p.next → (counters kinds : List ℕ)
    → ((finish_all words p counters kinds).verdicts ≡ verdicts_on history counters kinds) × ((finish_all words p counters kinds).skips ≡ skips_on history counters kinds)
unfolding finish_all each_on
judges_all history words p r [] kinds = (refl, refl)
judges_all history words p r (c ∷ counters) [] = (refl, refl)
judges_all history words p r (c ∷ counters) (k ∷ kinds) =
    let rest = judges_all (recorded history c (verdict_on history c k)) (finish_receive_packet_data words p c k).words
    (finish_receive_packet_data words p c k).finished.progress (message_stands history words p r c k) counters kinds in (
      rw (message_verdict history words p r c k) (ap (λ (l : List ℕ). verdict_on history c k ∷ l) rest.0),
      rw (message_skip history words p r c k) (ap (λ (l : List ℕ). skip_on history c k ∷ l) rest.1),
    )

stands_all : (history words : List ℕ) (p : Progress) → Represents history words p.next → (counters kinds : List ℕ)
    → Represents (recorded_all history counters (verdicts_on history counters kinds)) (finish_all words p counters kinds).store (finish_all words p counters kinds).out.next
unfolding finish_all recorded_all each_on
stands_all history words p r [] kinds = r
stands_all history words p r (c ∷ counters) [] = r
stands_all history words p r (c ∷ counters) (k ∷ kinds) =
    stands_all (recorded history c (verdict_on history c k)) (finish_receive_packet_data words p c k).words (finish_receive_packet_data words p c k).finished.progress
    (message_stands history words p r c k) counters kinds

-- a slot whose record and words were put anew stands for what they represent
put_stands : (history : List ℕ) (s last : Sessions) (store words : List ℕ) (k : ℕ) (x : Session)
    → length s.slots ≡ 8 → length store ≡ 1024 → k < 8 → last.slots ≡ set s.slots k x → Represents history words x.next
    → Stands history last (put_slot store k words) k
put_stands history s last store words k x n l low e r =
    let there : slot_at last k ≡ x = ap (λ (slots : List Session). get_or slots k empty_session) e ∙ get_or-set_same s.slots k x empty_session (omega arith) in
    let same : slot_words (put_slot store k words) k ≡ words = (slot_law store words k l low).same r.long in
    rw (there, same) r

-- the whole call
module _ (c : BatchCall) (x : Session) (history : List ℕ) (live : BatchFor c x history) where
  its : InSlot c.sessions c.index x
  its = ((lookup_law c.sessions).receiving c.index c.id c.now x live.found).0

  begun : Represents history (slot_words c.store (slot_of x.receiving_index)) x.next
  begun = rw (its.named, ← its.stored) live.stands

  given : ((batch_of c.store x c.counters c.kinds).verdicts ≡ verdicts_on history c.counters c.kinds)
      × ((batch_of c.store x c.counters c.kinds).skips ≡ skips_on history c.counters c.kinds)
  given = judges_all history (slot_words c.store (slot_of x.receiving_index)) _ begun c.counters c.kinds

  pub judged_stands : Stands (recorded_all history c.counters (batch_of c.store x c.counters c.kinds).verdicts)
      (put c.sessions (session_after c.store x c.now c.counters c.kinds)) (store_after c.store x c.counters c.kinds) (slot_of x.receiving_index)
  unfolding put
  judged_stands =
      rw given.0
      (put_stands _ c.sessions (put c.sessions (session_after c.store x c.now c.counters c.kinds)) c.store _ (x.receiving_index % 8)
      (session_after c.store x c.now c.counters c.kinds) live.eight live.size (omega arith) refl
      (stands_all history (slot_words c.store (slot_of x.receiving_index)) _ begun c.counters c.kinds))

  pub batch_law : BatchLaw c history
  batch_law =
      let goes = receive_judged c.sessions c.store c.index c.id c.now c.counters c.kinds c.verdicts c.skips x live.size live.batch live.found in
      record {
        session = session_after c.store x c.now c.counters c.kinds;
        progress = (batch_of c.store x c.counters c.kinds).out;
        received = rw goes;
        judges = rw goes given.0;
        skips = rw goes given.1;
        stands = rw (goes, ← its.named) judged_stands;
      }

-- a verdict of 0 exactly where document 01 says
pub verdict_law : (history : List ℕ) (c k : ℕ) → VerdictLaw history c k
unfolding verdict_on skip_on choose
verdict_law history c k =
    record {
      commits = λ opened l near unseen. rw (ne_eqb k 2 opened) ((judged_law history c).commits l near unseen);
      only = λ z. only_by (eqb k 2) refl z;
      failed = λ e. rw (eq-eqb k 2 e);
      skips = skips_of (eqb k 2) refl;
    }
  where
    skips_of : (b : Bool) → eqb k 2 ≡ b → Skips (expected history) c (verdict_on history c k) (skip_on history c k)
    skips_of true e = rw e (record { ahead = λ z l. absurd (omega arith); behind = λ z l. refl; refused = λ z. refl })
    skips_of false e = rw e (judged_law history c).skips

    only_by : (b : Bool) → eqb k 2 ≡ b → verdict_on history c k ≡ 0
        → (k ≡ 2 → ⊥) × (c < limit) × (expected history ≤ c + 8192) × (member c history ≡ false)
    only_by true e z = absurd (let seven : 7 ≡ 0 = rw e at z in omega arith)
    only_by false e z =
        let j : judged history c ≡ 0 = rw e at z in
        (eqb-false k 2 e, ((judged_law history c).only j).0, ((judged_law history c).only j).1, ((judged_law history c).only j).2)

-- a session just inserted
pub inserted_law : (s : Sessions) (store : List ℕ) (x : Session) → length s.slots ≡ 8 → length store ≡ 1024 → x.next ≡ 0 → InsertedLaw s store x
unfolding insert inserting put choose
inserted_law s store x n l z =
    record {
      stands = rw (eq-eqb (length store) 1024 l)
          (put_stands [] s (inserting s x) store (zeros 128) (x.receiving_index % 8) (with_id x s.inserted) n l (omega arith) refl (rw z fresh_law));
    }
