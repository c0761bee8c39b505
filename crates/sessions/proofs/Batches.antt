-- A batch: one law for each way out of its functions, and its loop, which says what is left to do.
-- Assumes nothing.
use Rattle.std.proofs.Common.{◌≡◌, ℕ, zero, suc, ◌+◌, ◌-◌, ◌*◌, ◌<◌, ◌≤◌, Bool, true, false, ◌&&◌, eqb, leb, ltb, List, [], ◌∷◌, ◌++◌, length, get_or, take, drop, set, refl, ap, ◌∙◌, append-nil, add-one, arith, drop_of_length-le, take_all, drop-cons, take-suc-set, eq-eqb}
use Rattle.std.specs.List.{list_all}
use Rattle.std.specs.Prelude.{Ok, Some}
use Rattle.std.proofs.lemmas.Bool.Decides.{nat_tests}
use lib.Seq.{append_snoc}
use borrow.Rule.Slice.PartMut.{put_mid}
use Rattle.base.specs.Choice.{choose, case_option, case_result}
use Rattle.error.specs.Error.{verdict_number}
use Rattle.error.proofs.Laws.{positive_law}
use Rattle.window.specs.Window.{limit, is_invalid, will_accept, next_after}
use Rattle.sessions.specs.declared.batch.Progress.{Progress}
use Rattle.sessions.specs.declared.batch.Finished.{Finished}
use Rattle.sessions.specs.declared.session.Session.{Session}
use Rattle.sessions.specs.declared.sessions.Sessions.{Sessions}
use Rattle.sessions.specs.Batch.{known, fits, finish_all, receiving_session, receive, Batched, LeavesBatch, Message, finish_receive_packet_data, after_batch}
use Rattle.sessions.specs.Index.{slot_of}
use Rattle.sessions.specs.Laws.{IsBatch, commits}
use Rattle.sessions.specs.Store.{slot_words, put_slot, Leaves}
use Rattle.sessions.proofs.Words.{part_is, part_put, slot_long}

-- every kind is known if each is one of the three, as the code asks
known_first : (kind : ℕ) (rest : Bool) → (leb kind 2 && rest) ≡ choose (ltb 2 kind) false rest
unfolding choose
known_first kind rest = grind (arith, nat_tests)

known_listed : (kinds : List ℕ) → list_all (λ kind. leb kind 2) kinds ≡ known kinds
unfolding known
known_listed [] = refl
known_listed (kind ∷ kinds) = ap (λ (rest : Bool). leb kind 2 && rest) (known_listed kinds) ∙ known_first kind (known kinds)

pub known_all : (kinds : List ℕ) (i : ℕ) → length kinds ≤ i → list_all (λ kind. leb kind 2) (take i kinds) ≡ known kinds
known_all kinds i h = ap (list_all (λ kind. leb kind 2)) (take_all i kinds h) ∙ known_listed kinds

-- every kind is at most 2 just where the test says so
known_each : (kinds : List ℕ) → known kinds ≡ true → (i : ℕ) → i < length kinds → get_or kinds i 0 ≤ 2
unfolding known choose
known_each [] e i h = absurd (omega arith)
known_each (kind ∷ kinds) e zero h = grind (arith, nat_tests)
known_each (kind ∷ kinds) e (suc i) h = grind (arith, nat_tests, known_each kinds)

each_known : (kinds : List ℕ) → ((i : ℕ) → i < length kinds → get_or kinds i 0 ≤ 2) → known kinds ≡ true
unfolding known choose
each_known [] h = refl
each_known (kind ∷ kinds) h =
    let rest : (i : ℕ) → i < length kinds → get_or kinds i 0 ≤ 2 = λ i l. h (suc i) (omega arith) in
    grind (arith, nat_tests, h 0, each_known kinds rest)

module _ (counters kinds verdicts skips : List ℕ) where
  pub fits_batch : fits counters kinds verdicts skips ≡ true → IsBatch counters kinds verdicts skips
  unfolding fits choose
  fits_batch e =
      record {
        kinds_long = grind (arith, nat_tests);
        verdicts_long = grind (arith, nat_tests);
        skips_long = grind (arith, nat_tests);
        most = grind (arith, nat_tests);
        known = known_each kinds (grind (arith, nat_tests));
      }

  pub batch_fits : IsBatch counters kinds verdicts skips → fits counters kinds verdicts skips ≡ true
  unfolding fits choose
  batch_fits b = grind (arith, nat_tests, each_known kinds b.known)

-- what a batch comes to with verdicts and skips given before
abbrev pub preceded : (verdicts skips : List ℕ) → Batched Progress → Batched Progress
preceded verdicts skips b = record { out = b.out; store = b.store; verdicts = verdicts ++ b.verdicts; skips = skips ++ b.skips }

-- a batch under way comes to the verdicts and the skips given so far and what is left to do
abbrev pub Going : (came : List ℕ) → Progress → (counters kinds words verdicts skips : List ℕ) → Progress → ℕ → Type 0
Going came start counters kinds words verdicts skips progress i =
    finish_all came start counters kinds ≡ preceded (take i verdicts) (take i skips) (finish_all words progress (drop i counters) (drop i kinds))

module _ (came : List ℕ) (start : Progress) (counters kinds words verdicts skips : List ℕ) (progress : Progress) (i : ℕ)
    (going : Going came start counters kinds words verdicts skips progress i)
    (kinds_long : length kinds ≡ length counters) (verdicts_long : length verdicts ≡ length counters) (skips_long : length skips ≡ length counters) where
  abbrev message : Message
  message = finish_receive_packet_data words progress (get_or counters i 0) (get_or kinds i 0)

  -- the next message in front of the rest
  next_message : i < length counters → finish_all words progress (drop i counters) (drop i kinds)
      ≡ preceded (verdict_number message.finished.verdict ∷ []) (message.finished.skipped ∷ []) (finish_all message.words message.finished.progress (drop (suc i) counters) (drop (suc i) kinds))
  unfolding finish_all
  next_message h = rw (drop-cons counters i 0 h, drop-cons kinds i 0 (omega arith))

  pub batch_turn : i < length counters → (f : Finished) (last : List ℕ) (number : ℕ) → Leaves f message.finished last message.words → number ≡ verdict_number f.verdict
      → (passed : List ℕ) → passed ≡ set skips i f.skipped
      → Going came start counters kinds last (set verdicts i number) passed
      (record { next = f.progress.next; accepted = f.progress.accepted; «data» = f.progress.«data» }) (i + 1)
  batch_turn h f last number l n passed e =
      going ∙ ap (preceded (take i verdicts) (take i skips)) (next_message h)
      ∙ rw (
        add-one,
        e,
        n,
        l.out,
        l.words,
        take-suc-set verdicts i _ (omega arith),
        take-suc-set skips i _ (omega arith),
        append_snoc,
        append_snoc,
      )

  pub batch_ends : length counters ≤ i → LeavesBatch (finish_all came start counters kinds) progress words verdicts skips
  unfolding finish_all
  batch_ends h =
      let done : finish_all came start counters kinds ≡ record { out = progress; store = words; verdicts = verdicts; skips = skips } =
      going ∙ rw (drop_of_length-le counters {i = i} h, take_all i verdicts (omega arith), take_all i skips (omega arith), append-nil, append-nil) in
      record { out = rw done; words = rw done; list = rw done; skip_list = rw done }

-- a message is accepted just where its verdict is 0, and a batch has accepted one just where it had before or one of its verdicts is 0
accepts : (words : List ℕ) (p : Progress) (c k : ℕ)
    → (finish_receive_packet_data words p c k).finished.progress.accepted
    ≡ choose (eqb (verdict_number (finish_receive_packet_data words p c k).finished.verdict) 0) true p.accepted
unfolding finish_receive_packet_data choose case_result
accepts words p c k = grind (arith, nat_tests, positive_law)

pub accepts_all : (words : List ℕ) (p : Progress) (counters kinds : List ℕ)
    → (finish_all words p counters kinds).out.accepted ≡ choose (commits (finish_all words p counters kinds).verdicts) true p.accepted
unfolding finish_all commits choose
accepts_all words p [] kinds = refl
accepts_all words p (c ∷ counters) [] = refl
accepts_all words p (c ∷ counters) (k ∷ kinds) =
    let message : Message = finish_receive_packet_data words p c k in
    grind (arith, nat_tests, accepts_all message.words message.finished.progress counters kinds, accepts words p c k)

-- a counter that a window commits is below LIMIT, so a batch keeps the window's next at most LIMIT
within : (words : List ℕ) (p : Progress) (c k : ℕ) → p.next ≤ limit → (finish_receive_packet_data words p c k).finished.progress.next ≤ limit
unfolding finish_receive_packet_data choose case_result next_after will_accept is_invalid
within words p c k h = grind (arith, nat_tests)

pub batch_within : (words : List ℕ) (p : Progress) (counters kinds : List ℕ) → p.next ≤ limit → (finish_all words p counters kinds).out.next ≤ limit
unfolding finish_all
batch_within words p [] kinds h = h
batch_within words p (c ∷ counters) [] h = h
batch_within words p (c ∷ counters) (k ∷ kinds) h =
    let message : Message = finish_receive_packet_data words p c k in
    batch_within message.words message.finished.progress counters kinds (within words p c k h)

-- the whole call, with the session's slot lent on to the loop
pub received : (s : Sessions) (store : List ℕ) (index id now : ℕ) (counters kinds verdicts skips : List ℕ) (x : Session) (slot start end : ℕ) (progress : Progress)
    (after : Session) (last given passed : List ℕ) → length store ≡ 1024 → fits counters kinds verdicts skips ≡ true
    → receiving_session s index id now ≡ Some x → slot ≡ slot_of x.receiving_index → start ≡ 128 * slot → end ≡ 128 * slot + 128
    → LeavesBatch (finish_all (take (end - start) (drop start store)) (record { next = x.next; accepted = false; «data» = false }) counters kinds) progress last given passed
    → length last ≡ length (take (end - start) (drop start store)) → after ≡ after_batch x progress now
    → LeavesBatch (receive s store index id now counters kinds verdicts skips) (Ok (after, progress)) (put_mid start (end - start) store last) given passed
unfolding receive case_option choose
received s store index id now counters kinds verdicts skips x slot start end progress after last given passed l e p k b d f same m =
    let part : take (end - start) (drop start store) ≡ slot_words store slot = part_is store slot start end b d in
    let long_last : length last ≡ 128 = same ∙ ap length part ∙ slot_long store slot l (omega arith) in
    rw (eq-eqb (length store) 1024 l, e, p, ← k)
    (record {
      out = rw (m, f.out, part);
      words = part_put store last slot start end long_last b d ∙ ap (put_slot store slot) (f.words ∙ rw part);
      list = f.list ∙ rw part;
      skip_list = f.skip_list ∙ rw part;
    })
