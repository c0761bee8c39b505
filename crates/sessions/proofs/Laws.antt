-- The theorems of the laws that src/claims.rt ties: what another crate may cite of the sessions' proofs.
-- Assumes nothing.
use Rattle.std.specs.Prelude.{None}
use Rattle.std.proofs.Common.{◌≡◌, ℕ, true, false, ◌+◌, ◌<◌, ◌≤◌, List, length, get_or, refl, ap, ◌∙◌, arith, get_or-set_other}
use Rattle.std.proofs.lemmas.Bool.Decides.{nat_tests}
use lib.Seq.{set-get_or}
use Rattle.base.proofs.Counting.{up_from-at}
use Rattle.base.proofs.Zeros.{length_zeros}
use Rattle.base.specs.Bits.{bit}
use Rattle.base.specs.Choice.{choose, case_option, case_result, case_results}
use Rattle.base.specs.Lists.{zeros}
use Rattle.base.specs.Sums.{sum}
use Rattle.window.specs.Window.{limit, bit_at, check_bit, will_accept}
use Rattle.sessions.specs.Batch.{known, fits, finish_all, after_batch, receiving_session, receive}
use Rattle.sessions.specs.Cases.{case_role}
use Rattle.sessions.specs.Laws.{SlotsApart, NextIndexLaw, NextIndexExample, selecting, EmptyLaw, LookupLaw, SlotLaw, WholeLaw, ExpiryLaw, FitsLaw, LookLaw, NextLaw, RejectedLaw, EmptyBatchLaw, HeardLaw, ReserveLaw, SplitLaw, InSlot, MissingLaw, NoReportLaw, MissingExample, expects70, with70, store70}
use Rattle.sessions.specs.declared.batch.Progress.{Progress}
use Rattle.sessions.specs.Reservations.{granted, ReservationLaw}
use Rattle.sessions.specs.Index.{slot_of, wrapping_increment}
use Rattle.sessions.specs.Range.{ends_above_limit, split_off, split_number, split_values}
use Rattle.sessions.specs.Sessions.{slot_at, new_sessions, empty_slots, in_slot_of, get, put, current_of, in_current_slot, ahead, next_index, inserting, insert, usable, sending_session, select, clear, emptied, expire, last_heard, missing}
use Rattle.sessions.specs.Store.{slot_words, missing_of}
use Rattle.sessions.specs.declared.range.Range.{Range}
use Rattle.sessions.specs.declared.session.Session.{Session}
use Rattle.sessions.specs.declared.sessions.Sessions.{Sessions}
use Rattle.sessions.specs.Session.{new_session, empty_session, expired_at, should_use_at, sending_counter_exhausted, reserve_counters, will_receive}
use Rattle.sessions.proofs.Batches.{accepts_all, batch_fits, batch_within, fits_batch}
use Rattle.sessions.proofs.Missing.{missing_rest, missing_own}
use Rattle.sessions.proofs.Reservations.{Counts, counts_all}
use Rattle.sessions.proofs.Slots.{expire_none, kept_expire, whole_first}
use Rattle.sessions.proofs.Words.{length_put, put_own, slot_long, slot_other, slot_same}

-- the counters that a session grants
pub reservation_law : (s : Session) (lens : List ℕ) → s.sending_key_counter ≡ 0 → ReservationLaw s lens
reservation_law s lens z =
    let all : Counts s (granted s lens) = counts_all s lens in
    record {
      counts = λ k h.
          ap (λ (l : List ℕ). get_or l k 0) all.counts ∙ up_from-at s.sending_key_counter (length (granted s lens)) k h ∙ omega arith;
      below = λ k h. (let most : s.sending_key_counter + length (granted s lens) ≤ limit = all.below (omega arith) in omega arith);
    }

-- the slots that a call does not name
pub slots_apart : (s : Sessions) (store : List ℕ) (slot : ℕ) → SlotsApart s store slot
unfolding receive receiving_session get in_slot_of insert inserting put case_results case_option choose
slots_apart s store slot =
    record {
      batch = λ index id now counters kinds verdicts skips d. grind (arith, nat_tests, slot_other, get_or-set_other);
      insertion = λ x d. grind (arith, nat_tests, slot_other, get_or-set_other);
      expiry = λ now e. kept_expire s store slot now e;
    }

-- the index that the next allocation gives
pub next_index_law : (s : Sessions) → NextIndexLaw s
unfolding next_index ahead in_current_slot current_of get in_slot_of wrapping_increment case_option choose
next_index_law s =
    record {
      two = λ index x t. grind (arith, nat_tests);
      one = λ none. grind (arith, nat_tests);
      low = grind (arith, nat_tests);
      upper = grind (arith, nat_tests);
      apart = λ index x c i q. grind (arith, nat_tests);
      given = refl;
      stored = refl;
    }

pub next_index_example : NextIndexExample
unfolding selecting new_session empty_session new_sessions empty_slots put select emptied in_slot_of get current_of in_current_slot ahead wrapping_increment case_option choose
next_index_example =
    record {
      taken = record { selected = refl; there = record { stored = refl; filled = refl; named = refl }; following = refl };
      two = refl;
      one = refl;
      empty = refl;
      replaced = refl;
      wraps = refl;
      over = refl;
      after = refl;
    }

-- the record of an empty slot
pub empty_law : EmptyLaw
unfolding empty_session
empty_law = record { unfilled = λ x e f. grind arith }

-- no session is found where no filled slot holds one with the index
not_got : (s : Sessions) (index : ℕ) → ((x : Session) → InSlot s index x → ⊥) → get s index ≡ None
unfolding get in_slot_of case_option choose
not_got s index none =
    let apart : (slot_at s (slot_of index)).filled ≡ true → (slot_at s (slot_of index)).receiving_index ≡ index → ⊥ =
    λ f n. none (slot_at s (slot_of index)) (record { stored = refl; filled = f; named = n }) in
    grind (arith, nat_tests, apart)

-- what the lookups find
pub lookup_law : (s : Sessions) → LookupLaw s
unfolding in_slot_of get current_of sending_session usable sending_counter_exhausted expired_at should_use_at receiving_session last_heard case_role case_option choose
lookup_law s =
    record {
      found = λ index x e. grind (arith, nat_tests);
      current = λ x e. grind (arith, nat_tests);
      sending = λ now x e. grind (arith, nat_tests);
      sends = λ now x e m. grind (arith, nat_tests);
      receiving = λ index id now x e. grind (arith, nat_tests);
      receives = λ index now x i h. grind (arith, nat_tests);
      heard = λ index x i. grind (arith, nat_tests);
      unheard = λ index none. rw (not_got s index none) refl;
    }

-- words put into a slot
pub slot_law : (store words : List ℕ) (slot : ℕ) → length store ≡ 1024 → slot < 8 → SlotLaw store words slot
slot_law store words slot l low =
    record { whole = length_put store words slot l low; same = slot_same store words slot l low; other = slot_other store words slot l low }

-- how many words are left
pub whole_law : (s : Sessions) (store : List ℕ) → length store ≡ 1024 → WholeLaw s store
unfolding insert clear expire receive case_option choose
whole_law s store l =
    record {
      insertion = λ x. grind (arith, nat_tests, length_put);
      clearing = grind (arith, nat_tests, length_zeros);
      expiry = λ now. grind (arith, nat_tests, whole_first);
      batch = λ index id now counters kinds verdicts skips. grind (arith, nat_tests, length_put);
    }

-- an expiry that finds none
pub expiry_law : (s : Sessions) (store : List ℕ) (now : ℕ) → ExpiryLaw s store now
expiry_law s store now = record { none = expire_none s now store }

-- lists that make a batch
pub fits_law : (counters kinds verdicts skips : List ℕ) → FitsLaw counters kinds verdicts skips
fits_law counters kinds verdicts skips = record { batch = fits_batch counters kinds verdicts skips; fitting = batch_fits counters kinds verdicts skips }

-- the early look
pub look_law : (s : Session) (store : List ℕ) (receiver counter : ℕ) → length store ≡ 1024 → LookLaw s store receiver counter
unfolding will_receive will_accept choose
look_law s store receiver counter l = record { numbers = grind (arith, nat_tests, slot_long) }

-- a batch that is turned down
pub rejected_law : (s : Sessions) (store : List ℕ) (index id now : ℕ) (counters kinds verdicts skips : List ℕ) → RejectedLaw s store index id now counters kinds verdicts skips
unfolding receive case_option choose
rejected_law s store index id now counters kinds verdicts skips =
    record { words = λ error e. grind arith; list = λ error e. grind arith; skip_list = λ error e. grind arith }

-- an empty batch
nothing_new : (s : Sessions) (index now : ℕ) → (slot_at s (slot_of index)).receiving_index ≡ index
    → put s (after_batch (slot_at s (slot_of index)) (record { next = (slot_at s (slot_of index)).next; accepted = false; «data» = false }) now) ≡ s
unfolding put choose
nothing_new s index now n = grind (arith, nat_tests, set-get_or s.slots (slot_of index) empty_session)

pub empty_batch_law : (s : Sessions) (store : List ℕ) (index id now : ℕ) → EmptyBatchLaw s store index id now
unfolding receive receiving_session get in_slot_of fits known finish_all case_option choose
empty_batch_law s store index id now =
    record {
      answer = λ x p e. grind (arith, nat_tests, nothing_new s index now);
      words = grind (arith, nat_tests, put_own);
      list = grind (arith, nat_tests);
      skip_list = grind (arith, nat_tests);
    }

-- when a session was last heard
pub heard_law : (s : Sessions) (store : List ℕ) (index id now : ℕ) (counters kinds verdicts skips : List ℕ) → HeardLaw s store index id now counters kinds verdicts skips
unfolding receive receiving_session get in_slot_of case_option choose
heard_law s store index id now counters kinds verdicts skips =
    record {
      committed = λ x p e c. grind (arith, nat_tests, accepts_all);
      uncommitted = λ before x p i e c. grind (arith, nat_tests, accepts_all);
    }

-- the counters that are left
pub reserve_law : (s : Session) (len : ℕ) → ReserveLaw s len
unfolding reserve_counters choose
reserve_law s len = record { grants = λ h. grind (arith, nat_tests); refuses = λ h. grind (arith, nat_tests) }

-- a cut
pub split_law : (r : Range) (at : ℕ) → SplitLaw r at
unfolding split_off split_number split_values ends_above_limit choose
split_law r at =
    record {
      empty = λ e. grind (arith, nat_tests);
      uncut = λ e. grind (arith, nat_tests);
      beyond = λ h. grind (arith, nat_tests);
      good = λ a b h. grind (arith, nat_tests);
      whole = λ g h. grind (arith, nat_tests);
      parts = λ g h. grind (arith, nat_tests);
    }

-- the window's next after the messages of a batch
pub next_law : (words : List ℕ) (p : Progress) (counters kinds : List ℕ) → NextLaw words p counters kinds
next_law words p counters kinds = record { within = batch_within words p counters kinds }

-- the missing report
pub missing_law : (s : Sessions) (store : List ℕ) (index : ℕ) (x : Session) → InSlot s index x → length store ≡ 1024 → MissingLaw s store index x
unfolding missing get in_slot_of case_option choose
missing_law s store index x i l =
    record {
      count = missing_of (slot_words store (slot_of index)) x.next;
      answered = grind (arith, nat_tests);
      together = missing_rest (slot_words store (slot_of index)) x.next;
      fresh = λ z. omega (arith, missing_rest (slot_words store (slot_of index)) x.next);
      own = λ other m same. grind (arith, nat_tests, missing_own (slot_words store (slot_of index)) (slot_words other (slot_of index)) x.next same);
    }

pub no_report_law : (s : Sessions) (store : List ℕ) (index : ℕ) → ((x : Session) → InSlot s index x → ⊥) → length store ≡ 1024 → NoReportLaw s store index
unfolding missing case_result case_option choose
no_report_law s store index none l = record { number = grind (arith, nat_tests, not_got s index none) }

pub missing_example : MissingExample
unfolding with70 store70 expects70 new_session empty_session new_sessions empty_slots put zeros in_slot_of get missing missing_of slot_words check_bit bit_at bit sum case_option choose
missing_example = record { held = record { stored = refl; filled = refl; named = refl }; size = refl; report = refl }
