-- A batch of received messages, after `finish_receive_packet_data` of src/session.rs and `commit_decapsulate` of src/tunnel.rs.
use Rattle.std.specs.Prelude.{◌≡◌, ℕ, Bool, true, false, ◌||◌, List, [], ◌∷◌, length, ◌==◌, nat_lt, Err, None, Ok, Option, Result, Some}
use Rattle.base.specs.Choice.{choose, case_option, case_result}
use Rattle.window.specs.Window.{will_accept, next_after, words_after, skipped_by}
use Rattle.sessions.specs.Index.{slot_of}
use Rattle.sessions.specs.Store.{whole, slot_words, put_slot}
use Rattle.sessions.specs.Session.{with_received_data, with_next, with_last_heard, expired_at}
use Rattle.sessions.specs.Sessions.{get}
use Rattle.sessions.specs.declared.batch.Progress.{Progress}
use Rattle.sessions.specs.declared.batch.Finished.{Finished}
use Rattle.sessions.specs.declared.session.Session.{Session}
use Rattle.sessions.specs.declared.sessions.Sessions.{Sessions}
use Rattle.error.specs.declared.Error.TheVariants.{InvalidArgument, InvalidAeadTag, NoCurrentSession}
use Rattle.error.specs.Error.{verdict_number}
use Rattle.error.specs.declared.Error.{Error}

-- what a batch hands back: an answer, and the words, the verdict list and the skip list that it leaves
pub record Batched (A : Type 0) : Type 0 where
  pub out : A
  pub store : List ℕ
  pub verdicts : List ℕ
  pub skips : List ℕ

-- what a call hands back is what a batch says
pub record LeavesBatch {A : Type 0} (batch : Batched A) (answer : A) (store verdicts skips : List ℕ) : Type 0 where
  pub out : answer ≡ batch.out
  pub words : store ≡ batch.store
  pub list : verdicts ≡ batch.verdicts
  pub skip_list : skips ≡ batch.skips

module _ {A : Type 0} where
  -- an answer that leaves the words and both lists as they came
  abbrev pub untouched : A → (store verdicts skips : List ℕ) → Batched A
  untouched out store verdicts skips = record { out = out; store = store; verdicts = verdicts; skips = skips }

-- whether every kind is one of the three: 0 data, 1 keepalive, 2 failed to open
unfoldable pub known : List ℕ → Bool
known [] = true
known (kind ∷ kinds) = choose (nat_lt 2 kind) false (known kinds)

-- whether lists make a batch: of one length, of at most 1,024 messages, each of a known kind
unfoldable pub fits : (counters kinds verdicts skips : List ℕ) → Bool
fits counters kinds verdicts skips =
    choose (nat_lt 1024 (length counters)) false
    (choose (length kinds == length counters)
    (choose (length verdicts == length counters) (choose (length skips == length counters) (known kinds) false) false) false)

-- what one message hands back: its verdict and its skip with the progress after it, and the window's words
pub record Message : Type 0 where
  pub finished : Finished
  pub words : List ℕ

-- one message: turned down where it failed to open, which skips nothing, else as the window says
unfoldable pub finish_receive_packet_data : List ℕ → Progress → (counter kind : ℕ) → Message
finish_receive_packet_data words progress counter kind =
    choose (kind == 2) (record { finished = record { verdict = Err InvalidAeadTag; skipped = 0; progress = progress }; words = words })
    (case_result (will_accept words progress.next counter)
    (λ error. record { finished = record { verdict = Err error; skipped = 0; progress = progress }; words = words })
    (λ good. record {
      finished = record {
        verdict = Ok good;
        skipped = skipped_by words progress.next counter;
        progress = record {
          next = next_after words progress.next counter;
          accepted = true;
          «data» = choose (kind == 0) true progress.«data»;
        };
      };
      words = words_after words progress.next counter;
    }))

-- the messages finished in order, each with the window as those before it left it
unfoldable pub finish_all : List ℕ → Progress → (counters kinds : List ℕ) → Batched Progress
finish_all words progress [] kinds = untouched progress words [] []
finish_all words progress (counter ∷ counters) [] = untouched progress words [] []
finish_all words progress (counter ∷ counters) (kind ∷ kinds) =
    let message : Message = finish_receive_packet_data words progress counter kind in
    let rest : Batched Progress = finish_all message.words message.finished.progress counters kinds in
    record {
      out = rest.out;
      store = rest.store;
      verdicts = verdict_number message.finished.verdict ∷ rest.verdicts;
      skips = message.finished.skipped ∷ rest.skips;
    }

-- a session last heard at this time, if a message was accepted
abbrev pub hear : Session → (accepted : Bool) → (now : ℕ) → Session
hear s accepted now = with_last_heard s (choose accepted now s.last_heard)

-- a session after a batch: its window's next, whether any data has been received, and when it was last heard
abbrev pub after_batch : Session → Progress → (now : ℕ) → Session
after_batch s progress now =
    hear (with_received_data (with_next s progress.next) (s.received_data || progress.«data»)) progress.accepted now

-- the session that a batch is for: the one with this index and id, if it is not expired
unfoldable pub receiving_session : Sessions → (index id now : ℕ) → Option Session
receiving_session s index id now =
    case_option (get s index) None (λ session. choose (session.id == id) (choose (expired_at session now) None (Some session)) None)

-- a batch: 2 for a store not of 1,024 words or lists that make no batch, 12 where there is no such session or it is expired, else judged over the words of the session's slot
unfoldable pub receive : Sessions → List ℕ → (index id now : ℕ) → (counters kinds verdicts skips : List ℕ) → Batched (Result (Session × Progress) Error)
receive s store index id now counters kinds verdicts skips =
    choose (whole store)
    (choose (fits counters kinds verdicts skips)
    (case_option (receiving_session s index id now) (untouched (Err NoCurrentSession) store verdicts skips)
    (λ session.
    let slot : ℕ = slot_of session.receiving_index in
    let batch : Batched Progress = finish_all (slot_words store slot) (record { next = session.next; accepted = false; «data» = false }) counters kinds in
    record {
      out = Ok (after_batch session batch.out now, batch.out);
      store = put_slot store slot batch.store;
      verdicts = batch.verdicts;
      skips = batch.skips;
    }))
    (untouched (Err InvalidArgument) store verdicts skips))
    (untouched (Err InvalidArgument) store verdicts skips)
