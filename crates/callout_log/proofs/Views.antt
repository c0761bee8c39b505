-- What a view answers and leaves, and that a view is a log.
-- Assumes nothing.
use Rattle.std.specs.Prelude.{Ok, Err}
use Rattle.error.specs.declared.Error.{Error}
use Rattle.error.specs.declared.Error.TheVariants.{InvalidArgument, BrokenTrailer as TrailerBreaks, BrokenRecord as RecordBreaks}
use Rattle.error.specs.Error.{error_number}
use Rattle.callout_log.specs.Log.{answer_number, answer_values}
use mathlib.Core.Path.{◌≡◌, refl, ap, sym, subst, ◌∙◌}
use mathlib.Core.Bool.{Bool, true, false}
use mathlib.Core.List.{List, ◌++◌, map}
use Prim.Native.Nat.{ℕ, ◌+◌, ◌-◌, ◌≤◌, ◌<◌}
use native.Mathlib.Omega.{arith}
use lib.ListN.{length, get_or, take, drop, length-append, length-drop, length-map, get_or-append}
use lib.Seq.{get_or-append-add, get_or-drop, get_or-take, length-take-le, take_all, take_at}
use borrow.Author.Tests.{le-leb, lt-leb}
use Rattle.base.specs.Choice.{choose}
use Rattle.base.proofs.Choice.{of_choice}
use Rattle.endian.specs.LittleEndian.{Bytes}
use Rattle.callout_log.specs.declared.record.Record.{Record}
use Rattle.callout_log.specs.Record.{blanked, is_record, record_at}
use Rattle.callout_log.specs.Trailer.{is_trailer}
use Rattle.callout_log.specs.Log.{ends, every, is_store, places}
use Rattle.callout_log.specs.Read.{Lists, Reading, hold, over, read_bytes, read_log}
use Rattle.callout_log.specs.Laws.{BrokenRecord, BrokenTrailer, Room, Written, answered, records_in}
use Rattle.callout_log.specs.View.{Viewing, pointed, read_seen, seen, view_bytes, viewing, view_log}
use Rattle.callout_log.specs.ViewLaws.{HiddenByte, HeldSeen, IsViewed, NotViewed, ReadSeenLaw, ViewLaw, seen_callouts}
use Rattle.callout_log.proofs.Appended.{store_large, store_over, store_true}
use Rattle.callout_log.proofs.Broken.{all_records, all_trailers, led_within, record_fails, trailer_fails}
use Rattle.callout_log.proofs.Exact.{read as read_callouts, read_log_lem, written as written_log}
use Rattle.callout_log.proofs.Hiding.{covers}
use Rattle.callout_log.proofs.HiddenBytes.{hidden_covered, not_hidden}
use Rattle.callout_log.proofs.Kept.{callouts_in}
use Rattle.callout_log.proofs.Seen.{hidden, hidden_callouts, hidden_same, records_in_lem}
use Rattle.callout_log.proofs.Shown.{read_as, read_hidden, read_plain, seen_broken, seen_length}
use Rattle.callout_log.proofs.Stands.{take_bytes}

view_declined : (hides : Bool) (store : List ℕ) (used : ℕ) (bytes : List ℕ) (error : Error) → view_log hides store used bytes ≡ viewing (Err error) bytes
    → NotViewed hides store used bytes (error_number error)
unfolding answer_number
view_declined hides store used bytes error e = record { refused = ap (λ (v : Viewing). answer_number v.answer) e; left = ap (λ (v : Viewing). v.bytes) e }

no_store : (hides : Bool) (store : List ℕ) (used : ℕ) (bytes : List ℕ) → is_store (length store) used ≡ false → NotViewed hides store used bytes 2
unfolding view_log choose
no_store hides store used bytes e = view_declined hides store used bytes InvalidArgument (rw e refl)

-- callouts as they are seen, with as many records
seen_many : (hides : Bool) (callouts : List (List Record)) → length (seen_callouts hides callouts) ≡ length callouts
unfolding seen_callouts
seen_many true callouts = length-map callouts (map blanked)
seen_many false callouts = refl

seen_records : (hides : Bool) (callouts : List (List Record)) → length (records_in (seen_callouts hides callouts)) ≡ length (records_in callouts)
unfolding seen_callouts
seen_records true callouts = ap length (records_in_lem blanked callouts) ∙ length-map (records_in callouts) blanked
seen_records false callouts = refl

seen_room : (hides : Bool) (callouts : List (List Record)) (l : Lists) → Room callouts l → Room (seen_callouts hides callouts) l
seen_room hides callouts l room =
    let many : length (seen_callouts hides callouts) ≡ length callouts = seen_many hides callouts in
    let all : length (records_in (seen_callouts hides callouts)) ≡ length (records_in callouts) = seen_records hides callouts in
    record {
      counts = omega (arith, many, room.counts);
      times = omega (arith, all, room.times);
      counters = omega (arith, all, room.counters);
      session_ids = omega (arith, all, room.session_ids);
      local_indices = omega (arith, all, room.local_indices);
      verdicts = omega (arith, all, room.verdicts);
    }

-- a byte of a log with good trailers as it is seen
module _ (log : List ℕ) (good : every (is_trailer log) (ends log) ≡ true) where
  seen_byte : (i : ℕ) → get_or (seen true log) i 0 ≡ choose (covers (places log) i) 0 (get_or log i 0)
  unfolding seen pointed choose
  seen_byte i = rw good ((hidden log good).byte i)

  seen_bytes : (hides : Bool) → Bytes log → Bytes (seen hides log)
  unfolding seen choose
  seen_bytes true b =
      record { below = λ (i : ℕ). subst (λ (n : ℕ). n < 256) (sym (seen_byte i)) (of_choice (λ (n : ℕ). n < 256) (covers (places log) i) 0 (get_or log i 0) (omega arith) (b.below i)) }
  seen_bytes false b = b

  -- its trailers, records and callouts
  seen_trailers : (hides : Bool) → every (is_trailer (seen hides log)) (ends (seen hides log)) ≡ true
  unfolding seen pointed choose
  seen_trailers true = rw good (hidden_same log good).trailers
  seen_trailers false = good

  seen_kept : (hides : Bool) → every (is_record (seen hides log)) (places (seen hides log)) ≡ every (is_record log) (places log)
  unfolding seen pointed choose
  seen_kept true = rw good (hidden_same log good).records
  seen_kept false = refl

  seen_callouts_lem : (hides : Bool) → callouts_in (seen hides log) ≡ seen_callouts hides (callouts_in log)
  unfolding seen pointed seen_callouts choose
  seen_callouts_lem true = rw good (hidden_callouts log good)
  seen_callouts_lem false = refl

-- a store whose log is not broken
module _ (hides : Bool) (store : List ℕ) (used : ℕ) (b : Bytes store) (size : length store ≤ 65536) (within : used ≤ length store) where
  abbrev log : List ℕ
  log = take used store

  log_bytes_lem : Bytes log
  log_bytes_lem = take_bytes used store b

  log_long : length log ≡ used
  log_long = length-take-le used store within

  small : length log ≤ 65536
  small = omega (arith, log_long)

  view_log_lem : (bytes : List ℕ) → view_log hides store used bytes ≡ view_bytes hides log bytes
  unfolding view_log choose
  view_log_lem bytes = rw (store_true (length store) used size within) refl

  no_trailer : (bytes : List ℕ) → BrokenTrailer log → NotViewed hides store used bytes 17
  unfolding view_bytes choose
  no_trailer bytes x = view_declined hides store used bytes TrailerBreaks (view_log_lem bytes ∙ rw (trailer_fails log log_bytes_lem small x) refl)

  module _ (sound : BrokenTrailer log → ⊥) where
    trailers : every (is_trailer log) (ends log) ≡ true
    trailers = all_trailers log log_bytes_lem small sound

    no_record : (bytes : List ℕ) → BrokenRecord log → NotViewed hides store used bytes 18
    unfolding view_bytes choose
    no_record bytes x = view_declined hides store used bytes RecordBreaks (view_log_lem bytes ∙ rw (trailers, record_fails log log_bytes_lem small trailers x) refl)

    module _ (whole : BrokenRecord log → ⊥) where
      records : every (is_record log) (places log) ≡ true
      records = all_records log log_bytes_lem small sound whole

      too_few : (bytes : List ℕ) → length bytes < used → NotViewed hides store used bytes 2
      unfolding view_bytes choose
      too_few bytes h =
          view_declined hides store used bytes InvalidArgument (view_log_lem bytes ∙ rw (trailers, records, lt-leb (length log) (length bytes) (omega (arith, log_long))) refl)

      -- what is seen, and the log that it is
      abbrev shown : List ℕ
      shown = seen hides log

      shown_long : length shown ≡ used
      shown_long = seen_length log hides trailers ∙ log_long

      shown_all : take used shown ≡ shown
      shown_all = take_all used shown (omega (arith, shown_long))

      shown_bytes : Bytes shown
      shown_bytes = seen_bytes log trailers hides log_bytes_lem

      shown_trailers : every (is_trailer (take used shown)) (ends (take used shown)) ≡ true
      shown_trailers = subst (λ (v : List ℕ). every (is_trailer v) (ends v) ≡ true) (sym shown_all) (seen_trailers log trailers hides)

      shown_records : every (is_record (take used shown)) (places (take used shown)) ≡ true
      shown_records = subst (λ (v : List ℕ). every (is_record v) (places v) ≡ true) (sym shown_all) (seen_kept log trailers hides ∙ records)

      shown_callouts : callouts_in (take used shown) ≡ seen_callouts hides (callouts_in log)
      shown_callouts = ap callouts_in shown_all ∙ seen_callouts_lem log trailers hides

      shown_written : Written shown used (seen_callouts hides (callouts_in log))
      shown_written =
          subst (λ (c : List (List Record)). Written shown used c) shown_callouts
          (written_log shown used (omega (arith, shown_long)) (omega (arith, shown_long)) shown_bytes shown_trailers shown_records)

      shown_reads : (l : Lists) → Room (callouts_in log) l → read_log shown used l ≡ answered (seen_callouts hides (callouts_in log)) l
      shown_reads l room =
          read_callouts shown used (omega (arith, shown_long)) (omega (arith, shown_long)) shown_bytes shown_trailers shown_records l
          (subst (λ (c : List (List Record)). Room c l) (sym shown_callouts) (seen_room hides (callouts_in log) l room))
          ∙ ap (λ (c : List (List Record)). answered c l) shown_callouts

      module _ (bytes : List ℕ) (enough : used ≤ length bytes) where
        viewed : view_log hides store used bytes ≡ viewing (Ok used) (shown ++ drop used bytes)
        unfolding view_bytes over choose
        viewed =
            view_log_lem bytes
            ∙ rw (trailers, records, le-leb (length log) (length bytes) (omega (arith, log_long)), shown_long, log_long) refl

        abbrev left : List ℕ
        left = (view_log hides store used bytes).bytes

        left_is : left ≡ shown ++ drop used bytes
        left_is = ap (λ (v : Viewing). v.bytes) viewed

        front : take used left ≡ shown
        front = ap (take used) left_is ∙ take_at shown (drop used bytes) used shown_long

        front_byte : (i : ℕ) → i < used → get_or left i 0 ≡ get_or shown i 0
        front_byte i h = ap (λ (l : List ℕ). get_or l i 0) left_is ∙ get_or-append shown (drop used bytes) 0 i (omega (arith, shown_long))

        rest_byte : (i : ℕ) → used ≤ i → get_or left i 0 ≡ get_or bytes i 0
        rest_byte i h =
            let here : i ≡ length shown + (i - used) = omega (arith, shown_long) in
            let there : used + (i - used) ≡ i = omega arith in
            ap (λ (l : List ℕ). get_or l i 0) left_is
            ∙ ap (λ (n : ℕ). get_or (shown ++ drop used bytes) n 0) here
            ∙ get_or-append-add shown (drop used bytes) (i - used) 0
            ∙ get_or-drop used bytes (i - used) 0
            ∙ ap (λ (n : ℕ). get_or bytes n 0) there

        hidden_byte : hides ≡ true → (i : ℕ) → HiddenByte log i → get_or left i 0 ≡ 0
        unfolding choose
        hidden_byte t i x =
            front_byte i (omega (arith, x.before, x.within, x.trailer.within, led_within log log_bytes_lem small x.end x.leads, log_long))
            ∙ ap (λ (h : Bool). get_or (seen h log) i 0) t
            ∙ seen_byte log trailers i
            ∙ rw (hidden_covered log log_bytes_lem small i x) refl

        visible_byte : (i : ℕ) → i < used → (hides ≡ true → HiddenByte log i → ⊥) → get_or left i 0 ≡ get_or store i 0
        unfolding seen choose
        visible_byte i h x = front_byte i h ∙ decide hides refl ∙ get_or-take used store i 0 h
          where
            decide : (t : Bool) → hides ≡ t → get_or (seen hides log) i 0 ≡ get_or log i 0
            decide true e = ap (λ (k : Bool). get_or (seen k log) i 0) e ∙ seen_byte log trailers i ∙ rw (not_hidden log log_bytes_lem small i sound (x e)) refl
            decide false e = ap (λ (k : Bool). get_or (seen k log) i 0) e

        is_viewed : IsViewed hides store used bytes left
        unfolding answer_number answer_values
        is_viewed =
            record {
              number = ap (λ (v : Viewing). answer_number v.answer) viewed;
              values = ap (λ (v : Viewing). answer_values v.answer) viewed;
              leaves = refl;
              size = ap length left_is ∙ length-append shown (drop used bytes) ∙ omega (arith, shown_long, length-drop used bytes);
              hidden = hidden_byte;
              visible = visible_byte;
              rest = rest_byte;
              callouts = callouts_in log;
              written = written_log store used size within b trailers records;
              log = subst (λ (v : List ℕ). Written v used (seen_callouts hides (callouts_in log))) (sym front) shown_written;
              reads = λ l room. ap (λ (v : List ℕ). read_log v used l) front ∙ shown_reads l room;
            }

      -- the reader on what is seen
      held_seen : (l : Lists) → HeldSeen hides store used l
      unfolding read_seen choose
      held_seen l =
          record {
            callouts = callouts_in log;
            written = written_log store used size within b trailers records;
            reads = λ room.
                rw (store_true (length store) used size within)
                (ap (λ (v : List ℕ). read_bytes v l) (sym shown_all) ∙ sym (read_log_lem shown used (omega (arith, shown_long)) (omega (arith, shown_long)) l) ∙ shown_reads l room);
          }

pub view_law : ViewLaw
view_law =
    record {
      size = λ hides store used bytes h. no_store hides store used bytes (store_large (length store) used h);
      used = λ hides store used bytes h. no_store hides store used bytes (store_over (length store) used h);
      broken_trailer = λ hides store used bytes b size within x. no_trailer hides store used b size within bytes x;
      broken_record = λ hides store used bytes b size within sound x. no_record hides store used b size within sound bytes x;
      short = λ hides store used bytes b size within sound whole h. too_few hides store used b size within sound whole bytes h;
      good = λ hides store used bytes b size within sound whole h. is_viewed hides store used b size within sound whole bytes h;
    }

-- the reader on what is seen answers as the reader on the log does
module _ (log : List ℕ) (l : Lists) where
  -- and leaves the lists where it is turned down
  record ReadAlike (seen read : Reading) : Type 0 where
    answer : seen.answer ≡ read.answer
    refused : (answer_number read.answer ≡ 0 → ⊥) → seen.lists ≡ l

  good_alike : every (is_trailer log) (ends log) ≡ true → ReadAlike (read_bytes (seen true log) l) (read_bytes log l)
  unfolding read_as choose answer_number
  good_alike good =
      rw (read_hidden log good l, read_plain log good l) (decide (every (is_record log) (places log)) (hold (length (ends log)) (length (places log)) l))
    where
      decide : (kept room : Bool)
          → ReadAlike (read_as log good l (map blanked (map (record_at log) (places log))) kept room) (read_as log good l (map (record_at log) (places log)) kept room)
      decide true true = record { answer = refl; refused = λ n. absurd (n refl) }
      decide true false = record { answer = refl; refused = λ n. refl }
      decide false room = record { answer = refl; refused = λ n. refl }

  broken_alike : every (is_trailer log) (ends log) ≡ false → ReadAlike (read_bytes (seen true log) l) (read_bytes log l)
  unfolding read_bytes choose
  broken_alike e = rw (seen_broken log e, e) (record { answer = refl; refused = λ n. refl })

  read_alike : ReadAlike (read_bytes (seen true log) l) (read_bytes log l)
  read_alike = decide (every (is_trailer log) (ends log)) refl
    where
      decide : (t : Bool) → every (is_trailer log) (ends log) ≡ t → ReadAlike (read_bytes (seen true log) l) (read_bytes log l)
      decide true e = good_alike e
      decide false e = broken_alike e

  -- a read that is turned down leaves the lists
  Stays : Reading → Type 0
  Stays r = (answer_number r.answer ≡ 0 → ⊥) → r.lists ≡ l

  read_stays : Stays (read_bytes log l)
  unfolding read_bytes Stays answer_number
  read_stays =
      of_choice Stays _ _ _
      (of_choice Stays _ _ _ (of_choice Stays _ _ _ (λ n. absurd (n refl)) (λ n. refl)) (λ n. refl)) (λ n. refl)

module _ (store : List ℕ) (used : ℕ) (l : Lists) where
  -- by the test of the store
  alike : ReadAlike (take used store) l (read_seen true store used l) (read_log store used l)
  unfolding read_seen read_log choose
  alike = decide (is_store (length store) used) refl
    where
      decide : (t : Bool) → is_store (length store) used ≡ t → ReadAlike (take used store) l (read_seen true store used l) (read_log store used l)
      decide true e = rw e (read_alike (take used store) l)
      decide false e = rw e (record { answer = refl; refused = λ n. refl })

  whole : read_seen false store used l ≡ read_log store used l
  unfolding read_seen read_log seen choose
  whole = refl

  stays : (answer_number (read_log store used l).answer ≡ 0 → ⊥) → (read_log store used l).lists ≡ l
  unfolding read_log Stays
  stays = of_choice (Stays (take used store) l) (is_store (length store) used) _ _ (read_stays (take used store) l) (λ n. refl)

  seen_answer : (hides : Bool) → (read_seen hides store used l).answer ≡ (read_log store used l).answer
  seen_answer true = alike.answer
  seen_answer false = ap (λ (r : Reading). r.answer) whole

  seen_refused : (hides : Bool) → (answer_number (read_log store used l).answer ≡ 0 → ⊥) → (read_seen hides store used l).lists ≡ l
  seen_refused true n = alike.refused n
  seen_refused false n = ap (λ (r : Reading). r.lists) whole ∙ stays n

pub read_seen_law : ReadSeenLaw
read_seen_law =
    record {
      answer = λ hides store used l. seen_answer store used l hides;
      whole = whole;
      refused = λ hides store used l n. seen_refused store used l hides n;
      held = λ hides store used l b size within sound whole. held_seen hides store used b size within sound whole l;
    }
