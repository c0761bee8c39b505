-- The loops that read records and callouts into lent lists: where each begins, a turn, and where it ends.
-- Assumes nothing.
use mathlib.Core.Path.{◌≡◌, refl, ap, sym, ◌∙◌}
use mathlib.Core.Bool.{Bool, true}
use mathlib.Core.List.{List, [], ◌∷◌, ◌++◌, map, map-append}
use Prim.Native.Nat.{ℕ, suc, ◌+◌, ◌-◌, ◌*◌, ◌≤◌, ◌<◌}
use native.Mathlib.Omega.{arith}
use lib.Dec.{leb}
use lib.ListN.{length, set, length-append, length-map, length-set}
use borrow.Author.Tests.{leb-true}
use Rattle.base.specs.Choice.{◌and◌}
use Rattle.callout_log.specs.Callouts.{StepsBack}
use Rattle.callout_log.specs.declared.log.Callout.{Callout}
use Rattle.callout_log.specs.declared.log.Callouts.{Callouts}
use Rattle.callout_log.specs.declared.record.Record.{Record}
use Rattle.callout_log.specs.Record.{record_at, shown}
use Rattle.callout_log.specs.Trailer.{count_before}
use Rattle.callout_log.specs.Log.{ends, places, places_before, places_from}
use Rattle.callout_log.specs.declared.read.Lists.{Lists as Lent}
use Rattle.callout_log.specs.Read.{HasRoom, Lists, SameLists, hold, listing, lists_of, over, put_all, put_at}
use Rattle.callout_log.proofs.Places.{length_places}
use Rattle.callout_log.proofs.Walk.{both, from, from_front}
use Rattle.callout_log.proofs.Walking.{step_count, step_ends, step_far, step_inside, step_places, step_same}

-- references that are the same as others are the same as what those are
pub same_on : (a b c : Lent) → SameLists a b → SameLists b c → SameLists a c
same_on a b c p q =
    record {
      counts = p.counts ∙ q.counts;
      times = p.times ∙ q.times;
      counters = p.counters ∙ q.counters;
      session_ids = p.session_ids ∙ q.session_ids;
      local_indices = p.local_indices ∙ q.local_indices;
      verdicts = p.verdicts ∙ q.verdicts;
    }

-- values put one by one from a place of a list on
unfoldable pub stored : (at : ℕ) → List ℕ → List ℕ → List ℕ
stored at [] list = list
stored at (v ∷ values) list = stored (suc at) values (set list at v)

-- behind the first element nothing is put into it
stored_behind : (values : List ℕ) (at x : ℕ) (list : List ℕ) → stored (suc at) values (x ∷ list) ≡ x ∷ stored at values list
unfolding stored
stored_behind [] at x list = refl
stored_behind (v ∷ values) at x list = stored_behind values (suc at) x (set list at v)

-- values put from the front on stand over the list
stored_over : (values list : List ℕ) → length values ≤ length list → stored 0 values list ≡ over values list
unfolding stored over
stored_over [] list h = refl
stored_over (v ∷ values) [] h = absurd (omega arith)
stored_over (v ∷ values) (x ∷ list) h = stored_behind values 0 v list ∙ ap (λ (l : List ℕ). v ∷ l) (stored_over values list (omega arith))

stored_length : (values : List ℕ) (at : ℕ) (list : List ℕ) → length (stored at values list) ≡ length list
unfolding stored
stored_length [] at list = refl
stored_length (v ∷ values) at list = stored_length values (suc at) (set list at v) ∙ length-set list at v

-- the lists with other counts
abbrev pub with_counts : List ℕ → Lists → Lists
with_counts counts l = lists_of counts l.times l.counters l.session_ids l.local_indices l.verdicts

-- records put from a place on, list by list
put_fields : (records : List Record) (at : ℕ) (l : Lists)
    → put_all at records l
    ≡ lists_of l.counts (stored at (map (λ (r : Record). r.time) records) l.times) (stored at (map (λ (r : Record). r.counter) records) l.counters)
    (stored at (map (λ (r : Record). r.session_id) records) l.session_ids) (stored at (map (λ (r : Record). r.local_index) records) l.local_indices)
    (stored at (map (λ (r : Record). r.verdict) records) l.verdicts)
unfolding put_all stored
put_fields [] at l = refl
put_fields (r ∷ records) at l = put_fields records (suc at) (put_at at r l)

put_on : (first second : List Record) (at : ℕ) (l : Lists) → put_all at (first ++ second) l ≡ put_all (at + length first) second (put_all at first l)
unfolding put_all
put_on [] second at l = let same : at ≡ at + 0 = omega arith in ap (λ (n : ℕ). put_all n second l) same
put_on (r ∷ first) second at l =
    let same : suc at + length first ≡ at + length (r ∷ first) = omega arith in
    put_on first second (suc at) (put_at at r l) ∙ ap (λ (n : ℕ). put_all n second (put_all (suc at) first (put_at at r l))) same

put_first : (r : Record) (records : List Record) (at next : ℕ) (l last : Lists) → suc at ≡ next → last ≡ put_at at r l → put_all at (r ∷ records) l ≡ put_all next records last
unfolding put_all
put_first r records at next l last e q = rw (q, ← e)

-- records put leave the counts, and each list its length
put_counts : (records : List Record) (at : ℕ) (counts : List ℕ) (l : Lists) → put_all at records (with_counts counts l) ≡ with_counts counts (put_all at records l)
unfolding put_all
put_counts [] at counts l = refl
put_counts (r ∷ records) at counts l = put_counts records (suc at) counts (put_at at r l)

pub room_kept : (records : List Record) (at n : ℕ) (l : Lists) → HasRoom n l → HasRoom n (put_all at records l)
room_kept records at n l h =
    rw (put_fields records at l) record {
      times = omega (arith, h.times, stored_length (map (λ (r : Record). r.time) records) at l.times);
      counters = omega (arith, h.counters, stored_length (map (λ (r : Record). r.counter) records) at l.counters);
      session_ids = omega (arith, h.session_ids, stored_length (map (λ (r : Record). r.session_id) records) at l.session_ids);
      local_indices = omega (arith, h.local_indices, stored_length (map (λ (r : Record). r.local_index) records) at l.local_indices);
      verdicts = omega (arith, h.verdicts, stored_length (map (λ (r : Record). r.verdict) records) at l.verdicts);
    }

-- lists with counts and records put from the front on
listing_is : (counts : List ℕ) (records : List Record) (l : Lists) → length counts ≤ length l.counts → HasRoom (length records) l
    → listing counts records l ≡ with_counts (stored 0 counts l.counts) (put_all 0 records l)
unfolding listing
listing_is counts records l c h =
    rw (
      put_fields records 0 l,
      stored_over counts l.counts c,
      stored_over (map (λ (r : Record). r.time) records) l.times (omega (arith, h.times, length-map records (λ (r : Record). r.time))),
      stored_over (map (λ (r : Record). r.counter) records) l.counters (omega (arith, h.counters, length-map records (λ (r : Record). r.counter))),
      stored_over (map (λ (r : Record). r.session_id) records) l.session_ids (omega (arith, h.session_ids, length-map records (λ (r : Record). r.session_id))),
      stored_over (map (λ (r : Record). r.local_index) records) l.local_indices (omega (arith, h.local_indices, length-map records (λ (r : Record). r.local_index))),
      stored_over (map (λ (r : Record). r.verdict) records) l.verdicts (omega (arith, h.verdicts, length-map records (λ (r : Record). r.verdict))),
    )

module _ (bytes : List ℕ) (hides : Bool) where
  -- the records at places as they are seen
  abbrev pub records_at : List ℕ → List Record
  records_at list = map (λ (place : ℕ). shown hides (record_at bytes place)) list

  -- the first records from a place on are put, so many
  pub record Putting (first count : ℕ) (came now : Lists) (at i : ℕ) : Type 0 where
    pub inside : first + 32 * count ≤ length bytes
    pub within : i ≤ count
    pub room : HasRoom (at + count) now
    pub told : put_all at (records_at (places_from first count)) came ≡ put_all (at + i) (records_at (places_from (first + 32 * i) (count - i))) now

  module _ (first count : ℕ) (came : Lists) (at : ℕ) where
    pub put_begins : first + 32 * count ≤ length bytes → HasRoom (at + count) came → Putting first count came came at 0
    put_begins h r =
        let a : at + 0 ≡ at = omega arith in
        let b : first + 32 * 0 ≡ first = omega arith in
        let c : count - 0 ≡ count = omega arith in
        record { inside = h; within = omega arith; room = r; told = rw (a, b, c) }

    module _ (now : Lists) (i : ℕ) (y : Putting first count came now at i) where
      pub put_room : i < count → HasRoom (at + i + 1) now
      put_room h =
          record {
            times = omega (arith, y.room.times);
            counters = omega (arith, y.room.counters);
            session_ids = omega (arith, y.room.session_ids);
            local_indices = omega (arith, y.room.local_indices);
            verdicts = omega (arith, y.room.verdicts);
          }

      pub put_more : (r : Record) (last : Lists) → i < count → r ≡ shown hides (record_at bytes (first + 32 * i)) → last ≡ put_at (at + i) r now
          → Putting first count came last at (i + 1)
      unfolding put_all places_from
      put_more r last h e q =
          let a : count - i ≡ suc (count - (i + 1)) = omega arith in
          let b : first + 32 * i + 32 ≡ first + 32 * (i + 1) = omega arith in
          let left : List Record = records_at (places_from (first + 32 * (i + 1)) (count - (i + 1))) in
          record {
            inside = y.inside;
            within = omega arith;
            room = rw q (room_kept (r ∷ []) (at + i) (at + count) now y.room);
            told = y.told ∙ rw (a, b, ← e) (put_first r left (at + i) (at + (i + 1)) now last (omega arith) q);
          }

      pub put_ends : count ≤ i → now ≡ put_all at (records_at (places_from first count)) came
      unfolding put_all places_from
      put_ends h = let a : count - i ≡ 0 = omega arith in sym (y.told ∙ rw a)

  -- callouts are read, so many with so many records, and these are left
  pub record Filling (came now : Lists) (left : Callouts) (callouts at : ℕ) : Type 0 where
    pub same : left.bytes.now ≡ bytes
    pub small : length bytes < 18446744073709551616
    pub within : 16 * callouts + 32 * at + left.end ≤ length bytes
    pub counts_room : callouts + length (from bytes left.end) ≤ length now.counts
    pub room : HasRoom (at + length (places_before bytes (from bytes left.end))) now
    pub told : listing (map (count_before bytes) (ends bytes)) (records_at (places bytes)) came
        ≡ with_counts (stored callouts (map (count_before bytes) (from bytes left.end)) now.counts) (put_all at (records_at (places_before bytes (from bytes left.end))) now)

  -- one callout put, with its count
  fill_step : (counts : List ℕ) (own rest : List Record) (n callouts at : ℕ) (now last : Lists) → length own ≡ n
      → last ≡ put_all at own (with_counts (set now.counts callouts n) now)
      → with_counts (stored callouts (n ∷ counts) now.counts) (put_all at (own ++ rest) now)
      ≡ with_counts (stored (callouts + 1) counts last.counts) (put_all (at + n) rest last)
  unfolding stored
  fill_step counts own rest n callouts at now last size q =
      let next : suc callouts ≡ callouts + 1 = omega arith in
      let done : last ≡ with_counts (set now.counts callouts n) (put_all at own now) = q ∙ put_counts own at (set now.counts callouts n) now in
      rw (put_on own rest at now, size, next, done, put_counts rest (at + n) (set now.counts callouts n) (put_all at own now))

  -- two lengths that are asked for
  first_holds : (records size : ℕ) (more : Bool) → leb records size and more ≡ true → (records ≤ size) × (more ≡ true)
  first_holds records size more h = (leb-true records size (both (leb records size) more h).0, (both (leb records size) more h).1)

  pub room_found : (callouts records : ℕ) (l : Lists) → hold callouts records l ≡ true → (callouts ≤ length l.counts) × HasRoom records l
  unfolding hold
  room_found callouts records l h =
      let a = first_holds callouts (length l.counts) _ h in
      let b = first_holds records (length l.times) _ a.1 in
      let c = first_holds records (length l.counters) _ b.1 in
      let d = first_holds records (length l.session_ids) _ c.1 in
      let e = first_holds records (length l.local_indices) _ d.1 in
      (a.0, record { times = b.0; counters = c.0; session_ids = d.0; local_indices = e.0; verdicts = leb-true records (length l.verdicts) e.1 })

  module _ (came : Lists) (left : Callouts) where
    pub fill_begins : (callouts records : ℕ) → left.bytes.now ≡ bytes → left.end ≡ length bytes → callouts ≡ length (ends bytes) → records ≡ length (places bytes)
        → hold callouts records came ≡ true → length bytes < 18446744073709551616 → Filling came came left 0 0
    unfolding ends places
    fill_begins callouts records b e c r h s =
        let room = room_found (length (ends bytes)) (length (places bytes)) came (rw (← c, ← r) h) in
        let every_end : from bytes left.end ≡ ends bytes = ap (from bytes) e in
        let same : 0 + length (places bytes) ≡ length (places bytes) = omega arith in
        record {
          same = b;
          small = s;
          within = omega (arith, e);
          counts_room = rw every_end (omega (arith, room.0));
          room = rw (every_end, same) room.1;
          told = rw every_end
              (listing_is (map (count_before bytes) (ends bytes)) (records_at (places bytes)) came
              (omega (arith, room.0, length-map (ends bytes) (count_before bytes)))
              (rw (length-map (places bytes) (λ (place : ℕ). shown hides (record_at bytes place))) room.1));
        }

    module _ (now : Lists) (callouts at : ℕ) (y : Filling came now left callouts at) where
      pub fill_ends : left.end ≡ 0 → now ≡ listing (map (count_before bytes) (ends bytes)) (records_at (places bytes)) came
      unfolding places_before stored put_all
      fill_ends e = let none : from bytes left.end ≡ [] = ap (from bytes) e ∙ from_front bytes in sym (y.told ∙ rw none)

      module _ (callout : Callout) (after : Callouts) (s : StepsBack left callout after) where
        -- its records are put in front of those before it
        all : length (places_before bytes (from bytes left.end)) ≡ callout.count + length (places_before bytes (from bytes after.end))
        all =
            ap length (step_places bytes left after callout y.same s)
            ∙ length-append (places_from callout.first callout.count) (places_before bytes (from bytes after.end))
            ∙ omega (arith, length_places callout.first callout.count)

        pub fill_count : callouts < length now.counts
        fill_count = omega (arith, y.counts_room, ap length (step_ends bytes left after callout y.same s))

        pub fill_far : 16 * (callouts + 1) + 32 * (at + callout.count) ≤ length bytes
        fill_far = omega (arith, y.within, step_far bytes left after callout y.same s)

        pub fill_inside : callout.first + 32 * callout.count ≤ length bytes
        fill_inside = step_inside bytes left after callout y.same s

        pub fill_room : (counts : List ℕ) → HasRoom (at + callout.count) (with_counts counts now)
        fill_room counts =
            record {
              times = omega (arith, all, y.room.times);
              counters = omega (arith, all, y.room.counters);
              session_ids = omega (arith, all, y.room.session_ids);
              local_indices = omega (arith, all, y.room.local_indices);
              verdicts = omega (arith, all, y.room.verdicts);
            }

        pub fill_more : (last : Lists) → last ≡ put_all at (records_at (places_from callout.first callout.count)) (with_counts (set now.counts callouts callout.count) now)
            → Filling came last after (callouts + 1) (at + callout.count)
        fill_more last q =
            let n : ℕ = callout.count in
            let own : List Record = records_at (places_from callout.first n) in
            let rest : List Record = records_at (places_before bytes (from bytes after.end)) in
            let done : last ≡ with_counts (set now.counts callouts n) (put_all at own now) = q ∙ put_counts own at (set now.counts callouts n) now in
            let size : length own ≡ n = length-map (places_from callout.first n) (λ (place : ℕ). shown hides (record_at bytes place)) ∙ length_places callout.first n in
            let more : at + length (places_before bytes (from bytes left.end)) ≡ at + n + length (places_before bytes (from bytes after.end)) = omega (arith, all) in
            let kept : HasRoom (at + n + length (places_before bytes (from bytes after.end))) (put_all at own now) =
            room_kept own at (at + n + length (places_before bytes (from bytes after.end))) now (rw more at y.room) in
            record {
              same = step_same bytes left after callout y.same s;
              small = y.small;
              within = omega (arith, y.within, step_far bytes left after callout y.same s);
              counts_room = rw done (omega (arith, y.counts_room, ap length (step_ends bytes left after callout y.same s), length-set now.counts callouts n));
              room = rw done record { times = kept.times; counters = kept.counters; session_ids = kept.session_ids; local_indices = kept.local_indices; verdicts = kept.verdicts };
              told = y.told
                  ∙ rw (
                    step_places bytes left after callout y.same s,
                    step_ends bytes left after callout y.same s,
                    step_count bytes left after callout y.same s,
                    map-append (λ (place : ℕ). shown hides (record_at bytes place)) (places_from callout.first n) (places_before bytes (from bytes after.end)),
                  )
                  (fill_step (map (count_before bytes) (from bytes after.end)) own rest n callouts at now last size q);
            }

-- the loop of `read_records`
pub ruleset puts = (put_begins, put_room, put_ends)
