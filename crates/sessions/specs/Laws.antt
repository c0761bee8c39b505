-- What follows from the definitions: what the lookups find, which slots a call touches, how many words it leaves, which index is told ahead and
-- allocated, which lists make a batch, what a batch leaves that is turned down or empty, when a session was last heard, which numbers an early
-- look gives, which counters a missing report counts, which are left to grant, and how a range is cut.
use Rattle.std.specs.Prelude.{◌≡◌, ℕ, ◌+◌, ◌-◌, ◌/◌, ◌%◌, ◌^◌, ◌<◌, ◌≤◌, min, Bool, true, false, ◌⊎◌, List, [], ◌∷◌, ◌++◌, length, ◌==◌, ◌≢◌, slice_index, Err, None, Ok, Some}
use Rattle.base.specs.Choice.{choose, case_result, case_results}
use Rattle.base.specs.Lists.{zeros}
use Rattle.base.specs.Sums.{sum}
use Rattle.sessions.specs.declared.session.Session.{Session}
use Rattle.sessions.specs.declared.sessions.Sessions.{Sessions}
use Rattle.sessions.specs.Index.{slot_of}
use Rattle.sessions.specs.Store.{slot_words, put_slot}
use Rattle.sessions.specs.Sessions.{with_last_index, slot_at, get, current_of, told, ahead, next_index, insert, sending_session, select, clear, emptied, expired_slot, none_expired, expiring, expire, put, new_sessions, last_heard, missing}
use Rattle.sessions.specs.Batch.{fits, finish_all, receiving_session, receive}
use Rattle.window.specs.Window.{limit, bit_at}
use Rattle.sessions.specs.declared.batch.Progress.{Progress}
use Rattle.sessions.specs.Range.{split_off, split_number, split_values}
use Rattle.sessions.specs.Session.{new_session, empty_session, with_next, with_counter, reserve_counters, will_receive}
use Rattle.sessions.specs.declared.range.Range.{Range}
use Rattle.sessions.specs.declared.session.Role.TheVariants.{Initiator}
use Rattle.error.specs.declared.Error.{Error}
use Rattle.error.specs.Error.{error_number, verdict_number}

-- a slot has the same record and the same words before and after
pub record Kept (s last : Sessions) (store left : List ℕ) (slot : ℕ) : Type 0 where
  pub session : slot_at last slot ≡ slot_at s slot
  pub words : slot_words left slot ≡ slot_words store slot

-- A batch, an insertion and an expiry leave every slot that they do not name as it was: its record and its words.
pub record SlotsApart (s : Sessions) (store : List ℕ) (slot : ℕ) : Type 0 where
  -- a batch for an index of another slot
  pub batch : (index id now : ℕ) (counters kinds verdicts skips : List ℕ) → (slot ≢ slot_of index)
      → Kept s (case_results (receive s store index id now counters kinds verdicts skips).out (λ error. s) (λ session progress. put s session))
      store (receive s store index id now counters kinds verdicts skips).store slot
  -- a session inserted into another slot
  pub insertion : (session : Session) → (slot ≢ slot_of session.receiving_index)
      → Kept s (insert s store session).sessions store (insert s store session).store slot
  -- an expiry where this slot is not due
  pub expiry : (now : ℕ) → expired_slot s slot now ≡ false → Kept s (expire s store now).expired.sessions store (expire s store now).store slot

-- a filled slot holds a session with this index
pub record InSlot (s : Sessions) (index : ℕ) (x : Session) : Type 0 where
  pub stored : slot_at s (slot_of index) ≡ x
  pub filled : x.filled ≡ true
  pub named : x.receiving_index ≡ index

-- The following number's slot is the current session's: the session with the selected index fills its slot, and the following number has that slot too.
pub record SlotTaken (s : Sessions) (index : ℕ) (x : Session) : Type 0 where
  pub selected : s.current ≡ Some index
  pub there : InSlot s index x
  pub following : index % 8 ≡ (s.last_index + 1) % 8

-- The index that the next allocation gives:
pub record NextIndexLaw (s : Sessions) : Type 0 where
  -- it takes two numbers where the following one's slot is the current session's, and else one
  pub two : (index : ℕ) (x : Session) → SlotTaken s index x → (ahead s).tries ≡ 2
  pub one : ((index : ℕ) (x : Session) → SlotTaken s index x → ⊥) → (ahead s).tries ≡ 1
  -- it is just so many numbers on in its low byte, and the upper 24 bits stay
  pub low : (ahead s).index % 256 ≡ (s.last_index + (ahead s).tries) % 256
  pub upper : (ahead s).index / 256 ≡ s.last_index / 256
  -- it never has the slot of the current session
  pub apart : (index : ℕ) (x : Session) → s.current ≡ Some index → InSlot s index x → (ahead s).index % 8 ≢ index % 8
  -- the allocation gives it, keeps it as the last one and changes nothing else
  pub given : (next_index s).index ≡ (ahead s).index
  pub stored : (next_index s).sessions ≡ with_last_index s (ahead s).index

-- sessions with one of the first index, which is selected, and with the second index last allocated
unfoldable pub selecting : (index last : ℕ) → Sessions
selecting index last = select (put (new_sessions last) (new_session index 9 Initiator 0)) index

-- One number taken, and two:
pub record NextIndexExample : Type 0 where
  -- the current session has the following number's slot, or another one
  pub taken : SlotTaken (selecting 1 0) 1 (new_session 1 9 Initiator 0)
  pub two : ahead (selecting 1 0) ≡ told 2 2
  pub one : ahead (selecting 1 1) ≡ told 2 1
  -- the selected session's slot is emptied, or has a session of another index
  pub empty : ahead (emptied (selecting 1 0) 1) ≡ told 1 1
  pub replaced : ahead (put (selecting 1 0) (new_session 9 9 Initiator 0)) ≡ told 1 1
  -- 511 is followed by 256: where that is given, is passed over, and comes after a number passed over
  pub wraps : ahead (new_sessions 511) ≡ told 256 1
  pub over : ahead (selecting 256 511) ≡ told 257 2
  pub after : ahead (selecting 511 510) ≡ told 256 2

-- A session may send at this time: a counter below 2^64 - 8,193 is left, it is younger than 180 s, and at most 170 s old where this tunnel
-- initiated it.
pub record MaySend (x : Session) (now : ℕ) : Type 0 where
  pub counter : x.sending_key_counter < 2 ^ 64 - 8193
  pub young : now < x.established_at + 180000000000
  pub prompt : x.role ≡ Initiator → now ≤ x.established_at + 170000000000

-- The record of an empty slot is not filled.
pub record EmptyLaw : Type 0 where
  pub unfilled : (x : Session) → x ≡ empty_session → x.filled ≢ true

-- What the lookups find:
pub record LookupLaw (s : Sessions) : Type 0 where
  -- by an index, the session that fills its slot and has this index
  pub found : (index : ℕ) (x : Session) → get s index ≡ Some x → InSlot s index x
  -- the current session fills its slot
  pub current : (x : Session) → current_of s ≡ Some x → InSlot s x.receiving_index x
  -- the session for sending is the current one, and may send
  pub sending : (now : ℕ) (x : Session) → sending_session s now ≡ Some x → (current_of s ≡ Some x) × MaySend x now
  -- a current session that may send is found for sending
  pub sends : (now : ℕ) (x : Session) → current_of s ≡ Some x → MaySend x now → sending_session s now ≡ Some x
  -- the session for a batch has the index and the id, and is younger than 180 s
  pub receiving : (index id now : ℕ) (x : Session) → receiving_session s index id now ≡ Some x
      → InSlot s index x × (x.id ≡ id) × (now < x.established_at + 180000000000)
  -- a session that fills its slot, has the index and the id and is younger than 180 s is found for a batch
  pub receives : (index now : ℕ) (x : Session) → InSlot s index x → now < x.established_at + 180000000000
      → receiving_session s index x.id now ≡ Some x
  -- when the session that fills its slot and has the index was last heard, and none where there is no such session
  pub heard : (index : ℕ) (x : Session) → InSlot s index x → last_heard s index ≡ Some x.last_heard
  pub unheard : (index : ℕ) → ((x : Session) → InSlot s index x → ⊥) → last_heard s index ≡ None

-- What words put into a slot leave: the store's length, the slot's words where they are 128, and every other slot's.
pub record SlotLaw (store words : List ℕ) (slot : ℕ) : Type 0 where
  pub whole : length (put_slot store slot words) ≡ 1024
  pub same : length words ≡ 128 → slot_words (put_slot store slot words) slot ≡ words
  pub other : (k : ℕ) → (k ≢ slot) → slot_words (put_slot store slot words) k ≡ slot_words store k

-- An insertion, a clearing, an expiry and a batch hand a store of 1,024 words back with so many.
pub record WholeLaw (s : Sessions) (store : List ℕ) : Type 0 where
  pub insertion : (x : Session) → length (insert s store x).store ≡ 1024
  pub clearing : length (clear s store).store ≡ 1024
  pub expiry : (now : ℕ) → length (expire s store now).store ≡ 1024
  pub batch : (index id now : ℕ) (counters kinds verdicts skips : List ℕ) → length (receive s store index id now counters kinds verdicts skips).store ≡ 1024

-- An expiry that finds no session expired leaves all as it was.
pub record ExpiryLaw (s : Sessions) (store : List ℕ) (now : ℕ) : Type 0 where
  pub none : none_expired s now ≡ true → expire s store now ≡ expiring (record { sessions = s; current = None }) store

-- Lists that make a batch: of one length, of at most 1,024 messages, each of one of the three kinds.
pub record IsBatch (counters kinds verdicts skips : List ℕ) : Type 0 where
  pub kinds_long : length kinds ≡ length counters
  pub verdicts_long : length verdicts ≡ length counters
  pub skips_long : length skips ≡ length counters
  pub most : length counters ≤ 1024
  pub known : (i : ℕ) → i < length kinds → slice_index kinds i ≤ 2

-- The test of a batch's lists is true just where they make a batch.
pub record FitsLaw (counters kinds verdicts skips : List ℕ) : Type 0 where
  pub batch : fits counters kinds verdicts skips ≡ true → IsBatch counters kinds verdicts skips
  pub fitting : IsBatch counters kinds verdicts skips → fits counters kinds verdicts skips ≡ true

-- The early look of a session over a store of 1,024 words gives 0, 6, 9 or 10.
pub record LookLaw (s : Session) (store : List ℕ) (receiver counter : ℕ) : Type 0 where
  pub numbers : (verdict_number (will_receive s store receiver counter) ≡ 0) ⊎ (verdict_number (will_receive s store receiver counter) ≡ 6)
      ⊎ (verdict_number (will_receive s store receiver counter) ≡ 9) ⊎ (verdict_number (will_receive s store receiver counter) ≡ 10)

-- A batch that is turned down leaves the store and both lists as they came.
pub record RejectedLaw (s : Sessions) (store : List ℕ) (index id now : ℕ) (counters kinds verdicts skips : List ℕ) : Type 0 where
  pub words : (error : Error) → (receive s store index id now counters kinds verdicts skips).out ≡ Err error
      → (receive s store index id now counters kinds verdicts skips).store ≡ store
  pub list : (error : Error) → (receive s store index id now counters kinds verdicts skips).out ≡ Err error
      → (receive s store index id now counters kinds verdicts skips).verdicts ≡ verdicts
  pub skip_list : (error : Error) → (receive s store index id now counters kinds verdicts skips).out ≡ Err error
      → (receive s store index id now counters kinds verdicts skips).skips ≡ skips

-- An empty batch leaves the session that it is for, the store and both lists as they were, and accepts nothing.
pub record EmptyBatchLaw (s : Sessions) (store : List ℕ) (index id now : ℕ) : Type 0 where
  pub answer : (session : Session) (progress : Progress) → (receive s store index id now [] [] [] []).out ≡ Ok (session, progress)
      → (put s session ≡ s) × (progress.accepted ≡ false)
  pub words : (receive s store index id now [] [] [] []).store ≡ store
  pub list : (receive s store index id now [] [] [] []).verdicts ≡ []
  pub skip_list : (receive s store index id now [] [] [] []).skips ≡ []

-- whether one of the verdicts is 0, so that the batch committed a message, data or keepalive
unfoldable pub commits : List ℕ → Bool
commits [] = false
commits (verdict ∷ verdicts) = choose (verdict == 0) true (commits verdicts)

-- A batch that commits a message leaves its own time as that at which the session was last heard; any other leaves that time as it was.
pub record HeardLaw (s : Sessions) (store : List ℕ) (index id now : ℕ) (counters kinds verdicts skips : List ℕ) : Type 0 where
  pub committed : (session : Session) (progress : Progress) → (receive s store index id now counters kinds verdicts skips).out ≡ Ok (session, progress)
      → commits (receive s store index id now counters kinds verdicts skips).verdicts ≡ true → session.last_heard ≡ now
  pub uncommitted : (before session : Session) (progress : Progress) → InSlot s index before
      → (receive s store index id now counters kinds verdicts skips).out ≡ Ok (session, progress)
      → commits (receive s store index id now counters kinds verdicts skips).verdicts ≡ false → session.last_heard ≡ before.last_heard

-- The messages of a batch keep the window's next at most LIMIT.
pub record NextLaw (words : List ℕ) (progress : Progress) (counters kinds : List ℕ) : Type 0 where
  pub within : progress.next ≤ limit → (finish_all words progress counters kinds).out.next ≤ limit

-- A session has counters left up to 2^64 - 8,193, and grants them from its send counter on.
pub record ReserveLaw (s : Session) (len : ℕ) : Type 0 where
  pub grants : s.sending_key_counter + len ≤ 2 ^ 64 - 8193
      → reserve_counters s len ≡ Some (s.sending_key_counter, (with_counter s (s.sending_key_counter + len)))
  pub refuses : 2 ^ 64 - 8193 < s.sending_key_counter + len → reserve_counters s len ≡ None

-- What a cut of a range answers, in document 01's numbers and values:
pub record SplitLaw (r : Range) (at : ℕ) : Type 0 where
  -- 2 where the length or the cut is 0 or the range ends above 2^64 - 8,193
  pub empty : r.len ≡ 0 → split_number (split_off r at) ≡ 2
  pub uncut : at ≡ 0 → split_number (split_off r at) ≡ 2
  pub beyond : 2 ^ 64 - 8193 < r.first + r.len → split_number (split_off r at) ≡ 2
  -- and only there
  pub good : 1 ≤ r.len → 1 ≤ at → r.first + r.len ≤ 2 ^ 64 - 8193 → split_number (split_off r at) ≡ 0
  -- nothing at the whole length or beyond
  pub whole : split_number (split_off r at) ≡ 0 → r.len ≤ at → split_values (split_off r at) ≡ []
  -- below it the counters before the cut, and those from it on, both for the same peer
  pub parts : split_number (split_off r at) ≡ 0 → at < r.len
      → split_values (split_off r at) ≡ r.peer ∷ r.first ∷ at ∷ r.peer ∷ (r.first + at) ∷ (r.len - at) ∷ []

-- The missing report of a session in its slot, over a store of 1,024 words:
pub record MissingLaw (s : Sessions) (store : List ℕ) (index : ℕ) (x : Session) : Type 0 where
  -- it is a count
  pub count : ℕ
  pub answered : missing s store index ≡ Ok count
  -- with the counters that are committed it makes up the window: the last 8,192 below the next expected one, or all where there are fewer
  pub together : count + sum (λ k. bit_at (slot_words store (slot_of index)) (x.next - 8192 + k)) (min x.next 8192) ≡ min x.next 8192
  -- a session that committed nothing has none missing, whatever its words are
  pub fresh : x.next ≡ 0 → count ≡ 0
  -- only the bits of the window's own counters are looked at
  pub own : (other : List ℕ) → length other ≡ 1024
      → ((counter : ℕ) → counter < x.next → x.next ≤ counter + 8192
      → bit_at (slot_words other (slot_of index)) counter ≡ bit_at (slot_words store (slot_of index)) counter)
      → missing s other index ≡ missing s store index

-- The missing report of an index that no filled slot holds is turned down by 12.
pub record NoReportLaw (s : Sessions) (store : List ℕ) (index : ℕ) : Type 0 where
  pub number : case_result (missing s store index) error_number (λ count. 0) ≡ 12

-- a session in slot 1 that expects counter 70 next
unfoldable pub expects70 : Session
expects70 = with_next (new_session 1 9 Initiator 0) 70

-- the sessions with this one only
unfoldable pub with70 : Sessions
with70 = put (new_sessions 0) expects70

-- a store with only the bits of that slot's counters 64 to 127 set
unfoldable pub store70 : List ℕ
store70 = zeros 129 ++ 18446744073709551615 ∷ zeros 894

-- The premises hold, and of its window's 70 counters 64 are missing: the bits of 70 to 127 do not count.
pub record MissingExample : Type 0 where
  pub held : InSlot with70 1 expects70
  pub size : length store70 ≡ 1024
  pub report : missing with70 store70 1 ≡ Ok 64
