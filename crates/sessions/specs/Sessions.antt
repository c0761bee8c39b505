-- The ring of sessions, after `Sessions` of src/session.rs: eight slots, each session in the slot of its local index modulo 8.
use Rattle.std.specs.Prelude.{◌≡◌, ℕ, zero, suc, ◌+◌, ◌%◌, ◌^◌, ◌<◌, ◌≤◌, Bool, true, false, List, replicate, ◌==◌, nat_eq, nat_lt, slice_index_or, slice_set, Err, None, Ok, Option, Result, Some}
use Rattle.base.specs.Choice.{choose, case_option}
use Rattle.base.specs.First.{none_of}
use Rattle.sessions.specs.Index.{slot_of, wrapping_increment}
use Rattle.sessions.specs.Store.{whole, slot_words, put_slot, missing_of}
use Rattle.base.specs.Lists.{zeros}
use Rattle.sessions.specs.Session.{time_limit, earlier, with_id, empty_session, expires_at, expired_at, should_use_at, sending_counter_exhausted}
use Rattle.sessions.specs.Cases.{case_role}
use Rattle.sessions.specs.declared.session.Session.{Session}
use Rattle.sessions.specs.declared.sessions.Sessions.{Sessions}
use Rattle.sessions.specs.declared.sessions.Ahead.{Ahead}
use Rattle.sessions.specs.declared.sessions.Allocated.{Allocated}
use Rattle.sessions.specs.declared.sessions.Expired.{Expired}
use Rattle.error.specs.declared.Error.TheVariants.{InvalidArgument, NoCurrentSession}
use Rattle.error.specs.declared.Error.{Error}

-- sessions of four fields
abbrev pub ring : List Session → Option ℕ → (last inserted : ℕ) → Sessions
ring slots current last inserted = record { slots = slots; current = current; last_index = last; inserted = inserted }

-- sessions with other slots
abbrev pub with_slots : Sessions → List Session → Sessions
with_slots s x = ring x s.current s.last_index s.inserted

-- sessions with another selected index
abbrev pub with_current : Sessions → Option ℕ → Sessions
with_current s x = ring s.slots x s.last_index s.inserted

-- sessions with another index last allocated
abbrev pub with_last_index : Sessions → ℕ → Sessions
with_last_index s x = ring s.slots s.current x s.inserted

-- sessions with another count of insertions
abbrev pub with_inserted : Sessions → ℕ → Sessions
with_inserted s x = ring s.slots s.current s.last_index x

-- sessions and the store of their windows
pub record Held : Type 0 where
  pub sessions : Sessions
  pub store : List ℕ

-- the record of a slot
abbrev pub slot_at : Sessions → ℕ → Session
slot_at s k = slice_index_or s.slots k empty_session

-- eight empty slots
unfoldable pub empty_slots : List Session
empty_slots = replicate 8 empty_session

-- an empty ring
unfoldable pub new_sessions : ℕ → Sessions
new_sessions index = ring empty_slots None index 0

-- the session in the slot of an index
unfoldable pub in_slot_of : Sessions → ℕ → Option Session
in_slot_of s index = choose (slot_at s (slot_of index)).filled (Some (slot_at s (slot_of index))) None

-- the session with exactly this index
unfoldable pub get : Sessions → ℕ → Option Session
get s index = case_option (in_slot_of s index) None (λ session. choose (session.receiving_index == index) (Some session) None)

-- the sessions with one put into the slot of its local index
unfoldable pub put : Sessions → Session → Sessions
put s session = with_slots s (slice_set s.slots (slot_of session.receiving_index) session)

-- the current sending session
unfoldable pub current_of : Sessions → Option Session
current_of s = case_option s.current None (λ index. get s index)

-- whether an index has the current session's slot
unfoldable pub in_current_slot : Sessions → ℕ → Bool
in_current_slot s index = case_option (current_of s) false (λ session. nat_eq (slot_of session.receiving_index) (slot_of index))

-- an index, and how many numbers its allocation takes
abbrev pub told : (index tries : ℕ) → Ahead
told index tries = record { index = index; tries = tries }

-- what the next allocation gives: the following number, or the one after it where that has the current session's slot; two numbers in a row never
-- have the same slot, so the loop of the Rust's `next_index` ends there
unfoldable pub ahead : Sessions → Ahead
ahead s =
    choose (in_current_slot s (wrapping_increment s.last_index))
    (told (wrapping_increment (wrapping_increment s.last_index)) 2)
    (told (wrapping_increment s.last_index) 1)

-- a local index allocated for a new session
unfoldable pub next_index : Sessions → Allocated
next_index s = record { sessions = with_last_index s (ahead s).index; index = (ahead s).index }

-- the sessions with a new one, which gets the count of insertions as its id
unfoldable pub inserting : Sessions → Session → Sessions
inserting s session = with_inserted (put s (with_id session s.inserted)) ((s.inserted + 1) % 2 ^ 64)

-- a new session stored with zero words; a store not of 1,024 words leaves all as it is
unfoldable pub insert : Sessions → List ℕ → Session → Held
insert s store session =
    choose (whole store)
    (record { sessions = inserting s session; store = put_slot store (slot_of session.receiving_index) (zeros 128) })
    (record { sessions = s; store = store })

-- a session neither exhausted nor expired, if it may send: at an age above 170 s only a responder's
unfoldable pub usable : Session → ℕ → Option Session
usable session now = choose (should_use_at session now) (Some session) (case_role session.role None (Some session))

-- the current session if it is usable for sending
unfoldable pub sending_session : Sessions → ℕ → Option Session
sending_session s now =
    case_option (current_of s) None
    (λ session. choose (sending_counter_exhausted session) None (choose (expired_at session now) None (usable session now)))

-- whether the selected index is this one
unfoldable pub is_index : Option ℕ → ℕ → Bool
is_index selected index = case_option selected false (λ current. nat_eq current index)

-- an index selected as the current session
unfoldable pub select : Sessions → ℕ → Sessions
select s index = with_current s (Some index)

-- an index selected as the current session unless the current one is newer than the session of that index
unfoldable pub set_current : Sessions → ℕ → Sessions
set_current s index =
    choose (is_index s.current index) s
    (case_option (get s index) s (λ fresh. case_option (current_of s) (select s index)
    (λ current. choose (nat_lt fresh.established_at current.established_at) s (select s index))))

-- every slot emptied and the store zeroed; a store not of 1,024 words leaves all as it is
unfoldable pub clear : Sessions → List ℕ → Held
clear s store =
    choose (whole store)
    (record { sessions = with_current (with_slots s empty_slots) None; store = zeros 1024 })
    (record { sessions = s; store = store })

-- one slot emptied
unfoldable pub emptied : Sessions → ℕ → Sessions
emptied s slot = with_slots s (slice_set s.slots slot empty_session)

-- whether the session of a slot is expired
unfoldable pub expired_slot : Sessions → ℕ → ℕ → Bool
expired_slot s slot now = choose (slot_at s slot).filled (expired_at (slot_at s slot) now) false

-- whether no session is expired
abbrev pub none_expired : Sessions → ℕ → Bool
none_expired s now = none_of (λ slot. expired_slot s slot now) 8

-- an expiry under way, and the store
pub record Expiring : Type 0 where
  pub expired : Expired
  pub store : List ℕ

-- an expiry that has come to this
abbrev pub expiring : Expired → List ℕ → Expiring
expiring e store = record { expired = e; store = store }

-- a slot's session discarded; the current one is kept for the answer, and is current no more
unfoldable pub discard : Expired → ℕ → Expired
discard e slot =
    choose (is_index e.sessions.current (slot_at e.sessions slot).receiving_index)
    (record { sessions = with_current (emptied e.sessions slot) None; current = Some (slot_at e.sessions slot) })
    (record { sessions = emptied e.sessions slot; current = e.current })

-- a slot's session discarded if it is expired
unfoldable pub expire_slot : Expiring → ℕ → ℕ → Expiring
expire_slot e slot now =
    choose (expired_slot e.expired.sessions slot now)
    (expiring (discard e.expired slot) (put_slot e.store slot (zeros 128)))
    e

-- the first slots gone through in order
unfoldable pub expire_first : Expiring → (count now : ℕ) → Expiring
expire_first e zero now = e
expire_first e (suc count) now = expire_slot (expire_first e count now) count now

-- every expired session discarded; a store not of 1,024 words leaves all as it is
unfoldable pub expire : Sessions → List ℕ → ℕ → Expiring
expire s store now =
    choose (whole store)
    (expire_first (expiring (record { sessions = s; current = None }) store) 8 now)
    (expiring (record { sessions = s; current = None }) store)

-- whether no session is stored
abbrev pub is_empty : Sessions → Bool
is_empty s = none_of (λ slot. (slot_at s slot).filled) 8

-- every filled slot's time is at most the limit of times
pub record TimesWithin (s : Sessions) : Type 0 where
  pub within : (k : ℕ) → k < 8 → (slot_at s k).filled ≡ true → (slot_at s k).established_at ≤ time_limit

-- when the session of a slot expires
unfoldable pub slot_expiry : Sessions → ℕ → Option ℕ
slot_expiry s slot = choose (slot_at s slot).filled (Some (expires_at (slot_at s slot))) None

-- the earliest expiry of the first slots
unfoldable pub first_expiry : Sessions → ℕ → Option ℕ
first_expiry s zero = None
first_expiry s (suc count) = earlier (first_expiry s count) (slot_expiry s count)

-- the earliest session expiry deadline
abbrev pub next_expiry : Sessions → Option ℕ
next_expiry s = first_expiry s 8

-- when the session with exactly this index was last heard
unfoldable pub last_heard : Sessions → ℕ → Option ℕ
last_heard s index = case_option (get s index) None (λ session. Some session.last_heard)

-- the missing report: 2 for a store not of 1,024 words, 12 where no session has this index, else its window's missing count
unfoldable pub missing : Sessions → List ℕ → ℕ → Result ℕ Error
missing s store index =
    choose (whole store)
    (case_option (get s index) (Err NoCurrentSession) (λ session. Ok (missing_of (slot_words store (slot_of session.receiving_index)) session.next)))
    (Err InvalidArgument)
