-- Number 14: whether it lets the sessions of a stored state through. Empty slots are not looked at.
use Rattle.std.specs.Prelude.{ℕ, zero, suc, Bool, true, nat_eq, nat_le}
use Rattle.base.specs.Choice.{choose, ◌and◌}
use Rattle.sessions.specs.Session.{reject_after_messages}
use Rattle.sessions.specs.Index.{slot_of}
use Rattle.sessions.specs.declared.session.Session.{Session}
use Rattle.sessions.specs.Sessions.{slot_at}
use Rattle.sessions.specs.declared.sessions.Sessions.{Sessions}

-- a filled slot: its age counts from a time at most that at which it was last heard, which is at most the greatest time; its send counter and its
-- window's next are at most LIMIT; its index is of this slot
unfoldable pub slot_holds : Session → (slot greatest : ℕ) → Bool
slot_holds s slot greatest =
    choose s.filled
    (nat_le s.established_at s.last_heard and nat_le s.last_heard greatest
    and nat_le s.sending_key_counter reject_after_messages and nat_le s.next reject_after_messages
    and nat_eq (slot_of s.receiving_index) slot)
    true

-- the first slots hold
unfoldable pub slots_hold : Sessions → (count greatest : ℕ) → Bool
slots_hold s zero greatest = true
slots_hold s (suc count) greatest = slots_hold s count greatest and slot_holds (slot_at s count) count greatest

-- every slot holds
abbrev pub sessions_hold : Sessions → ℕ → Bool
sessions_hold s greatest = slots_hold s 8 greatest
