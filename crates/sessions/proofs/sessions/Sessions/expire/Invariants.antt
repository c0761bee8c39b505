use Rattle.std.proofs.Common.{◌≡◌, None}
use Rattle.sessions.specs.Sessions.{expiring, expire_first}
use Rattle.sessions.proofs.sessions.Sessions.expire.Given as goal

abbrev pub invariant-loop-slot : goal.invariant-loop-slot
invariant-loop-slot l =
    expiring (record { sessions = l.self; current = l.expired_current }) l.store
    ≡ expire_first (expiring (record { sessions = l.initial.self; current = None }) l.initial.store) l.slot l.now
