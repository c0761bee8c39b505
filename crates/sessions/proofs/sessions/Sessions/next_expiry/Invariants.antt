use Rattle.std.proofs.Common.{◌≡◌}
use Rattle.sessions.specs.Sessions.{first_expiry}
use Rattle.sessions.proofs.sessions.Sessions.next_expiry.Given as goal

abbrev pub invariant-loop-session : goal.invariant-loop-session
invariant-loop-session l = l.earliest ≡ first_expiry l.fn.self l.session-index
