use Rattle.tunnel.proofs.Steps.{expiry_within}
use borrow.Author.Rules.{rules}
use Rattle.tunnel.proofs.control.Control.expire_sessions.Goals as goal

pub maintain_connection-requires : goal.maintain_connection-requires
maintain_connection-requires c = search (expiry_within, rules)

pub maintain_connection-requires-2 : goal.maintain_connection-requires-2
maintain_connection-requires-2 c = search (expiry_within, rules)
