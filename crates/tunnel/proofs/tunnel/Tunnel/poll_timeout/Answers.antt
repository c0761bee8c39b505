use Rattle.tunnel.proofs.Framed.{still_within}
use borrow.Author.Rules.{rules}
use Rattle.tunnel.proofs.tunnel.Tunnel.poll_timeout.Goals as goal

pub poll_timeout-requires : goal.poll_timeout-requires
poll_timeout-requires c = search (still_within, rules)
