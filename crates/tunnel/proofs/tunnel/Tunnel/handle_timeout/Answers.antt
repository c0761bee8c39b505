use Rattle.tunnel.proofs.Framed.{open_within, open_now, open_jitter}
use borrow.Author.Rules.{rules}
use Rattle.tunnel.proofs.tunnel.Tunnel.handle_timeout.Goals as goal

pub invariant_of-waking : goal.invariant_of-waking
invariant_of-waking c = record { timely = search (open_now, rules); small = search (open_jitter, rules) }

pub handle_timeout-out-requires : goal.handle_timeout-out-requires
handle_timeout-out-requires c = search (open_within, rules)
