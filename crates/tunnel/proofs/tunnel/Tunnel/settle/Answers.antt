use Rattle.tunnel.proofs.Framed.{open_within, open_now, open_jitter}
use Rattle.tunnel.proofs.Settling.{due_is}
use borrow.Author.Rules.{rules}
use Rattle.tunnel.proofs.tunnel.Tunnel.settle.Goals as goal

pub waking_due-requires : goal.waking_due-requires
waking_due-requires c = search (open_within, rules)

pub invariant_of-waking : goal.invariant_of-waking
invariant_of-waking c = record { timely = search (open_now, rules); small = search (open_jitter, rules) }

pub settle-out-requires : goal.settle-out-requires
settle-out-requires c = (search (open_within, rules), due_is _ _ _ c.waking_due.ensures c.if-not-waking_due.false)
