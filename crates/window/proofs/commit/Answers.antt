use Rattle.window.proofs.Steps.{way_invalid, way_next, way_seen, way_late, way_ahead}
use Rattle.std.proofs.Common.{rules}
use Rattle.window.proofs.commit.Goals as goal

pub returns-then-is_invalid : goal.returns-then-is_invalid
returns-then-is_invalid c = search (way_invalid, rules)

pub returns-then-counter-next : goal.returns-then-counter-next
returns-then-counter-next c = search (way_next, rules)

pub returns-then-check_bit : goal.returns-then-check_bit
returns-then-check_bit c = search (way_seen, rules)

pub returns-then-counter-next-2 : goal.returns-then-counter-next-2
returns-then-counter-next-2 c = search (way_late, rules)

pub returns : goal.returns
returns c = search (way_ahead, rules)
