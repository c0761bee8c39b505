use Rattle.std.proofs.Common.{◌≡◌, leb, take}
use Rattle.std.specs.List.{list_all}
use Rattle.sessions.proofs.batch.known.Given as goal

abbrev pub invariant-loop-kind : goal.invariant-loop-kind
invariant-loop-kind l = l.good ≡ list_all (λ kind. leb kind 2) (take l.kind-index l.kinds)
