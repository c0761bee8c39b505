-- What the items so far come to.
use Rattle.std.proofs.Common.{◌≡◌}
use Rattle.std.specs.List.{fold}
use Rattle.tally.specs.Tally.{no_cases, plus}
use Rattle.tally.proofs.TallySum.sum.Given as goal

abbrev pub invariant-loop-more : goal.invariant-loop-more
invariant-loop-more g l =
    record {
      can : (goal.iterator-loop-more g).can_next l.more-iterator;
      finite : (goal.iterator-loop-more g).is_finite l.more-iterator;
      summed : l.total ≡ fold plus no_cases l.yielded;
    }
