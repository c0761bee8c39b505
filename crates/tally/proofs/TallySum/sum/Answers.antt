use Rattle.std.proofs.Common.{subst, [], ◌∷◌, rules}
use Rattle.std.specs.Iterator.{Yields}
use Rattle.std.proofs.lemmas.List.Sums.{fold-append}
use Rattle.tally.specs.Tally.{no_cases, plus}
use Rattle.tally.proofs.TallySum.sum.Goals as goal

pub returns : goal.returns
returns g c =
    let yields : Yields g.I.Iterator.next_gives c.args.iter c.loop-more.yielded c.loop-more.more-iterator =
    subst (λ i. Yields g.I.Iterator.next_gives i c.loop-more.yielded c.loop-more.more-iterator) c.into_iter-more-iterator.ensures.into_iter_gives c.loop-more.yielded_by in
    let ends : g.I.Iterator.next_gives c.loop-more.more-iterator _ c.next.new.self =
    subst (λ r. g.I.Iterator.next_gives c.loop-more.more-iterator r c.next.new.self) c.in-None.is c.next.ensures.steps in
    record { ran = (c.loop-more.yielded, (λ w. (c.next.new.self, (c.loop-more.more-iterator, yields, ends))), c.loop-more.invariant.summed) }

pub loop-more-preserved : goal.loop-more-preserved
loop-more-preserved g c = let e = fold-append plus no_cases c.loop-more.yielded (c.in-Some.more ∷ []) in search rules
