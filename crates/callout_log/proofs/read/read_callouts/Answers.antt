use mathlib.Core.Path.{refl, ap, ◌∙◌}
use native.Mathlib.Omega.{arith}
use Rattle.callout_log.specs.declared.log.Callouts.{Callouts}
use Rattle.callout_log.proofs.Filling.{fill_begins, fill_count, fill_inside, fill_room, fill_more, fill_ends}
use Rattle.callout_log.proofs.read.read_callouts.Goals as goal

pub loop-i-init : goal.loop-i-init
loop-i-init c =
    let made = c.callouts.ensures in
    let source = c.enumerate-i-items.ensures.source in
    rw (c.into_iter-i-iterator.ensures.into_iter_gives, c.enumerate-i-items.ensures.count) record {
      filling = fill_begins _ _ _ _ _ _ (ap (λ (it : Callouts). it.bytes.now) source ∙ made.bytes) (ap (λ (it : Callouts). it.end) source ∙ made.end)
          c.args.log.callouts_counted c.args.log.records_counted c.requires (omega arith);
      same = record { counts = refl; times = refl; counters = refl; session_ids = refl; local_indices = refl; verdicts = refl };
    }

pub bounds-lists-i : goal.bounds-lists-i
bounds-lists-i c = rw c.in-Some.ensures.steps.1 (fill_count _ _ _ _ _ _ _ c.loop-i.invariant.filling _ _ c.in-Some.ensures.steps.0)

pub read_records-requires-clause-inside : goal.read_records-requires-clause-inside
read_records-requires-clause-inside c = fill_inside _ _ _ _ _ _ _ c.loop-i.invariant.filling _ _ c.in-Some.ensures.steps.0

pub read_records-requires-clause-room : goal.read_records-requires-clause-room
read_records-requires-clause-room c = fill_room _ _ _ _ _ _ _ c.loop-i.invariant.filling _ _ c.in-Some.ensures.steps.0 _

pub loop-i-preserved : goal.loop-i-preserved
loop-i-preserved c =
    let step = c.in-Some.ensures.steps in
    let same = c.read_records.ensures.same in
    let before = c.loop-i.invariant.same in
    record {
      filling = rw step.2 (fill_more _ _ _ _ _ _ _ c.loop-i.invariant.filling _ _ step.0 _ (rw step.1 at c.read_records.ensures.put));
      same = record {
        counts = same.counts ∙ before.counts;
        times = same.times ∙ before.times;
        counters = same.counters ∙ before.counters;
        session_ids = same.session_ids ∙ before.session_ids;
        local_indices = same.local_indices ∙ before.local_indices;
        verdicts = same.verdicts ∙ before.verdicts;
      };
    }

pub returns-clause-listing : goal.returns-clause-listing
returns-clause-listing c = fill_ends _ _ _ _ _ _ _ c.loop-i.invariant.filling c.in-None.ensures.steps.0
