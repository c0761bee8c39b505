use Rattle.std.proofs.Common.{◌+◌, ◌*◌, ◌∙◌, refl, arith, rules, tests}
use Rattle.std.proofs.lemmas.Iterator.{YieldsList-from_range}
use Rattle.std.proofs.lemmas.Iterator.Search.{all_from_yields_List}
use Rattle.callout_log.specs.Record.{is_record}
use Rattle.callout_log.proofs.Places.{all_places}
use Rattle.callout_log.proofs.log.are_records.Goals as goal

pub returns : goal.returns
returns c =
    all_from_yields_List (λ i. is_record c.args.bytes.now (c.args.callout.first + 32 * i)) _ _ c.all.result c.all.ensures.ran
    (YieldsList-from_range 0 c.args.callout.count c.args.callout.count refl (omega arith)) (λ x b q k. search (rules, tests))
    ∙ all_places (is_record c.args.bytes.now) c.args.callout.first c.args.callout.count
