use Rattle.std.proofs.Common.{◌∙◌, rules, tests}
use Rattle.std.proofs.lemmas.Iterator.{YieldsList-from_slice}
use Rattle.std.proofs.lemmas.Iterator.Search.{all_from_yields_List}
use Rattle.callout_log.specs.Record.{is_time}
use Rattle.callout_log.proofs.Checks.{all_every}
use Rattle.callout_log.proofs.append.are_times.Goals as goal

pub returns : goal.returns
unfolding is_time
returns c =
    all_from_yields_List is_time _ _ c.all.result c.all.ensures.ran (YieldsList-from_slice c.args.times.now cc) (λ x b q k. search (rules, tests))
    ∙ all_every is_time c.args.times.now
