use Rattle.std.proofs.Common.{◌∙◌, rules, tests}
use Rattle.std.proofs.lemmas.Iterator.{YieldsList-from_slice}
use Rattle.std.proofs.lemmas.Iterator.Search.{all_from_yields_List}
use Rattle.callout_log.specs.Record.{is_verdict}
use Rattle.callout_log.proofs.Checks.{all_every}
use Rattle.callout_log.proofs.append.are_verdicts.Goals as goal

pub returns : goal.returns
returns c =
    all_from_yields_List is_verdict _ _ c.all.result c.all.ensures.ran (YieldsList-from_slice c.args.verdicts.now cc) (λ x b q k. search (rules, tests))
    ∙ all_every is_verdict c.args.verdicts.now
