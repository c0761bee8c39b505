use Rattle.std.proofs.Common.{◌∙◌, rules, tests}
use Rattle.std.proofs.lemmas.Iterator.{YieldsList-from_slice}
use Rattle.std.proofs.lemmas.Iterator.Consumers.{YieldsList-from_enumerate}
use Rattle.std.proofs.lemmas.Iterator.Search.{all_from_yields_List}
use Rattle.sessions.specs.Damage.{slot_holds}
use Rattle.sessions.proofs.Slots.{all_hold}
use Rattle.sessions.proofs.damage.sessions_hold.Goals as goal

pub returns : goal.returns
returns c =
    all_from_yields_List (λ p. slot_holds p.1 p.0 c.args.greatest) _ _ c.all.result c.all.ensures.ran
    (YieldsList-from_enumerate (YieldsList-from_slice c.args.sessions.slots (cc)) (cc)) (λ x b q k. search (rules, tests))
    ∙ all_hold c.args.sessions (search rules) c.args.greatest
