use Rattle.std.proofs.Common.{not, ◌&&◌, ap, ◌∙◌, rules, tests}
use Rattle.std.proofs.lemmas.Iterator.{YieldsList-from_slice}
use Rattle.std.proofs.lemmas.Iterator.Search.{any_from_yields_List}
use Rattle.sessions.specs.Session.{expired_at}
use Rattle.sessions.proofs.Slots.{none_due}
use Rattle.sessions.proofs.sessions.Sessions.none_expired.Goals as goal

pub returns : goal.returns
returns c =
    ap not
    (any_from_yields_List (λ x. x.filled && expired_at x c.args.now) _ _ c.any.result c.any.ensures.ran
    (YieldsList-from_slice c.args.self.slots (cc)) (λ x b q k. search (rules, tests)))
    ∙ none_due c.args.self (search rules) c.args.now
