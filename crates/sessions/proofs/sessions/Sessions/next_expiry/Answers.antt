use Rattle.std.proofs.Common.{◌≡◌, ap, ◌∙◌, rules}
use Rattle.sessions.specs.Sessions.{first_expiry}
use Rattle.sessions.proofs.sessions.Sessions.next_expiry.Goals as goal

pub returns : goal.returns
returns c =
    let done : c.loop-session.session-index ≡ 8 = search rules in
    c.loop-session.invariant ∙ ap (first_expiry c.args.self) done
