use Rattle.std.proofs.Common.{length, ap, ◌∙◌, rules}
use Rattle.sessions.specs.Session.{empty_session, new_session}
use Rattle.sessions.proofs.Slots.{past_empty, past_young, discards_other, discards_current, gone_ends}
use Rattle.sessions.proofs.sessions.Sessions.expire.Goals as goal
use Rattle.sessions.proofs.sessions.Sessions.expire.Goals.{then-session+then-expired_at+then-eq, then-session+then-expired_at+else-eq, else-session, else-session-via-then-session+else-expired_at, else-session-via-else-session}

pub loop-slot-preserved : goal.loop-slot-preserved
unfolding empty_session new_session
loop-slot-preserved c =
    elim c.if-session.branch [
      | then-session+then-expired_at+then-eq w ↦ rw (w.self-is, w.expired_current-is, w.store-is) (search (discards_current, rules))
      | then-session+then-expired_at+else-eq w ↦ rw (w.self-is, w.expired_current-is, w.store-is) (search (discards_other, rules))
      | else-session w ↦ elim w.else-session.branch [
        | else-session-via-then-session+else-expired_at w' ↦ rw (w.self-is, w.expired_current-is, w.store-is) (search (past_young, rules))
        | else-session-via-else-session w' ↦ rw (w.self-is, w.expired_current-is, w.store-is) (search (past_empty, rules))
      ]
    ]

pub returns-after-loop-slot : goal.returns-after-loop-slot
returns-after-loop-slot c =
    let whole = c.in-Some.ensures.cases in
    rw (← whole.same) (gone_ends _ _ _ _ _ _ c.loop-slot.invariant (ap length whole.same ∙ whole.long) c.loop-slot.auto.slot-end c.loop-slot-test.false)
