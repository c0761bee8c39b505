use native.Mathlib.Omega.{arith}
use Rattle.callout_log.proofs.Viewing.{hide_more, record_hidden}
use Rattle.callout_log.proofs.view.hide_records.Goals as goal

pub loop-i-preserved : goal.loop-i-preserved
loop-i-preserved c =
    hide_more _ _ _ _ _ c.loop-i.invariant _ c.loop-i-test.true
    (record_hidden _ _ _ (omega (arith, c.loop-i.invariant.inside)) (c.fill.ensures.after (λ y e. e)))
