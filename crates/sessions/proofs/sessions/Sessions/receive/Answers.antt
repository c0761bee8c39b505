use Rattle.std.proofs.Common.{◌≡◌, ◌∙◌, sym, length, rules}
use Rattle.sessions.proofs.Batches.{fits_batch, received}
use Rattle.sessions.proofs.sessions.Sessions.receive.Goals as goal

pub finish_all-progress-requires : goal.finish_all-progress-requires
finish_all-progress-requires c =
    let batch = fits_batch _ _ _ _ (sym c.fits.ensures ∙ c.if-not-fits.false) in
    (batch.kinds_long, batch.verdicts_long, batch.skips_long)

pub returns : goal.returns
returns c =
    let a = c.args in
    let whole : length a.store.now ≡ 1024 = search rules in
    received a.self a.store.now a.index a.id a.now a.counters.now a.kinds.now a.verdicts.now a.skips.now c.in-Some.session c.slot_of.result
    c.words_of.result.start c.words_of.result.end _ _ _ _ _ whole (sym c.fits.ensures ∙ c.if-not-fits.false)
    (sym c.receiving_session.ensures ∙ c.in-Some.is) c.slot_of.ensures c.words_of.ensures.start c.words_of.ensures.end c.finish_all-progress.ensures
    (search rules) c.after_batch.ensures
