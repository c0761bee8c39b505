use Rattle.std.proofs.Common.{arith}
use Rattle.sessions.proofs.Missing.{window_full, window_young}
use Rattle.sessions.proofs.store.missing_of.Goals as goal

pub overflow_sub-result : goal.overflow_sub-result
overflow_sub-result c = omega (arith, window_full c.args.words.now c.requires c.type_inv.words c.args.next c.if-next-ge-N_BITS.true)

pub overflow_sub-result-2 : goal.overflow_sub-result-2
overflow_sub-result-2 c = omega (arith, window_young c.args.words.now c.requires c.type_inv.words c.args.next _ _ c.full_words-word.ensures c.bits_beyond.ensures c.if-next-ge-N_BITS.false)

pub overflow_sub-result-3 : goal.overflow_sub-result-3
overflow_sub-result-3 c = omega (arith, window_young c.args.words.now c.requires c.type_inv.words c.args.next _ _ c.full_words-word.ensures c.bits_beyond.ensures c.if-next-ge-N_BITS.false)

pub returns : goal.returns
returns c = omega (arith, window_young c.args.words.now c.requires c.type_inv.words c.args.next _ _ c.full_words-word.ensures c.bits_beyond.ensures c.if-next-ge-N_BITS.false)
