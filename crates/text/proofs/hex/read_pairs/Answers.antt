use mathlib.Core.Path.{refl, sym}
use Rattle.text.proofs.HexReading.{storing_more}
use Rattle.text.proofs.hex.read_pairs.Goals as goal

pub loop-i-preserved : goal.loop-i-preserved
loop-i-preserved c = storing_more _ _ _ _ c.loop-i.invariant _ _ c.loop-i-test.true refl (sym c.pair_value.ensures)
