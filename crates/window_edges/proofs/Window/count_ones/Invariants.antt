-- No word has more than 64 set bits.
use Rattle.std.proofs.Common.{◌*◌, ◌≤◌}
use Rattle.window_edges.proofs.Window.count_ones.Given as goal

abbrev pub invariant-loop-word : goal.invariant-loop-word
invariant-loop-word l = l.ones ≤ 64 * l.word-index
