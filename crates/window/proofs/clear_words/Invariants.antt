use Rattle.std.proofs.Common.{◌≡◌, ◌-◌, ◌%◌, ◌≤◌, max}
use Rattle.window.specs.Window.{clears}
use Rattle.window.proofs.clear_words.Given as goal

abbrev pub invariant-loop-counter : goal.invariant-loop-counter
invariant-loop-counter l = (l.counter % 64 ≡ 0) × (l.counter ≤ max l.from l.to) × (l.words ≡ clears l.initial.words l.from (l.counter - l.from))

abbrev pub decreases-loop-counter : goal.decreases-loop-counter
decreases-loop-counter l = l.to - l.counter
