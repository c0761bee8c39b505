-- Reading the words of a line one after another.
use Rattle.std.specs.Prelude.{◌≡◌, ◌<◌, ◌≤◌, length}
use Rattle.script.specs.declared.words.Words.{Words}

-- A word was read: less of the same line is left.
pub record Further (before after : Words) : Type 0 where
  pub line : after.line.now ≡ before.line.now
  pub past : before.at < after.at
  pub within : after.at ≤ length before.line.now
