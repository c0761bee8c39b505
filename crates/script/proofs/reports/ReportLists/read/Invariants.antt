use Rattle.std.proofs.Common.{◌-◌, length}
use Rattle.script.proofs.reports.ReportLists.read.Given as goal

abbrev pub decreases-loop-words : goal.decreases-loop-words
decreases-loop-words l = length l.words.line.now - l.words.at
