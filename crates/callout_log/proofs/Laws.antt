-- The theorems of the laws that src/claims.rt ties: what another crate may cite of these proofs.
-- Assumes nothing.
use Rattle.callout_log.specs.Laws.{FormatLaw, AppendLaw, WrittenLaw, ExactLaw, RefusalLaw}
use Rattle.callout_log.specs.ViewLaws.{ReadSeenLaw, SameSeenLaw, ViewLaw}
use Rattle.callout_log.specs.Instances.{LogInstances, RefusalInstances}
use Rattle.callout_log.specs.ViewInstances.{ViewInstances}
use Rattle.callout_log.proofs.Appended as appended
use Rattle.callout_log.proofs.Exact as exact
use Rattle.callout_log.proofs.Format as format
use Rattle.callout_log.proofs.Instances as instances
use Rattle.callout_log.proofs.Refusal as refusal
use Rattle.callout_log.proofs.SameSeen as alike
use Rattle.callout_log.proofs.ViewInstances as seen
use Rattle.callout_log.proofs.Views as views
use Rattle.callout_log.proofs.Written as written

-- where each field stands
pub format_law : FormatLaw
format_law = format.format_law

-- what an append answers and writes
pub append_law : AppendLaw
append_law = appended.append_law

-- what appends make reads back
pub written_law : WrittenLaw
written_law = written.written_law

-- what is accepted is what appends make
pub exact_law : ExactLaw
exact_law = exact.exact_law

-- which logs are turned down
pub refusal_law : RefusalLaw
refusal_law = refusal.refusal_law

-- logs that are written and read
pub log_instances : LogInstances
log_instances = instances.log_instances

-- appends and reads that are turned down
pub refusal_instances : RefusalInstances
refusal_instances = instances.refusal_instances

-- what a view answers and leaves
pub view_law : ViewLaw
view_law = views.view_law

-- what the reader on what is seen answers
pub read_seen_law : ReadSeenLaw
read_seen_law = views.read_seen_law

-- logs that differ only in hidden bytes are seen alike
pub same_seen_law : SameSeenLaw
same_seen_law = alike.same_seen_law

-- logs as they are seen
pub view_instances : ViewInstances
view_instances = seen.view_instances
