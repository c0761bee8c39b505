use Rattle.demands.proofs.Missing.{no_report}
use Rattle.demands.proofs.no_report_law.Goals as goal

pub returns : goal.returns
returns c = no_report
