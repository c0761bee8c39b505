use Rattle.demands.proofs.Missing.{missing_report_lem}
use Rattle.demands.proofs.missing_law.Goals as goal

pub returns : goal.returns
returns c = missing_report_lem
