use Rattle.demands.proofs.Judged.{verdict_law}
use Rattle.demands.proofs.verdict_law.Goals as goal

pub returns : goal.returns
returns c = verdict_law
