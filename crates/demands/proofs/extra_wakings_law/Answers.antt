use Rattle.demands.proofs.Wakings.{extra_wakings_law}
use Rattle.demands.proofs.extra_wakings_law.Goals as goal

pub returns : goal.returns
returns c = extra_wakings_law
