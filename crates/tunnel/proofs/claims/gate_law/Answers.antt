use Rattle.tunnel.proofs.Laws.{gate_law}
use Rattle.tunnel.proofs.claims.gate_law.Goals as goal

pub returns : goal.returns
returns c = gate_law
