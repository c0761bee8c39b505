use Rattle.tunnel.proofs.Laws.{after_states_law}
use Rattle.tunnel.proofs.claims.after_states_law.Goals as goal

pub returns : goal.returns
returns c = after_states_law
