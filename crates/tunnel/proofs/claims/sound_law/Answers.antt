use Rattle.tunnel.proofs.Laws.{sound_law}
use Rattle.tunnel.proofs.claims.sound_law.Goals as goal

pub returns : goal.returns
returns c = sound_law
