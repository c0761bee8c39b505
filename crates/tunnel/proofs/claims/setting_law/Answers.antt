use Rattle.tunnel.proofs.Laws.{setting_law}
use Rattle.tunnel.proofs.claims.setting_law.Goals as goal

pub returns : goal.returns
returns c = setting_law
