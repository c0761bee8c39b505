use mathlib.Core.Path.{◌≡◌}
use lib.ListN.{length}
use Rattle.tunnel.proofs.Settling.{long, wakes}
use Rattle.tunnel.proofs.control.Control.wake.Goals as goal

pub returns : goal.returns
returns c =
    let slots = c.well_formed.0.1.1.1.0.1.1.0.1.0.1 in
    let places = c.well_formed.0.1.1.1.1.1.0.1.1.0.1.0.1 in
    let eight : length c.args.self.sessions.slots ≡ 8 = search (long, slots) in
    let sixteen : length c.args.self.events.slots ≡ 16 = search (long, places) in
    wakes _ _ _ _ _ _ c.requires c.args.waking.timely c.args.waking.small eight sixteen c.handle_timeout.ensures
