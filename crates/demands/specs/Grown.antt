-- Sound states: what tunnels grow into.
use Rattle.std.specs.Prelude.{◌≡◌, true, List}
use Rattle.demands.specs.Calls.{Call, after, Creation, created, Good}
use Rattle.tunnel.specs.Damage.{undamaged}

-- For every creation that is not turned down and every list of calls, refused ones included: number 14 lets the tunnel through.
abbrev pub Grown : Type 0
Grown = (c : Creation) → Good c → (calls : List Call) → undamaged (after (created c) calls).tunnel ≡ true
