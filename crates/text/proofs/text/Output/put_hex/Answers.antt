use native.Mathlib.Omega.{arith}
use Rattle.std.proofs.Common.{◌≡◌, length}
use Rattle.text.proofs.HexWriting.{puts_dash, hex_ends}
use Rattle.text.proofs.text.Output.put_hex.Goals as goal

pub returns-then-is_empty : goal.returns-then-is_empty
returns-then-is_empty c =
    let none : length c.args.bytes.now ≡ 0 = grind arith in
    record { lent = c.put.ensures.lent; put = puts_dash _ _ _ _ _ none c.put.ensures.put }

pub returns : goal.returns
returns c =
    record {
      lent = c.loop-byte.invariant.lent;
      put = hex_ends _ _ _ _ _ _ c.loop-byte.invariant.put (omega arith) (λ e. grind arith);
    }
