use Rattle.std.proofs.Common.{◌∙◌}
use Rattle.text.proofs.Putting.{puts_number}
use Rattle.text.proofs.text.Output.put_number.Goals as goal

pub returns : goal.returns
returns c =
    record {
      lent = c.put_text.ensures.lent ∙ c.put.ensures.lent;
      put = puts_number _ _ _ _ _ _ _ _ _ _ c.spell-start.ensures c.put.ensures.put c.put_text.ensures.put;
    }
