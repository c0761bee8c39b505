use Rattle.std.proofs.Common.{◌≡◌}
use Rattle.text.proofs.Putting.{Putting}
use Rattle.text.proofs.text.Output.put_text.Given as goal

abbrev pub invariant-loop-byte : goal.invariant-loop-byte
invariant-loop-byte l = record {
  lent : l.self.buffer.ghost_name ≡ l.initial.self.buffer.ghost_name;
  put : Putting l.initial.self.buffer.now l.initial.self.at l.text l.self.buffer.now l.self.at l.byte-index;
}
