use Rattle.script.proofs.Telling.{prints_behind}
use Rattle.script.proofs.answer.put_words.Goals as goal

pub returns : goal.returns
returns c = prints_behind _ _ _ _ _ c.put_text.ensures c.put_numbers.ensures
