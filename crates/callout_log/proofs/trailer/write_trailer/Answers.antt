use borrow.Author.Rules.{rules}
use Rattle.callout_log.proofs.Trailers.{trailer_written}
use Rattle.callout_log.proofs.trailer.write_trailer.Goals as goal

pub returns : goal.returns
returns c = search (trailer_written, rules)
