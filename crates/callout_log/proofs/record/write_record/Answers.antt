use borrow.Author.Rules.{rules}
use Rattle.callout_log.proofs.Records.{record_written}
use Rattle.callout_log.proofs.record.write_record.Goals as goal

pub returns : goal.returns
returns c = search (record_written, rules)
