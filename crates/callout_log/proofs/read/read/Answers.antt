use Rattle.callout_log.proofs.Reading.{read_good}
use Rattle.callout_log.proofs.read.read.Goals as goal

pub returns-clause-reads : goal.returns-clause-reads
returns-clause-reads c =
    let log = c.in_ok-log.log in
    read_good _ _ _ c.in_ok-log.ensures _ _ _ _ log.callouts_counted log.records_counted _ c.if-not-have_room.ensures c.read_callouts.ensures.listing
