-- The theorems of the laws that src/claims.rt ties: what another crate may cite of these proofs.
-- Assumes nothing.
use Rattle.access.specs.Laws.{OutsideLaw, RightsLaw, ThroughLaw, TrainerLaw}
use Rattle.access.proofs.Table as table
use Rattle.access.proofs.Through as through
use Rattle.access.proofs.Trainer as trainer

-- the table of rights
pub rights_law : RightsLaw
rights_law = table.rights_law

-- what is let through
pub through_law : ThroughLaw
through_law = through.through_law

-- what is turned down by 20
pub outside_law : OutsideLaw
outside_law = through.outside_law

-- what a trainer is given
pub trainer_law : TrainerLaw
trainer_law = trainer.trainer_law
