use Rattle.soqe_run.proofs.Ends.{ends_delivered}
use Rattle.soqe_run.proofs.Faults.{no_read_failed, no_write_failed}
use Rattle.soqe_run.proofs.Headline.{solved}
use Rattle.soqe_run.proofs.run.run.Goals as goal

pub returns-in-Ok-clause-headline : goal.returns-in-Ok-clause-headline
returns-in-Ok-clause-headline g c =
    solved _ _ _ _ _ _ _ _ _ _ _ _ c.in-Ok.ensures.due c.deliver.ensures.ways

pub returns-in-Ok-clause-ways : goal.returns-in-Ok-clause-ways
returns-in-Ok-clause-ways g c = ends_delivered _ _ _ _ _ _ _ _ c.in-Ok.ensures.due c.deliver.ensures.ways

pub returns-in-Ok-clause-no_read_fault : goal.returns-in-Ok-clause-no_read_fault
returns-in-Ok-clause-no_read_fault g c = no_read_failed _ _ _ _ _ _ _ _ _ _ _ _ c.in-Ok.ensures.due c.deliver.ensures.ways

pub returns-in-Ok-clause-no_write_fault : goal.returns-in-Ok-clause-no_write_fault
returns-in-Ok-clause-no_write_fault g c = no_write_failed _ _ _ _ _ _ _ c.deliver.ensures.ways
