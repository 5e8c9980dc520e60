use Rattle.soqe_dls.proofs.Shown.{shown-same, shown-sorted, shown-distinct, one-shown}
use Rattle.soqe_dls.proofs.shown_laws.shown_values.Goals as goal

pub returns-clause-same : goal.returns-clause-same
returns-clause-same c = shown-same

pub returns-clause-sorted : goal.returns-clause-sorted
returns-clause-sorted c = shown-sorted

pub returns-clause-distinct : goal.returns-clause-distinct
returns-clause-distinct c = shown-distinct

pub returns-clause-one : goal.returns-clause-one
returns-clause-one c = one-shown
