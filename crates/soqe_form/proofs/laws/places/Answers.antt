use Rattle.soqe_form.proofs.Places.{truth-put_at, sorted-put_at, sorted-part}
use Rattle.soqe_form.proofs.laws.places.Goals as goal

pub returns-clause-truth : goal.returns-clause-truth
returns-clause-truth c = truth-put_at

pub returns-clause-sorts : goal.returns-clause-sorts
returns-clause-sorts c = sorted-put_at

pub returns-clause-parts : goal.returns-clause-parts
returns-clause-parts c = sorted-part
