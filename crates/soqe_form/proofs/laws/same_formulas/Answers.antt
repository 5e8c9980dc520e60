use Rattle.soqe_form.proofs.SameTruth.{truth-same}
use Rattle.soqe_form.proofs.SameSorted.{sorted-same}
use Rattle.soqe_form.proofs.SameOrder.{same-self, same-equal, same-turned}
use Rattle.soqe_form.proofs.SameChains.{same-chained}
use Rattle.soqe_form.proofs.SameNames.{free-same, free_pred-same}
use Rattle.soqe_form.proofs.SamePures.{blocks-same, first_order-same}
use Rattle.soqe_form.proofs.laws.same_formulas.Goals as goal

pub returns-clause-truth : goal.returns-clause-truth
returns-clause-truth c = truth-same

pub returns-clause-sorts : goal.returns-clause-sorts
returns-clause-sorts c = sorted-same

pub returns-clause-reflexive : goal.returns-clause-reflexive
returns-clause-reflexive c = same-self

pub returns-clause-equal : goal.returns-clause-equal
returns-clause-equal c = same-equal

pub returns-clause-symmetric : goal.returns-clause-symmetric
returns-clause-symmetric c = same-turned

pub returns-clause-transitive : goal.returns-clause-transitive
returns-clause-transitive c = same-chained

pub returns-clause-free : goal.returns-clause-free
returns-clause-free c = free-same

pub returns-clause-free_preds : goal.returns-clause-free_preds
returns-clause-free_preds c = free_pred-same

pub returns-clause-blocks : goal.returns-clause-blocks
returns-clause-blocks c = blocks-same

pub returns-clause-first_order : goal.returns-clause-first_order
returns-clause-first_order c = first_order-same
