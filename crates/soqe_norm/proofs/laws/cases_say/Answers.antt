use Rattle.std.proofs.lemmas.List.Elements.{All-from_recursion}
use Rattle.soqe_norm.specs.Cases.{cases_of}
use Rattle.soqe_norm.proofs.CaseLists.{cases-there}
use Rattle.soqe_norm.proofs.CaseTruth.{alike-cases}
use Rattle.soqe_norm.proofs.CaseSorts.{IsSorted, sorted-cases, sorted-some}
use Rattle.soqe_norm.proofs.laws.cases_say.Goals as goal

pub returns-clause-truth : goal.returns-clause-truth
returns-clause-truth c = alike-cases

pub returns-clause-sorts : goal.returns-clause-sorts
returns-clause-sorts c = λ keep f made a q e h. All-from_recursion (IsSorted e) (cases_of q made) (sorted-cases keep f made a q e h)

pub returns-clause-sorted : goal.returns-clause-sorted
returns-clause-sorted c = sorted-some

pub returns-clause-there : goal.returns-clause-there
returns-clause-there c = cases-there
