use Rattle.std.proofs.Common.{◌≡◌, true, false}
use Rattle.std.proofs.lemmas.List.Elements.{All-from_recursion}
use Rattle.soqe_form.specs.Free.{free_pred}
use Rattle.soqe_form.specs.Places.{has_blocks}
use Rattle.soqe_norm.specs.Nnf.{is_nnf}
use Rattle.soqe_norm.specs.Cases.{cases_of}
use Rattle.soqe_norm.proofs.CaseLists.{of_conjuncts-all, normal-down, blocks-down, free_pred-down}
use Rattle.soqe_norm.proofs.CaseNames.{Frees, numbers-cases, free-cases}
use Rattle.soqe_norm.proofs.laws.cases_keep.Goals as goal

pub returns-clause-binders : goal.returns-clause-binders
returns-clause-binders c = numbers-cases

pub returns-clause-variables : goal.returns-clause-variables
returns-clause-variables c = λ n q f. All-from_recursion (Frees n f) (cases_of q f) (free-cases n q f)

pub returns-clause-predicates : goal.returns-clause-predicates
returns-clause-predicates c = λ n q f. of_conjuncts-all (λ g. free_pred n g ≡ true → free_pred n f ≡ true) (free_pred-down n (free_pred n f ≡ true)) q f (λ h. h)

pub returns-clause-normal : goal.returns-clause-normal
returns-clause-normal c = λ q f h. of_conjuncts-all (λ g. is_nnf g ≡ true) normal-down q f h

pub returns-clause-blocks : goal.returns-clause-blocks
returns-clause-blocks c = λ q f h. of_conjuncts-all (λ g. has_blocks g ≡ false) blocks-down q f h
