use Rattle.soqe_parse.proofs.FormPlaces.{one_form, fault_or_form, one_form_place}
use Rattle.soqe_parse.proofs.FormOutcomes.{form_or_fault}
use Rattle.soqe_parse.proofs.laws.form_or_fault.Goals as goal

pub returns-clause-one : goal.returns-clause-one
returns-clause-one c = one_form

pub returns-clause-alone : goal.returns-clause-alone
returns-clause-alone c = fault_or_form

pub returns-clause-place : goal.returns-clause-place
returns-clause-place c = one_form_place

pub returns-clause-some : goal.returns-clause-some
returns-clause-some c = form_or_fault
