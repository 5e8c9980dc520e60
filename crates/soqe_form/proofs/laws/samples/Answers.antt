use Rattle.std.proofs.Common.{refl}
use Rattle.soqe_term.specs.Boxes.{boxes as term_boxes}
use Rattle.soqe_form.specs.Boxes.{boxes}
use Rattle.soqe_form.proofs.laws.samples.Goals as goal

pub returns-clause-another_of_two : goal.returns-clause-another_of_two
unfolding boxes term_boxes
returns-clause-another_of_two c = refl

pub returns-clause-another_of_one : goal.returns-clause-another_of_one
unfolding boxes term_boxes
returns-clause-another_of_one c = refl

pub returns-clause-apart_of_two : goal.returns-clause-apart_of_two
unfolding boxes term_boxes
returns-clause-apart_of_two c = refl

pub returns-clause-apart_of_one : goal.returns-clause-apart_of_one
unfolding boxes term_boxes
returns-clause-apart_of_one c = refl

pub returns-clause-nested : goal.returns-clause-nested
unfolding boxes term_boxes
returns-clause-nested c = refl

pub returns-clause-leftmost : goal.returns-clause-leftmost
unfolding boxes term_boxes
returns-clause-leftmost c = refl

pub returns-clause-part : goal.returns-clause-part
unfolding boxes term_boxes
returns-clause-part c = refl

pub returns-clause-no_part : goal.returns-clause-no_part
unfolding boxes term_boxes
returns-clause-no_part c = refl

pub returns-clause-put : goal.returns-clause-put
unfolding boxes term_boxes
returns-clause-put c = refl
