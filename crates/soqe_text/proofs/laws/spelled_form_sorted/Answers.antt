use Rattle.soqe_text.proofs.SpelledSorted.{spelled_form_sorted}
use Rattle.soqe_text.proofs.laws.spelled_form_sorted.Goals as goal

pub returns : goal.returns
returns c = spelled_form_sorted
