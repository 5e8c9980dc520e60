-- The printed text of a term stands for the term: the text of an equation is that of its sides with ` = ` between.
use Rattle.std.proofs.Common.{◌≡◌, ℕ, List, ◌++◌, codes, ap}
use Rattle.soqe_term.specs.declared.term.Term.{Term}
use Rattle.soqe_signature.specs.Declarations.{Declaration}
use Rattle.soqe_form.specs.declared.form.Form.{Equal}
use Rattle.soqe_show.specs.Dress.{dress_term}
use Rattle.soqe_show.specs.Printed.{term_text}
use Rattle.soqe_show.specs.TermBack.{StandsFor}
use Rattle.soqe_show.proofs.FormBack.{printed_form_spells}

pub printed_term_stands : (text : List ℕ) (ds : List Declaration) (t : Term) → text ≡ term_text (dress_term ds t) → StandsFor text ds t
printed_term_stands text ds t is = record {
  left = λ ks xs ps s. printed_form_spells (text ++ codes " " ++ codes "=" ++ codes " " ++ term_text (dress_term ds s)) ds (Equal t s) (ap (λ b. b ++ codes " " ++ codes "=" ++ codes " " ++ term_text (dress_term ds s)) is) ks xs ps;
  right = λ ks xs ps s. printed_form_spells (term_text (dress_term ds s) ++ codes " " ++ codes "=" ++ codes " " ++ text) ds (Equal s t) (ap (λ b. term_text (dress_term ds s) ++ codes " " ++ codes "=" ++ codes " " ++ b) is) ks xs ps;
}
