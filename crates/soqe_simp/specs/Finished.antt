-- What is made of a formula by the step that was taken at its root.
use Rattle.soqe_form.specs.declared.form.Form.{Form}
use Rattle.soqe_simp.specs.declared.stepping.Stepped.{Stepped}
use Rattle.soqe_simp.specs.declared.stepping.Stepped.TheVariants.{Settled, Made}
use Rattle.soqe_simp.specs.Simplified.{simplify}
use Rattle.soqe_simp.specs.Ready.{Ready}

-- the formula itself where no row applied, or what the row gave, made simple
abbrev pub finished : Stepped → Form
finished (Settled f) = f
finished (Made r) = simplify r.form

-- what is known of what the row gave, where the children of the formula before it were simple
abbrev pub IsReady : Stepped → Type 0
IsReady (Settled f) = Unit {0}
IsReady (Made r) = Ready r.row r.form
