-- The number that a call answers.
use Rattle.std.specs.Prelude.{ℕ, ◌≡◌, List, [], false, length}
use Rattle.soqe_form.specs.declared.form.Form.{Form}
use Rattle.soqe_form.specs.declared.form.Pred.TheVariants.{Decl}
use Rattle.soqe_form.specs.FreeVars.{free_vars}
use Rattle.soqe_tidy.specs.Tidy.{tidy}
use Rattle.soqe_form.specs.Mentions.{depth}
use Rattle.soqe_subst.specs.Substitution.{sub}
use Rattle.soqe_subst.specs.IsSub.{single}
use Rattle.soqe_norm.specs.declared.case_list.Case.{Case}
use Rattle.soqe_norm.specs.CasesLaws.{AreCases}
use Rattle.soqe_norm.specs.Nnf.{nnf}
use Rattle.soqe_simp.specs.Simplified.{simplify}
use Rattle.soqe_calls.specs.declared.words.Call.{Call}
use Rattle.soqe_calls.specs.declared.words.Call.TheVariants.{Nothing, Nodes, FreeVars, Copy, Same, Tidy, Subst, SubstRenaming, Apart, Nnf, Simplify}
use Rattle.soqe_calls.specs.Nodes.{nodes}
use Rattle.soqe_calls.specs.Shapes.{variable, image}

-- the formula with the first function of a variable for the variable 3
abbrev pub with_image : ℕ → Form → Form
with_image n f = sub (depth f) (single (variable 3) (image n)) f

-- how many free variables there are, or how many nodes the answer has; 0 where no call is made
abbrev pub answer : Call → Form → ℕ
answer Nothing f = 0
answer Nodes f = nodes f
answer FreeVars f = length (free_vars f)
answer Copy f = nodes f
answer Same f = nodes f
answer Tidy f = nodes (tidy [] f)
answer Subst f = nodes (with_image 3 f)
answer SubstRenaming f = nodes (with_image 0 f)
answer Apart f = nodes f
answer Nnf f = nodes (nnf false f)
answer Simplify f = nodes (simplify f)

-- n is how many cases there are of the formula for the predicate of all parts, once its bound variables are made distinct
pub record CountsCases (f : Form) (n : ℕ) : Type 0 where
  pub cases : List Case
  pub are : AreCases [] (Decl 0) f cases
  pub counted : n ≡ length cases
