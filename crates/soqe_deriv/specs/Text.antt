-- How a document is written: its first line, the lines of its problem, and the others, each with one line feed.
use Rattle.std.specs.Prelude.{List, [], ◌∷◌, ◌++◌, codes, map}
use Rattle.std.specs.Fmt.{decimal}
use Rattle.soqe_term.specs.declared.term.Var.{Var}
use Rattle.soqe_signature.specs.Declarations.{Declaration}
use Rattle.soqe_ack.specs.declared.steps.Sign.{Sign}
use Rattle.soqe_ack.specs.declared.steps.Sign.TheVariants as sign
use Rattle.soqe_ack.specs.declared.steps.DlsStep.{DlsStep}
use Rattle.soqe_ack.specs.declared.steps.DlsStep.TheVariants as step
use Rattle.soqe_form.specs.declared.form.Pred.{Pred}
use Rattle.soqe_text.specs.declared.problem.Problem.{Problem}
use Rattle.soqe_text.specs.declared.problem.Problem.TheVariants as problem
use Rattle.soqe_show.specs.Printed.{Text, constant_text, sort_text, sorts_text}
use Rattle.soqe_show.specs.Dress.{form_text, pred_name, problem_text, var_name, written_sort}
use Rattle.soqe_deriv.specs.declared.document.Method.{Method}
use Rattle.soqe_deriv.specs.declared.document.Method.TheVariants as method
use Rattle.soqe_deriv.specs.declared.document.Stop.{Stop}
use Rattle.soqe_deriv.specs.declared.document.Stop.TheVariants as stop
use Rattle.soqe_deriv.specs.declared.document.Line.{Line}
use Rattle.soqe_deriv.specs.declared.document.Line.TheVariants as line
use Rattle.soqe_deriv.specs.declared.document.Document.{Document}

-- the word of a method
abbrev pub method_text : Method → Text
method_text method.Sign = codes "sign"
method_text method.Dls = codes "dls"

-- the reason of a stop
abbrev pub stop_text : Stop → Text
stop_text (stop.Mixed pos neg) = codes "mixed " ++ decimal pos ++ codes " " ++ decimal neg
stop_text (stop.NotReached n) = codes "notreached " ++ decimal n

-- the word of a sign
abbrev pub sign_text : Sign → Text
sign_text sign.Pos = codes "pos"
sign_text sign.Neg = codes "neg"

-- a parameter, as a binder of it begins
abbrev pub parameter_text : List Declaration → Var → Text
parameter_text ds x = var_name ds x.num ++ sort_text (written_sort ds x.sort)

-- a predicate with its parameters, without parentheses where there are none
abbrev pub with_parameters : List Declaration → Pred → List Var → Text
with_parameters ds p xs = pred_name ds p ++ sorts_text (map (parameter_text ds) xs)

-- a step of a block by cases
abbrev pub step_text : List Declaration → DlsStep → Text
step_text ds (step.Case n f) = codes "case " ++ decimal n ++ codes " " ++ form_text ds f
step_text ds (step.Ack s p xs v) = codes "ack " ++ sign_text s ++ codes " " ++ with_parameters ds p xs ++ codes " := " ++ form_text ds v
step_text ds (step.Gives f) = codes "gives " ++ form_text ds f

-- a line, without its line feed
abbrev pub line_text : List Declaration → Line → Text
line_text ds (line.Start f) = codes "start " ++ form_text ds f
line_text ds (line.Block m p) = codes "block " ++ method_text m ++ codes " " ++ pred_name ds p
line_text ds (line.Replace v f) = codes "replace " ++ constant_text v ++ codes " " ++ form_text ds f
line_text ds (line.Nnf f) = codes "nnf " ++ form_text ds f
line_text ds (line.Dls st) = step_text ds st
line_text ds (line.Close f) = codes "close " ++ form_text ds f
line_text ds (line.Result f) = codes "result " ++ form_text ds f
line_text ds (line.Stopped s) = codes "stopped " ++ stop_text s
line_text ds line.End = codes "end"

-- lines, each with its line feed
abbrev pub lines_text : List Declaration → List Line → Text
lines_text ds [] = []
lines_text ds (l ∷ ls) = line_text ds l ++ codes "\n" ++ lines_text ds ls

-- the declarations and names of a problem
abbrev pub declared_of : Problem → List Declaration
declared_of (problem.Elim ds goal) = ds

-- the first line of a document for a problem
abbrev pub head_text : Problem → Text
head_text (problem.Elim ds goal) = codes "soqe 1 elim\n"

-- the text of a document
abbrev pub document_text : Document → Text
document_text d = head_text d.problem ++ problem_text d.problem ++ lines_text (declared_of d.problem) d.lines
