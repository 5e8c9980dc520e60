-- The code's values as states of the machine for problems.
use Rattle.std.specs.Prelude.{◌≡◌, List, map, Option, Some, None, Result, Ok, Err}
use Rattle.soqe_syntax.specs.declared.piece.Span.{Span}
use Rattle.soqe_syntax.specs.declared.shape.Item.{Item}
use Rattle.soqe_syntax.specs.declared.shape.Shape.{Shape}
use Rattle.soqe_syntax.specs.Grammar.{Tree, Declared}
use Rattle.soqe_syntax.specs.Shapes.{view, declared_view}
use Rattle.soqe_parse.specs.declared.frame.StepError.{StepError}
use Rattle.soqe_parse.specs.declared.frame.StepError.TheVariants as errors
use Rattle.soqe_parse.specs.declared.stage.SortPart.{SortPart}
use Rattle.soqe_parse.specs.declared.stage.SortPart.TheVariants as sort
use Rattle.soqe_parse.specs.declared.stage.FunPart.{FunPart}
use Rattle.soqe_parse.specs.declared.stage.FunPart.TheVariants as fun
use Rattle.soqe_parse.specs.declared.stage.PredPart.{PredPart}
use Rattle.soqe_parse.specs.declared.stage.PredPart.TheVariants as pred
use Rattle.soqe_parse.specs.declared.stage.VarPart.{VarPart}
use Rattle.soqe_parse.specs.declared.stage.VarPart.TheVariants as variable
use Rattle.soqe_parse.specs.declared.stage.Stage.{Stage}
use Rattle.soqe_parse.specs.declared.stage.Stage.TheVariants as stages
use Rattle.soqe_parse.specs.Stack.{state_of}
use Rattle.soqe_parse.specs.Items.{Within, InSort, HaveSort, InFun, NamedFun, WantFunSort, HaveFunSort, ClosedFun, WantResult, HaveResult, InPred, NamedPred, WantPredSort, HavePredSort, ClosedPred, InVar, NamedVar, WantVarSort, HaveVarSort, State, Between, Inside, Goal, Done, Dead}

-- the declarations that were read
unfoldable pub declared_of : List Item → List (Declared Span)
declared_of items = map declared_view items

-- inside a declaration of a sort
abbrev pub sort_within : SortPart → Within
sort_within sort.Begun = InSort
sort_within (sort.Named x) = HaveSort x

-- inside a declaration of a function
abbrev pub fun_within : FunPart → Within
fun_within fun.Begun = InFun
fun_within (fun.Named f) = NamedFun f
fun_within (fun.WantArgument f ss) = WantFunSort f ss
fun_within (fun.HaveArgument f ss) = HaveFunSort f ss
fun_within (fun.Closed f ss) = ClosedFun f ss
fun_within (fun.WantResult f ss) = WantResult f ss
fun_within (fun.HaveResult f ss r) = HaveResult f ss r

-- inside a declaration of a predicate
abbrev pub pred_within : PredPart → Within
pred_within pred.Begun = InPred
pred_within (pred.Named p) = NamedPred p
pred_within (pred.WantArgument p ss) = WantPredSort p ss
pred_within (pred.HaveArgument p ss) = HavePredSort p ss
pred_within (pred.Closed p ss) = ClosedPred p ss

-- inside a declaration of a variable
abbrev pub var_within : VarPart → Within
var_within variable.Begun = InVar
var_within (variable.Named x) = NamedVar x
var_within (variable.WantSort x) = WantVarSort x
var_within (variable.HaveSort x s) = HaveVarSort x s

-- the machine's state
abbrev pub stage_of : List Item → Stage → State
stage_of items stages.Between = Between (declared_of items)
stage_of items (stages.InSort p) = Inside (declared_of items) (sort_within p)
stage_of items (stages.InFun p) = Inside (declared_of items) (fun_within p)
stage_of items (stages.InPred p) = Inside (declared_of items) (pred_within p)
stage_of items (stages.InVar p) = Inside (declared_of items) (var_within p)
stage_of items (stages.Goal stack m) = Goal (declared_of items) (state_of stack.items m)
stage_of items (stages.Done s) = Done (record { declared = declared_of items; goal = view s })

-- What a step returned is the state x, unless memory ran out.
abbrev pub Reaches : List Item → Result Stage StepError → State → Type 0
Reaches items (Ok m) x = stage_of items m ≡ x
Reaches items (Err errors.Memory) x = Unit {0}
Reaches items (Err errors.Dead) x = x ≡ Dead

-- What an end returned is the whole formula, unless memory ran out.
abbrev pub Ends : Result Shape StepError → Option (Tree Span) → Type 0
Ends (Ok s) x = x ≡ Some (view s)
Ends (Err errors.Memory) x = Unit {0}
Ends (Err errors.Dead) x = x ≡ None
