-- The document that is written for a problem: block by block, the first block of what stands each time.
use Rattle.std.specs.Prelude.{◌≡◌, ℕ, Bool, true, cond, not, List, [], ◌∷◌, ◌++◌, map, Some, None}
use Rattle.soqe_form.specs.declared.form.Form.{Form}
use Rattle.soqe_form.specs.declared.form.Pred.TheVariants.{Bound}
use Rattle.soqe_form.specs.declared.form.Block.{Block}
use Rattle.soqe_form.specs.Places.{first_block, put_at}
use Rattle.soqe_tidy.specs.Tidy.{tidy}
use Rattle.soqe_norm.specs.Nnf.{nnf}
use Rattle.soqe_norm.specs.Valued.{valued, value_for, first_pos, first_neg}
use Rattle.soqe_ack.specs.declared.steps.DlsStep.{DlsStep}
use Rattle.soqe_dls.specs.declared.elimination.DlsEnd.TheVariants as end
use Rattle.soqe_dls.specs.Runs.{IsAnswer}
use Rattle.soqe_text.specs.declared.problem.Problem.{Problem}
use Rattle.soqe_deriv.specs.declared.document.Method.TheVariants as method
use Rattle.soqe_deriv.specs.declared.document.Stop.{Stop}
use Rattle.soqe_deriv.specs.declared.document.Stop.TheVariants as stop
use Rattle.soqe_deriv.specs.declared.document.Line.{Line}
use Rattle.soqe_deriv.specs.declared.document.Line.TheVariants as line
use Rattle.soqe_deriv.specs.declared.document.Document.{Document}
use Rattle.soqe_deriv.specs.Valid.{goal_of, kept, simplified, IsAccepted, IsHalted}
use Rattle.soqe_deriv.specs.Sound.{IsAnswerTo}
use Rattle.soqe_flow.specs.declared.derivation.Wanted.{Wanted}
use Rattle.soqe_flow.specs.declared.derivation.Wanted.TheVariants as wanted
use Rattle.soqe_flow.specs.declared.derivation.FlowEnd.{FlowEnd}
use Rattle.soqe_flow.specs.declared.derivation.FlowEnd.TheVariants as flow

-- how a derivation ends: with a result, or with a stop
pub data Ending : Type 0 where
  Result : Form → Ending
  Stops : Stop → Ending

-- a block's body with a truth value for its predicate, tidy
abbrev pub replaced : List ℕ → Block → Bool → Form
replaced keep b v = tidy keep (valued b.pred.num v b.body)

-- what stands with a part at a place
abbrev pub stands_with : List ℕ → Form → List ℕ → Form → Form
stands_with keep f place part = simplified keep (put_at place part f)

-- what stands where a formula takes the place of a block
abbrev pub after_block : List ℕ → Form → Block → Form → Form
after_block keep f b closed = stands_with keep f b.place closed

-- the formula that takes the place of a block whose predicate is replaced by a truth value
abbrev pub closed : List ℕ → Block → Bool → Form
closed keep b v = simplified keep (replaced keep b v)

-- the lines of such a block
abbrev pub sign_lines : List ℕ → Block → Bool → List Line
sign_lines keep b v = line.Block method.Sign (Bound b.pred.num) ∷ line.Replace v (replaced keep b v) ∷ line.Close (closed keep b v) ∷ []

-- what stands after it
abbrev pub after_sign : List ℕ → Form → Block → Bool → Form
after_sign keep f b v = after_block keep f b (closed keep b v)

-- the normal form of a block's body, or of its negation where its quantifier is universal, tidy
abbrev pub normal : List ℕ → Block → Form
normal keep b = tidy keep (nnf (not b.exists) b.body)

-- what takes the place of a block with this answer of its cases
abbrev pub answered : Block → Form → Form
answered b form = cond b.exists form (nnf true form)

-- the same, simplified
abbrev pub closed_by : List ℕ → Block → Form → Form
closed_by keep b form = simplified keep (answered b form)

-- the lines of a block by cases up to the end of its steps, over a normal form
abbrev pub cases_lines : Block → Form → List DlsStep → List Line
cases_lines b form steps = line.Block method.Dls (Bound b.pred.num) ∷ line.Nnf form ∷ map line.Dls steps

-- the last lines of a block with a case that no try reaches
abbrev pub lost_lines : ℕ → List Line
lost_lines n = line.Stopped (stop.NotReached n) ∷ line.End ∷ []

-- Where f stands, these lines follow with the method asked for, and this is their ending. Formulas are tidy with the numbers
-- to keep out.
pub data Follows (keep : List ℕ) : Wanted → Form → List Line → Ending → Type 0 where
  result : {w : Wanted} {f : Form} → first_block f ≡ None → Follows keep w f (line.Result f ∷ line.End ∷ []) (Result f)
  sign : {f : Form} {b : Block} {v : Bool} {ls : List Line} {e : Ending} → first_block f ≡ Some b → value_for b ≡ Some v
      → Follows keep wanted.Sign (after_sign keep f b v) ls e → Follows keep wanted.Sign f (sign_lines keep b v ++ ls) e
  mixed : {f : Form} {b : Block} {i j : ℕ} → first_block f ≡ Some b
      → first_pos (Bound b.pred.num) b.body ≡ Some i → first_neg (Bound b.pred.num) b.body ≡ Some j
      → Follows keep wanted.Sign f (line.Block method.Sign (Bound b.pred.num) ∷ line.Stopped (stop.Mixed i j) ∷ line.End ∷ []) (Stops (stop.Mixed i j))
  dls : {f form : Form} {b : Block} {steps : List DlsStep} {ls : List Line} {e : Ending} → first_block f ≡ Some b
      → IsAnswer keep b.pred (normal keep b) (end.Done steps form)
      → Follows keep wanted.Dls (after_block keep f b (closed_by keep b form)) ls e
      → Follows keep wanted.Dls f (cases_lines b (normal keep b) steps ++ line.Close (closed_by keep b form) ∷ ls) e
  not_reached : {f : Form} {b : Block} {steps : List DlsStep} {n : ℕ} → first_block f ≡ Some b
      → IsAnswer keep b.pred (normal keep b) (end.NotReached steps n)
      → Follows keep wanted.Dls f (cases_lines b (normal keep b) steps ++ lost_lines n) (Stops (stop.NotReached n))

-- the formula that a problem's derivation starts with
abbrev pub started : Problem → Form
started p = simplified (kept p) (goal_of p)

-- The lines of a document are those that are due for its problem, and this is their ending.
pub record IsOrdered (w : Wanted) (d : Document) (e : Ending) : Type 0 where
  pub lines : List Line
  pub are : d.lines ≡ line.Start (started d.problem) ∷ lines
  pub follow : Follows (kept d.problem) w (started d.problem) lines e

-- A derivation of the problem ends as its document does.
abbrev pub EndsAsOrdered : Wanted → Problem → FlowEnd → Type 0
EndsAsOrdered w p (flow.Done d) = (d.problem ≡ p) × (f : Form) × IsOrdered w d (Result f)
EndsAsOrdered w p (flow.Stopped d s) = (d.problem ≡ p) × IsOrdered w d (Stops s)

-- The document is valid, and its result answers its problem.
abbrev pub EndsAsSound : Wanted → FlowEnd → Type 0
EndsAsSound w (flow.Done d) = (f : Form) → IsOrdered w d (Result f) → IsAccepted d f × IsAnswerTo d.problem f
EndsAsSound w (flow.Stopped d s) = IsHalted d
