-- When a line of a document is valid, and what stands then.
use Rattle.std.specs.Prelude.{◌≡◌, ℕ, Bool, true, false, List, [], ◌∷◌, ◌++◌, map, Option, Some, None}
use Rattle.soqe_signature.specs.Declarations.{free_vars_of}
use Rattle.soqe_form.specs.declared.form.Form.{Form}
use Rattle.soqe_form.specs.declared.form.Pred.TheVariants.{Bound}
use Rattle.soqe_form.specs.declared.form.Block.{Block}
use Rattle.soqe_form.specs.Places.{first_block, put_at}
use Rattle.soqe_form.specs.Same.{same}
use Rattle.soqe_tidy.specs.Tidy.{tidy}
use Rattle.soqe_simp.specs.Simplified.{simplify}
use Rattle.soqe_norm.specs.Valued.{valued, value_for, first_pos, first_neg}
use Rattle.soqe_ack.specs.Acked.{IsStuck}
use Rattle.soqe_text.specs.Sorted.{IsSorted}
use Rattle.soqe_text.specs.declared.problem.Problem.{Problem}
use Rattle.soqe_text.specs.declared.problem.Problem.TheVariants as problem
use Rattle.soqe_deriv.specs.declared.document.Method.{Method}
use Rattle.soqe_deriv.specs.declared.document.Method.TheVariants as method
use Rattle.soqe_deriv.specs.declared.document.Stop.TheVariants as stop
use Rattle.soqe_deriv.specs.declared.document.Line.{Line}
use Rattle.soqe_deriv.specs.declared.document.Line.TheVariants as line
use Rattle.soqe_deriv.specs.declared.document.Document.{Document}
use Rattle.soqe_deriv.specs.Cased.{Present, Cases, no_cases, cases_come_to, CaseStep}

-- a document's rows: its first line, its problem, and its other lines
pub data Row : Type 0 where
  First : Row
  Posed : Problem → Row
  Further : Line → Row

-- how far a document is: nothing stands, it goes on, a result or a stop was written, or its last line
pub data Phase : Type 0 where
  Fresh : Phase
  Running : Phase
  Answered : Phase
  Halted : Phase
  Accepted : Phase
  Ended : Phase

-- what the lines of an open block have come to
pub data Work : Type 0 where
  -- a block by its sign, with the formula of its `replace` line
  Sign : Option Form → Work
  -- a block by cases
  Dls : Cases → Work

-- an open block
pub record Opened : Type 0 where
  pub block : Block
  pub work : Work

-- what stands after some rows: the phase, the problem, the formula that the derivation has come to, and the open block
pub record State : Type 0 where
  pub phase : Phase
  pub problem : Option Problem
  pub formula : Option Form
  pub block : Option Opened

-- nothing stands before the first line
abbrev pub start_state : State
start_state = record { phase = Fresh; problem = None; formula = None; block = None }

-- the goal that a problem poses
abbrev pub goal_of : Problem → Form
goal_of (problem.Elim ds goal) = goal

-- a block as its opening line leaves it
abbrev pub opened : Method → Block → Opened
opened method.Sign b = record { block = b; work = Sign None }
opened method.Dls b = record { block = b; work = Dls no_cases }

-- the formula that the lines of a block have come to, by whether its quantifier is existential
abbrev pub comes_to : Bool → Work → Option Form
comes_to exists (Sign f) = f
comes_to exists (Dls w) = cases_come_to exists w.normal w.due w.present w.given

-- the formula that an open block has come to
abbrev pub outcome : Opened → Option Form
outcome o = comes_to o.block.exists o.work

-- the numbers of a problem's declared variables: binders of a tidy formula have others
abbrev pub kept : Problem → List ℕ
kept (problem.Elim ds goal) = map (λ x. x.num) (free_vars_of ds)

-- the formula made simple, then tidy
abbrev pub simplified : List ℕ → Form → Form
simplified keep f = tidy keep (simplify f)

-- In the state s the row is valid, and the last state stands then: one case for each kind of row.
pub data Step (s : State) : Row → State → Type 0 where
  first : s.phase ≡ Fresh → Step s First (record s { phase = Running })
  posed : {p : Problem} → s.phase ≡ Running → s.problem ≡ None → IsSorted p → Step s (Posed p) (record s { problem = Some p })
  start : {f : Form} {p : Problem} → s.phase ≡ Running → s.problem ≡ Some p → s.formula ≡ None
      → same f (simplified (kept p) (goal_of p)) ≡ true
      → Step s (Further (line.Start f)) (record s { formula = Some f })
  block : {m : Method} {f : Form} {b : Block} → s.phase ≡ Running → s.formula ≡ Some f → s.block ≡ None → first_block f ≡ Some b
      → Step s (Further (line.Block m (Bound b.pred.num))) (record s { block = Some (opened m b) })
  replace : {v : Bool} {f : Form} {b : Block} → s.phase ≡ Running → s.block ≡ Some (opened method.Sign b)
      → value_for b ≡ Some v → same f (valued b.pred.num v b.body) ≡ true
      → Step s (Further (line.Replace v f)) (record s { block = Some (record { block = b; work = Sign (Some f) }) })
  dls : {b : Block} {w v : Cases} {l : Line} {p : Problem} → s.phase ≡ Running → s.problem ≡ Some p
      → s.block ≡ Some (record { block = b; work = Dls w }) → CaseStep (kept p) b w l v
      → Step s (Further l) (record s { block = Some (record { block = b; work = Dls v }) })
  close : {f g r : Form} {p : Problem} {o : Opened} → s.phase ≡ Running → s.problem ≡ Some p → s.formula ≡ Some g → s.block ≡ Some o
      → outcome o ≡ Some r → same f (simplified (kept p) r) ≡ true
      → Step s (Further (line.Close f)) (record s { formula = Some (simplified (kept p) (put_at o.block.place f g)); block = None })
  result : {f g : Form} → s.phase ≡ Running → s.formula ≡ Some g → s.block ≡ None → first_block g ≡ None → same f g ≡ true
      → Step s (Further (line.Result f)) (record s { phase = Answered; formula = Some f })
  mixed : {i j : ℕ} {b : Block} → s.phase ≡ Running → s.block ≡ Some (opened method.Sign b)
      → first_pos (Bound b.pred.num) b.body ≡ Some i → first_neg (Bound b.pred.num) b.body ≡ Some j
      → Step s (Further (line.Stopped (stop.Mixed i j))) (record s { phase = Halted })
  not_reached : {b : Block} {w : Cases} {c : Present} {n : ℕ} → s.phase ≡ Running → s.block ≡ Some (record { block = b; work = Dls w })
      → w.present ≡ Some c → c.sign ≡ None → n ≡ w.number
      → IsStuck true (Bound b.pred.num) c.conj → IsStuck false (Bound b.pred.num) c.conj
      → Step s (Further (line.Stopped (stop.NotReached n))) (record s { phase = Halted })
  end_answered : s.phase ≡ Answered → Step s (Further line.End) (record s { phase = Accepted })
  end_halted : s.phase ≡ Halted → Step s (Further line.End) (record s { phase = Ended })

-- from one state to another, the rows are valid one after another
pub data Reach (s : State) : List Row → State → Type 0 where
  none : Reach s [] s
  more : {rs : List Row} {r : Row} {t u : State} → Reach s rs t → Step t r u → Reach s (rs ++ r ∷ []) u

-- the rows of further lines
abbrev pub further : List Line → List Row
further [] = []
further (l ∷ ls) = Further l ∷ further ls

-- the rows of a document
abbrev pub rows_of : Document → List Row
rows_of d = First ∷ Posed d.problem ∷ further d.lines

-- A document is valid, and ends with this result.
pub record IsAccepted (d : Document) (f : Form) : Type 0 where
  pub last : State
  pub reach : Reach start_state (rows_of d) last
  pub accepted : last.phase ≡ Accepted
  pub formula : last.formula ≡ Some f

-- A document is valid, and ends with a stop.
pub record IsHalted (d : Document) : Type 0 where
  pub last : State
  pub reach : Reach start_state (rows_of d) last
  pub halted : last.phase ≡ Ended
