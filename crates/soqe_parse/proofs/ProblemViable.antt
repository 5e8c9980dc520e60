-- Pieces begin a problem exactly where the machine goes on.
--
-- From each state but `Dead` some pieces lead to a whole problem: inside a declaration what it still lacks, between
-- items a goal, and inside the goal the pieces that end its formula (FormulaViable), then a semicolon.
use Rattle.std.proofs.Common.{◌≡◌, List, [], ◌∷◌, ◌++◌, refl, sym, ap, ◌∙◌, append_assoc}
use Rattle.std.proofs.lemmas.List.{append-nil}
use Rattle.soqe_syntax.specs.declared.piece.Span.{Span}
use Rattle.soqe_syntax.specs.declared.piece.Head.TheVariants as head
use Rattle.soqe_syntax.specs.declared.piece.Piece.{Piece}
use Rattle.soqe_syntax.specs.declared.piece.Piece.TheVariants as piece
use Rattle.soqe_syntax.specs.Grammar.{Declared, spell_all_declared, Problem}
use Rattle.soqe_parse.specs.Machine as formula
use Rattle.soqe_parse.specs.Items.{Within, InSort, HaveSort, InFun, NamedFun, WantFunSort, HaveFunSort, ClosedFun, WantResult, HaveResult, InPred, NamedPred, WantPredSort, HavePredSort, ClosedPred, InVar, NamedVar, WantVarSort, HaveVarSort, State, Between, Inside, Goal, Done, Dead, step_within, step, run}
use Rattle.soqe_parse.specs.Faults.{IsViable}
use Rattle.soqe_parse.proofs.FormulaViable.{alive-begun, any}
use Rattle.soqe_parse.proofs.ProblemSound.{Reads, step-keeps, run-keeps, whole-problem}

-- Some pieces lead from the state to a whole problem.
abbrev pub Ends : State → Type 0
Ends x = (ts : List Piece) → Reads ts x → IsViable ts

-- a piece on the way
onward : (x : State) (p : Piece) → Ends (step x p) → Ends x
onward x p f ts h =
    let v = f (ts ++ p ∷ []) (step-keeps x p ts h) in
    record { more = p ∷ v.more; problem = v.problem; shape = record { levelled = v.shape.levelled; spelled = sym (append_assoc ts (p ∷ []) v.more) ∙ v.shape.spelled } }

goal-ends : (ds : List (Declared Span)) (x : formula.State) → Ends (Goal ds x)
goal-ends ds x ts h =
    let v = alive-begun x h.behind h.reads h.living in
    let e : spell_all_declared ds ++ piece.Begin head.Goal ∷ h.behind ++ v.more ≡ ts ++ v.more = ap (λ (r : List Piece). r ++ v.more) h.pieces in
    let e' : spell_all_declared ds ++ (piece.Begin head.Goal ∷ h.behind ++ v.more) ≡ ts ++ v.more =
    sym (append_assoc (spell_all_declared ds) (piece.Begin head.Goal ∷ h.behind) v.more) ∙ e in
    let w = whole-problem ds v.tree (h.behind ++ v.more) (ts ++ v.more) v.shape e' in
    record {
      more = v.more ++ piece.Semicolon ∷ [];
      problem = record { declared = ds; goal = v.tree };
      shape = record { levelled = w.levelled; spelled = sym (append_assoc ts v.more (piece.Semicolon ∷ [])) ∙ w.spelled };
    }

between-ends : (ds : List (Declared Span)) → Ends (Between ds)
between-ends ds = onward (Between ds) (piece.Begin head.Goal) (goal-ends ds (formula.Want []))

-- ---- declarations

inward : (ds : List (Declared Span)) (w : Within) (p : Piece) → Ends (step_within ds w p) → Ends (Inside ds w)
inward ds w p f = onward (Inside ds w) p f

want-result-ends : (ds : List (Declared Span)) (f : Span) (ss : List Span) → Ends (Inside ds (WantResult f ss))
want-result-ends ds f ss = inward ds (WantResult f ss) (piece.Name any) (inward ds (HaveResult f ss any) piece.Semicolon (between-ends _))

have-fun-sort-ends : (ds : List (Declared Span)) (f : Span) (ss : List Span) → Ends (Inside ds (HaveFunSort f ss))
have-fun-sort-ends ds f ss = inward ds (HaveFunSort f ss) piece.Close (inward ds (ClosedFun f ss) piece.Colon (want-result-ends ds f ss))

have-pred-sort-ends : (ds : List (Declared Span)) (p : Span) (ss : List Span) → Ends (Inside ds (HavePredSort p ss))
have-pred-sort-ends ds p ss = inward ds (HavePredSort p ss) piece.Close (inward ds (ClosedPred p ss) piece.Semicolon (between-ends _))

within-ends : (ds : List (Declared Span)) (w : Within) → Ends (Inside ds w)
within-ends ds InSort = inward ds InSort (piece.Name any) (inward ds (HaveSort any) piece.Semicolon (between-ends _))
within-ends ds (HaveSort x) = inward ds (HaveSort x) piece.Semicolon (between-ends _)
within-ends ds InFun = inward ds InFun (piece.Name any) (inward ds (NamedFun any) piece.Colon (want-result-ends ds any []))
within-ends ds (NamedFun f) = inward ds (NamedFun f) piece.Colon (want-result-ends ds f [])
within-ends ds (WantFunSort f ss) = inward ds (WantFunSort f ss) (piece.Name any) (have-fun-sort-ends ds f (ss ++ any ∷ []))
within-ends ds (HaveFunSort f ss) = have-fun-sort-ends ds f ss
within-ends ds (ClosedFun f ss) = inward ds (ClosedFun f ss) piece.Colon (want-result-ends ds f ss)
within-ends ds (WantResult f ss) = want-result-ends ds f ss
within-ends ds (HaveResult f ss r) = inward ds (HaveResult f ss r) piece.Semicolon (between-ends _)
within-ends ds InPred = inward ds InPred (piece.Name any) (inward ds (NamedPred any) piece.Semicolon (between-ends _))
within-ends ds (NamedPred p) = inward ds (NamedPred p) piece.Semicolon (between-ends _)
within-ends ds (WantPredSort p ss) = inward ds (WantPredSort p ss) (piece.Name any) (have-pred-sort-ends ds p (ss ++ any ∷ []))
within-ends ds (HavePredSort p ss) = have-pred-sort-ends ds p ss
within-ends ds (ClosedPred p ss) = inward ds (ClosedPred p ss) piece.Semicolon (between-ends _)
within-ends ds InVar =
    inward ds InVar (piece.Name any) (inward ds (NamedVar any) piece.Colon (inward ds (WantVarSort any) (piece.Name any) (inward ds (HaveVarSort any any) piece.Semicolon (between-ends _))))
within-ends ds (NamedVar x) = inward ds (NamedVar x) piece.Colon (inward ds (WantVarSort x) (piece.Name any) (inward ds (HaveVarSort x any) piece.Semicolon (between-ends _)))
within-ends ds (WantVarSort x) = inward ds (WantVarSort x) (piece.Name any) (inward ds (HaveVarSort x any) piece.Semicolon (between-ends _))
within-ends ds (HaveVarSort x s) = inward ds (HaveVarSort x s) piece.Semicolon (between-ends _)

-- ---- problems

done-ends : (p : Problem Span) → Ends (Done p)
done-ends p ts h = record { more = []; problem = p; shape = record { levelled = h.levelled; spelled = append-nil ts ∙ h.spelled } }

-- each state but the dead one goes on to a problem
pub living-ends : (x : State) → (x ≡ Dead → ⊥) → Ends x
living-ends (Between ds) n = between-ends ds
living-ends (Inside ds w) n = within-ends ds w
living-ends (Goal ds x) n = goal-ends ds x
living-ends (Done p) n = done-ends p
living-ends Dead n = absurd (n refl)

-- pieces that don't lead to the dead state begin a problem
pub living_is_viable : (ps : List Piece) → (run (Between []) ps ≡ Dead → ⊥) → IsViable ps
living_is_viable ps n = living-ends (run (Between []) ps) n ps (run-keeps ps (Between []) [] refl)
