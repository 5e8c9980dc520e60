-- What has the shape of a problem is read as that problem.
--
-- Each declaration is read from its keyword to its semicolon (`reach-declared`). In the goal the machine for formulas
-- takes every piece but the semicolon, behind which no formula goes on (`in-goal`). So each problem is answered by its
-- spelling (`parse-spelled`), a list of pieces has at most one problem, and pieces that lead to `Dead` begin none.
use Rattle.std.proofs.Common.{◌≡◌, List, [], ◌∷◌, ◌++◌, Some, None, refl, sym, ap, subst, ◌∙◌, append_assoc}
use Rattle.std.proofs.lemmas.List.{append-nil}
use Rattle.soqe_syntax.specs.declared.piece.Span.{Span}
use Rattle.soqe_syntax.specs.declared.piece.Head.TheVariants as head
use Rattle.soqe_syntax.specs.declared.piece.Piece.{Piece}
use Rattle.soqe_syntax.specs.declared.piece.Piece.TheVariants as piece
use Rattle.soqe_syntax.specs.Grammar.{IsLevelled, spell, spell_further, Declared, DeclaredSort, DeclaredFun, DeclaredPred, DeclaredVar, spell_declared, spell_all_declared, Problem, spell_problem, HasProblemShape}
use Rattle.soqe_parse.specs.Machine as formula
use Rattle.soqe_parse.specs.Items.{HaveFunSort, HavePredSort, State, Between, Inside, Goal, Done, Dead, goal_at, goal_done, step, run, finish, parse}
use Rattle.soqe_parse.specs.Faults.{IsViable}
use Rattle.soqe_parse.proofs.FormulaComplete as complete
use Rattle.soqe_parse.proofs.FormulaComplete.{IsAlive, alive-before, finish-alive}

-- ---- declarations

reach-fun-sorts : (ss : List Span) (ds : List (Declared Span)) (f : Span) (done : List Span) (rest : List Piece)
    → run (Inside ds (HaveFunSort f done)) (spell_further ss ++ rest) ≡ run (Inside ds (HaveFunSort f (done ++ ss))) rest
reach-fun-sorts [] ds f done rest = ap (λ (d : List Span). run (Inside ds (HaveFunSort f d)) rest) (sym (append-nil done))
reach-fun-sorts (s ∷ ss) ds f done rest =
    reach-fun-sorts ss ds f (done ++ s ∷ []) rest ∙ ap (λ (d : List Span). run (Inside ds (HaveFunSort f d)) rest) (append_assoc done (s ∷ []) ss)

reach-pred-sorts : (ss : List Span) (ds : List (Declared Span)) (p : Span) (done : List Span) (rest : List Piece)
    → run (Inside ds (HavePredSort p done)) (spell_further ss ++ rest) ≡ run (Inside ds (HavePredSort p (done ++ ss))) rest
reach-pred-sorts [] ds p done rest = ap (λ (d : List Span). run (Inside ds (HavePredSort p d)) rest) (sym (append-nil done))
reach-pred-sorts (s ∷ ss) ds p done rest =
    reach-pred-sorts ss ds p (done ++ s ∷ []) rest ∙ ap (λ (d : List Span). run (Inside ds (HavePredSort p d)) rest) (append_assoc done (s ∷ []) ss)

-- sorts, their parenthesis, and what stands behind it
regroup : (ss : List Span) (us rest : List Piece) → ((spell_further ss ++ piece.Close ∷ []) ++ us) ++ rest ≡ spell_further ss ++ (piece.Close ∷ us ++ rest)
regroup ss us rest =
    append_assoc (spell_further ss ++ piece.Close ∷ []) us rest ∙ append_assoc (spell_further ss) (piece.Close ∷ []) (us ++ rest)

pub reach-declared : (d : Declared Span) (ds : List (Declared Span)) (rest : List Piece) → run (Between ds) (spell_declared d ++ rest) ≡ run (Between (ds ++ d ∷ [])) rest
reach-declared (DeclaredSort s) ds rest = refl
reach-declared (DeclaredFun f [] r) ds rest = refl
reach-declared (DeclaredFun f (s ∷ ss) r) ds rest =
    ap (run (Inside ds (HaveFunSort f (s ∷ [])))) (regroup ss (piece.Colon ∷ piece.Name r ∷ piece.Semicolon ∷ []) rest)
    ∙ reach-fun-sorts ss ds f (s ∷ []) (piece.Close ∷ piece.Colon ∷ piece.Name r ∷ piece.Semicolon ∷ rest)
reach-declared (DeclaredPred p []) ds rest = refl
reach-declared (DeclaredPred p (s ∷ ss)) ds rest =
    ap (run (Inside ds (HavePredSort p (s ∷ [])))) (regroup ss (piece.Semicolon ∷ []) rest)
    ∙ reach-pred-sorts ss ds p (s ∷ []) (piece.Close ∷ piece.Semicolon ∷ rest)
reach-declared (DeclaredVar x s) ds rest = refl

pub reach-all : (es ds : List (Declared Span)) (rest : List Piece) → run (Between ds) (spell_all_declared es ++ rest) ≡ run (Between (ds ++ es)) rest
reach-all [] ds rest = ap (λ (d : List (Declared Span)). run (Between d) rest) (sym (append-nil ds))
reach-all (e ∷ es) ds rest =
    ap (run (Between ds)) (append_assoc (spell_declared e) (spell_all_declared es) rest)
    ∙ reach-declared e ds (spell_all_declared es ++ rest)
    ∙ reach-all es (ds ++ e ∷ []) rest
    ∙ ap (λ (d : List (Declared Span)). run (Between d) rest) (append_assoc ds (e ∷ []) es)

-- ---- the goal

-- no formula goes on behind a semicolon
no-semicolon : (x : formula.State) → formula.step x piece.Semicolon ≡ formula.Dead
no-semicolon (formula.Want st) = refl
no-semicolon _ = refl

pub goal-alive : (ds : List (Declared Span)) (x : formula.State) → IsAlive x → goal_at ds x ≡ Goal ds x
goal-alive ds formula.Dead a = absurd a
goal-alive ds _ a = refl

goal-step : (ds : List (Declared Span)) (x : formula.State) (p : Piece) → IsAlive (formula.step x p) → step (Goal ds x) p ≡ Goal ds (formula.step x p)
goal-step ds x piece.Semicolon a = absurd (subst IsAlive (no-semicolon x) a)
goal-step ds x p a = goal-alive ds (formula.step x p) a

-- in the goal, the machine for formulas takes what it can
pub in-goal : (ps : List Piece) (ds : List (Declared Span)) (x : formula.State) (rest : List Piece)
    → IsAlive (formula.run x ps) → run (Goal ds x) (ps ++ rest) ≡ run (Goal ds (formula.run x ps)) rest
in-goal [] ds x rest a = refl
in-goal (p ∷ ps) ds x rest a =
    ap (λ (y : State). run y (ps ++ rest)) (goal-step ds x p (alive-before ps (formula.step x p) a))
    ∙ in-goal ps ds (formula.step x p) rest a

-- ---- problems

pub reach-problem : (p : Problem Span) → IsLevelled p.goal → run (Between []) (spell_problem p) ≡ Done p
reach-problem p w =
    let e = complete.parse-spelled p.goal w in
    ap (run (Between [])) (append_assoc (spell_all_declared p.declared) (piece.Begin head.Goal ∷ spell p.goal) (piece.Semicolon ∷ []))
    ∙ reach-all p.declared [] (piece.Begin head.Goal ∷ spell p.goal ++ piece.Semicolon ∷ [])
    ∙ in-goal (spell p.goal) p.declared (formula.Want []) (piece.Semicolon ∷ []) (finish-alive (formula.run (formula.Want []) (spell p.goal)) p.goal e)
    ∙ ap (goal_done p.declared) e

pub parse-spelled : (p : Problem Span) → IsLevelled p.goal → parse (spell_problem p) ≡ Some p
parse-spelled p w = ap finish (reach-problem p w)

pub shape-parsed : (ps : List Piece) (p : Problem Span) → HasProblemShape ps p → parse ps ≡ Some p
shape-parsed ps p h = ap parse h.spelled ∙ parse-spelled p h.levelled

some_same : {A : Type 0} (x y : A) → Some x ≡ Some y → x ≡ y
some_same x y e = cc

-- a list of pieces has at most one problem
pub one_problem_shape : (ps : List Piece) (p q : Problem Span) → HasProblemShape ps p → HasProblemShape ps q → p ≡ q
one_problem_shape ps p q h k = some_same p q (sym (shape-parsed ps p h) ∙ shape-parsed ps q k)

-- ---- where nothing goes on

pub run-append : (ps us : List Piece) (x : State) → run x (ps ++ us) ≡ run (run x ps) us
run-append [] us x = refl
run-append (p ∷ ps) us x = run-append ps us (step x p)

pub run-dead : (ps : List Piece) → run Dead ps ≡ Dead
run-dead [] = refl
run-dead (p ∷ ps) = run-dead ps

-- pieces that lead to the dead state begin no problem
pub dead_is_not_viable : (ps : List Piece) → run (Between []) ps ≡ Dead → IsViable ps → ⊥
dead_is_not_viable ps e v =
    let a : parse (ps ++ v.more) ≡ None = ap finish (run-append ps v.more (Between []) ∙ ap (λ (x : State). run x v.more) e ∙ run-dead v.more) in
    let b : parse (ps ++ v.more) ≡ Some v.problem = shape-parsed (ps ++ v.more) v.problem v.shape in
    cc
