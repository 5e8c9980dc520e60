-- What is read as a problem has its shape.
--
-- As for formulas, each state spells the pieces that led to it (`Reads`): whole declarations, then a declaration in the
-- making or the goal, of which the machine for formulas has read its own pieces. A step keeps this (`step-keeps`), so
-- the problem that is answered is spelled by exactly the pieces read (`parse-sound`).
use Rattle.std.proofs.Common.{◌≡◌, List, [], ◌∷◌, ◌++◌, Option, Some, None, refl, sym, ap, subst, ◌∙◌, append_assoc}
use Rattle.std.proofs.lemmas.List.{append-nil}
use Rattle.soqe_syntax.specs.declared.piece.Span.{Span}
use Rattle.soqe_syntax.specs.declared.piece.Head.TheVariants as head
use Rattle.soqe_syntax.specs.declared.piece.Piece.{Piece}
use Rattle.soqe_syntax.specs.declared.piece.Piece.TheVariants as piece
use Rattle.soqe_syntax.specs.Grammar.{Tree, HasShape, spell_sorts, Declared, DeclaredSort, DeclaredFun, DeclaredPred, DeclaredVar, spell_declared, spell_all_declared, Problem, HasProblemShape}
use Rattle.soqe_parse.specs.Machine as formula
use Rattle.soqe_parse.specs.Items.{Within, InSort, HaveSort, InFun, NamedFun, WantFunSort, HaveFunSort, ClosedFun, WantResult, HaveResult, InPred, NamedPred, WantPredSort, HavePredSort, ClosedPred, InVar, NamedVar, WantVarSort, HaveVarSort, State, Between, Inside, Goal, Done, Dead, begin, step_within, goal_at, goal_done, step_goal, step, run, finish, parse}
use Rattle.soqe_parse.proofs.FormulaComplete.{IsAlive}
use Rattle.soqe_parse.proofs.FormulaSound as sound
use Rattle.soqe_parse.proofs.FormulaSound.{sorts_before, sorts_open, IsNonempty, open-push, before-open, sorts-open, some-push}

-- the pieces that led into a declaration
abbrev pub pieces_within : Within → List Piece
pieces_within InSort = piece.Begin head.Sort ∷ []
pieces_within (HaveSort x) = piece.Begin head.Sort ∷ piece.Name x ∷ []
pieces_within InFun = piece.Begin head.Fun ∷ []
pieces_within (NamedFun f) = piece.Begin head.Fun ∷ piece.Name f ∷ []
pieces_within (WantFunSort f ss) = piece.Begin head.Fun ∷ piece.Name f ∷ sorts_before ss
pieces_within (HaveFunSort f ss) = piece.Begin head.Fun ∷ piece.Name f ∷ sorts_open ss
pieces_within (ClosedFun f ss) = piece.Begin head.Fun ∷ piece.Name f ∷ spell_sorts ss
pieces_within (WantResult f ss) = piece.Begin head.Fun ∷ piece.Name f ∷ spell_sorts ss ++ piece.Colon ∷ []
pieces_within (HaveResult f ss r) = piece.Begin head.Fun ∷ piece.Name f ∷ spell_sorts ss ++ piece.Colon ∷ piece.Name r ∷ []
pieces_within InPred = piece.Begin head.Pred ∷ []
pieces_within (NamedPred p) = piece.Begin head.Pred ∷ piece.Name p ∷ []
pieces_within (WantPredSort p ss) = piece.Begin head.Pred ∷ piece.Name p ∷ sorts_before ss
pieces_within (HavePredSort p ss) = piece.Begin head.Pred ∷ piece.Name p ∷ sorts_open ss
pieces_within (ClosedPred p ss) = piece.Begin head.Pred ∷ piece.Name p ∷ spell_sorts ss
pieces_within InVar = piece.Begin head.Var ∷ []
pieces_within (NamedVar x) = piece.Begin head.Var ∷ piece.Name x ∷ []
pieces_within (WantVarSort x) = piece.Begin head.Var ∷ piece.Name x ∷ piece.Colon ∷ []
pieces_within (HaveVarSort x s) = piece.Begin head.Var ∷ piece.Name x ∷ piece.Colon ∷ piece.Name s ∷ []

-- Where a sort stands, the list of sorts has it.
abbrev pub HasSorts : Within → Type 0
HasSorts (HaveFunSort f ss) = IsNonempty ss
HasSorts (HavePredSort p ss) = IsNonempty ss
HasSorts _ = Unit {0}

-- Declarations, and a goal's pieces so far, which leave a living state.
pub record ReadsGoal (ts : List Piece) (ds : List (Declared Span)) (x : formula.State) : Type 0 where
  pub behind : List Piece
  pub reads : sound.Reads behind x
  pub living : IsAlive x
  pub pieces : spell_all_declared ds ++ piece.Begin head.Goal ∷ behind ≡ ts

-- The pieces so far are ts, and the state is what they leave.
abbrev pub Reads : List Piece → State → Type 0
Reads ts (Between ds) = spell_all_declared ds ≡ ts
Reads ts (Inside ds w) = HasSorts w × (spell_all_declared ds ++ pieces_within w ≡ ts)
Reads ts (Goal ds x) = ReadsGoal ts ds x
Reads ts (Done p) = HasProblemShape ts p
Reads ts Dead = Unit {0}

abbrev push : Piece → List Piece → List Piece
push t r = r ++ t ∷ []

-- ---- declarations

spell-all-push : (ds : List (Declared Span)) (d : Declared Span) → spell_all_declared (ds ++ d ∷ []) ≡ spell_all_declared ds ++ spell_declared d
spell-all-push [] d = append-nil (spell_declared d)
spell-all-push (e ∷ ds) d =
    ap (λ (r : List Piece). spell_declared e ++ r) (spell-all-push ds d) ∙ sym (append_assoc (spell_declared e) (spell_all_declared ds) (spell_declared d))

-- one piece more behind whole declarations
grown : (ds : List (Declared Span)) (us vs : List Piece) (p : Piece) (ts : List Piece)
    → vs ≡ us ++ p ∷ [] → spell_all_declared ds ++ us ≡ ts → spell_all_declared ds ++ vs ≡ ts ++ p ∷ []
grown ds us vs p ts e h = ap (λ (r : List Piece). spell_all_declared ds ++ r) e ∙ sym (append_assoc (spell_all_declared ds) us (p ∷ [])) ∙ ap (push p) h

-- one piece more, which ends a declaration
ended : (ds : List (Declared Span)) (d : Declared Span) (us : List Piece) (p : Piece) (ts : List Piece)
    → spell_declared d ≡ us ++ p ∷ [] → spell_all_declared ds ++ us ≡ ts → spell_all_declared (ds ++ d ∷ []) ≡ ts ++ p ∷ []
ended ds d us p ts e h = spell-all-push ds d ∙ grown ds us (spell_declared d) p ts e h

begin-keeps : (ds : List (Declared Span)) (p : Piece) (ts : List Piece) → Reads ts (Between ds) → Reads (ts ++ p ∷ []) (begin ds p)
begin-keeps ds (piece.Begin head.Sort) ts h = (tt, ap (push (piece.Begin head.Sort)) h)
begin-keeps ds (piece.Begin head.Fun) ts h = (tt, ap (push (piece.Begin head.Fun)) h)
begin-keeps ds (piece.Begin head.Pred) ts h = (tt, ap (push (piece.Begin head.Pred)) h)
begin-keeps ds (piece.Begin head.Var) ts h = (tt, ap (push (piece.Begin head.Var)) h)
begin-keeps ds (piece.Begin head.Goal) ts h = record { behind = []; reads = (tt, refl); living = tt; pieces = ap (push (piece.Begin head.Goal)) h }
begin-keeps ds _ ts h = tt

abbrev fun_behind : Span → List Piece → List Piece
fun_behind f us = piece.Begin head.Fun ∷ piece.Name f ∷ us

abbrev pred_behind : Span → List Piece → List Piece
pred_behind p us = piece.Begin head.Pred ∷ piece.Name p ∷ us

within-keeps : (ds : List (Declared Span)) (w : Within) (p : Piece) (ts : List Piece) → Reads ts (Inside ds w) → Reads (ts ++ p ∷ []) (step_within ds w p)
within-keeps ds InSort (piece.Name x) ts h = (tt, grown ds _ _ _ ts refl h.1)
within-keeps ds (HaveSort x) piece.Semicolon ts h = ended ds (DeclaredSort x) _ _ ts refl h.1
within-keeps ds InFun (piece.Name f) ts h = (tt, grown ds _ _ _ ts refl h.1)
within-keeps ds (NamedFun f) piece.Open ts h = (tt, grown ds _ _ _ ts refl h.1)
within-keeps ds (NamedFun f) piece.Colon ts h = (tt, grown ds _ _ _ ts refl h.1)
within-keeps ds (WantFunSort f ss) (piece.Name s) ts h = (some-push ss s, grown ds _ _ _ ts (ap (fun_behind f) (open-push ss s)) h.1)
within-keeps ds (HaveFunSort f ss) piece.Comma ts h = (tt, grown ds _ _ _ ts (ap (fun_behind f) (before-open ss h.0)) h.1)
within-keeps ds (HaveFunSort f ss) piece.Close ts h = (tt, grown ds _ _ _ ts (ap (fun_behind f) (sorts-open ss h.0)) h.1)
within-keeps ds (ClosedFun f ss) piece.Colon ts h = (tt, grown ds _ _ _ ts refl h.1)
within-keeps ds (WantResult f ss) (piece.Name r) ts h =
    (tt, grown ds _ _ _ ts (ap (fun_behind f) (sym (append_assoc (spell_sorts ss) (piece.Colon ∷ []) (piece.Name r ∷ [])))) h.1)
within-keeps ds (HaveResult f ss r) piece.Semicolon ts h =
    ended ds (DeclaredFun f ss r) _ _ ts (ap (fun_behind f) (sym (append_assoc (spell_sorts ss) (piece.Colon ∷ piece.Name r ∷ []) (piece.Semicolon ∷ [])))) h.1
within-keeps ds InPred (piece.Name p) ts h = (tt, grown ds _ _ _ ts refl h.1)
within-keeps ds (NamedPred p) piece.Open ts h = (tt, grown ds _ _ _ ts refl h.1)
within-keeps ds (NamedPred p) piece.Semicolon ts h = ended ds (DeclaredPred p []) _ _ ts refl h.1
within-keeps ds (WantPredSort p ss) (piece.Name s) ts h = (some-push ss s, grown ds _ _ _ ts (ap (pred_behind p) (open-push ss s)) h.1)
within-keeps ds (HavePredSort p ss) piece.Comma ts h = (tt, grown ds _ _ _ ts (ap (pred_behind p) (before-open ss h.0)) h.1)
within-keeps ds (HavePredSort p ss) piece.Close ts h = (tt, grown ds _ _ _ ts (ap (pred_behind p) (sorts-open ss h.0)) h.1)
within-keeps ds (ClosedPred p ss) piece.Semicolon ts h = ended ds (DeclaredPred p ss) _ _ ts refl h.1
within-keeps ds InVar (piece.Name x) ts h = (tt, grown ds _ _ _ ts refl h.1)
within-keeps ds (NamedVar x) piece.Colon ts h = (tt, grown ds _ _ _ ts refl h.1)
within-keeps ds (WantVarSort x) (piece.Name s) ts h = (tt, grown ds _ _ _ ts refl h.1)
within-keeps ds (HaveVarSort x s) piece.Semicolon ts h = ended ds (DeclaredVar x s) _ _ ts refl h.1
within-keeps ds _ _ ts h = tt

-- ---- the goal

goal-at-keeps : (ds : List (Declared Span)) (x : formula.State) (us ts : List Piece)
    → sound.Reads us x → spell_all_declared ds ++ piece.Begin head.Goal ∷ us ≡ ts → Reads ts (goal_at ds x)
goal-at-keeps ds formula.Dead us ts r e = tt
goal-at-keeps ds _ us ts r e = record { behind = us; reads = r; living = tt; pieces = e }

-- the pieces of a problem whose goal's formula is whole
pub whole-problem : (ds : List (Declared Span)) (a : Tree Span) (us ts : List Piece)
    → HasShape us a → spell_all_declared ds ++ piece.Begin head.Goal ∷ us ≡ ts → HasProblemShape (ts ++ piece.Semicolon ∷ []) (record { declared = ds; goal = a })
whole-problem ds a us ts h e = record {
  levelled = h.levelled;
  spelled = ap (push piece.Semicolon) (sym e ∙ ap (λ (r : List Piece). spell_all_declared ds ++ piece.Begin head.Goal ∷ r) h.spelled);
}

goal-done-keeps : (ds : List (Declared Span)) (r : Option (Tree Span)) (us ts : List Piece)
    → ((a : Tree Span) → r ≡ Some a → HasShape us a) → spell_all_declared ds ++ piece.Begin head.Goal ∷ us ≡ ts → Reads (ts ++ piece.Semicolon ∷ []) (goal_done ds r)
goal-done-keeps ds None us ts f e = tt
goal-done-keeps ds (Some a) us ts f e = whole-problem ds a us ts (f a refl) e

goal-keeps : (ds : List (Declared Span)) (x : formula.State) (p : Piece) (ts : List Piece) → Reads ts (Goal ds x) → Reads (ts ++ p ∷ []) (step_goal ds x p)
goal-keeps ds x piece.Semicolon ts h = goal-done-keeps ds (formula.finish x) h.behind ts (λ a e. sound.finish-found x h.behind a h.reads e) h.pieces
goal-keeps ds x p ts h =
    goal-at-keeps ds (formula.step x p) (h.behind ++ p ∷ []) (ts ++ p ∷ []) (sound.step-keeps x p h.behind h.reads)
    (grown ds (piece.Begin head.Goal ∷ h.behind) (piece.Begin head.Goal ∷ h.behind ++ p ∷ []) p ts refl h.pieces)

-- ---- problems

pub step-keeps : (x : State) (p : Piece) (ts : List Piece) → Reads ts x → Reads (ts ++ p ∷ []) (step x p)
step-keeps (Between ds) p ts h = begin-keeps ds p ts h
step-keeps (Inside ds w) p ts h = within-keeps ds w p ts h
step-keeps (Goal ds x) p ts h = goal-keeps ds x p ts h
step-keeps (Done q) p ts h = tt
step-keeps Dead p ts h = tt

pub run-keeps : (us : List Piece) (x : State) (ts : List Piece) → Reads ts x → Reads (ts ++ us) (run x us)
run-keeps [] x ts h = subst (λ (r : List Piece). Reads r x) (sym (append-nil ts)) h
run-keeps (u ∷ us) x ts h =
    subst (λ (r : List Piece). Reads r (run (step x u) us)) (append_assoc ts (u ∷ []) us) (run-keeps us (step x u) (ts ++ u ∷ []) (step-keeps x u ts h))

finish-found : (x : State) (ts : List Piece) (p : Problem Span) → Reads ts x → finish x ≡ Some p → HasProblemShape ts p
finish-found (Done q) ts p h e =
    let same : q ≡ p = cc in
    subst (HasProblemShape ts) same h
finish-found _ ts p h e = absurd cc

pub parse-sound : (ts : List Piece) (p : Problem Span) → parse ts ≡ Some p → HasProblemShape ts p
parse-sound ts p e = finish-found (run (Between []) ts) ts p (run-keeps ts (Between []) [] refl) e
