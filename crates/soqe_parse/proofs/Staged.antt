-- The machine for problems over the code's values.
use Rattle.std.proofs.Common.{◌≡◌, ℕ, ◌+◌, ◌<◌, List, [], ◌∷◌, ◌++◌, length, take, get_or, map, refl, sym, ap, ◌∙◌}
use Rattle.std.proofs.lemmas.List.{map-append, take_more}
use Rattle.soqe_lex.specs.declared.token.Token.{Token}
use Rattle.soqe_syntax.specs.declared.piece.Span.{Span}
use Rattle.soqe_syntax.specs.declared.piece.Piece.{Piece}
use Rattle.soqe_syntax.specs.declared.piece.Piece.TheVariants as piece
use Rattle.soqe_syntax.specs.declared.shape.Item.{Item}
use Rattle.soqe_syntax.specs.Grammar.{Declared}
use Rattle.soqe_syntax.specs.Shapes.{declared_view}
use Rattle.soqe_syntax.specs.Pieces.{piece_of}
use Rattle.soqe_parse.specs.declared.frame.Frame.{Frame}
use Rattle.soqe_parse.specs.declared.frame.Mode.{Mode}
use Rattle.soqe_parse.specs.declared.frame.Mode.TheVariants as modes
use Rattle.soqe_parse.specs.declared.stage.Stage.{Stage}
use Rattle.soqe_parse.specs.declared.stage.Stage.TheVariants as stages
use Rattle.soqe_parse.specs.Machine as formula
use Rattle.soqe_parse.specs.Items.{State, Between, Goal, Dead, goal_at, step_goal, step, run}
use Rattle.soqe_parse.specs.Stack.{state_of}
use Rattle.soqe_parse.specs.Stages.{declared_of, stage_of}
use Rattle.soqe_parse.proofs.ProblemComplete.{run-append}

pub declared_push : (ds : List Item) (d : Item) → declared_of (ds ++ d ∷ []) ≡ declared_of ds ++ declared_view d ∷ []
unfolding declared_of
declared_push ds d = map-append declared_view ds (d ∷ [])

pub declared_none : declared_of [] ≡ []
unfolding declared_of
declared_none = refl

-- a state of the code is not the dead one
pub goal_alive : (ds : List (Declared Span)) (items : List Frame) (m : Mode) → Goal ds (state_of items m) ≡ goal_at ds (state_of items m)
goal_alive ds items modes.Want = refl
goal_alive ds items (modes.Have s) = refl
goal_alive ds items (modes.Quantified q) = refl
goal_alive ds items (modes.Named q x) = refl
goal_alive ds items (modes.Sorting q x) = refl
goal_alive ds items (modes.Sorted q x s) = refl
goal_alive ds items (modes.WantTerm side calls) = refl
goal_alive ds items (modes.HaveTerm side calls t) = refl
goal_alive ds items (modes.Quantified2 q) = refl
goal_alive ds items (modes.Named2 q x) = refl
goal_alive ds items (modes.WantSort q x ss) = refl
goal_alive ds items (modes.HaveSort q x ss) = refl
goal_alive ds items (modes.Sorted2 q x ss) = refl

-- a piece that is no semicolon is one of the goal's formula
pub step-goal : (ds : List (Declared Span)) (x : formula.State) (p : Piece) → (p ≡ piece.Semicolon → ⊥) → goal_at ds (formula.step x p) ≡ step_goal ds x p
step-goal ds x piece.Semicolon other = absurd (other refl)
step-goal ds x _ other = refl

-- a stage of the code is not the dead one
pub stage-alive : (items : List Item) (stage : Stage) → stage_of items stage ≡ Dead → ⊥
stage-alive items stages.Between e = cc
stage-alive items (stages.InSort p) e = cc
stage-alive items (stages.InFun p) e = cc
stage-alive items (stages.InPred p) e = cc
stage-alive items (stages.InVar p) e = cc
stage-alive items (stages.Goal stack m) e = cc
stage-alive items (stages.Done s) e = cc

run-next : (bytes : List ℕ) (ts : List Token) (i : ℕ) (d : Token) → i < length ts
    → run (Between []) (map (piece_of bytes) (take (i + 1) ts)) ≡ step (run (Between []) (map (piece_of bytes) (take i ts))) (piece_of bytes (get_or ts i d))
run-next bytes ts i d lt =
    ap (λ (us : List Token). run (Between []) (map (piece_of bytes) us)) (take_more ts i d lt)
    ∙ ap (run (Between [])) (map-append (piece_of bytes) (take i ts) (get_or ts i d ∷ []))
    ∙ run-append (map (piece_of bytes) (take i ts)) (piece_of bytes (get_or ts i d) ∷ []) (Between [])

-- one more token
pub goes-on : (bytes : List ℕ) (ts : List Token) (i : ℕ) (d : Token) (x y : State) → i < length ts
    → x ≡ run (Between []) (map (piece_of bytes) (take i ts)) → y ≡ step x (piece_of bytes (get_or ts i d))
    → y ≡ run (Between []) (map (piece_of bytes) (take (i + 1) ts))
goes-on bytes ts i d x y lt so_far next =
    next ∙ ap (λ (z : State). step z (piece_of bytes (get_or ts i d))) so_far ∙ sym (run-next bytes ts i d lt)
