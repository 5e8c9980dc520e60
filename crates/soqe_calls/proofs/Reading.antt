-- How large the goal is that a text spells: as that of the problem that was read, and anything where the text was refused.
use Rattle.std.proofs.Common.{◌≡◌, ◌⊎◌, ℕ, List, ◌∙◌, ap, subst}
use Rattle.soqe_parse.specs.Faults.{IsFaultAt}
use Rattle.soqe_text.specs.declared.problem.Problem.{Problem}
use Rattle.soqe_text.specs.Spelled.{Spells, HasNameFault, HasSortFault}
use Rattle.soqe_text.specs.Spellings.{OneSpelled, SpelledAlone}
use Rattle.soqe_calls.specs.Nodes.{nodes}
use Rattle.soqe_calls.specs.Problems.{goal_of}
use Rattle.soqe_calls.specs.TextAnswers.{IsGoalSize}

pub size-read : (bytes text : List ℕ) → OneSpelled → bytes ≡ text → (p : Problem) (n : ℕ) → Spells bytes p → n ≡ nodes (goal_of p) → IsGoalSize text n
size-read bytes text one same p n s e = subst (λ b. IsGoalSize b n) same (λ q t. e ∙ ap (λ r. nodes (goal_of r)) (one bytes p q s t))

pub size-refused : (bytes text : List ℕ) → SpelledAlone → bytes ≡ text → (at n : ℕ) → (IsFaultAt bytes at ⊎ (HasNameFault bytes at ⊎ HasSortFault bytes at))
    → IsGoalSize text n
size-refused bytes text alone same at n h = subst (λ b. IsGoalSize b n) same (λ q t. absurd (alone bytes q at t h))
