-- The number that a call on a problem or on its text answers.
use Rattle.std.specs.Prelude.{ℕ, ◌≡◌, List, length}
use Rattle.soqe_text.specs.declared.problem.Problem.{Problem}
use Rattle.soqe_text.specs.Spelled.{Spells}
use Rattle.soqe_show.specs.Dress.{problem_text}
use Rattle.soqe_calls.specs.declared.words.TextCall.{TextCall}
use Rattle.soqe_calls.specs.declared.words.TextCall.TheVariants as call
use Rattle.soqe_calls.specs.Nodes.{nodes}
use Rattle.soqe_calls.specs.Problems.{goal_of}

-- n is how many nodes the goal of each problem has that the text spells
abbrev pub IsGoalSize : List ℕ → ℕ → Type 0
IsGoalSize text n = (p : Problem) → Spells text p → n ≡ nodes (goal_of p)

-- 0 where no call is made; how long the printed text of the problem is; how many nodes the goal has that this text spells
abbrev pub AnswersText : TextCall → Problem → ℕ → Type 0
AnswersText call.Problem p n = n ≡ 0
AnswersText call.Print p n = n ≡ length (problem_text p)
AnswersText call.Read p n = IsGoalSize (problem_text p) n
