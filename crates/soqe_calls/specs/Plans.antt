-- The number that is written for a plan.
use Rattle.std.specs.Prelude.{ℕ, ◌≡◌}
use Rattle.soqe_calls.specs.declared.words.Plan.{Plan}
use Rattle.soqe_calls.specs.declared.words.Plan.TheVariants.{Numbers, LeastUnused, Formula, Cases, Text}
use Rattle.soqe_calls.specs.Answers.{answer, CountsCases}
use Rattle.soqe_calls.specs.Problems.{problem_of}
use Rattle.soqe_calls.specs.Shapes.{shaped}
use Rattle.soqe_calls.specs.TextAnswers.{AnswersText}

-- n is the number for the plan: that of its call, or 0 where it makes none
abbrev pub AnswersPlan : Plan → ℕ → Type 0
AnswersPlan (Numbers count) n = n ≡ 0
AnswersPlan (LeastUnused count) n = n ≡ count
AnswersPlan (Formula call shape size) n = n ≡ answer call (shaped shape size)
AnswersPlan (Cases shape size) n = CountsCases (shaped shape size) n
AnswersPlan (Text call shape size) n = AnswersText call (problem_of shape size) n
