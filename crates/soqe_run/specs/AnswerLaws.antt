-- What is true of answers.
use Rattle.std.specs.Prelude.{◌≡◌, ℕ, List}
use Rattle.soqe_run.specs.Answer.{Answer}
use Rattle.soqe_run.specs.declared.status.Status.{Status}

-- Two answers to the same words and bytes are equal.
abbrev pub OneAnswer : Type 0
OneAnswer = (words : List (List ℕ)) (bytes : List ℕ) (status other : Status) (text other_text : List ℕ)
    → Answer words bytes status text → Answer words bytes other other_text → (status ≡ other) × (text ≡ other_text)
