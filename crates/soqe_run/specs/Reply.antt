-- A reply with a fixed text, and the statuses that an engine answers.
use Rattle.std.specs.Prelude.{◌≡◌, ℕ, Bool, true, false, List, [], ◌∷◌, ◌++◌}
use Rattle.soqe_run.specs.declared.status.Status.{Status}
use Rattle.soqe_run.specs.declared.status.Status.TheVariants.{Done, Syntax, Names, Sorts, NotReached, Mixed}

-- a text and a line feed
abbrev pub line : List ℕ → List ℕ
line text = text ++ 10 ∷ []

-- a status and a text that are these two
pub record IsFixed (fixed_status : Status) (fixed_text : List ℕ) (status : Status) (text : List ℕ) : Type 0 where
  pub status_is : status ≡ fixed_status
  pub text_is : text ≡ fixed_text

-- whether a status is one that an engine answers
abbrev pub is_reply : Status → Bool
is_reply Done = true
is_reply Syntax = true
is_reply Names = true
is_reply Sorts = true
is_reply NotReached = true
is_reply Mixed = true
is_reply status = false
