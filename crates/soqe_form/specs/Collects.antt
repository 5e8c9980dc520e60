-- How free variables are collected: numbers that are bound or were met already have a mark.
use Rattle.std.specs.Prelude.{◌≡◌, ◌||◌, List, ◌++◌}
use Rattle.soqe_term.specs.declared.term.Var.{Var}
use Rattle.soqe_form.specs.declared.free_variables.Collected.{Collected}
use Rattle.soqe_number.specs.Marks.{marked}
use Rattle.soqe_form.specs.FreeVars.{firsts, is_among}

-- the occurrences without a mark were collected, each number once, and have a mark now
pub record Collects (old new : Collected) (xs : List Var) : Type 0 where
  pub vars : new.vars ≡ old.vars ++ firsts (marked old.marks) xs
  pub marks : marked new.marks ≡ (λ n. is_among xs n || marked old.marks n)
