-- The new numbers of variables.
use Rattle.std.specs.Prelude.{ℕ, ◌≡◌, Bool, ◌||◌, eqb, not, map, filter, List, ◌++◌, Option, Some, None}
use Rattle.soqe_term.specs.declared.term.Var.{Var}
use Rattle.soqe_number.specs.Marks.{marked}

-- the new numbers of variables
abbrev pub new_numbers : (ℕ → ℕ) → List Var → List ℕ
new_numbers r ys = map (λ y. r y.num) ys

-- the variables that have no mark
abbrev pub unmarked : (ℕ → Bool) → List Var → List Var
unmarked h ys = filter (λ y. not (h y.num)) ys

-- the number is that of the outer binder, if there is one, or has a mark
abbrev pub is_bound : Option ℕ → List (ℕ × Bool) → ℕ → Bool
is_bound (Some x) marks n = eqb n x || marked marks n
is_bound None marks n = marked marks n

-- the new numbers of the variables that are not bound were listed, and the marks are as before
pub record Lists (r : ℕ → ℕ) (outer : Option ℕ) (ys : List Var) (marks_old marks_new : List (ℕ × Bool)) (old new : List ℕ) : Type 0 where
  pub nums : new ≡ old ++ new_numbers r (unmarked (is_bound outer marks_old) ys)
  pub marks : marked marks_new ≡ marked marks_old
