-- The first row that applies at the root of a formula.
use Rattle.std.specs.Prelude.{ℕ, suc, List, [], ◌∷◌, Option, None}
use Rattle.std.specs.Option.{option_map}
use Rattle.soqe_form.specs.declared.form.Form.{Form}
use Rattle.soqe_simp.specs.declared.rewriting.Rewritten.{Rewritten}
use Rattle.soqe_simp.specs.Shapes.{first_of}
use Rattle.soqe_simp.specs.Rows.{rows}

-- the row with the number n gave the formula
abbrev pub by_row : ℕ → Form → Rewritten
by_row n f = record { row = n; form = f }

-- the first of the rows that applies, where the first of them has the number n
abbrev pub first_row : ℕ → List (Form → Option Form) → Form → Option Rewritten
first_row n [] f = None
first_row n (r ∷ more) f = first_of (option_map (by_row n) (r f)) (first_row (suc n) more f)

-- the first row of the table that applies, and what it gives
abbrev pub step : Form → Option Rewritten
step f = first_row 1 rows f
