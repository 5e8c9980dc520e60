-- What becomes of a folded formula where it is made tidy: a folded formula again, of as many formulas or variables.
use Rattle.std.proofs.Common.{◌≡◌, ℕ, suc, List, [], ◌∷◌, length, map, refl, ap}
use Rattle.soqe_term.specs.declared.term.Var.{Var}
use Rattle.soqe_term.specs.Renumber.{numbered}
use Rattle.soqe_number.specs.Updates.{changed}
use Rattle.soqe_form.specs.declared.form.Form.{Form, And, Ex}
use Rattle.soqe_form.specs.Boxes.{boxes}
use Rattle.soqe_tidy.specs.Tidy.{tidied, tidy_number}
use Rattle.soqe_norm.specs.Folds.{and_after, all_of, exists_in}

-- below its variables, which are as many, a tidy formula is tidy under other numbers
pub record TidyInFront (keep : List ℕ) (r : ℕ → ℕ) (xs : List Var) (f : Form) : Type 0 where
  pub vars : List Var
  pub names : ℕ → ℕ
  pub is : tidied keep r (exists_in xs f) ≡ exists_in vars (tidied keep names f)
  pub many : length vars ≡ length xs

pub tidy-in-front : (keep : List ℕ) (r : ℕ → ℕ) (xs : List Var) (f : Form) → TidyInFront keep r xs f
unfolding boxes
tidy-in-front keep r [] f = record { vars = []; names = r; is = refl; many = refl }
tidy-in-front keep r (x ∷ xs) f =
    let n : ℕ = tidy_number keep r x.num (exists_in xs f) in
    let more = tidy-in-front keep (changed r x.num n) xs f in
    record { vars = numbered x n ∷ more.vars; names = more.names; is = ap (Ex (numbered x n)) more.is; many = ap suc more.many }

tidy-after : (keep : List ℕ) (r : ℕ → ℕ) (f : Form) (fs : List Form) → tidied keep r (and_after f fs) ≡ and_after (tidied keep r f) (map (tidied keep r) fs)
unfolding boxes
tidy-after keep r f [] = refl
tidy-after keep r f (g ∷ fs) = tidy-after keep r (And f g) fs

pub tidy-all : (keep : List ℕ) (r : ℕ → ℕ) (fs : List Form) → tidied keep r (all_of fs) ≡ all_of (map (tidied keep r) fs)
unfolding boxes
tidy-all keep r [] = refl
tidy-all keep r (f ∷ fs) = tidy-after keep r f fs
