-- Terms under other numbers: their values and sorts are those of the terms where variables are read through the numbers.
use Rattle.std.proofs.Common.{◌≡◌, ℕ, Bool, true, false, cond, eqb, ◌&&◌, List, [], ◌∷◌, Option, Some, refl, sym, ◌∙◌, ap}
use Rattle.std.specs.Map.{lookup}
use Rattle.std.specs.Option.{unwrap_or}
use Rattle.std.proofs.lemmas.Bool.{eqb-true, eq-eqb}
use Rattle.soqe_term.specs.declared.term.Sym.TheVariants.{Fun, Skolem}
use Rattle.soqe_term.specs.declared.term.Term.{Term, Var as var, App}
use Rattle.soqe_term.specs.declared.term.Terms.{Terms, Nil, Cons', end_of-Term as end, more_of-Term as one, end_of-Terms as ends, more_of-Terms as ones}
use Rattle.soqe_term.specs.Boxes.{boxes}
use Rattle.soqe_term.specs.World.{World}
use Rattle.soqe_number.specs.Updates.{changed}
use Rattle.soqe_term.specs.Value.{value, values}
use Rattle.soqe_term.specs.Sorting.{Sorting, with_fun, own_sort, sorted_term, sorted_terms}
use Rattle.soqe_number.proofs.Equalities.{eqb_sym}
use Rattle.soqe_term.specs.Renumber.{renames, renumbered, all_renumbered}
use Rattle.soqe_number.proofs.Choices.{same_test}

-- ---- the numbers

number_of : (b c : Bool) (to n : ℕ) (o : Option ℕ) → b ≡ c → unwrap_or (cond b (Some to) o) n ≡ cond c to (unwrap_or o n)
number_of true true to n o e = refl
number_of false false to n o e = refl
number_of true false to n o e = cc
number_of false true to n o e = cc

-- the numbers after one was set
pub renames-set : (old new : List (ℕ × ℕ)) (n to : ℕ) → ((q : ℕ) → lookup (eqb q) new ≡ cond (eqb n q) (Some to) (lookup (eqb q) old)) → renames new ≡ changed (renames old) n to
unfolding renames
renames-set old new n to h = λ i q. (ap (λ o. unwrap_or o q) (h q) ∙ number_of (eqb n q) (eqb q n) to q (lookup (eqb q) old) (eqb_sym n q)) i

-- ---- values

mutual
  unfolding boxes

  pub value-renumbered : (w : World) (r : ℕ → ℕ) (t : Term) → value w (renumbered r t) ≡ value (record w { element = λ n. w.element (r n) }) t
  value-renumbered w r (var x) = refl
  value-renumbered w r (App (Fun f) s ts) = ap (w.fun f) (values-renumbered w r ts)
  value-renumbered w r (App (Skolem f) s ts) = ap (w.skolem f) (values-renumbered w r ts)

  pub values-renumbered : (w : World) (r : ℕ → ℕ) (ts : Terms) → values w (all_renumbered r ts) ≡ values (record w { element = λ n. w.element (r n) }) ts
  values-renumbered w r Nil = refl
  values-renumbered w r (Cons' _ (one t end) _ (ones ts ends)) = λ i. value-renumbered w r t i ∷ values-renumbered w r ts i

-- ---- sorts

pub own_sort-renumbered : (r : ℕ → ℕ) (t : Term) → own_sort (renumbered r t) ≡ own_sort t
own_sort-renumbered r (var x) = refl
own_sort-renumbered r (App f s ts) = refl

-- the same names, the variables under the numbers that r gives
abbrev pub read_by : Sorting → (ℕ → ℕ) → Sorting
read_by e r = record e { variable = λ n. e.variable (r n) }

mutual
  unfolding boxes

  pub sorted_term-renumbered : (e : Sorting) (r : ℕ → ℕ) (t : Term) → sorted_term e (renumbered r t) ≡ sorted_term (read_by e r) t
  sorted_term-renumbered e r (var x) = refl
  sorted_term-renumbered e r (App (Fun f) s ts) = λ i. with_fun (λ sorts. sorted_terms-renumbered e r ts sorts i) s (e.fun f)
  sorted_term-renumbered e r (App (Skolem f) s ts) = λ i. with_fun (λ sorts. sorted_terms-renumbered e r ts sorts i) s (e.skolem f)

  pub sorted_terms-renumbered : (e : Sorting) (r : ℕ → ℕ) (ts : Terms) (sorts : List ℕ) → sorted_terms e (all_renumbered r ts) sorts ≡ sorted_terms (read_by e r) ts sorts
  sorted_terms-renumbered e r Nil [] = refl
  sorted_terms-renumbered e r Nil (s ∷ sorts) = refl
  sorted_terms-renumbered e r (Cons' _ (one t end) _ (ones ts ends)) [] = refl
  sorted_terms-renumbered e r (Cons' _ (one t end) _ (ones ts ends)) (s ∷ sorts) =
      λ i. sorted_term-renumbered e r t i && (eqb (own_sort-renumbered r t i) s && sorted_terms-renumbered e r ts sorts i)
