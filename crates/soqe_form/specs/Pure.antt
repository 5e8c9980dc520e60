-- What a result may contain.
use Rattle.std.specs.Prelude.{ℕ, ◌≡◌, Bool, true, false, ◌&&◌, None}
use Rattle.soqe_term.specs.Sorting.{Sorting}
use Rattle.soqe_term.specs.declared.term.Sym.{Sym}
use Rattle.soqe_term.specs.declared.term.Sym.TheVariants.{Fun, Skolem}
use Rattle.soqe_term.specs.declared.term.Term.{Term, Var as var, App}
use Rattle.soqe_term.specs.declared.term.Terms.{Terms, Nil, Cons', end_of-Term as end-t, more_of-Term as one-t, end_of-Terms as ends-t, more_of-Terms as ones-t}
use Rattle.soqe_form.specs.declared.form.Pred.{Pred}
use Rattle.soqe_form.specs.declared.form.Pred.TheVariants.{Decl, Bound}
use Rattle.soqe_form.specs.declared.form.Form.{Form, True, False, Equal, Atom, Not', And', Or', Imp', Iff', All', Ex', All2', Ex2', end_of-Form as end, more_of-Form as one}
use Rattle.soqe_form.specs.Free.{free}

-- no Skolem function
abbrev pub is_declared_sym : Sym → Bool
is_declared_sym (Fun n) = true
is_declared_sym (Skolem n) = false

abbrev mutual
  -- no Skolem function in the term
  pub pure_term : Term → Bool
  pure_term (var x) = true
  pure_term (App f s ts) = is_declared_sym f && pure_terms ts

  pub pure_terms : Terms → Bool
  pure_terms Nil = true
  pure_terms (Cons' _ (one-t t end-t) _ (ones-t ts ends-t)) = pure_term t && pure_terms ts

-- no bound predicate
abbrev pub is_declared_pred : Pred → Bool
is_declared_pred (Decl n) = true
is_declared_pred (Bound n) = false

-- no quantifier of a predicate, no bound predicate and no Skolem function
abbrev pub is_first_order : Form → Bool
is_first_order True = true
is_first_order False = true
is_first_order (Equal s t) = pure_term s && pure_term t
is_first_order (Atom p ts) = is_declared_pred p && pure_terms ts
is_first_order (Not' _ (one f end)) = is_first_order f
is_first_order (And' _ (one f end) _ (one g end)) = is_first_order f && is_first_order g
is_first_order (Or' _ (one f end) _ (one g end)) = is_first_order f && is_first_order g
is_first_order (Imp' _ (one f end) _ (one g end)) = is_first_order f && is_first_order g
is_first_order (Iff' _ (one f end) _ (one g end)) = is_first_order f && is_first_order g
is_first_order (All' x _ (one f end)) = is_first_order f
is_first_order (Ex' x _ (one f end)) = is_first_order f
is_first_order (All2' p _ (one f end)) = false
is_first_order (Ex2' p _ (one f end)) = false

-- a pure result: of first order, and its free variables are among the given ones
pub record IsPure (declared : ℕ → Bool) (f : Form) : Type 0 where
  pub first_order : is_first_order f ≡ true
  pub closed : (n : ℕ) → free n f ≡ true → declared n ≡ true

-- neither a Skolem function nor a bound predicate is known
pub record IsBare (e : Sorting) : Type 0 where
  pub skolem : (n : ℕ) → e.skolem n ≡ None
  pub bound : (n : ℕ) → e.bound n ≡ None
