-- Formulas that are equal up to the numbers of their bound variables and bound predicates.
-- Each pair of numbers is of two binders that stand at one place of the two formulas; the innermost pair comes first.
use Rattle.std.specs.Prelude.{ℕ, Bool, true, false, cond, eqb, nat_eq, ◌&&◌, ◌||◌, List, [], ◌∷◌}
use Rattle.std.specs.Cmp.Lexicographic.{pointwise}
use Rattle.soqe_term.specs.Equal.{equal_symbols}
use Rattle.soqe_term.specs.declared.term.Var.{Var}
use Rattle.soqe_term.specs.declared.term.Term.{Term, Var as var, App}
use Rattle.soqe_term.specs.declared.term.Terms.{Terms, Nil, Cons', end_of-Term as end-t, more_of-Term as one-t, end_of-Terms as ends-t, more_of-Terms as ones-t}
use Rattle.soqe_form.specs.declared.form.Pred.{Pred}
use Rattle.soqe_form.specs.declared.form.Pred.TheVariants.{Decl, Bound}
use Rattle.soqe_form.specs.declared.form.PVar.{PVar}
use Rattle.soqe_form.specs.declared.form.Form.{Form, True, False, Equal, Atom, Not', And', Or', Imp', Iff', All', Ex', All2', Ex2', end_of-Form as end, more_of-Form as one}

-- two numbers name the same: their innermost binders are a pair, or neither is bound and they are equal
abbrev pub related : List (ℕ × ℕ) → ℕ → ℕ → Bool
related [] m n = eqb m n
related (p ∷ more) m n = cond (eqb m p.0 || eqb n p.1) (eqb m p.0 && eqb n p.1) (related more m n)

-- one variable, of one sort
abbrev pub same_var : List (ℕ × ℕ) → Var → Var → Bool
same_var vs x y = eqb x.sort y.sort && related vs x.num y.num

abbrev mutual
  -- two terms with the same symbols and sorts whose variables are named the same
  pub same_term : List (ℕ × ℕ) → Term → Term → Bool
  same_term vs (var x) (var y) = same_var vs x y
  same_term vs (var x) (App g n us) = false
  same_term vs (App f m ts) (var y) = false
  same_term vs (App f m ts) (App g n us) = equal_symbols f g && (eqb m n && same_terms vs ts us)

  pub same_terms : List (ℕ × ℕ) → Terms → Terms → Bool
  same_terms vs Nil Nil = true
  same_terms vs Nil (Cons' _ (one-t u end-t) _ (ones-t us ends-t)) = false
  same_terms vs (Cons' _ (one-t t end-t) _ (ones-t ts ends-t)) Nil = false
  same_terms vs (Cons' _ (one-t t end-t) _ (ones-t ts ends-t)) (Cons' _ (one-t u end-t) _ (ones-t us ends-t)) = same_term vs t u && same_terms vs ts us

-- one declared predicate, or bound predicates that are named the same
abbrev pub same_pred : List (ℕ × ℕ) → Pred → Pred → Bool
same_pred ps (Decl m) (Decl n) = eqb m n
same_pred ps (Decl m) (Bound n) = false
same_pred ps (Bound m) (Decl n) = false
same_pred ps (Bound m) (Bound n) = related ps m n

-- one list of argument sorts
abbrev pub same_sorts : PVar → PVar → Bool
same_sorts p q = pointwise nat_eq p.args q.args

-- What a second formula has to be, one test for each node of a first one. Its parts pass the tests that are handed in.
abbrev pub is_equal : (Term → Bool) → (Term → Bool) → Form → Bool
is_equal s t (Equal u v) = s u && t v
is_equal s t _ = false

abbrev pub is_atom : (Pred → Bool) → (Terms → Bool) → Form → Bool
is_atom p ts (Atom q us) = p q && ts us
is_atom p ts _ = false

abbrev pub is_true : Form → Bool
is_true True = true
is_true _ = false

abbrev pub is_false : Form → Bool
is_false False = true
is_false _ = false

abbrev pub is_not : (Form → Bool) → Form → Bool
is_not a (Not' _ (one f end)) = a f
is_not a _ = false

abbrev pub is_and : (Form → Bool) → (Form → Bool) → Form → Bool
is_and a b (And' _ (one f end) _ (one g end)) = a f && b g
is_and a b _ = false

abbrev pub is_or : (Form → Bool) → (Form → Bool) → Form → Bool
is_or a b (Or' _ (one f end) _ (one g end)) = a f && b g
is_or a b _ = false

abbrev pub is_imp : (Form → Bool) → (Form → Bool) → Form → Bool
is_imp a b (Imp' _ (one f end) _ (one g end)) = a f && b g
is_imp a b _ = false

abbrev pub is_iff : (Form → Bool) → (Form → Bool) → Form → Bool
is_iff a b (Iff' _ (one f end) _ (one g end)) = a f && b g
is_iff a b _ = false

abbrev pub is_all : (Var → Form → Bool) → Form → Bool
is_all a (All' x _ (one f end)) = a x f
is_all a _ = false

abbrev pub is_ex : (Var → Form → Bool) → Form → Bool
is_ex a (Ex' x _ (one f end)) = a x f
is_ex a _ = false

abbrev pub is_all2 : (PVar → Form → Bool) → Form → Bool
is_all2 a (All2' p _ (one f end)) = a p f
is_all2 a _ = false

abbrev pub is_ex2 : (PVar → Form → Bool) → Form → Bool
is_ex2 a (Ex2' p _ (one f end)) = a p f
is_ex2 a _ = false

-- two formulas are the same where the binders round them are pairs
abbrev pub same_in : List (ℕ × ℕ) → List (ℕ × ℕ) → Form → Form → Bool
same_in vs ps True = is_true
same_in vs ps False = is_false
same_in vs ps (Equal s t) = is_equal (same_term vs s) (same_term vs t)
same_in vs ps (Atom p ts) = is_atom (same_pred ps p) (same_terms vs ts)
same_in vs ps (Not' _ (one f end)) = is_not (same_in vs ps f)
same_in vs ps (And' _ (one f end) _ (one g end)) = is_and (same_in vs ps f) (same_in vs ps g)
same_in vs ps (Or' _ (one f end) _ (one g end)) = is_or (same_in vs ps f) (same_in vs ps g)
same_in vs ps (Imp' _ (one f end) _ (one g end)) = is_imp (same_in vs ps f) (same_in vs ps g)
same_in vs ps (Iff' _ (one f end) _ (one g end)) = is_iff (same_in vs ps f) (same_in vs ps g)
same_in vs ps (All' x _ (one f end)) = is_all (λ y g. eqb x.sort y.sort && same_in ((x.num, y.num) ∷ vs) ps f g)
same_in vs ps (Ex' x _ (one f end)) = is_ex (λ y g. eqb x.sort y.sort && same_in ((x.num, y.num) ∷ vs) ps f g)
same_in vs ps (All2' p _ (one f end)) = is_all2 (λ q g. same_sorts p q && same_in vs ((p.num, q.num) ∷ ps) f g)
same_in vs ps (Ex2' p _ (one f end)) = is_ex2 (λ q g. same_sorts p q && same_in vs ((p.num, q.num) ∷ ps) f g)

-- two formulas are equal up to the numbers of their bound variables and bound predicates
abbrev pub same : Form → Form → Bool
same f g = same_in [] [] f g
