-- A relation of formulas in scopes that goes up through each node holds of formulas that are the same. So a law of `same` has
-- one case for each node, and no case for two nodes of different kinds.
use Rattle.std.proofs.Common.{◌≡◌, ℕ, Bool, true, false, ◌&&◌, eqb, List, ◌∷◌}
use Rattle.std.specs.Cmp.Lexicographic.{bytes_decides}
use Rattle.std.proofs.lemmas.Bool.{eqb-true}
use Rattle.soqe_number.proofs.Choices.{and_first, and_second}
use Rattle.soqe_term.specs.declared.term.Var.{Var}
use Rattle.soqe_term.specs.declared.term.Term.{Term}
use Rattle.soqe_term.specs.declared.term.Terms.{Terms}
use Rattle.soqe_form.specs.declared.form.Pred.{Pred}
use Rattle.soqe_form.specs.declared.form.PVar.{PVar}
use Rattle.soqe_form.specs.declared.form.Form.{Form, True, False, Equal, Atom, Not', And', Or', Imp', Iff', All', Ex', All2', Ex2', end_of-Form as end, more_of-Form as one}
use Rattle.soqe_form.specs.Same.{same_term, same_terms, same_pred, same_sorts, is_true, is_false, is_equal, is_atom, is_not, is_and, is_or, is_imp, is_iff, is_all, is_ex, is_all2, is_ex2, same_in}

pub never : {A : Type 0} → false ≡ true → A
never e = cc

-- ---- a formula that passes the test for a node is such a node

pub at-true : (P : Form → Type 0) (g : Form) → is_true g ≡ true → P True → P g
at-true P True h k = k
at-true P g h k = never h

pub at-false : (P : Form → Type 0) (g : Form) → is_false g ≡ true → P False → P g
at-false P False h k = k
at-false P g h k = never h

pub at-equal : (P : Form → Type 0) (a b : Term → Bool) (g : Form) → is_equal a b g ≡ true → ((u v : Term) → a u ≡ true → b v ≡ true → P (Equal u v)) → P g
at-equal P a b (Equal u v) h k = k u v (and_first (a u) (b v) h) (and_second (a u) (b v) h)
at-equal P a b g h k = never h

pub at-atom : (P : Form → Type 0) (a : Pred → Bool) (b : Terms → Bool) (g : Form) → is_atom a b g ≡ true → ((q : Pred) (us : Terms) → a q ≡ true → b us ≡ true → P (Atom q us)) → P g
at-atom P a b (Atom q us) h k = k q us (and_first (a q) (b us) h) (and_second (a q) (b us) h)
at-atom P a b g h k = never h

pub at-not : (P : Form → Type 0) (a : Form → Bool) (g : Form) → is_not a g ≡ true → ((f : Form) → a f ≡ true → P (Not' tt (one f end))) → P g
at-not P a (Not' _ (one f end)) h k = k f h
at-not P a g h k = never h

pub at-and : (P : Form → Type 0) (a b : Form → Bool) (g : Form) → is_and a b g ≡ true → ((f h : Form) → a f ≡ true → b h ≡ true → P (And' tt (one f end) tt (one h end))) → P g
at-and P a b (And' _ (one f end) _ (one g end)) h k = k f g (and_first (a f) (b g) h) (and_second (a f) (b g) h)
at-and P a b g h k = never h

pub at-or : (P : Form → Type 0) (a b : Form → Bool) (g : Form) → is_or a b g ≡ true → ((f h : Form) → a f ≡ true → b h ≡ true → P (Or' tt (one f end) tt (one h end))) → P g
at-or P a b (Or' _ (one f end) _ (one g end)) h k = k f g (and_first (a f) (b g) h) (and_second (a f) (b g) h)
at-or P a b g h k = never h

pub at-imp : (P : Form → Type 0) (a b : Form → Bool) (g : Form) → is_imp a b g ≡ true → ((f h : Form) → a f ≡ true → b h ≡ true → P (Imp' tt (one f end) tt (one h end))) → P g
at-imp P a b (Imp' _ (one f end) _ (one g end)) h k = k f g (and_first (a f) (b g) h) (and_second (a f) (b g) h)
at-imp P a b g h k = never h

pub at-iff : (P : Form → Type 0) (a b : Form → Bool) (g : Form) → is_iff a b g ≡ true → ((f h : Form) → a f ≡ true → b h ≡ true → P (Iff' tt (one f end) tt (one h end))) → P g
at-iff P a b (Iff' _ (one f end) _ (one g end)) h k = k f g (and_first (a f) (b g) h) (and_second (a f) (b g) h)
at-iff P a b g h k = never h

pub at-all : (P : Form → Type 0) (a : Var → Form → Bool) (g : Form) → is_all a g ≡ true → ((y : Var) (f : Form) → a y f ≡ true → P (All' y tt (one f end))) → P g
at-all P a (All' y _ (one f end)) h k = k y f h
at-all P a g h k = never h

pub at-ex : (P : Form → Type 0) (a : Var → Form → Bool) (g : Form) → is_ex a g ≡ true → ((y : Var) (f : Form) → a y f ≡ true → P (Ex' y tt (one f end))) → P g
at-ex P a (Ex' y _ (one f end)) h k = k y f h
at-ex P a g h k = never h

pub at-all2 : (P : Form → Type 0) (a : PVar → Form → Bool) (g : Form) → is_all2 a g ≡ true → ((y : PVar) (f : Form) → a y f ≡ true → P (All2' y tt (one f end))) → P g
at-all2 P a (All2' y _ (one f end)) h k = k y f h
at-all2 P a g h k = never h

pub at-ex2 : (P : Form → Type 0) (a : PVar → Form → Bool) (g : Form) → is_ex2 a g ≡ true → ((y : PVar) (f : Form) → a y f ≡ true → P (Ex2' y tt (one f end))) → P g
at-ex2 P a (Ex2' y _ (one f end)) h k = k y f h
at-ex2 P a g h k = never h

-- ---- the relation

-- it holds of two formulas that are the same node, where it holds of their parts
pub record GoesUp (R : List (ℕ × ℕ) → List (ℕ × ℕ) → Form → Form → Type 0) : Type 0 where
  pub true_nodes : (vs ps : List (ℕ × ℕ)) → R vs ps True True
  pub false_nodes : (vs ps : List (ℕ × ℕ)) → R vs ps False False
  pub equal_nodes : (vs ps : List (ℕ × ℕ)) (s t u v : Term) → same_term vs s u ≡ true → same_term vs t v ≡ true → R vs ps (Equal s t) (Equal u v)
  pub atom_nodes : (vs ps : List (ℕ × ℕ)) (p q : Pred) (ts us : Terms) → same_pred ps p q ≡ true → same_terms vs ts us ≡ true → R vs ps (Atom p ts) (Atom q us)
  pub not_nodes : (vs ps : List (ℕ × ℕ)) (f g : Form) → R vs ps f g → R vs ps (Not' tt (one f end)) (Not' tt (one g end))
  pub and_nodes : (vs ps : List (ℕ × ℕ)) (f g h k : Form) → R vs ps f h → R vs ps g k → R vs ps (And' tt (one f end) tt (one g end)) (And' tt (one h end) tt (one k end))
  pub or_nodes : (vs ps : List (ℕ × ℕ)) (f g h k : Form) → R vs ps f h → R vs ps g k → R vs ps (Or' tt (one f end) tt (one g end)) (Or' tt (one h end) tt (one k end))
  pub imp_nodes : (vs ps : List (ℕ × ℕ)) (f g h k : Form) → R vs ps f h → R vs ps g k → R vs ps (Imp' tt (one f end) tt (one g end)) (Imp' tt (one h end) tt (one k end))
  pub iff_nodes : (vs ps : List (ℕ × ℕ)) (f g h k : Form) → R vs ps f h → R vs ps g k → R vs ps (Iff' tt (one f end) tt (one g end)) (Iff' tt (one h end) tt (one k end))
  pub all_nodes : (vs ps : List (ℕ × ℕ)) (x y : Var) (f g : Form) → x.sort ≡ y.sort → R ((x.num, y.num) ∷ vs) ps f g → R vs ps (All' x tt (one f end)) (All' y tt (one g end))
  pub ex_nodes : (vs ps : List (ℕ × ℕ)) (x y : Var) (f g : Form) → x.sort ≡ y.sort → R ((x.num, y.num) ∷ vs) ps f g → R vs ps (Ex' x tt (one f end)) (Ex' y tt (one g end))
  pub all2_nodes : (vs ps : List (ℕ × ℕ)) (p q : PVar) (f g : Form) → p.args ≡ q.args → R vs ((p.num, q.num) ∷ ps) f g → R vs ps (All2' p tt (one f end)) (All2' q tt (one g end))
  pub ex2_nodes : (vs ps : List (ℕ × ℕ)) (p q : PVar) (f g : Form) → p.args ≡ q.args → R vs ((p.num, q.num) ∷ ps) f g → R vs ps (Ex2' p tt (one f end)) (Ex2' q tt (one g end))

pub same-induction : (R : List (ℕ × ℕ) → List (ℕ × ℕ) → Form → Form → Type 0) → GoesUp R → (vs ps : List (ℕ × ℕ)) (f g : Form) → same_in vs ps f g ≡ true → R vs ps f g
same-induction R up vs ps True g h = at-true (R vs ps True) g h (up.true_nodes vs ps)
same-induction R up vs ps False g h = at-false (R vs ps False) g h (up.false_nodes vs ps)
same-induction R up vs ps (Equal s t) g h = at-equal (R vs ps (Equal s t)) (same_term vs s) (same_term vs t) g h (λ u v p q. up.equal_nodes vs ps s t u v p q)
same-induction R up vs ps (Atom p ts) g h = at-atom (R vs ps (Atom p ts)) (same_pred ps p) (same_terms vs ts) g h (λ q us a b. up.atom_nodes vs ps p q ts us a b)
same-induction R up vs ps (Not' _ (one f end)) g h =
    at-not (R vs ps (Not' tt (one f end))) (same_in vs ps f) g h (λ k p. up.not_nodes vs ps f k (same-induction R up vs ps f k p))
same-induction R up vs ps (And' _ (one f end) _ (one g end)) k h =
    at-and (R vs ps (And' tt (one f end) tt (one g end))) (same_in vs ps f) (same_in vs ps g) k h
    (λ l m p q. up.and_nodes vs ps f g l m (same-induction R up vs ps f l p) (same-induction R up vs ps g m q))
same-induction R up vs ps (Or' _ (one f end) _ (one g end)) k h =
    at-or (R vs ps (Or' tt (one f end) tt (one g end))) (same_in vs ps f) (same_in vs ps g) k h
    (λ l m p q. up.or_nodes vs ps f g l m (same-induction R up vs ps f l p) (same-induction R up vs ps g m q))
same-induction R up vs ps (Imp' _ (one f end) _ (one g end)) k h =
    at-imp (R vs ps (Imp' tt (one f end) tt (one g end))) (same_in vs ps f) (same_in vs ps g) k h
    (λ l m p q. up.imp_nodes vs ps f g l m (same-induction R up vs ps f l p) (same-induction R up vs ps g m q))
same-induction R up vs ps (Iff' _ (one f end) _ (one g end)) k h =
    at-iff (R vs ps (Iff' tt (one f end) tt (one g end))) (same_in vs ps f) (same_in vs ps g) k h
    (λ l m p q. up.iff_nodes vs ps f g l m (same-induction R up vs ps f l p) (same-induction R up vs ps g m q))
same-induction R up vs ps (All' x _ (one f end)) g h =
    at-all (R vs ps (All' x tt (one f end))) (λ y k. eqb x.sort y.sort && same_in ((x.num, y.num) ∷ vs) ps f k) g h
    (λ y k p. up.all_nodes vs ps x y f k (eqb-true x.sort y.sort (and_first (eqb x.sort y.sort) (same_in ((x.num, y.num) ∷ vs) ps f k) p))
    (same-induction R up ((x.num, y.num) ∷ vs) ps f k (and_second (eqb x.sort y.sort) (same_in ((x.num, y.num) ∷ vs) ps f k) p)))
same-induction R up vs ps (Ex' x _ (one f end)) g h =
    at-ex (R vs ps (Ex' x tt (one f end))) (λ y k. eqb x.sort y.sort && same_in ((x.num, y.num) ∷ vs) ps f k) g h
    (λ y k p. up.ex_nodes vs ps x y f k (eqb-true x.sort y.sort (and_first (eqb x.sort y.sort) (same_in ((x.num, y.num) ∷ vs) ps f k) p))
    (same-induction R up ((x.num, y.num) ∷ vs) ps f k (and_second (eqb x.sort y.sort) (same_in ((x.num, y.num) ∷ vs) ps f k) p)))
same-induction R up vs ps (All2' p _ (one f end)) g h =
    at-all2 (R vs ps (All2' p tt (one f end))) (λ q k. same_sorts p q && same_in vs ((p.num, q.num) ∷ ps) f k) g h
    (λ q k r. up.all2_nodes vs ps p q f k ((bytes_decides p.args q.args).0 (and_first (same_sorts p q) (same_in vs ((p.num, q.num) ∷ ps) f k) r))
    (same-induction R up vs ((p.num, q.num) ∷ ps) f k (and_second (same_sorts p q) (same_in vs ((p.num, q.num) ∷ ps) f k) r)))
same-induction R up vs ps (Ex2' p _ (one f end)) g h =
    at-ex2 (R vs ps (Ex2' p tt (one f end))) (λ q k. same_sorts p q && same_in vs ((p.num, q.num) ∷ ps) f k) g h
    (λ q k r. up.ex2_nodes vs ps p q f k ((bytes_decides p.args q.args).0 (and_first (same_sorts p q) (same_in vs ((p.num, q.num) ∷ ps) f k) r))
    (same-induction R up vs ((p.num, q.num) ∷ ps) f k (and_second (same_sorts p q) (same_in vs ((p.num, q.num) ∷ ps) f k) r)))
