-- To be the same is an equivalence.
use Rattle.std.proofs.Common.{◌≡◌, ℕ, Bool, true, false, cond, eqb, ◌&&◌, ◌||◌, List, [], ◌∷◌, refl, sym, ◌∙◌, ap}
use Rattle.std.specs.Cmp.Lexicographic.{bytes_decides}
use Rattle.std.proofs.lemmas.Bool.{eqb-true, eq-eqb, and_from}
use Rattle.soqe_term.specs.declared.term.Sym.{Sym}
use Rattle.soqe_term.specs.declared.term.Term.{Term, Var as var, App}
use Rattle.soqe_term.specs.declared.term.Terms.{Terms, Nil, Cons', end_of-Term as end-t, more_of-Term as one-t, end_of-Terms as ends-t, more_of-Terms as ones-t}
use Rattle.soqe_term.specs.Equal.{equal_symbols}
use Rattle.soqe_number.proofs.Choices.{and_first, and_second, same_test}
use Rattle.soqe_term.proofs.EqualTerms.{equal_symbols-same, equal_symbols-refl}
use Rattle.soqe_term.proofs.Worlds.{eqb-self}
use Rattle.soqe_form.specs.declared.form.Pred.{Pred}
use Rattle.soqe_form.specs.declared.form.Pred.TheVariants.{Decl, Bound}
use Rattle.soqe_form.specs.declared.form.PVar.{PVar}
use Rattle.soqe_form.specs.declared.form.Form.{Form, True, False, Equal, Atom, Not', And', Or', Imp', Iff', All', Ex', All2', Ex2', end_of-Form as end, more_of-Form as one}
use Rattle.soqe_form.specs.Same.{related, same_term, same_terms, same_pred, same_sorts, same_in, same}
use Rattle.soqe_form.proofs.SameCases.{never, GoesUp, same-induction}

-- ---- a formula and itself

-- each number names the same as itself
abbrev pub IsDiagonal : List (ℕ × ℕ) → Type 0
IsDiagonal vs = (n : ℕ) → related vs n n ≡ true

diagonal_step : (p r : Bool) → r ≡ true → cond (p || p) (p && p) r ≡ true
diagonal_step true r h = refl
diagonal_step false r h = h

pub diagonal-under : (vs : List (ℕ × ℕ)) (x : ℕ) → IsDiagonal vs → IsDiagonal ((x, x) ∷ vs)
diagonal-under vs x h n = diagonal_step (eqb n x) (related vs n n) (h n)

mutual
  same_term-self : (vs : List (ℕ × ℕ)) (t : Term) → IsDiagonal vs → same_term vs t t ≡ true
  same_term-self vs (var x) h = and_from (eqb x.sort x.sort) (related vs x.num x.num) (eqb-self x.sort) (h x.num)
  same_term-self vs (App f m ts) h =
      and_from (equal_symbols f f) (eqb m m && same_terms vs ts ts) (equal_symbols-refl f) (and_from (eqb m m) (same_terms vs ts ts) (eqb-self m) (same_terms-self vs ts h))

  same_terms-self : (vs : List (ℕ × ℕ)) (ts : Terms) → IsDiagonal vs → same_terms vs ts ts ≡ true
  same_terms-self vs Nil h = refl
  same_terms-self vs (Cons' _ (one-t t end-t) _ (ones-t ts ends-t)) h = and_from (same_term vs t t) (same_terms vs ts ts) (same_term-self vs t h) (same_terms-self vs ts h)

pub same_pred-self : (ps : List (ℕ × ℕ)) (p : Pred) → IsDiagonal ps → same_pred ps p p ≡ true
same_pred-self ps (Decl n) h = eqb-self n
same_pred-self ps (Bound n) h = h n

pub same_sorts-from : (p q : PVar) → p.args ≡ q.args → same_sorts p q ≡ true
same_sorts-from p q e = (bytes_decides p.args q.args).1 e

same_in-self : (vs ps : List (ℕ × ℕ)) (f : Form) → IsDiagonal vs → IsDiagonal ps → same_in vs ps f f ≡ true
same_in-self vs ps True h k = refl
same_in-self vs ps False h k = refl
same_in-self vs ps (Equal s t) h k = and_from (same_term vs s s) (same_term vs t t) (same_term-self vs s h) (same_term-self vs t h)
same_in-self vs ps (Atom p ts) h k = and_from (same_pred ps p p) (same_terms vs ts ts) (same_pred-self ps p k) (same_terms-self vs ts h)
same_in-self vs ps (Not' _ (one f end)) h k = same_in-self vs ps f h k
same_in-self vs ps (And' _ (one f end) _ (one g end)) h k = and_from (same_in vs ps f f) (same_in vs ps g g) (same_in-self vs ps f h k) (same_in-self vs ps g h k)
same_in-self vs ps (Or' _ (one f end) _ (one g end)) h k = and_from (same_in vs ps f f) (same_in vs ps g g) (same_in-self vs ps f h k) (same_in-self vs ps g h k)
same_in-self vs ps (Imp' _ (one f end) _ (one g end)) h k = and_from (same_in vs ps f f) (same_in vs ps g g) (same_in-self vs ps f h k) (same_in-self vs ps g h k)
same_in-self vs ps (Iff' _ (one f end) _ (one g end)) h k = and_from (same_in vs ps f f) (same_in vs ps g g) (same_in-self vs ps f h k) (same_in-self vs ps g h k)
same_in-self vs ps (All' x _ (one f end)) h k =
    and_from (eqb x.sort x.sort) (same_in ((x.num, x.num) ∷ vs) ps f f) (eqb-self x.sort) (same_in-self ((x.num, x.num) ∷ vs) ps f (diagonal-under vs x.num h) k)
same_in-self vs ps (Ex' x _ (one f end)) h k =
    and_from (eqb x.sort x.sort) (same_in ((x.num, x.num) ∷ vs) ps f f) (eqb-self x.sort) (same_in-self ((x.num, x.num) ∷ vs) ps f (diagonal-under vs x.num h) k)
same_in-self vs ps (All2' p _ (one f end)) h k =
    and_from (same_sorts p p) (same_in vs ((p.num, p.num) ∷ ps) f f) (same_sorts-from p p refl) (same_in-self vs ((p.num, p.num) ∷ ps) f h (diagonal-under ps p.num k))
same_in-self vs ps (Ex2' p _ (one f end)) h k =
    and_from (same_sorts p p) (same_in vs ((p.num, p.num) ∷ ps) f f) (same_sorts-from p p refl) (same_in-self vs ((p.num, p.num) ∷ ps) f h (diagonal-under ps p.num k))

pub same-self : (f : Form) → same f f ≡ true
same-self f = same_in-self [] [] f eqb-self eqb-self

pub same-equal : (f g : Form) → f ≡ g → same f g ≡ true
same-equal f g e = ap (same f) (sym e) ∙ same-self f

-- ---- the other way round

-- the same numbers are named the same, the other way round
abbrev pub IsTurned : List (ℕ × ℕ) → List (ℕ × ℕ) → Type 0
IsTurned vs ws = (m n : ℕ) → related vs m n ≡ true → related ws n m ≡ true

turned_step : (p q r s : Bool) → cond (p || q) (p && q) r ≡ true → (r ≡ true → s ≡ true) → cond (q || p) (q && p) s ≡ true
turned_step true true r s o h = refl
turned_step true false r s o h = never o
turned_step false true r s o h = never o
turned_step false false r s o h = h o

turned-under : (vs ws : List (ℕ × ℕ)) (x y : ℕ) → IsTurned vs ws → IsTurned ((x, y) ∷ vs) ((y, x) ∷ ws)
turned-under vs ws x y h m n o = turned_step (eqb m x) (eqb n y) (related vs m n) (related ws n m) o (h m n)

equal_symbols-turned : (f g : Sym) → equal_symbols f g ≡ true → equal_symbols g f ≡ true
equal_symbols-turned f g o = ap (equal_symbols g) (equal_symbols-same f g o) ∙ equal_symbols-refl g

eqb-turned : (m n : ℕ) → eqb m n ≡ true → eqb n m ≡ true
eqb-turned m n o = eq-eqb n m (sym (eqb-true m n o))

mutual
  same_term-turned : (vs ws : List (ℕ × ℕ)) (t u : Term) → IsTurned vs ws → same_term vs t u ≡ true → same_term ws u t ≡ true
  same_term-turned vs ws (var x) (var y) h o =
      and_from (eqb y.sort x.sort) (related ws y.num x.num) (eqb-turned x.sort y.sort (and_first (eqb x.sort y.sort) (related vs x.num y.num) o))
      (h x.num y.num (and_second (eqb x.sort y.sort) (related vs x.num y.num) o))
  same_term-turned vs ws (var x) (App g n us) h o = never o
  same_term-turned vs ws (App f m ts) (var y) h o = never o
  same_term-turned vs ws (App f m ts) (App g n us) h o =
      let rest : (eqb m n && same_terms vs ts us) ≡ true = and_second (equal_symbols f g) (eqb m n && same_terms vs ts us) o in
      and_from (equal_symbols g f) (eqb n m && same_terms ws us ts) (equal_symbols-turned f g (and_first (equal_symbols f g) (eqb m n && same_terms vs ts us) o))
      (and_from (eqb n m) (same_terms ws us ts) (eqb-turned m n (and_first (eqb m n) (same_terms vs ts us) rest)) (same_terms-turned vs ws ts us h (and_second (eqb m n) (same_terms vs ts us) rest)))

  same_terms-turned : (vs ws : List (ℕ × ℕ)) (ts us : Terms) → IsTurned vs ws → same_terms vs ts us ≡ true → same_terms ws us ts ≡ true
  same_terms-turned vs ws Nil Nil h o = refl
  same_terms-turned vs ws Nil (Cons' _ (one-t u end-t) _ (ones-t us ends-t)) h o = never o
  same_terms-turned vs ws (Cons' _ (one-t t end-t) _ (ones-t ts ends-t)) Nil h o = never o
  same_terms-turned vs ws (Cons' _ (one-t t end-t) _ (ones-t ts ends-t)) (Cons' _ (one-t u end-t) _ (ones-t us ends-t)) h o =
      and_from (same_term ws u t) (same_terms ws us ts) (same_term-turned vs ws t u h (and_first (same_term vs t u) (same_terms vs ts us) o))
      (same_terms-turned vs ws ts us h (and_second (same_term vs t u) (same_terms vs ts us) o))

same_pred-turned : (ps qs : List (ℕ × ℕ)) (p q : Pred) → IsTurned ps qs → same_pred ps p q ≡ true → same_pred qs q p ≡ true
same_pred-turned ps qs (Decl m) (Decl n) h o = eqb-turned m n o
same_pred-turned ps qs (Decl m) (Bound n) h o = never o
same_pred-turned ps qs (Bound m) (Decl n) h o = never o
same_pred-turned ps qs (Bound m) (Bound n) h o = h m n o

abbrev pub SameTurned : List (ℕ × ℕ) → List (ℕ × ℕ) → Form → Form → Type 0
SameTurned vs ps f g = (ws qs : List (ℕ × ℕ)) → IsTurned vs ws → IsTurned ps qs → same_in ws qs g f ≡ true

turned-up : GoesUp SameTurned
turned-up = record {
  true_nodes = λ vs ps ws qs h k. refl;
  false_nodes = λ vs ps ws qs h k. refl;
  equal_nodes = λ vs ps s t u v o p ws qs h k. and_from (same_term ws u s) (same_term ws v t) (same_term-turned vs ws s u h o) (same_term-turned vs ws t v h p);
  atom_nodes = λ vs ps p q ts us o r ws qs h k. and_from (same_pred qs q p) (same_terms ws us ts) (same_pred-turned ps qs p q k o) (same_terms-turned vs ws ts us h r);
  not_nodes = λ vs ps f g p ws qs h k. p ws qs h k;
  and_nodes = λ vs ps f g l m p q ws qs h k. and_from (same_in ws qs l f) (same_in ws qs m g) (p ws qs h k) (q ws qs h k);
  or_nodes = λ vs ps f g l m p q ws qs h k. and_from (same_in ws qs l f) (same_in ws qs m g) (p ws qs h k) (q ws qs h k);
  imp_nodes = λ vs ps f g l m p q ws qs h k. and_from (same_in ws qs l f) (same_in ws qs m g) (p ws qs h k) (q ws qs h k);
  iff_nodes = λ vs ps f g l m p q ws qs h k. and_from (same_in ws qs l f) (same_in ws qs m g) (p ws qs h k) (q ws qs h k);
  all_nodes = λ vs ps x y f g s p ws qs h k. and_from (eqb y.sort x.sort) (same_in ((y.num, x.num) ∷ ws) qs g f) (eq-eqb y.sort x.sort (sym s)) (p ((y.num, x.num) ∷ ws) qs (turned-under vs ws x.num y.num h) k);
  ex_nodes = λ vs ps x y f g s p ws qs h k. and_from (eqb y.sort x.sort) (same_in ((y.num, x.num) ∷ ws) qs g f) (eq-eqb y.sort x.sort (sym s)) (p ((y.num, x.num) ∷ ws) qs (turned-under vs ws x.num y.num h) k);
  all2_nodes = λ vs ps x y f g s p ws qs h k. and_from (same_sorts y x) (same_in ws ((y.num, x.num) ∷ qs) g f) (same_sorts-from y x (sym s)) (p ws ((y.num, x.num) ∷ qs) h (turned-under ps qs x.num y.num k));
  ex2_nodes = λ vs ps x y f g s p ws qs h k. and_from (same_sorts y x) (same_in ws ((y.num, x.num) ∷ qs) g f) (same_sorts-from y x (sym s)) (p ws ((y.num, x.num) ∷ qs) h (turned-under ps qs x.num y.num k));
}

turned : (f g : Form) → same f g ≡ true → same g f ≡ true
turned f g o = same-induction SameTurned turned-up [] [] f g o [] [] eqb-turned eqb-turned

pub same-turned : (f g : Form) → same f g ≡ same g f
same-turned f g = same_test (same f g) (same g f) (turned f g) (turned g f)
