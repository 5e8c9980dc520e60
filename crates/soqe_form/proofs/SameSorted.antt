-- Formulas that are the same are well sorted together.
use Rattle.std.proofs.Common.{◌≡◌, ℕ, true, eqb, ◌&&◌, List, [], ◌∷◌, Option, Some, refl, ap}
use Rattle.std.proofs.lemmas.Bool.{eqb-true}
use Rattle.soqe_term.specs.declared.term.Sym.{Sym}
use Rattle.soqe_term.specs.declared.term.Sym.TheVariants.{Fun, Skolem}
use Rattle.soqe_term.specs.declared.term.Term.{Term, Var as var, App}
use Rattle.soqe_term.specs.declared.term.Terms.{Terms, Nil, Cons', end_of-Term as end-t, more_of-Term as one-t, end_of-Terms as ends-t, more_of-Terms as ones-t}
use Rattle.soqe_number.specs.Updates.{changed}
use Rattle.soqe_term.specs.Equal.{equal_symbols}
use Rattle.soqe_term.specs.Sorting.{Sorting, sym_sort, is_sort, with_sorts, with_fun, own_sort, sorted_term, sorted_terms}
use Rattle.soqe_number.proofs.Choices.{and_first, and_second}
use Rattle.soqe_term.proofs.Sortings.{known}
use Rattle.soqe_form.specs.declared.form.Pred.{Pred}
use Rattle.soqe_form.specs.declared.form.Pred.TheVariants.{Decl, Bound}
use Rattle.soqe_form.specs.declared.form.Form.{Form}
use Rattle.soqe_form.specs.Sorted.{pred_sorts, sorted}
use Rattle.soqe_form.specs.Same.{related, same_term, same_terms, same_pred, same_in, same}
use Rattle.soqe_form.proofs.Related.{Relates, relates-equal, relates-under}
use Rattle.soqe_form.proofs.SameCases.{never, GoesUp, same-induction}

own_sort-same : (vs : List (ℕ × ℕ)) (t u : Term) → same_term vs t u ≡ true → own_sort t ≡ own_sort u
own_sort-same vs (var x) (var y) o = eqb-true x.sort y.sort (and_first (eqb x.sort y.sort) (related vs x.num y.num) o)
own_sort-same vs (var x) (App g n us) o = never o
own_sort-same vs (App f m ts) (var y) o = never o
own_sort-same vs (App f m ts) (App g n us) o =
    eqb-true m n (and_first (eqb m n) (same_terms vs ts us) (and_second (equal_symbols f g) (eqb m n && same_terms vs ts us) o))

module _ (e : Sorting) where
  sym_sort-same : (v u : ℕ → Option ℕ) (b c : ℕ → Option (List ℕ)) (f g : Sym) → equal_symbols f g ≡ true → sym_sort (known e v b) f ≡ sym_sort (known e u c) g
  sym_sort-same v u b c (Fun m) (Fun n) o = ap e.fun (eqb-true m n o)
  sym_sort-same v u b c (Fun m) (Skolem n) o = never o
  sym_sort-same v u b c (Skolem m) (Fun n) o = never o
  sym_sort-same v u b c (Skolem m) (Skolem n) o = ap e.skolem (eqb-true m n o)

  mutual
    sorted_term-same : (v u : ℕ → Option ℕ) (b c : ℕ → Option (List ℕ)) (vs : List (ℕ × ℕ)) (s t : Term) → Relates vs v u → same_term vs s t ≡ true → sorted_term (known e v b) s ≡ sorted_term (known e u c) t
    sorted_term-same v u b c vs (var x) (var y) h o =
        let sort : x.sort ≡ y.sort = eqb-true x.sort y.sort (and_first (eqb x.sort y.sort) (related vs x.num y.num) o) in
        (λ i. is_sort (sort i) (h x.num y.num (and_second (eqb x.sort y.sort) (related vs x.num y.num) o) i))
    sorted_term-same v u b c vs (var x) (App g n us) h o = never o
    sorted_term-same v u b c vs (App f m ts) (var y) h o = never o
    sorted_term-same v u b c vs (App f m ts) (App g n us) h o =
        let rest : (eqb m n && same_terms vs ts us) ≡ true = and_second (equal_symbols f g) (eqb m n && same_terms vs ts us) o in
        let sort : m ≡ n = eqb-true m n (and_first (eqb m n) (same_terms vs ts us) rest) in
        let args : same_terms vs ts us ≡ true = and_second (eqb m n) (same_terms vs ts us) rest in
        (λ i. with_fun (λ sorts. sorted_terms-same v u b c vs ts us sorts h args i) (sort i) (sym_sort-same v u b c f g (and_first (equal_symbols f g) (eqb m n && same_terms vs ts us) o) i))

    sorted_terms-same : (v u : ℕ → Option ℕ) (b c : ℕ → Option (List ℕ)) (vs : List (ℕ × ℕ)) (ss ts : Terms) (sorts : List ℕ) → Relates vs v u → same_terms vs ss ts ≡ true
        → sorted_terms (known e v b) ss sorts ≡ sorted_terms (known e u c) ts sorts
    sorted_terms-same v u b c vs Nil Nil [] h o = refl
    sorted_terms-same v u b c vs Nil Nil (n ∷ sorts) h o = refl
    sorted_terms-same v u b c vs Nil (Cons' _ (one-t t end-t) _ (ones-t ts ends-t)) sorts h o = never o
    sorted_terms-same v u b c vs (Cons' _ (one-t s end-t) _ (ones-t ss ends-t)) Nil sorts h o = never o
    sorted_terms-same v u b c vs (Cons' _ (one-t s end-t) _ (ones-t ss ends-t)) (Cons' _ (one-t t end-t) _ (ones-t ts ends-t)) [] h o = refl
    sorted_terms-same v u b c vs (Cons' _ (one-t s end-t) _ (ones-t ss ends-t)) (Cons' _ (one-t t end-t) _ (ones-t ts ends-t)) (n ∷ sorts) h o =
        let first : same_term vs s t ≡ true = and_first (same_term vs s t) (same_terms vs ss ts) o in
        (λ i. sorted_term-same v u b c vs s t h first i && (eqb (own_sort-same vs s t first i) n && sorted_terms-same v u b c vs ss ts sorts h (and_second (same_term vs s t) (same_terms vs ss ts) o) i))

  pred_sorts-same : (v u : ℕ → Option ℕ) (b c : ℕ → Option (List ℕ)) (ps : List (ℕ × ℕ)) (p q : Pred) → Relates ps b c → same_pred ps p q ≡ true → pred_sorts (known e v b) p ≡ pred_sorts (known e u c) q
  pred_sorts-same v u b c ps (Decl m) (Decl n) h o = ap e.declared (eqb-true m n o)
  pred_sorts-same v u b c ps (Decl m) (Bound n) h o = never o
  pred_sorts-same v u b c ps (Bound m) (Decl n) h o = never o
  pred_sorts-same v u b c ps (Bound m) (Bound n) h o = h m n o

  -- well sorted together, where the numbers of each pair are known alike
  abbrev pub OneSorting : List (ℕ × ℕ) → List (ℕ × ℕ) → Form → Form → Type 0
  OneSorting vs ps f g = (v u : ℕ → Option ℕ) (b c : ℕ → Option (List ℕ)) → Relates vs v u → Relates ps b c → sorted (known e v b) f ≡ sorted (known e u c) g

  goes-up : GoesUp OneSorting
  goes-up = record {
    true_nodes = λ vs ps v u b c h k. refl;
    false_nodes = λ vs ps v u b c h k. refl;
    equal_nodes = λ vs ps q r s t o p v u b c h k i. sorted_term-same v u b c vs q s h o i && (sorted_term-same v u b c vs r t h p i && eqb (own_sort-same vs q s o i) (own_sort-same vs r t p i));
    atom_nodes = λ vs ps p q ts us o r v u b c h k i. with_sorts (λ sorts. sorted_terms-same v u b c vs ts us sorts h r i) (pred_sorts-same v u b c ps p q k o i);
    not_nodes = λ vs ps f g p v u b c h k. p v u b c h k;
    and_nodes = λ vs ps f g l m p q v u b c h k i. p v u b c h k i && q v u b c h k i;
    or_nodes = λ vs ps f g l m p q v u b c h k i. p v u b c h k i && q v u b c h k i;
    imp_nodes = λ vs ps f g l m p q v u b c h k i. p v u b c h k i && q v u b c h k i;
    iff_nodes = λ vs ps f g l m p q v u b c h k i. p v u b c h k i && q v u b c h k i;
    all_nodes = λ vs ps x y f g s p v u b c h k i. p (changed v x.num (Some (s i))) (changed u y.num (Some (s i))) b c (relates-under vs x.num y.num (Some (s i)) v u h) k i;
    ex_nodes = λ vs ps x y f g s p v u b c h k i. p (changed v x.num (Some (s i))) (changed u y.num (Some (s i))) b c (relates-under vs x.num y.num (Some (s i)) v u h) k i;
    all2_nodes = λ vs ps x y f g s p v u b c h k i. p v u (changed b x.num (Some (s i))) (changed c y.num (Some (s i))) h (relates-under ps x.num y.num (Some (s i)) b c k) i;
    ex2_nodes = λ vs ps x y f g s p v u b c h k i. p v u (changed b x.num (Some (s i))) (changed c y.num (Some (s i))) h (relates-under ps x.num y.num (Some (s i)) b c k) i;
  }

  pub sorted-same_in : (vs ps : List (ℕ × ℕ)) (f g : Form) → same_in vs ps f g ≡ true → OneSorting vs ps f g
  sorted-same_in vs ps f g o = same-induction OneSorting goes-up vs ps f g o

pub sorted-same : (f g : Form) → same f g ≡ true → (e : Sorting) → sorted e f ≡ sorted e g
sorted-same f g o e = sorted-same_in e [] [] f g o e.variable e.variable e.bound e.bound (relates-equal e.variable) (relates-equal e.bound)
