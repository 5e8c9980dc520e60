-- Formulas that are the same have blocks together, and are of first order together.
use Rattle.std.proofs.Common.{◌≡◌, ℕ, true, eqb, ◌&&◌, ◌||◌, List, [], refl}
use Rattle.soqe_term.specs.declared.term.Term.{Term, Var as var, App}
use Rattle.soqe_term.specs.declared.term.Terms.{Terms, Nil, Cons', end_of-Term as end-t, more_of-Term as one-t, end_of-Terms as ends-t, more_of-Terms as ones-t}
use Rattle.soqe_term.specs.Equal.{equal_symbols}
use Rattle.soqe_number.proofs.Choices.{and_first, and_second}
use Rattle.soqe_term.proofs.EqualTerms.{equal_symbols-same}
use Rattle.soqe_form.specs.declared.form.Pred.{Pred}
use Rattle.soqe_form.specs.declared.form.Pred.TheVariants.{Decl, Bound}
use Rattle.soqe_form.specs.declared.form.Form.{Form}
use Rattle.soqe_form.specs.Places.{has_blocks}
use Rattle.soqe_form.specs.Pure.{is_declared_sym, pure_term, pure_terms, is_declared_pred, is_first_order}
use Rattle.soqe_form.specs.Same.{same_term, same_terms, same_pred, same}
use Rattle.soqe_form.proofs.SameCases.{never, GoesUp, same-induction}

blocks-up : GoesUp (λ vs ps f g. has_blocks f ≡ has_blocks g)
blocks-up = record {
  true_nodes = λ vs ps. refl;
  false_nodes = λ vs ps. refl;
  equal_nodes = λ vs ps s t u v a b. refl;
  atom_nodes = λ vs ps p q ts us a b. refl;
  not_nodes = λ vs ps f g p. p;
  and_nodes = λ vs ps f g l m p q i. p i || q i;
  or_nodes = λ vs ps f g l m p q i. p i || q i;
  imp_nodes = λ vs ps f g l m p q i. p i || q i;
  iff_nodes = λ vs ps f g l m p q i. p i || q i;
  all_nodes = λ vs ps x y f g s p. p;
  ex_nodes = λ vs ps x y f g s p. p;
  all2_nodes = λ vs ps x y f g s p. refl;
  ex2_nodes = λ vs ps x y f g s p. refl;
}

pub blocks-same : (f g : Form) → same f g ≡ true → has_blocks f ≡ has_blocks g
blocks-same f g o = same-induction (λ vs ps f g. has_blocks f ≡ has_blocks g) blocks-up [] [] f g o

mutual
  pure_term-same : (vs : List (ℕ × ℕ)) (t u : Term) → same_term vs t u ≡ true → pure_term t ≡ pure_term u
  pure_term-same vs (var x) (var y) o = refl
  pure_term-same vs (var x) (App g n us) o = never o
  pure_term-same vs (App f m ts) (var y) o = never o
  pure_term-same vs (App f m ts) (App g n us) o =
      let symbols : f ≡ g = equal_symbols-same f g (and_first (equal_symbols f g) (eqb m n && same_terms vs ts us) o) in
      let args : same_terms vs ts us ≡ true = and_second (eqb m n) (same_terms vs ts us) (and_second (equal_symbols f g) (eqb m n && same_terms vs ts us) o) in
      (λ i. is_declared_sym (symbols i) && pure_terms-same vs ts us args i)

  pure_terms-same : (vs : List (ℕ × ℕ)) (ts us : Terms) → same_terms vs ts us ≡ true → pure_terms ts ≡ pure_terms us
  pure_terms-same vs Nil Nil o = refl
  pure_terms-same vs Nil (Cons' _ (one-t u end-t) _ (ones-t us ends-t)) o = never o
  pure_terms-same vs (Cons' _ (one-t t end-t) _ (ones-t ts ends-t)) Nil o = never o
  pure_terms-same vs (Cons' _ (one-t t end-t) _ (ones-t ts ends-t)) (Cons' _ (one-t u end-t) _ (ones-t us ends-t)) o =
      λ i. pure_term-same vs t u (and_first (same_term vs t u) (same_terms vs ts us) o) i && pure_terms-same vs ts us (and_second (same_term vs t u) (same_terms vs ts us) o) i

declared_pred-same : (ps : List (ℕ × ℕ)) (p q : Pred) → same_pred ps p q ≡ true → is_declared_pred p ≡ is_declared_pred q
declared_pred-same ps (Decl m) (Decl n) o = refl
declared_pred-same ps (Decl m) (Bound n) o = never o
declared_pred-same ps (Bound m) (Decl n) o = never o
declared_pred-same ps (Bound m) (Bound n) o = refl

first_order-up : GoesUp (λ vs ps f g. is_first_order f ≡ is_first_order g)
first_order-up = record {
  true_nodes = λ vs ps. refl;
  false_nodes = λ vs ps. refl;
  equal_nodes = λ vs ps s t u v a b i. pure_term-same vs s u a i && pure_term-same vs t v b i;
  atom_nodes = λ vs ps p q ts us a b i. declared_pred-same ps p q a i && pure_terms-same vs ts us b i;
  not_nodes = λ vs ps f g p. p;
  and_nodes = λ vs ps f g l m p q i. p i && q i;
  or_nodes = λ vs ps f g l m p q i. p i && q i;
  imp_nodes = λ vs ps f g l m p q i. p i && q i;
  iff_nodes = λ vs ps f g l m p q i. p i && q i;
  all_nodes = λ vs ps x y f g s p. p;
  ex_nodes = λ vs ps x y f g s p. p;
  all2_nodes = λ vs ps x y f g s p. refl;
  ex2_nodes = λ vs ps x y f g s p. refl;
}

pub first_order-same : (f g : Form) → same f g ≡ true → is_first_order f ≡ is_first_order g
first_order-same f g o = same-induction (λ vs ps f g. is_first_order f ≡ is_first_order g) first_order-up [] [] f g o
