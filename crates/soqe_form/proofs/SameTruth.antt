-- Formulas that are the same have one truth. The idea: two worlds give one element to each two variables that are named the
-- same, and one table to each two predicates; a pair of binders gives both of its numbers one more value.
use Rattle.std.proofs.Common.{◌≡◌, ℕ, Bool, true, eqb, not, ◌&&◌, ◌||◌, map, List, [], ◌∷◌, refl, ◌∙◌, ap}
use Rattle.std.proofs.lemmas.Bool.{eqb-true}
use Rattle.soqe_term.specs.declared.term.Term.{Term, Var as var, App}
use Rattle.soqe_term.specs.declared.term.Terms.{Terms, Nil, Cons', end_of-Term as end-t, more_of-Term as one-t, end_of-Terms as ends-t, more_of-Terms as ones-t}
use Rattle.soqe_term.specs.World.{World}
use Rattle.soqe_number.specs.Updates.{changed}
use Rattle.soqe_term.specs.Value.{value, values, apply}
use Rattle.soqe_number.specs.Finite.{every, some, every_list, some_list, product, entry}
use Rattle.soqe_term.specs.Equal.{equal_symbols}
use Rattle.soqe_number.proofs.Choices.{and_first, and_second}
use Rattle.soqe_term.proofs.EqualTerms.{equal_symbols-same}
use Rattle.soqe_term.proofs.Worlds.{reading}
use Rattle.soqe_form.specs.declared.form.Pred.{Pred}
use Rattle.soqe_form.specs.declared.form.Pred.TheVariants.{Decl, Bound}
use Rattle.soqe_form.specs.declared.form.Form.{Form}
use Rattle.soqe_form.specs.Truth.{truth, holds, alike}
use Rattle.soqe_form.specs.Same.{related, same_term, same_terms, same_pred, same_in, same}
use Rattle.soqe_form.proofs.SameCases.{never, GoesUp, same-induction}
use Rattle.soqe_form.proofs.Related.{Relates, relates-equal, relates-under}

module _ (w : World) where
  mutual
    pub value-same : (e d : ℕ → ℕ) (b c : ℕ → List ℕ → Bool) (vs : List (ℕ × ℕ)) (t u : Term) → Relates vs e d → same_term vs t u ≡ true → value (reading w e b) t ≡ value (reading w d c) u
    value-same e d b c vs (var x) (var y) h o = h x.num y.num (and_second (eqb x.sort y.sort) (related vs x.num y.num) o)
    value-same e d b c vs (var x) (App g n us) h o = never o
    value-same e d b c vs (App f m ts) (var y) h o = never o
    value-same e d b c vs (App f m ts) (App g n us) h o =
        let symbols : f ≡ g = equal_symbols-same f g (and_first (equal_symbols f g) (eqb m n && same_terms vs ts us) o) in
        let args : same_terms vs ts us ≡ true = and_second (eqb m n) (same_terms vs ts us) (and_second (equal_symbols f g) (eqb m n && same_terms vs ts us) o) in
        (λ i. apply w (symbols i) (values-same e d b c vs ts us h args i))

    pub values-same : (e d : ℕ → ℕ) (b c : ℕ → List ℕ → Bool) (vs : List (ℕ × ℕ)) (ts us : Terms) → Relates vs e d → same_terms vs ts us ≡ true → values (reading w e b) ts ≡ values (reading w d c) us
    values-same e d b c vs Nil Nil h o = refl
    values-same e d b c vs Nil (Cons' _ (one-t u end-t) _ (ones-t us ends-t)) h o = never o
    values-same e d b c vs (Cons' _ (one-t t end-t) _ (ones-t ts ends-t)) Nil h o = never o
    values-same e d b c vs (Cons' _ (one-t t end-t) _ (ones-t ts ends-t)) (Cons' _ (one-t u end-t) _ (ones-t us ends-t)) h o =
        λ i. value-same e d b c vs t u h (and_first (same_term vs t u) (same_terms vs ts us) o) i ∷ values-same e d b c vs ts us h (and_second (same_term vs t u) (same_terms vs ts us) o) i

  holds-same : (e d : ℕ → ℕ) (b c : ℕ → List ℕ → Bool) (ps : List (ℕ × ℕ)) (p q : Pred) (xs : List ℕ) → Relates ps b c → same_pred ps p q ≡ true → holds (reading w e b) p xs ≡ holds (reading w d c) q xs
  holds-same e d b c ps (Decl m) (Decl n) xs h o = ap (λ k. w.declared k xs) (eqb-true m n o)
  holds-same e d b c ps (Decl m) (Bound n) xs h o = never o
  holds-same e d b c ps (Bound m) (Decl n) xs h o = never o
  holds-same e d b c ps (Bound m) (Bound n) xs h o = λ i. h m n o i xs

  -- one truth in worlds that give one value to the numbers of each pair
  abbrev pub OneTruth : List (ℕ × ℕ) → List (ℕ × ℕ) → Form → Form → Type 0
  OneTruth vs ps f g = (e d : ℕ → ℕ) (b c : ℕ → List ℕ → Bool) → Relates vs e d → Relates ps b c → truth (reading w e b) f ≡ truth (reading w d c) g

  goes-up : GoesUp OneTruth
  goes-up = record {
    true_nodes = λ vs ps e d b c h k. refl;
    false_nodes = λ vs ps e d b c h k. refl;
    equal_nodes = λ vs ps s t u v p q e d b c h k i. eqb (value-same e d b c vs s u h p i) (value-same e d b c vs t v h q i);
    atom_nodes = λ vs ps p q ts us o r e d b c h k. ap (holds (reading w e b) p) (values-same e d b c vs ts us h r) ∙ holds-same e d b c ps p q (values (reading w d c) us) k o;
    not_nodes = λ vs ps f g p e d b c h k i. not (p e d b c h k i);
    and_nodes = λ vs ps f g l m p q e d b c h k i. p e d b c h k i && q e d b c h k i;
    or_nodes = λ vs ps f g l m p q e d b c h k i. p e d b c h k i || q e d b c h k i;
    imp_nodes = λ vs ps f g l m p q e d b c h k i. not (p e d b c h k i) || q e d b c h k i;
    iff_nodes = λ vs ps f g l m p q e d b c h k i. alike (p e d b c h k i) (q e d b c h k i);
    all_nodes = λ vs ps x y f g s p e d b c h k i. every (w.size (s i)) (λ a. p (changed e x.num a) (changed d y.num a) b c (relates-under vs x.num y.num a e d h) k i);
    ex_nodes = λ vs ps x y f g s p e d b c h k i. some (w.size (s i)) (λ a. p (changed e x.num a) (changed d y.num a) b c (relates-under vs x.num y.num a e d h) k i);
    all2_nodes = λ vs ps x y f g s p e d b c h k i. every_list (product (map w.size (s i))) (λ t. let g : List ℕ → Bool = entry (map w.size (s i)) t in p e d (changed b x.num g) (changed c y.num g) h (relates-under ps x.num y.num g b c k) i);
    ex2_nodes = λ vs ps x y f g s p e d b c h k i. some_list (product (map w.size (s i))) (λ t. let g : List ℕ → Bool = entry (map w.size (s i)) t in p e d (changed b x.num g) (changed c y.num g) h (relates-under ps x.num y.num g b c k) i);
  }

  pub truth-same_in : (vs ps : List (ℕ × ℕ)) (f g : Form) → same_in vs ps f g ≡ true → OneTruth vs ps f g
  truth-same_in vs ps f g o = same-induction OneTruth goes-up vs ps f g o

pub truth-same : (f g : Form) → same f g ≡ true → (w : World) → truth w f ≡ truth w g
truth-same f g o w = truth-same_in w [] [] f g o w.element w.element w.bound w.bound (relates-equal w.element) (relates-equal w.bound)
