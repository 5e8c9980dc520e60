-- The test of equality says what it is to say.
use Rattle.std.proofs.Common.{◌≡◌, ◌↔◌, Bool, true, false, eqb, ◌&&◌, refl, sym, ◌∙◌, ap}
use Rattle.std.proofs.lemmas.Bool.{eqb-true, eq-eqb}
use Rattle.soqe_term.specs.declared.term.Sym.{Sym}
use Rattle.soqe_term.specs.declared.term.Sym.TheVariants.{Fun, Skolem}
use Rattle.soqe_term.specs.declared.term.Term.{Term, Var as var, App}
use Rattle.soqe_term.specs.declared.term.Terms.{Terms, Nil, Cons, Cons', end_of-Term as end, more_of-Term as one, end_of-Terms as ends, more_of-Terms as ones}
use Rattle.soqe_term.specs.Boxes.{boxes}
use Rattle.soqe_term.specs.Equal.{equal_symbols, equal_terms, equal_lists}
use Rattle.soqe_number.proofs.Choices.{and_first, and_second}

pub equal_symbols-same : (f g : Sym) → equal_symbols f g ≡ true → f ≡ g
equal_symbols-same (Fun m) (Fun n) h = ap Fun (eqb-true m n h)
equal_symbols-same (Fun m) (Skolem n) h = let h : false ≡ true = h in cc
equal_symbols-same (Skolem m) (Fun n) h = let h : false ≡ true = h in cc
equal_symbols-same (Skolem m) (Skolem n) h = ap Skolem (eqb-true m n h)

pub equal_symbols-refl : (f : Sym) → equal_symbols f f ≡ true
equal_symbols-refl (Fun m) = eq-eqb m m refl
equal_symbols-refl (Skolem m) = eq-eqb m m refl

mutual
  unfolding boxes

  pub equal_terms-same : (t u : Term) → equal_terms t u ≡ true → t ≡ u
  equal_terms-same (var x) (var y) h =
      let n : x.num ≡ y.num = eqb-true x.num y.num (and_first (eqb x.num y.num) (eqb x.sort y.sort) h) in
      let s : x.sort ≡ y.sort = eqb-true x.sort y.sort (and_second (eqb x.num y.num) (eqb x.sort y.sort) h) in
      (λ i. var (record { num = n i; sort = s i }))
  equal_terms-same (var x) (App g n us) h = let h : false ≡ true = h in cc
  equal_terms-same (App f m ts) (var y) h = let h : false ≡ true = h in cc
  equal_terms-same (App f m ts) (App g n us) h =
      let rest : (eqb m n && equal_lists ts us) ≡ true = and_second (equal_symbols f g) (eqb m n && equal_lists ts us) h in
      let s : f ≡ g = equal_symbols-same f g (and_first (equal_symbols f g) (eqb m n && equal_lists ts us) h) in
      let k : m ≡ n = eqb-true m n (and_first (eqb m n) (equal_lists ts us) rest) in
      let more : ts ≡ us = equal_lists-same ts us (and_second (eqb m n) (equal_lists ts us) rest) in
      (λ i. App (s i) (k i) (more i))

  pub equal_lists-same : (ts us : Terms) → equal_lists ts us ≡ true → ts ≡ us
  equal_lists-same Nil Nil h = refl
  equal_lists-same Nil (Cons' _ (one u end) _ (ones us ends)) h = let h : false ≡ true = h in cc
  equal_lists-same (Cons' _ (one t end) _ (ones ts ends)) Nil h = let h : false ≡ true = h in cc
  equal_lists-same (Cons' _ (one t end) _ (ones ts ends)) (Cons' _ (one u end) _ (ones us ends)) h =
      let first : t ≡ u = equal_terms-same t u (and_first (equal_terms t u) (equal_lists ts us) h) in
      let more : ts ≡ us = equal_lists-same ts us (and_second (equal_terms t u) (equal_lists ts us) h) in
      (λ i. Cons (first i) (more i))

mutual
  unfolding boxes

  pub equal_terms-refl : (t : Term) → equal_terms t t ≡ true
  equal_terms-refl (var x) = (λ i. eq-eqb x.num x.num refl i && eq-eqb x.sort x.sort refl i)
  equal_terms-refl (App f m ts) = (λ i. equal_symbols-refl f i && (eq-eqb m m refl i && equal_lists-refl ts i))

  pub equal_lists-refl : (ts : Terms) → equal_lists ts ts ≡ true
  equal_lists-refl Nil = refl
  equal_lists-refl (Cons' _ (one t end) _ (ones ts ends)) = (λ i. equal_terms-refl t i && equal_lists-refl ts i)

pub equal_terms-from : (t u : Term) → t ≡ u → equal_terms t u ≡ true
equal_terms-from t u e = ap (equal_terms t) (sym e) ∙ equal_terms-refl t

pub equal_terms-is : (t u : Term) (r : Bool) → r ≡ equal_terms t u → (r ≡ true) ↔ (t ≡ u)
equal_terms-is t u r e = (λ h. equal_terms-same t u (sym e ∙ h), λ h. e ∙ equal_terms-from t u h)
