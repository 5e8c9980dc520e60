-- The sorts that variables bear: where a term is well sorted with any sorts of its variables, those are the sorts of their
-- first occurrences.
use Rattle.std.proofs.Common.{◌≡◌, ℕ, true, false, cond, eqb, ◌&&◌, List, [], ◌∷◌, Option, Some, None, refl, sym, ◌∙◌, ap, true≢false}
use Rattle.std.proofs.lemmas.Bool.{eqb-true}
use Rattle.soqe_term.specs.declared.term.Term.{Term, Var as var, App}
use Rattle.soqe_term.specs.declared.term.Terms.{Terms, Nil, Cons', end_of-Term as end, more_of-Term as one, end_of-Terms as ends, more_of-Terms as ones}
use Rattle.soqe_term.specs.Occurs.{occurs, occurs_any}
use Rattle.soqe_term.specs.Sorting.{Sorting, is_sort, sym_sort, own_sort, sorted_term, sorted_terms}
use Rattle.soqe_signature.specs.SkolemSigs.{first_of, borne_sort, borne_in, IsWellSorted}
use Rattle.soqe_term.specs.Sorting.{over_vars}
use Rattle.soqe_number.proofs.Choices.{bool_cases, and_first, and_second, or_holds, or_none_first, or_none_second}
use Rattle.soqe_term.proofs.Values.{is-sort, fun-of}
use Rattle.soqe_term.proofs.Sortings.{sorted_term-agree}

mutual
  unborne : (n : ℕ) (t : Term) → occurs n t ≡ false → borne_sort t n ≡ None
  unborne n (var x) h = ap (λ q. cond q (Some x.sort) None) h
  unborne n (App f m ts) h = unborne_in n ts h

  unborne_in : (n : ℕ) (ts : Terms) → occurs_any n ts ≡ false → borne_in ts n ≡ None
  unborne_in n Nil h = refl
  unborne_in n (Cons' _ (one t end) _ (ones ts ends)) h =
      (λ i. first_of (unborne n t (or_none_first (occurs n t) (occurs_any n ts) h) i) (borne_in ts n)) ∙ unborne_in n ts (or_none_second (occurs n t) (occurs_any n ts) h)

-- both are there and equal
record BothSome (o q : Option ℕ) : Type 0 where
  pub sort : ℕ
  pub one : o ≡ Some sort
  pub other : q ≡ Some sort

at_var : (n m s : ℕ) (v : ℕ → Option ℕ) → is_sort s (v m) ≡ true → eqb n m ≡ true → BothSome (cond (eqb n m) (Some s) None) (v n)
at_var n m s v h o = record { sort = s; one = ap (λ q. cond q (Some s) None) o; other = ap v (eqb-true n m o) ∙ is-sort s (v m) h }

module _ (e : Sorting) (v : ℕ → Option ℕ) (n : ℕ) where
  mutual
    borne : (t : Term) → sorted_term (over_vars e v) t ≡ true → occurs n t ≡ true → BothSome (borne_sort t n) (v n)
    borne (var x) h o = at_var n x.num x.sort v h o
    borne (App f m ts) h o =
        let k = fun-of (λ sorts. sorted_terms (over_vars e v) ts sorts) m (sym_sort (over_vars e v) f) h in
        borne_any ts k.kind.args k.pass o

    borne_any : (ts : Terms) (sorts : List ℕ) → sorted_terms (over_vars e v) ts sorts ≡ true → occurs_any n ts ≡ true → BothSome (borne_in ts n) (v n)
    borne_any Nil sorts h o = let o : false ≡ true = o in cc
    borne_any (Cons' _ (one t end) _ (ones ts ends)) [] h o = let h : false ≡ true = h in cc
    borne_any (Cons' _ (one t end) _ (ones ts ends)) (s ∷ sorts) h o =
        let rest : (eqb (own_sort t) s && sorted_terms (over_vars e v) ts sorts) ≡ true = and_second (sorted_term (over_vars e v) t) (eqb (own_sort t) s && sorted_terms (over_vars e v) ts sorts) h in
        bool_cases (λ b. occurs n t ≡ b → BothSome (first_of (borne_sort t n) (borne_in ts n)) (v n)) (occurs n t)
        (λ p q. let k = borne t (and_first (sorted_term (over_vars e v) t) (eqb (own_sort t) s && sorted_terms (over_vars e v) ts sorts) h) p in
        record { sort = k.sort; one = ap (λ r. first_of r (borne_in ts n)) k.one; other = k.other })
        (λ p q. let k = borne_any ts sorts (and_second (eqb (own_sort t) s) (sorted_terms (over_vars e v) ts sorts) rest) (or_holds (occurs n t) (occurs_any n ts) p o) in
        record { sort = k.sort; one = ap (λ r. first_of r (borne_in ts n)) (unborne n t p) ∙ k.one; other = k.other })
        refl

-- the sorts of the first occurrences do where any do
pub borne-sorted : (e : Sorting) (v : ℕ → Option ℕ) (t : Term) → sorted_term (over_vars e v) t ≡ true → sorted_term (over_vars e (borne_sort t)) t ≡ true
borne-sorted e v t h =
    sorted_term-agree e (borne_sort t) v e.bound e.bound t (λ n o. let k = borne e v n t h o in k.one ∙ sym k.other) ∙ h

pub well_sorted-is : (e : Sorting) (t : Term) → sorted_term (over_vars e (borne_sort t)) t ≡ true → IsWellSorted e t
well_sorted-is e t h = (borne_sort t, h)

pub not_well_sorted : (e : Sorting) (t : Term) → sorted_term (over_vars e (borne_sort t)) t ≡ false → IsWellSorted e t → ⊥
not_well_sorted e t h k = let q = borne-sorted e k.0 t k.1 in true≢false (sym q ∙ h)
