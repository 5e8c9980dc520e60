-- What the sorting of a term depends on.
use Rattle.std.proofs.Common.{◌≡◌, ℕ, eqb, ◌&&◌, List, [], ◌∷◌, Option, refl, ap}
use Rattle.soqe_term.specs.declared.term.Sym.{Sym}
use Rattle.soqe_term.specs.declared.term.Sym.TheVariants.{Fun, Skolem}
use Rattle.soqe_term.specs.declared.term.Term.{Term, Var as var, App}
use Rattle.soqe_term.specs.declared.term.Terms.{Terms, Nil, Cons', end_of-Term as end, more_of-Term as one, end_of-Terms as ends, more_of-Terms as ones}
use Rattle.soqe_term.specs.Occurs.{occurs, occurs_any, AgreeOn}
use Rattle.soqe_term.specs.Sorting.{Sorting, sym_sort, is_sort, with_fun, own_sort, sorted_term, sorted_terms}
use Rattle.soqe_term.proofs.Worlds.{agree-left, agree-right, eqb-self}

-- the same names with other variables and bound predicates
abbrev pub known : Sorting → (ℕ → Option ℕ) → (ℕ → Option (List ℕ)) → Sorting
known e v b = record e { variable = v; bound = b }

module _ (e : Sorting) where
  sym-same : (v u : ℕ → Option ℕ) (b c : ℕ → Option (List ℕ)) (f : Sym) → sym_sort (known e v b) f ≡ sym_sort (known e u c) f
  sym-same v u b c (Fun n) = refl
  sym-same v u b c (Skolem n) = refl

  mutual
    pub sorted_term-agree : (v u : ℕ → Option ℕ) (b c : ℕ → Option (List ℕ)) (t : Term) → AgreeOn (λ n. occurs n t) v u → sorted_term (known e v b) t ≡ sorted_term (known e u c) t
    sorted_term-agree v u b c (var x) h = ap (is_sort x.sort) (h x.num (eqb-self x.num))
    sorted_term-agree v u b c (App f s ts) h = λ i. with_fun (λ sorts. sorted_terms-agree v u b c ts sorts h i) s (sym-same v u b c f i)

    pub sorted_terms-agree : (v u : ℕ → Option ℕ) (b c : ℕ → Option (List ℕ)) (ts : Terms) (sorts : List ℕ) → AgreeOn (λ n. occurs_any n ts) v u → sorted_terms (known e v b) ts sorts ≡ sorted_terms (known e u c) ts sorts
    sorted_terms-agree v u b c Nil [] h = refl
    sorted_terms-agree v u b c Nil (s ∷ sorts) h = refl
    sorted_terms-agree v u b c (Cons' _ (one t end) _ (ones ts ends)) [] h = refl
    sorted_terms-agree v u b c (Cons' _ (one t end) _ (ones ts ends)) (s ∷ sorts) h =
        λ i. sorted_term-agree v u b c t (agree-left (λ n. occurs n t) (λ n. occurs_any n ts) v u h) i && (eqb (own_sort t) s && sorted_terms-agree v u b c ts sorts (agree-right (λ n. occurs n t) (λ n. occurs_any n ts) v u h) i)
