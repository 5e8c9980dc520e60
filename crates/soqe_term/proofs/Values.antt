-- Values of well-sorted terms stay in range, and worlds that match give the same values.
use Rattle.std.proofs.Common.{◌≡◌, ℕ, ◌<◌, Bool, true, false, cond, eqb, ◌&&◌, map, List, [], ◌∷◌, Option, Some, None, refl, sym, ◌∙◌, ap, subst}
use Rattle.std.proofs.lemmas.Bool.{eqb-true}
use Rattle.soqe_term.specs.declared.term.Sym.{Sym}
use Rattle.soqe_term.specs.declared.term.Sym.TheVariants.{Fun, Skolem}
use Rattle.soqe_term.specs.declared.term.Term.{Term, Var as var, App}
use Rattle.soqe_term.specs.declared.term.Terms.{Terms, Nil, Cons', end_of-Term as end, more_of-Term as one, end_of-Terms as ends, more_of-Terms as ones}
use Rattle.soqe_term.specs.World.{World, with_var, with_bound}
use Rattle.soqe_term.specs.Value.{value, values, apply}
use Rattle.soqe_number.specs.Ranges.{InRange}
use Rattle.soqe_term.specs.Sorting.{FunSort, Sorting, over_var, over_bound, sym_sort, is_sort, with_sorts, with_fun, own_sort, sorted_term, sorted_terms}
use Rattle.soqe_term.specs.Fits.{StaysIn, Fits, EqualIn, Matches}
use Rattle.soqe_number.proofs.Choices.{and_first, and_second}

pub is-sort : (s : ℕ) (o : Option ℕ) → is_sort s o ≡ true → o ≡ Some s
is-sort s None h = let h : false ≡ true = h in cc
is-sort s (Some r) h = ap Some (sym (eqb-true s r h))

-- the sorts that a test passes
pub record SortsOf (p : List ℕ → Bool) (o : Option (List ℕ)) : Type 0 where
  pub sorts : List ℕ
  pub is : o ≡ Some sorts
  pub pass : p sorts ≡ true

pub sorts-of : (p : List ℕ → Bool) (o : Option (List ℕ)) → with_sorts p o ≡ true → SortsOf p o
sorts-of p None h = let h : false ≡ true = h in cc
sorts-of p (Some sorts) h = record { sorts = sorts; is = refl; pass = h }

-- the sorts of a known function with values of the sort s
pub record FunOf (p : List ℕ → Bool) (s : ℕ) (o : Option FunSort) : Type 0 where
  pub kind : FunSort
  pub is : o ≡ Some kind
  pub result : s ≡ kind.result
  pub pass : p kind.args ≡ true

pub fun-of : (p : List ℕ → Bool) (s : ℕ) (o : Option FunSort) → with_fun p s o ≡ true → FunOf p s o
fun-of p s None h = let h : false ≡ true = h in cc
fun-of p s (Some k) h = record { kind = k; is = refl; result = eqb-true s k.result (and_first (eqb s k.result) (p k.args) h); pass = and_second (eqb s k.result) (p k.args) h }

pub stays : (w : World) (e : Sorting) (f : Sym) (k : FunSort) → Fits w e → sym_sort e f ≡ Some k → StaysIn w k (apply w f)
stays w e (Fun n) k h q = h.fun n k q
stays w e (Skolem n) k h q = h.skolem n k q

pub equal_apply : (w v : World) (e : Sorting) (f : Sym) (k : FunSort) → Matches e w v → sym_sort e f ≡ Some k → EqualIn w k.args (apply w f) (apply v f)
equal_apply w v e (Fun n) k h q = h.fun n k q
equal_apply w v e (Skolem n) k h q = h.skolem n k q

mutual
  pub value-below : (w : World) (e : Sorting) (t : Term) → Fits w e → sorted_term e t ≡ true → value w t < w.size (own_sort t)
  value-below w e (var x) h o = h.element x.num x.sort (is-sort x.sort (e.variable x.num) o)
  value-below w e (App f s ts) h o =
      let k = fun-of (λ sorts. sorted_terms e ts sorts) s (sym_sort e f) o in
      subst (λ r. apply w f (values w ts) < w.size r) (sym k.result) (stays w e f k.kind h k.is (values w ts) (values-in w e ts k.kind.args h k.pass))

  pub values-in : (w : World) (e : Sorting) (ts : Terms) (sorts : List ℕ) → Fits w e → sorted_terms e ts sorts ≡ true → InRange (map w.size sorts) (values w ts)
  values-in w e Nil [] h o = tt
  values-in w e Nil (s ∷ sorts) h o = let o : false ≡ true = o in cc
  values-in w e (Cons' _ (one t end) _ (ones ts ends)) [] h o = let o : false ≡ true = o in cc
  values-in w e (Cons' _ (one t end) _ (ones ts ends)) (s ∷ sorts) h o =
      let rest : (eqb (own_sort t) s && sorted_terms e ts sorts) ≡ true = and_second (sorted_term e t) (eqb (own_sort t) s && sorted_terms e ts sorts) o in (
        subst (λ r. value w t < w.size r) (eqb-true (own_sort t) s (and_first (eqb (own_sort t) s) (sorted_terms e ts sorts) rest)) (value-below w e t h (and_first (sorted_term e t) (eqb (own_sort t) s && sorted_terms e ts sorts) o)),
        values-in w e ts sorts h (and_second (eqb (own_sort t) s) (sorted_terms e ts sorts) rest),
      )

mutual
  pub value-match : (w v : World) (e : Sorting) (t : Term) → Fits w e → Matches e w v → sorted_term e t ≡ true → value w t ≡ value v t
  value-match w v e (var x) h m o = m.element x.num x.sort (is-sort x.sort (e.variable x.num) o)
  value-match w v e (App f s ts) h m o =
      let k = fun-of (λ sorts. sorted_terms e ts sorts) s (sym_sort e f) o in
      equal_apply w v e f k.kind m k.is (values w ts) (values-in w e ts k.kind.args h k.pass) ∙ ap (apply v f) (values-match w v e ts k.kind.args h m k.pass)

  pub values-match : (w v : World) (e : Sorting) (ts : Terms) (sorts : List ℕ) → Fits w e → Matches e w v → sorted_terms e ts sorts ≡ true → values w ts ≡ values v ts
  values-match w v e Nil [] h m o = refl
  values-match w v e Nil (s ∷ sorts) h m o = refl
  values-match w v e (Cons' _ (one t end) _ (ones ts ends)) [] h m o = let o : false ≡ true = o in cc
  values-match w v e (Cons' _ (one t end) _ (ones ts ends)) (s ∷ sorts) h m o =
      λ i. value-match w v e t h m (and_first (sorted_term e t) (eqb (own_sort t) s && sorted_terms e ts sorts) o) i
      ∷ values-match w v e ts sorts h m (and_second (eqb (own_sort t) s) (sorted_terms e ts sorts) (and_second (sorted_term e t) (eqb (own_sort t) s && sorted_terms e ts sorts) o)) i

below_choice : (size : ℕ → ℕ) (b : Bool) (a d r s : ℕ) (o : Option ℕ) → a < size r → (o ≡ Some s → d < size s) → cond b (Some r) o ≡ Some s → cond b a d < size s
below_choice size true a d r s o l h q = let e : r ≡ s = cc in subst (λ r. a < size r) e l
below_choice size false a d r s o l h q = h q

equal_choice : {A B : Type 0} (b : Bool) (a d c : A) (o q r : B) → cond b o q ≡ r → (q ≡ r → d ≡ c) → cond b a d ≡ cond b a c
equal_choice true a d c o q r h k = refl
equal_choice false a d c o q r h k = k h

equal_table : {B : Type 0} (b : Bool) (t f g : List ℕ → Bool) (args : List ℕ) (o q r : B) → cond b o q ≡ r → (q ≡ r → f args ≡ g args) → cond b t f args ≡ cond b t g args
equal_table true t f g args o q r h k = refl
equal_table false t f g args o q r h k = k h

pub fits-var : (w : World) (e : Sorting) (x s a : ℕ) → a < w.size s → Fits w e → Fits (with_var w x a) (over_var e x s)
fits-var w e x s a l h = record {
  size = h.size;
  fun = h.fun;
  skolem = h.skolem;
  element = λ n r q. below_choice w.size (eqb n x) a (w.element n) s r (e.variable n) l (h.element n r) q;
}

pub fits-bound : (w : World) (e : Sorting) (p : ℕ) (sorts : List ℕ) (t : List ℕ → Bool) → Fits w e → Fits (with_bound w p t) (over_bound e p sorts)
fits-bound w e p sorts t h = record { size = h.size; fun = h.fun; skolem = h.skolem; element = h.element }

pub matches-var : (w v : World) (e : Sorting) (x s a : ℕ) → Matches e w v → Matches (over_var e x s) (with_var w x a) (with_var v x a)
matches-var w v e x s a m = record {
  size = m.size;
  fun = m.fun;
  skolem = m.skolem;
  declared = m.declared;
  bound = m.bound;
  element = λ n r q. equal_choice (eqb n x) a (w.element n) (v.element n) (Some s) (e.variable n) (Some r) q (m.element n r);
}

pub matches-bound : (w v : World) (e : Sorting) (p : ℕ) (sorts : List ℕ) (t : List ℕ → Bool) → Matches e w v → Matches (over_bound e p sorts) (with_bound w p t) (with_bound v p t)
matches-bound w v e p sorts t m = record {
  size = m.size;
  fun = m.fun;
  skolem = m.skolem;
  declared = m.declared;
  bound = λ n r q args l. equal_table (eqb n p) t (w.bound n) (v.bound n) args (Some sorts) (e.bound n) (Some r) q (λ q. m.bound n r q args l);
  element = m.element;
}
