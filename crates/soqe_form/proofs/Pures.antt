-- A well-sorted formula uses known names alone. So where no bound predicate and no Skolem function is known, a formula
-- without quantified predicates is of first order, and its free variables are known.
use Rattle.std.proofs.Common.{◌≡◌, ℕ, Bool, true, false, cond, eqb, ◌||◌, ◌&&◌, List, [], ◌∷◌, Option, Some, None, refl, sym, ◌∙◌, ap, ⊎_elim}
use Rattle.std.specs.Option.{is_some}
use Rattle.std.proofs.lemmas.Bool.{eqb-true, and_parts, and_from, or_parts, or_cases}
use Rattle.soqe_term.specs.declared.term.Sym.{Sym}
use Rattle.soqe_term.specs.declared.term.Sym.TheVariants.{Fun, Skolem}
use Rattle.soqe_term.specs.declared.term.Term.{Term, Var as var, App}
use Rattle.soqe_term.specs.declared.term.Terms.{Terms, Nil, Cons', end_of-Term as end-t, more_of-Term as one-t, end_of-Terms as ends-t, more_of-Terms as ones-t}
use Rattle.soqe_term.specs.Occurs.{occurs, occurs_any}
use Rattle.soqe_term.specs.Sorting.{FunSort, Sorting, over_var, over_bound, sym_sort, is_sort, with_sorts, with_fun, own_sort, sorted_term, sorted_terms}
use Rattle.soqe_form.specs.declared.form.Pred.{Pred}
use Rattle.soqe_form.specs.declared.form.Pred.TheVariants.{Decl, Bound}
use Rattle.soqe_form.specs.declared.form.Form.{Form, True, False, Equal, Atom, Not', And', Or', Imp', Iff', All', Ex', All2', Ex2', end_of-Form as end, more_of-Form as one}
use Rattle.soqe_form.specs.Free.{free}
use Rattle.soqe_form.specs.Sorted.{pred_sorts, sorted}
use Rattle.soqe_form.specs.Places.{has_blocks}
use Rattle.soqe_form.specs.Pure.{IsBare, is_declared_sym, pure_term, pure_terms, is_declared_pred, is_first_order}

no : {A : Type 0} → false ≡ true → A
no e = cc

known-fun : (p : List ℕ → Bool) (s : ℕ) (k : Option FunSort) → k ≡ None → with_fun p s k ≡ true → ⊥
known-fun p s None n h = no h
known-fun p s (Some k) n h = cc

known-pred : (p : List ℕ → Bool) (k : Option (List ℕ)) → k ≡ None → with_sorts p k ≡ true → ⊥
known-pred p None n h = no h
known-pred p (Some k) n h = cc

of-fun : (p : List ℕ → Bool) (s : ℕ) (k : Option FunSort) (P : Type 0) → with_fun p s k ≡ true → ((sorts : List ℕ) → p sorts ≡ true → P) → P
of-fun p s None P h q = no h
of-fun p s (Some k) P h q = let r = and_parts (eqb s k.result) (p k.args) h in q k.args r.1

of-pred : (p : List ℕ → Bool) (k : Option (List ℕ)) (P : Type 0) → with_sorts p k ≡ true → ((sorts : List ℕ) → p sorts ≡ true → P) → P
of-pred p None P h q = no h
of-pred p (Some k) P h q = q k h

declared-sym : (e : Sorting) (f : Sym) (p : List ℕ → Bool) (s : ℕ) → IsBare e → with_fun p s (sym_sort e f) ≡ true → is_declared_sym f ≡ true
declared-sym e (Fun n) p s b h = refl
declared-sym e (Skolem n) p s b h = absurd (known-fun p s (e.skolem n) (b.skolem n) h)

declared-pred : (e : Sorting) (q : Pred) (p : List ℕ → Bool) → IsBare e → with_sorts p (pred_sorts e q) ≡ true → is_declared_pred q ≡ true
declared-pred e (Decl n) p b h = refl
declared-pred e (Bound n) p b h = absurd (known-pred p (e.bound n) (b.bound n) h)

mutual
  pure-term : (e : Sorting) (t : Term) → IsBare e → sorted_term e t ≡ true → pure_term t ≡ true
  pure-term e (var x) b h = refl
  pure-term e (App f s ts) b h =
      and_from (is_declared_sym f) (pure_terms ts) (declared-sym e f (λ sorts. sorted_terms e ts sorts) s b h)
      (of-fun (λ sorts. sorted_terms e ts sorts) s (sym_sort e f) (pure_terms ts ≡ true) h (λ sorts k. pure-terms e ts sorts b k))

  pure-terms : (e : Sorting) (ts : Terms) (sorts : List ℕ) → IsBare e → sorted_terms e ts sorts ≡ true → pure_terms ts ≡ true
  pure-terms e Nil sorts b h = refl
  pure-terms e (Cons' _ (one-t t end-t) _ (ones-t ts ends-t)) [] b h = no h
  pure-terms e (Cons' _ (one-t t end-t) _ (ones-t ts ends-t)) (s ∷ sorts) b h =
      let r = and_parts (sorted_term e t) (eqb (own_sort t) s && sorted_terms e ts sorts) h in
      let q = and_parts (eqb (own_sort t) s) (sorted_terms e ts sorts) r.1 in
      and_from (pure_term t) (pure_terms ts) (pure-term e t b r.0) (pure-terms e ts sorts b q.1)

both-first : (e : Sorting) (f g : Form) → ((e : Sorting) → IsBare e → sorted e f ≡ true → has_blocks f ≡ false → is_first_order f ≡ true)
    → ((e : Sorting) → IsBare e → sorted e g ≡ true → has_blocks g ≡ false → is_first_order g ≡ true)
    → IsBare e → (sorted e f && sorted e g) ≡ true → (has_blocks f || has_blocks g) ≡ false → (is_first_order f && is_first_order g) ≡ true
both-first e f g p q b h n =
    let r = and_parts (sorted e f) (sorted e g) h in
    let m = or_parts (has_blocks f) (has_blocks g) n in
    and_from (is_first_order f) (is_first_order g) (p e b r.0 m.0) (q e b r.1 m.1)

bare-var : (e : Sorting) (x s : ℕ) → IsBare e → IsBare (over_var e x s)
bare-var e x s b = record { skolem = b.skolem; bound = b.bound }

pub first-order : (f : Form) (e : Sorting) → IsBare e → sorted e f ≡ true → has_blocks f ≡ false → is_first_order f ≡ true
first-order True e b h n = refl
first-order False e b h n = refl
first-order (Equal s t) e b h n =
    let r = and_parts (sorted_term e s) (sorted_term e t && eqb (own_sort s) (own_sort t)) h in
    let q = and_parts (sorted_term e t) (eqb (own_sort s) (own_sort t)) r.1 in
    and_from (pure_term s) (pure_term t) (pure-term e s b r.0) (pure-term e t b q.0)
first-order (Atom p ts) e b h n =
    and_from (is_declared_pred p) (pure_terms ts) (declared-pred e p (λ sorts. sorted_terms e ts sorts) b h)
    (of-pred (λ sorts. sorted_terms e ts sorts) (pred_sorts e p) (pure_terms ts ≡ true) h (λ sorts k. pure-terms e ts sorts b k))
first-order (Not' _ (one f end)) e b h n = first-order f e b h n
first-order (And' _ (one f end) _ (one g end)) e b h n = both-first e f g (first-order f) (first-order g) b h n
first-order (Or' _ (one f end) _ (one g end)) e b h n = both-first e f g (first-order f) (first-order g) b h n
first-order (Imp' _ (one f end) _ (one g end)) e b h n = both-first e f g (first-order f) (first-order g) b h n
first-order (Iff' _ (one f end) _ (one g end)) e b h n = both-first e f g (first-order f) (first-order g) b h n
first-order (All' x _ (one f end)) e b h n = first-order f (over_var e x.num x.sort) (bare-var e x.num x.sort b) h n
first-order (Ex' x _ (one f end)) e b h n = first-order f (over_var e x.num x.sort) (bare-var e x.num x.sort b) h n
first-order (All2' p _ (one f end)) e b h n = no (sym n)
first-order (Ex2' p _ (one f end)) e b h n = no (sym n)

known-var : (s : ℕ) (o : Option ℕ) → is_sort s o ≡ true → is_some o ≡ true
known-var s None h = no h
known-var s (Some r) h = refl

mutual
  known-term : (n : ℕ) (e : Sorting) (t : Term) → sorted_term e t ≡ true → occurs n t ≡ true → is_some (e.variable n) ≡ true
  known-term n e (var x) h o = ap (λ m. is_some (e.variable m)) (eqb-true n x.num o) ∙ known-var x.sort (e.variable x.num) h
  known-term n e (App f s ts) h o =
      of-fun (λ sorts. sorted_terms e ts sorts) s (sym_sort e f) (is_some (e.variable n) ≡ true) h (λ sorts k. known-terms n e ts sorts k o)

  known-terms : (n : ℕ) (e : Sorting) (ts : Terms) (sorts : List ℕ) → sorted_terms e ts sorts ≡ true → occurs_any n ts ≡ true → is_some (e.variable n) ≡ true
  known-terms n e Nil sorts h o = no o
  known-terms n e (Cons' _ (one-t t end-t) _ (ones-t ts ends-t)) [] h o = no h
  known-terms n e (Cons' _ (one-t t end-t) _ (ones-t ts ends-t)) (s ∷ sorts) h o =
      let r = and_parts (sorted_term e t) (eqb (own_sort t) s && sorted_terms e ts sorts) h in
      let q = and_parts (eqb (own_sort t) s) (sorted_terms e ts sorts) r.1 in
      ⊎_elim (λ a. known-term n e t r.0 a) (λ a. known-terms n e ts sorts q.1 a) (or_cases (occurs n t) (occurs_any n ts) o)

abbrev Knows : ℕ → Form → Type 0
Knows n f = (e : Sorting) → sorted e f ≡ true → free n f ≡ true → is_some (e.variable n) ≡ true

both-known : (n : ℕ) (f g : Form) → Knows n f → Knows n g → (e : Sorting) → (sorted e f && sorted e g) ≡ true → (free n f || free n g) ≡ true → is_some (e.variable n) ≡ true
both-known n f g p q e h o =
    let r = and_parts (sorted e f) (sorted e g) h in
    ⊎_elim (λ a. p e r.0 a) (λ a. q e r.1 a) (or_cases (free n f) (free n g) o)

under : (b c : Bool) (s : ℕ) (o : Option ℕ) → cond b false c ≡ true → (c ≡ true → is_some (cond b (Some s) o) ≡ true) → is_some o ≡ true
under true c s o h k = no h
under false c s o h k = k h

pub free-known : (n : ℕ) (f : Form) → Knows n f
free-known n True e h o = no o
free-known n False e h o = no o
free-known n (Equal s t) e h o =
    let r = and_parts (sorted_term e s) (sorted_term e t && eqb (own_sort s) (own_sort t)) h in
    let q = and_parts (sorted_term e t) (eqb (own_sort s) (own_sort t)) r.1 in
    ⊎_elim (λ a. known-term n e s r.0 a) (λ a. known-term n e t q.0 a) (or_cases (occurs n s) (occurs n t) o)
free-known n (Atom p ts) e h o =
    of-pred (λ sorts. sorted_terms e ts sorts) (pred_sorts e p) (is_some (e.variable n) ≡ true) h (λ sorts k. known-terms n e ts sorts k o)
free-known n (Not' _ (one f end)) e h o = free-known n f e h o
free-known n (And' _ (one f end) _ (one g end)) e h o = both-known n f g (free-known n f) (free-known n g) e h o
free-known n (Or' _ (one f end) _ (one g end)) e h o = both-known n f g (free-known n f) (free-known n g) e h o
free-known n (Imp' _ (one f end) _ (one g end)) e h o = both-known n f g (free-known n f) (free-known n g) e h o
free-known n (Iff' _ (one f end) _ (one g end)) e h o = both-known n f g (free-known n f) (free-known n g) e h o
free-known n (All' x _ (one f end)) e h o = under (eqb n x.num) (free n f) x.sort (e.variable n) o (λ a. free-known n f (over_var e x.num x.sort) h a)
free-known n (Ex' x _ (one f end)) e h o = under (eqb n x.num) (free n f) x.sort (e.variable n) o (λ a. free-known n f (over_var e x.num x.sort) h a)
free-known n (All2' p _ (one f end)) e h o = free-known n f (over_bound e p.num p.args) h o
free-known n (Ex2' p _ (one f end)) e h o = free-known n f (over_bound e p.num p.args) h o
