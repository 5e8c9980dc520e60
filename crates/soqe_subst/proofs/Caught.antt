-- What a substitution puts into a formula, and which of its binders catch it.
use Rattle.std.proofs.Common.{◌≡◌, ℕ, zero, suc, ◌+◌, Bool, true, false, cond, eqb, not, ◌||◌, ◌&&◌, List, [], ◌∷◌, ◌++◌, map, Option, Some, refl, sym, ◌∙◌, ap, arith}
use Rattle.std.specs.List.{list_any, AllByRecursion}
use Rattle.std.proofs.lemmas.Bool.{eqb-true, or_left, or_right}
use Rattle.std.proofs.lemmas.List.{map-append}
use Rattle.std.proofs.lemmas.Map.Keys.{IsDistinct-head, IsDistinct-tail, IsDistinct-cons}
use Rattle.soqe_term.specs.declared.bindings.Bound.{Bound}
use Rattle.soqe_term.specs.declared.term.Var.{Var}
use Rattle.soqe_term.specs.declared.term.Term.{Term, Var as var, App}
use Rattle.soqe_term.specs.declared.term.Terms.{Terms, Nil, Cons', end_of-Term as end-t, more_of-Term as one-t, end_of-Terms as ends-t, more_of-Terms as ones-t}
use Rattle.soqe_term.specs.Bindings.{bound_term, HasDistinctVars}
use Rattle.soqe_term.specs.Occurs.{occurs, occurs_any}
use Rattle.soqe_number.proofs.Choices.{by_cases}
use Rattle.soqe_number.proofs.Equalities.{eqb_sym}
use Rattle.soqe_form.specs.declared.form.Form.{Form, True, False, Equal, Atom, Not', And', Or', Imp', Iff', All', Ex', All2', Ex2', end_of-Form as end, more_of-Form as one}
use Rattle.soqe_number.specs.Counts.{times}
use Rattle.soqe_form.specs.Free.{free}
use Rattle.soqe_form.specs.FreeVars.{occurrences, all_occurrences}
use Rattle.soqe_number.proofs.Counted.{times-append, not_zero}
use Rattle.soqe_uses.specs.Numbers.{numbers}
use Rattle.soqe_uses.specs.Uses.{top, under, below}
use Rattle.soqe_subst.specs.Standing.{term_numbers, terms_numbers}
use Rattle.soqe_subst.specs.Substitution.{visible, without, caught, catches}
use Rattle.soqe_subst.specs.Catching.{put_by, put_in_term, put_in_terms, put_in}

-- ---- numbers that stand in terms

-- a sum is not zero where one of its parts is not
pub sum_not_zero : (a b : ℕ) → not (eqb (a + b) 0) ≡ (not (eqb a 0) || not (eqb b 0))
sum_not_zero zero b = let sum : 0 + b ≡ b = omega arith in ap (λ n. not (eqb n 0)) sum
sum_not_zero (suc a) b = not_zero (suc a + b) (λ e. omega (arith, e)) ∙ ap (λ c. c || not (eqb b 0)) (sym (not_zero (suc a) (λ e. omega (arith, e))))

either : (p q : Bool) (a b c : ℕ) → c ≡ a + b → p ≡ not (eqb a 0) → q ≡ not (eqb b 0) → (p || q) ≡ not (eqb c 0)
either p q a b c e h k = (λ i. h i || k i) ∙ sym (ap (λ n. not (eqb n 0)) e ∙ sum_not_zero a b)

one_time : (b : Bool) → b ≡ not (eqb (cond b 1 0 + 0) 0)
one_time true = refl
one_time false = refl

mutual
  -- a number occurs in a term where it stands there more often than never
  pub occurs-times : (n : ℕ) (t : Term) → occurs n t ≡ not (eqb (times n (term_numbers t)) 0)
  occurs-times n (var x) = one_time (eqb n x.num)
  occurs-times n (App f s ts) = occurs_any-times n ts

  -- and in terms
  pub occurs_any-times : (n : ℕ) (ts : Terms) → occurs_any n ts ≡ not (eqb (times n (terms_numbers ts)) 0)
  occurs_any-times n Nil = refl
  occurs_any-times n (Cons' _ (one-t t end-t) _ (ones-t ts ends-t)) =
      either (occurs n t) (occurs_any n ts) (times n (term_numbers t)) (times n (terms_numbers ts)) (times n (numbers (occurrences t ++ all_occurrences ts)))
      (ap (times n) (map-append (λ (y : Var). y.num) (occurrences t) (all_occurrences ts)) ∙ times-append n (term_numbers t) (terms_numbers ts))
      (occurs-times n t) (occurs_any-times n ts)

-- ---- bindings of which no variable is bound twice

apart-visible : (h : ℕ → Bool) (x : ℕ) (s : List Bound) → AllByRecursion (λ y. eqb x y ≡ false) (map (λ b. b.var.num) s) → AllByRecursion (λ y. eqb x y ≡ false) (map (λ b. b.var.num) (visible h s))
apart-visible h x [] a = a
apart-visible h x (b ∷ more) a =
    by_cases (λ s. AllByRecursion (λ y. eqb x y ≡ false) (map (λ b. b.var.num) s)) (h b.var.num) (visible h more) (b ∷ visible h more)
    (λ e. apart-visible h x more a.1) (λ e. (a.0, apart-visible h x more a.1))

-- nor is one in the part that is seen
pub distinct-visible : (h : ℕ → Bool) (s : List Bound) → HasDistinctVars s → HasDistinctVars (visible h s)
distinct-visible h [] d = d
distinct-visible h (b ∷ more) d =
    let names : List ℕ = map (λ b. b.var.num) more in
    let rest : HasDistinctVars (visible h more) = distinct-visible h more (IsDistinct-tail eqb b.var.num names d) in
    by_cases HasDistinctVars (h b.var.num) (visible h more) (b ∷ visible h more) (λ e. rest)
    (λ e. IsDistinct-cons eqb b.var.num (map (λ b. b.var.num) (visible h more)) (apart-visible h b.var.num more (IsDistinct-head eqb b.var.num names d)) rest)

-- ---- what is caught

caught-nothing : (n : ℕ) (s : List Bound) → caught n (λ m. false) s ≡ false
caught-nothing n [] = refl
caught-nothing n (b ∷ more) = caught-nothing n more

split : (p q o c d : Bool) → (((p || q) && o) || (c || d)) ≡ (((p && o) || c) || ((q && o) || d))
split true true true c d = refl
split true false true c d = refl
split false true true true d = refl
split false true true false d = refl
split false false true c d = refl
split true true false c d = refl
split true false false c d = refl
split false true false c d = refl
split false false false c d = refl

caught-either : (n : ℕ) (p q : ℕ → Bool) (s : List Bound) → caught n (λ m. p m || q m) s ≡ (caught n p s || caught n q s)
caught-either n p q [] = refl
caught-either n p q (b ∷ more) =
    ap (λ c. ((p b.var.num || q b.var.num) && occurs n b.term) || c) (caught-either n p q more)
    ∙ split (p b.var.num) (q b.var.num) (occurs n b.term) (caught n p more) (caught n q more)

hidden_step : (q c : Bool) (n : ℕ) (p : ℕ → Bool) (b : Bound) (v : List Bound) → c ≡ caught n p v → ((cond q false (p b.var.num) && occurs n b.term) || c) ≡ caught n p (cond q v (b ∷ v))
hidden_step true c n p b v h = h
hidden_step false c n p b v h = ap (λ d. (p b.var.num && occurs n b.term) || d) h

-- below a binder of x, the binding of x does not matter
pub caught-without : (n x : ℕ) (p : ℕ → Bool) (s : List Bound) → caught n (λ m. cond (eqb m x) false (p m)) s ≡ caught n p (without x s)
caught-without n x p [] = refl
caught-without n x p (b ∷ more) =
    hidden_step (eqb b.var.num x) (caught n (λ m. cond (eqb m x) false (p m)) more) n p b (without x more) (caught-without n x p more)

caught-apart : (n x : ℕ) (s : List Bound) → AllByRecursion (λ y. eqb x y ≡ false) (map (λ b. b.var.num) s) → caught n (λ m. eqb m x) s ≡ false
caught-apart n x [] a = refl
caught-apart n x (b ∷ more) a = λ i. ((eqb_sym b.var.num x ∙ a.0) i && occurs n b.term) || caught-apart n x more a.1 i

here_or_there : (q c : Bool) (n : ℕ) (t : Term) (o : Option Term) → (q ≡ true → c ≡ false) → c ≡ not (eqb (put_by n o) 0)
    → ((q && occurs n t) || c) ≡ not (eqb (put_by n (cond q (Some t) o)) 0)
here_or_there true c n t o h k = ap (λ d. occurs n t || d) (h refl) ∙ or_no (occurs n t) ∙ occurs-times n t
  where
    or_no : (b : Bool) → (b || false) ≡ b
    or_no true = refl
    or_no false = refl
here_or_there false c n t o h k = k

caught-var : (n x : ℕ) (s : List Bound) → HasDistinctVars s → caught n (λ m. eqb m x) s ≡ not (eqb (put_by n (bound_term s x)) 0)
caught-var n x [] d = refl
caught-var n x (b ∷ more) d =
    let names : List ℕ = map (λ b. b.var.num) more in
    ap (λ q. (q && occurs n b.term) || caught n (λ m. eqb m x) more) (eqb_sym b.var.num x)
    ∙ here_or_there (eqb x b.var.num) (caught n (λ m. eqb m x) more) n b.term (bound_term more x)
    (λ e. ap (λ x. caught n (λ m. eqb m x) more) (eqb-true x b.var.num e) ∙ caught-apart n b.var.num more (IsDistinct-head eqb b.var.num names d))
    (caught-var n x more (IsDistinct-tail eqb b.var.num names d))

caught-both : (n : ℕ) (s : List Bound) (p q : ℕ → Bool) (a b : ℕ) → caught n p s ≡ not (eqb a 0) → caught n q s ≡ not (eqb b 0) → caught n (λ m. p m || q m) s ≡ not (eqb (a + b) 0)
caught-both n s p q a b h k = caught-either n p q s ∙ either (caught n p s) (caught n q s) a b (a + b) refl h k

mutual
  caught-term : (s : List Bound) (n : ℕ) (t : Term) → HasDistinctVars s → caught n (λ m. occurs m t) s ≡ not (eqb (put_in_term s n t) 0)
  caught-term s n (var x) d = caught-var n x.num s d
  caught-term s n (App f o ts) d = caught-terms s n ts d

  caught-terms : (s : List Bound) (n : ℕ) (ts : Terms) → HasDistinctVars s → caught n (λ m. occurs_any m ts) s ≡ not (eqb (put_in_terms s n ts) 0)
  caught-terms s n Nil d = caught-nothing n s
  caught-terms s n (Cons' _ (one-t t end-t) _ (ones-t ts ends-t)) d =
      caught-both n s (λ m. occurs m t) (λ m. occurs_any m ts) (put_in_term s n t) (put_in_terms s n ts) (caught-term s n t d) (caught-terms s n ts d)

-- a binder of y catches a variable where y is put into its body
pub caught-put : (s : List Bound) (y : Var) (f : Form) → HasDistinctVars s → catches s y f ≡ not (eqb (put_in s y.num f) 0)
caught-put s y True d = caught-nothing y.num s
caught-put s y False d = caught-nothing y.num s
caught-put s y (Equal t u) d = caught-both y.num s (λ m. occurs m t) (λ m. occurs m u) (put_in_term s y.num t) (put_in_term s y.num u) (caught-term s y.num t d) (caught-term s y.num u d)
caught-put s y (Atom p ts) d = caught-terms s y.num ts d
caught-put s y (Not' _ (one f end)) d = caught-put s y f d
caught-put s y (And' _ (one f end) _ (one g end)) d = caught-both y.num s (λ m. free m f) (λ m. free m g) (put_in s y.num f) (put_in s y.num g) (caught-put s y f d) (caught-put s y g d)
caught-put s y (Or' _ (one f end) _ (one g end)) d = caught-both y.num s (λ m. free m f) (λ m. free m g) (put_in s y.num f) (put_in s y.num g) (caught-put s y f d) (caught-put s y g d)
caught-put s y (Imp' _ (one f end) _ (one g end)) d = caught-both y.num s (λ m. free m f) (λ m. free m g) (put_in s y.num f) (put_in s y.num g) (caught-put s y f d) (caught-put s y g d)
caught-put s y (Iff' _ (one f end) _ (one g end)) d = caught-both y.num s (λ m. free m f) (λ m. free m g) (put_in s y.num f) (put_in s y.num g) (caught-put s y f d) (caught-put s y g d)
caught-put s y (All' x _ (one f end)) d = caught-without y.num x.num (λ m. free m f) s ∙ caught-put (without x.num s) y f (distinct-visible (λ n. eqb n x.num) s d)
caught-put s y (Ex' x _ (one f end)) d = caught-without y.num x.num (λ m. free m f) s ∙ caught-put (without x.num s) y f (distinct-visible (λ n. eqb n x.num) s d)
caught-put s y (All2' p _ (one f end)) d = caught-put s y f d
caught-put s y (Ex2' p _ (one f end)) d = caught-put s y f d

-- ---- whether some binder catches a variable

-- what holds somewhere below the topmost item holds somewhere
pub any-under : (bs : List Bool) → list_any (λ b. b) (under bs) ≡ true → list_any (λ b. b) bs ≡ true
any-under [] h = h
any-under (b ∷ bs) h = or_right b (list_any (λ b. b) bs) h

-- and so does what holds on top
pub any-top : (bs : List Bool) → top false bs ≡ true → list_any (λ b. b) bs ≡ true
any-top [] h = h
any-top (b ∷ bs) h = or_left b (list_any (λ b. b) bs) h

-- and what holds below the items of a formula
pub any-below : (f : Form) (bs : List Bool) → list_any (λ b. b) (below f bs) ≡ true → list_any (λ b. b) bs ≡ true
any-below True bs h = h
any-below False bs h = h
any-below (Equal s t) bs h = h
any-below (Atom p ts) bs h = h
any-below (Not' _ (one f end)) bs h = any-below f bs h
any-below (And' _ (one f end) _ (one g end)) bs h = any-below g bs (any-below f (below g bs) h)
any-below (Or' _ (one f end) _ (one g end)) bs h = any-below g bs (any-below f (below g bs) h)
any-below (Imp' _ (one f end) _ (one g end)) bs h = any-below g bs (any-below f (below g bs) h)
any-below (Iff' _ (one f end) _ (one g end)) bs h = any-below g bs (any-below f (below g bs) h)
any-below (All' x _ (one f end)) bs h = any-under bs (any-below f (under bs) h)
any-below (Ex' x _ (one f end)) bs h = any-under bs (any-below f (under bs) h)
any-below (All2' p _ (one f end)) bs h = any-below f bs h
any-below (Ex2' p _ (one f end)) bs h = any-below f bs h
