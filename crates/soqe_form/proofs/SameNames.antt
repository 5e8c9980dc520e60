-- Formulas that are the same have the same free names. The idea: each of two tests is moved below a binder by letting it fail
-- at the binder's number, so that two tests that agree on related numbers go on to agree.
use Rattle.std.proofs.Common.{◌≡◌, ℕ, Bool, true, false, cond, eqb, not, ◌&&◌, ◌||◌, List, [], refl, sym, ◌∙◌, ap}
use Rattle.std.proofs.lemmas.Bool.{eqb-true}
use Rattle.soqe_term.specs.declared.term.Term.{Term, Var as var, App}
use Rattle.soqe_term.specs.declared.term.Terms.{Terms, Nil, Cons', end_of-Term as end-t, more_of-Term as one-t, end_of-Terms as ends-t, more_of-Terms as ones-t}
use Rattle.soqe_number.specs.Updates.{changed}
use Rattle.soqe_term.specs.Occurs.{occurs, occurs_any}
use Rattle.soqe_term.specs.Equal.{equal_symbols}
use Rattle.soqe_number.proofs.Choices.{and_first, and_second}
use Rattle.soqe_form.specs.declared.form.Pred.{Pred}
use Rattle.soqe_form.specs.declared.form.Pred.TheVariants.{Decl, Bound}
use Rattle.soqe_form.specs.declared.form.Form.{Form, True, False, Equal, Atom, Not', And', Or', Imp', Iff', All', Ex', All2', Ex2', end_of-Form as end, more_of-Form as one}
use Rattle.soqe_form.specs.Free.{free, free_pred, is_bound}
use Rattle.soqe_form.specs.Same.{related, same_term, same_terms, same_pred, same}
use Rattle.soqe_form.proofs.Related.{Relates, relates-equal, relates-under}
use Rattle.soqe_form.proofs.SameCases.{never, GoesUp, same-induction}

abbrev mutual
  -- some variable of the term passes the test
  uses_term : (ℕ → Bool) → Term → Bool
  uses_term p (var x) = p x.num
  uses_term p (App f s ts) = uses_terms p ts

  uses_terms : (ℕ → Bool) → Terms → Bool
  uses_terms p Nil = false
  uses_terms p (Cons' _ (one-t t end-t) _ (ones-t ts ends-t)) = uses_term p t || uses_terms p ts

-- the predicate is a bound one that passes the test
abbrev uses_pred : (ℕ → Bool) → Pred → Bool
uses_pred q (Decl n) = false
uses_pred q (Bound n) = q n

-- some free variable of the formula passes p, or some free bound predicate passes q
abbrev uses : (ℕ → Bool) → (ℕ → Bool) → Form → Bool
uses p q True = false
uses p q False = false
uses p q (Equal s t) = uses_term p s || uses_term p t
uses p q (Atom a ts) = uses_terms p ts || uses_pred q a
uses p q (Not' _ (one f end)) = uses p q f
uses p q (And' _ (one f end) _ (one g end)) = uses p q f || uses p q g
uses p q (Or' _ (one f end) _ (one g end)) = uses p q f || uses p q g
uses p q (Imp' _ (one f end) _ (one g end)) = uses p q f || uses p q g
uses p q (Iff' _ (one f end) _ (one g end)) = uses p q f || uses p q g
uses p q (All' x _ (one f end)) = uses (changed p x.num false) q f
uses p q (Ex' x _ (one f end)) = uses (changed p x.num false) q f
uses p q (All2' a _ (one f end)) = uses p (changed q a.num false) f
uses p q (Ex2' a _ (one f end)) = uses p (changed q a.num false) f

-- ---- the tests of one number

-- where r holds, the test of the number n, and else none
abbrev IsTest : Bool → ℕ → (ℕ → Bool) → Type 0
IsTest r n p = (k : ℕ) → p k ≡ (r && eqb n k)

test_step : (r a b c : Bool) → (a ≡ true → b ≡ c) → (b ≡ true → c ≡ a) → cond a false (r && b) ≡ ((r && not c) && b)
test_step false true b c h k = refl
test_step false false b c h k = refl
test_step true true true true h k = refl
test_step true true true false h k = never (sym (h refl))
test_step true true false true h k = refl
test_step true true false false h k = refl
test_step true false true true h k = never (sym (k refl))
test_step true false true false h k = refl
test_step true false false true h k = refl
test_step true false false false h k = refl

-- below a binder of x the test of n stays, unless they are one number
test-under : (r : Bool) (n x : ℕ) (p : ℕ → Bool) → IsTest r n p → IsTest (r && not (eqb n x)) n (changed p x false)
test-under r n x p h k =
    ap (λ b. cond (eqb k x) false b) (h k)
    ∙ test_step r (eqb k x) (eqb n k) (eqb n x) (λ e. ap (eqb n) (eqb-true k x e)) (λ e. ap (λ m. eqb m x) (eqb-true n k e))

and_false : (r : Bool) → false ≡ (r && false)
and_false true = refl
and_false false = refl

or_false : (b : Bool) → (b || false) ≡ b
or_false true = refl
or_false false = refl

and_or : (r a b : Bool) → ((r && a) || (r && b)) ≡ (r && (a || b))
and_or true a b = refl
and_or false a b = refl

or_join : (a b c d : Bool) → ((a || b) || (c || d)) ≡ ((a || c) || (b || d))
or_join true b c d = refl
or_join false true true d = refl
or_join false true false d = refl
or_join false false c d = refl

-- two parts
used_both : (r s a b c d : Bool) → (((r && a) || (s && b)) || ((r && c) || (s && d))) ≡ ((r && (a || c)) || (s && (b || d)))
used_both r s a b c d = or_join (r && a) (s && b) (r && c) (s && d) ∙ (λ i. and_or r a c i || and_or s b d i)

-- below a binder
used_under : (r e a : Bool) → ((r && not e) && a) ≡ (r && cond e false a)
used_under true true a = refl
used_under true false a = refl
used_under false e a = refl

mutual
  uses_term-names : (r : Bool) (n : ℕ) (p : ℕ → Bool) (t : Term) → IsTest r n p → uses_term p t ≡ (r && occurs n t)
  uses_term-names r n p (var x) h = h x.num
  uses_term-names r n p (App f s ts) h = uses_terms-names r n p ts h

  uses_terms-names : (r : Bool) (n : ℕ) (p : ℕ → Bool) (ts : Terms) → IsTest r n p → uses_terms p ts ≡ (r && occurs_any n ts)
  uses_terms-names r n p Nil h = and_false r
  uses_terms-names r n p (Cons' _ (one-t t end-t) _ (ones-t ts ends-t)) h =
      (λ i. uses_term-names r n p t h i || uses_terms-names r n p ts h i) ∙ and_or r (occurs n t) (occurs_any n ts)

uses_pred-names : (s : Bool) (m : ℕ) (q : ℕ → Bool) (a : Pred) → IsTest s m q → uses_pred q a ≡ (s && is_bound m a)
uses_pred-names s m q (Decl n) h = and_false s
uses_pred-names s m q (Bound n) h = h n

-- what the tests of one variable and of one bound predicate find
uses-names : (r s : Bool) (n m : ℕ) (p q : ℕ → Bool) (f : Form) → IsTest r n p → IsTest s m q → uses p q f ≡ ((r && free n f) || (s && free_pred m f))
uses-names r s n m p q True h k = (λ i. and_false r i || and_false s i)
uses-names r s n m p q False h k = (λ i. and_false r i || and_false s i)
uses-names r s n m p q (Equal t u) h k =
    (λ i. uses_term-names r n p t h i || uses_term-names r n p u h i) ∙ and_or r (occurs n t) (occurs n u)
    ∙ sym (or_false (r && (occurs n t || occurs n u))) ∙ (λ i. (r && (occurs n t || occurs n u)) || and_false s i)
uses-names r s n m p q (Atom a ts) h k = (λ i. uses_terms-names r n p ts h i || uses_pred-names s m q a k i)
uses-names r s n m p q (Not' _ (one f end)) h k = uses-names r s n m p q f h k
uses-names r s n m p q (And' _ (one f end) _ (one g end)) h k =
    (λ i. uses-names r s n m p q f h k i || uses-names r s n m p q g h k i) ∙ used_both r s (free n f) (free_pred m f) (free n g) (free_pred m g)
uses-names r s n m p q (Or' _ (one f end) _ (one g end)) h k =
    (λ i. uses-names r s n m p q f h k i || uses-names r s n m p q g h k i) ∙ used_both r s (free n f) (free_pred m f) (free n g) (free_pred m g)
uses-names r s n m p q (Imp' _ (one f end) _ (one g end)) h k =
    (λ i. uses-names r s n m p q f h k i || uses-names r s n m p q g h k i) ∙ used_both r s (free n f) (free_pred m f) (free n g) (free_pred m g)
uses-names r s n m p q (Iff' _ (one f end) _ (one g end)) h k =
    (λ i. uses-names r s n m p q f h k i || uses-names r s n m p q g h k i) ∙ used_both r s (free n f) (free_pred m f) (free n g) (free_pred m g)
uses-names r s n m p q (All' x _ (one f end)) h k =
    uses-names (r && not (eqb n x.num)) s n m (changed p x.num false) q f (test-under r n x.num p h) k ∙ ap (λ b. b || (s && free_pred m f)) (used_under r (eqb n x.num) (free n f))
uses-names r s n m p q (Ex' x _ (one f end)) h k =
    uses-names (r && not (eqb n x.num)) s n m (changed p x.num false) q f (test-under r n x.num p h) k ∙ ap (λ b. b || (s && free_pred m f)) (used_under r (eqb n x.num) (free n f))
uses-names r s n m p q (All2' a _ (one f end)) h k =
    uses-names r (s && not (eqb m a.num)) n m p (changed q a.num false) f h (test-under s m a.num q k) ∙ ap (λ b. (r && free n f) || b) (used_under s (eqb m a.num) (free_pred m f))
uses-names r s n m p q (Ex2' a _ (one f end)) h k =
    uses-names r (s && not (eqb m a.num)) n m p (changed q a.num false) f h (test-under s m a.num q k) ∙ ap (λ b. (r && free n f) || b) (used_under s (eqb m a.num) (free_pred m f))

-- ---- tests that agree on related numbers

mutual
  uses_term-same : (vs : List (ℕ × ℕ)) (p r : ℕ → Bool) (t u : Term) → Relates vs p r → same_term vs t u ≡ true → uses_term p t ≡ uses_term r u
  uses_term-same vs p r (var x) (var y) h o = h x.num y.num (and_second (eqb x.sort y.sort) (related vs x.num y.num) o)
  uses_term-same vs p r (var x) (App g n us) h o = never o
  uses_term-same vs p r (App f m ts) (var y) h o = never o
  uses_term-same vs p r (App f m ts) (App g n us) h o =
      uses_terms-same vs p r ts us h (and_second (eqb m n) (same_terms vs ts us) (and_second (equal_symbols f g) (eqb m n && same_terms vs ts us) o))

  uses_terms-same : (vs : List (ℕ × ℕ)) (p r : ℕ → Bool) (ts us : Terms) → Relates vs p r → same_terms vs ts us ≡ true → uses_terms p ts ≡ uses_terms r us
  uses_terms-same vs p r Nil Nil h o = refl
  uses_terms-same vs p r Nil (Cons' _ (one-t u end-t) _ (ones-t us ends-t)) h o = never o
  uses_terms-same vs p r (Cons' _ (one-t t end-t) _ (ones-t ts ends-t)) Nil h o = never o
  uses_terms-same vs p r (Cons' _ (one-t t end-t) _ (ones-t ts ends-t)) (Cons' _ (one-t u end-t) _ (ones-t us ends-t)) h o =
      λ i. uses_term-same vs p r t u h (and_first (same_term vs t u) (same_terms vs ts us) o) i || uses_terms-same vs p r ts us h (and_second (same_term vs t u) (same_terms vs ts us) o) i

uses_pred-same : (ps : List (ℕ × ℕ)) (q s : ℕ → Bool) (a b : Pred) → Relates ps q s → same_pred ps a b ≡ true → uses_pred q a ≡ uses_pred s b
uses_pred-same ps q s (Decl m) (Decl n) h o = refl
uses_pred-same ps q s (Decl m) (Bound n) h o = never o
uses_pred-same ps q s (Bound m) (Decl n) h o = never o
uses_pred-same ps q s (Bound m) (Bound n) h o = h m n o

abbrev OneUse : List (ℕ × ℕ) → List (ℕ × ℕ) → Form → Form → Type 0
OneUse vs ps f g = (p r q s : ℕ → Bool) → Relates vs p r → Relates ps q s → uses p q f ≡ uses r s g

uses-up : GoesUp OneUse
uses-up = record {
  true_nodes = λ vs ps p r q s h k. refl;
  false_nodes = λ vs ps p r q s h k. refl;
  equal_nodes = λ vs ps t u v x a b p r q s h k i. uses_term-same vs p r t v h a i || uses_term-same vs p r u x h b i;
  atom_nodes = λ vs ps a b ts us o l p r q s h k i. uses_terms-same vs p r ts us h l i || uses_pred-same ps q s a b k o i;
  not_nodes = λ vs ps f g a p r q s h k. a p r q s h k;
  and_nodes = λ vs ps f g l m a b p r q s h k i. a p r q s h k i || b p r q s h k i;
  or_nodes = λ vs ps f g l m a b p r q s h k i. a p r q s h k i || b p r q s h k i;
  imp_nodes = λ vs ps f g l m a b p r q s h k i. a p r q s h k i || b p r q s h k i;
  iff_nodes = λ vs ps f g l m a b p r q s h k i. a p r q s h k i || b p r q s h k i;
  all_nodes = λ vs ps x y f g e a p r q s h k. a (changed p x.num false) (changed r y.num false) q s (relates-under vs x.num y.num false p r h) k;
  ex_nodes = λ vs ps x y f g e a p r q s h k. a (changed p x.num false) (changed r y.num false) q s (relates-under vs x.num y.num false p r h) k;
  all2_nodes = λ vs ps x y f g e a p r q s h k. a p r (changed q x.num false) (changed s y.num false) h (relates-under ps x.num y.num false q s k);
  ex2_nodes = λ vs ps x y f g e a p r q s h k. a p r (changed q x.num false) (changed s y.num false) h (relates-under ps x.num y.num false q s k);
}

-- one test of variables and one of predicates find the same in both
uses-same : (p q : ℕ → Bool) (f g : Form) → same f g ≡ true → uses p q f ≡ uses p q g
uses-same p q f g o = same-induction OneUse uses-up [] [] f g o p p q q (relates-equal p) (relates-equal q)

uses-free : (n : ℕ) (f : Form) → uses (eqb n) (λ k. false) f ≡ free n f
uses-free n f = uses-names true false n 0 (eqb n) (λ k. false) f (λ k. refl) (λ k. refl) ∙ or_false (free n f)

pub free-same : (f g : Form) → same f g ≡ true → (n : ℕ) → free n f ≡ free n g
free-same f g o n = sym (uses-free n f) ∙ uses-same (eqb n) (λ k. false) f g o ∙ uses-free n g

uses-free_pred : (n : ℕ) (f : Form) → uses (λ k. false) (eqb n) f ≡ free_pred n f
uses-free_pred n f = uses-names false true 0 n (λ k. false) (eqb n) f (λ k. refl) (λ k. refl)

pub free_pred-same : (f g : Form) → same f g ≡ true → (n : ℕ) → free_pred n f ≡ free_pred n g
free_pred-same f g o n = sym (uses-free_pred n f) ∙ uses-same (λ k. false) (eqb n) f g o ∙ uses-free_pred n g
