-- The numbers that stand in a formula and a binding: which ones these are, and how often each of them stands there below a binder,
-- in a part of a node, and where a variable has become a new one.
use Rattle.std.proofs.Common.{◌≡◌, ℕ, max, ◌+◌, ◌≤◌, Bool, true, false, cond, eqb, not, ◌||◌, ⊎_elim, List, [], ◌∷◌, ◌++◌, map, Option, Some, None, refl, sym, ◌∙◌, ap, subst, arith}
use Rattle.std.specs.Option.{unwrap_or}
use Rattle.std.specs.List.{AllByRecursion}
use Rattle.std.proofs.lemmas.Bool.{eqb-true, cases_lt, or_from, both_ways}
use Rattle.std.proofs.lemmas.List.{map-append}
use Rattle.std.proofs.lemmas.List.Folds.{list_any-append}
use Rattle.std.proofs.lemmas.Map.Keys.{IsDistinct-head, IsDistinct-tail}
use Rattle.std.proofs.Math.Bool.{or-false}
use Rattle.soqe_term.specs.declared.bindings.Bound.{Bound}
use Rattle.soqe_term.specs.declared.term.Var.{Var}
use Rattle.soqe_term.specs.declared.term.Term.{Term, Var as var, App}
use Rattle.soqe_term.specs.declared.term.Terms.{Terms, Nil, Cons', end_of-Term as end-t, more_of-Term as one-t, end_of-Terms as ends-t, more_of-Terms as ones-t}
use Rattle.soqe_term.specs.Boxes.{boxes as term_boxes}
use Rattle.soqe_number.specs.Updates.{changed}
use Rattle.soqe_term.specs.Occurs.{occurs, occurs_any}
use Rattle.soqe_number.specs.Unused.{member}
use Rattle.soqe_term.specs.Bindings.{bound_term, HasDistinctVars}
use Rattle.soqe_number.proofs.Choices.{by_cases, bool_cases}
use Rattle.soqe_number.proofs.Equalities.{eqb_sym}
use Rattle.soqe_term.proofs.Worlds.{changed-again, changed-commutes}
use Rattle.soqe_form.specs.declared.form.Form.{Form, True, False, Equal, Atom, Not', And, And', Or', Imp', Iff', All, All', Ex', All2', Ex2', end_of-Form as end, more_of-Form as one}
use Rattle.soqe_form.specs.Boxes.{boxes}
use Rattle.soqe_number.specs.Counts.{times}
use Rattle.soqe_form.specs.FreeVars.{occurrences, all_occurrences, others, free_occurrences}
use Rattle.soqe_number.specs.Marks.{IsLeastWithout}
use Rattle.soqe_form.specs.Mentions.{mentions, form_above}
use Rattle.soqe_number.proofs.Counted.{times-append}
use Rattle.soqe_form.proofs.Numbers.{eqb-swap, first_from-is}
use Rattle.soqe_uses.specs.Numbers.{numbers}
use Rattle.soqe_uses.specs.Uses.{uses}
use Rattle.soqe_uses.proofs.UsesCounted.{times-others}
use Rattle.soqe_subst.specs.Renewed.{renewed_term, all_renewed, renewed}
use Rattle.soqe_subst.specs.Standing.{term_numbers, terms_numbers, form_numbers, binding_numbers, entry_numbers, standing, lost_below}
use Rattle.soqe_subst.specs.Substitution.{without, bound_mentions, bound_above, lacks, fresh}
use Rattle.soqe_subst.proofs.Binders.{bound_mentions-above}
use Rattle.soqe_subst.proofs.Renamings.{mentions-above}

-- the numbers of two lists of variables
pub numbers-append : (xs ys : List Var) → numbers (xs ++ ys) ≡ numbers xs ++ numbers ys
numbers-append xs ys = map-append (λ (y : Var). y.num) xs ys

-- ---- which numbers stand there

member-both : (n : ℕ) (xs ys : List ℕ) (p q : Bool) → member n xs ≡ p → member n ys ≡ q → member n (xs ++ ys) ≡ (p || q)
member-both n xs ys p q e h = list_any-append (λ m. eqb n m) xs ys ∙ (λ i. e i || h i)

mutual
  member-term : (n : ℕ) (t : Term) → member n (term_numbers t) ≡ occurs n t
  member-term n (var x) = or-false (eqb n x.num)
  member-term n (App f s ts) = member-terms n ts

  member-terms : (n : ℕ) (ts : Terms) → member n (terms_numbers ts) ≡ occurs_any n ts
  member-terms n Nil = refl
  member-terms n (Cons' _ (one-t t end-t) _ (ones-t ts ends-t)) =
      ap (member n) (numbers-append (occurrences t) (all_occurrences ts))
      ∙ member-both n (term_numbers t) (terms_numbers ts) (occurs n t) (occurs_any n ts) (member-term n t) (member-terms n ts)

member-form : (n : ℕ) (f : Form) → member n (form_numbers f) ≡ mentions n f
member-form n True = refl
member-form n False = refl
member-form n (Equal s t) = member-both n (term_numbers s) (term_numbers t) (occurs n s) (occurs n t) (member-term n s) (member-term n t)
member-form n (Atom p ts) = member-terms n ts
member-form n (Not' _ (one f end)) = member-form n f
member-form n (And' _ (one f end) _ (one g end)) = member-both n (form_numbers f) (form_numbers g) (mentions n f) (mentions n g) (member-form n f) (member-form n g)
member-form n (Or' _ (one f end) _ (one g end)) = member-both n (form_numbers f) (form_numbers g) (mentions n f) (mentions n g) (member-form n f) (member-form n g)
member-form n (Imp' _ (one f end) _ (one g end)) = member-both n (form_numbers f) (form_numbers g) (mentions n f) (mentions n g) (member-form n f) (member-form n g)
member-form n (Iff' _ (one f end) _ (one g end)) = member-both n (form_numbers f) (form_numbers g) (mentions n f) (mentions n g) (member-form n f) (member-form n g)
member-form n (All' x _ (one f end)) = ap (λ b. eqb n x.num || b) (member-form n f)
member-form n (Ex' x _ (one f end)) = ap (λ b. eqb n x.num || b) (member-form n f)
member-form n (All2' p _ (one f end)) = member-form n f
member-form n (Ex2' p _ (one f end)) = member-form n f

member-binding : (n : ℕ) (s : List Bound) → member n (binding_numbers s) ≡ bound_mentions n s
member-binding n [] = refl
member-binding n (b ∷ more) =
    ap (λ c. eqb n b.var.num || c)
    (member-both n (term_numbers b.term) (binding_numbers more) (occurs n b.term) (bound_mentions n more) (member-term n b.term) (member-binding n more))

-- the numbers that stand there are those that the binding or the formula mentions
pub member-standing : (n : ℕ) (s : List Bound) (f : Form) → member n (standing s f) ≡ (bound_mentions n s || mentions n f)
member-standing n s f = member-both n (binding_numbers s) (form_numbers f) (bound_mentions n s) (mentions n f) (member-binding n s) (member-form n f)

-- the least number that does not stand there is the new number
pub fresh-least : (s : List Bound) (f : Form) (n : ℕ) → IsLeastWithout (λ m. member m (standing s f)) n → n ≡ fresh s f
fresh-least s f n least =
    let last : ℕ = max (bound_above s) (form_above f) in
    let at_last : member last (standing s f) ≡ false =
    member-standing last s f
    ∙ or_from (bound_mentions last s) (mentions last f) (bound_mentions-above last s (omega arith)) (mentions-above last f (omega arith)) in
    let within : n ≤ 0 + last =
    ⊎_elim (λ lt. absurd (both_ways (member last (standing s f)) at_last (least.below last lt))) (λ le. omega arith) (cases_lt last n) in
    sym (first_from-is (lacks s f) 0 last n (omega arith) within
    (ap not (sym (member-standing n s f) ∙ least.fails))
    (λ m g l. ap not (sym (member-standing m s f) ∙ least.below m l)))

-- ---- below a binder

unbound : (y : ℕ) (s : List Bound) → AllByRecursion (λ z. eqb y z ≡ false) (map (λ b. b.var.num) s) → bound_term s y ≡ None
unbound y [] h = refl
unbound y (b ∷ more) h = by_cases (λ o. o ≡ None) (eqb y b.var.num) (Some b.term) (bound_term more y) (λ e. absurd (both_ways (eqb y b.var.num) h.0 e)) (λ e. unbound y more h.1)

entry_step : (p q : Bool) (n y : ℕ) (b : Bound) (o : Option Term) (v more : List Bound) → p ≡ q → (q ≡ true → y ≡ b.var.num) → (q ≡ true → o ≡ None)
    → times n (binding_numbers more) ≡ times n (entry_numbers y o) + times n (binding_numbers v)
    → times n (binding_numbers (b ∷ more)) ≡ times n (entry_numbers y (cond p (Some b.term) o)) + times n (binding_numbers (cond q v (b ∷ v)))
entry_step true true n y b o v more e same none h =
    let own : cond {A = ℕ} (eqb n b.var.num) 1 0 ≡ cond (eqb n y) 1 0 = ap (λ m. cond (eqb n m) 1 0) (sym (same refl)) in
    let nothing : times n (entry_numbers y o) ≡ 0 = ap (λ o. times n (entry_numbers y o)) (none refl) in
    let sum = times-append n (term_numbers b.term) (binding_numbers more) in
    omega (arith, own, nothing, sum, h)
entry_step false false n y b o v more e same none h =
    let sum = times-append n (term_numbers b.term) (binding_numbers more) in
    let kept = times-append n (term_numbers b.term) (binding_numbers v) in
    omega (arith, sum, kept, h)
entry_step true false n y b o v more e same none h = cc
entry_step false true n y b o v more e same none h = cc

-- the numbers of a binding are those of one variable and its term, and those of the others
pub times-entry : (n y : ℕ) (s : List Bound) → HasDistinctVars s → times n (binding_numbers s) ≡ times n (entry_numbers y (bound_term s y)) + times n (binding_numbers (without y s))
times-entry n y [] d = refl
times-entry n y (b ∷ more) d =
    entry_step (eqb y b.var.num) (eqb b.var.num y) n y b (bound_term more y) (without y more) more (eqb_sym y b.var.num)
    (λ e. sym (eqb-true b.var.num y e))
    (λ e. ap (bound_term more) (sym (eqb-true b.var.num y e)) ∙ unbound b.var.num more (IsDistinct-head eqb b.var.num (map (λ b. b.var.num) more) d))
    (times-entry n y more (IsDistinct-tail eqb b.var.num (map (λ b. b.var.num) more) d))

-- below a binder of y stand all numbers but those that are lost there
pub standing-below : (n : ℕ) (s : List Bound) (y : Var) (f : Form) → HasDistinctVars s → times n (standing s (All y f)) ≡ times n (lost_below s y.num) + times n (standing (without y.num s) f)
unfolding boxes
standing-below n s y f d =
    let own = times-append n (binding_numbers s) (y.num ∷ form_numbers f) in
    let rest = times-append n (binding_numbers (without y.num s)) (form_numbers f) in
    let entry = times-entry n y.num s d in
    omega (arith, own, rest, entry)

-- ---- in a part of a node

-- in the first part stand all numbers but those of the second
pub standing-left : (n : ℕ) (s : List Bound) (f g : Form) → times n (standing s (And f g)) ≡ times n (form_numbers g) + times n (standing s f)
unfolding boxes
standing-left n s f g =
    let both = times-append n (binding_numbers s) (form_numbers f ++ form_numbers g) in
    let parts = times-append n (form_numbers f) (form_numbers g) in
    let rest = times-append n (binding_numbers s) (form_numbers f) in
    omega (arith, both, parts, rest)

-- and in the second all but those of the first
pub standing-right : (n : ℕ) (s : List Bound) (f g : Form) → times n (standing s (And f g)) ≡ times n (form_numbers f) + times n (standing s g)
unfolding boxes
standing-right n s f g =
    let both = times-append n (binding_numbers s) (form_numbers f ++ form_numbers g) in
    let parts = times-append n (form_numbers f) (form_numbers g) in
    let rest = times-append n (binding_numbers s) (form_numbers g) in
    omega (arith, both, parts, rest)

-- ---- where a variable has become a new one

-- in the new list z stands so many times in the place of y
record Exchange (n y z count : ℕ) (old new : List ℕ) : Type 0 where
  is : times n new + cond (eqb n y) count 0 ≡ times n old + cond (eqb n z) count 0

cond_sum : (b : Bool) (k l : ℕ) → cond b (k + l) 0 ≡ cond b k 0 + cond b l 0
cond_sum true k l = refl
cond_sum false k l = refl

cond_zero : (b : Bool) → ◌≡◌ {A = ℕ} (cond b 0 0) 0
cond_zero true = refl
cond_zero false = refl

exchange-none : (n y z count : ℕ) (old new : List ℕ) → new ≡ old → count ≡ 0 → Exchange n y z count old new
exchange-none n y z count old new e h = record {
  is =
      let same = ap (times n) e in
      let less : cond (eqb n y) count 0 ≡ 0 = ap (λ c. cond (eqb n y) c 0) h ∙ cond_zero (eqb n y) in
      let more : cond (eqb n z) count 0 ≡ 0 = ap (λ c. cond (eqb n z) c 0) h ∙ cond_zero (eqb n z) in
      omega (arith, same, less, more);
}

exchange-both : (n y z k l count : ℕ) (xs ys us vs old new : List ℕ) → count ≡ k + l → old ≡ xs ++ ys → new ≡ us ++ vs → Exchange n y z k xs us → Exchange n y z l ys vs
    → Exchange n y z count old new
exchange-both n y z k l count xs ys us vs old new e o m h j = record {
  is =
      let before = ap (times n) o ∙ times-append n xs ys in
      let after = ap (times n) m ∙ times-append n us vs in
      let less : cond (eqb n y) count 0 ≡ cond (eqb n y) k 0 + cond (eqb n y) l 0 = ap (λ c. cond (eqb n y) c 0) e ∙ cond_sum (eqb n y) k l in
      let more : cond (eqb n z) count 0 ≡ cond (eqb n z) k 0 + cond (eqb n z) l 0 = ap (λ c. cond (eqb n z) c 0) e ∙ cond_sum (eqb n z) k l in
      let first = h.is in let second = j.is in
      omega (arith, before, after, less, more, first, second);
}

exchange-front : (n y z count x : ℕ) (old new : List ℕ) → Exchange n y z count old new → Exchange n y z count (x ∷ old) (x ∷ new)
exchange-front n y z count x old new h = record { is = let rest = h.is in omega (arith, rest) }

times-vars : (y : ℕ) (xs ys : List Var) → times y (numbers (xs ++ ys)) ≡ times y (numbers xs) + times y (numbers ys)
times-vars y xs ys = ap (times y) (numbers-append xs ys) ∙ times-append y (numbers xs) (numbers ys)

var_step : (p q : Bool) (n y : ℕ) (z x : Var) (o : Option Var) → p ≡ q → (p ≡ true → x.num ≡ y) → (p ≡ true → o ≡ None)
    → Exchange n y z.num (cond q 1 0 + 0) ((unwrap_or o x).num ∷ []) ((unwrap_or (cond p (Some z) o) x).num ∷ [])
var_step true true n y z x o e same none = record {
  is =
      let old : cond {A = ℕ} (eqb n (unwrap_or o x).num) 1 0 ≡ cond (eqb n y) 1 0 =
      ap (λ o. cond {A = ℕ} (eqb n (unwrap_or o x).num) 1 0) (none refl) ∙ ap (λ m. cond (eqb n m) 1 0) (same refl) in
      omega (arith, old);
}
var_step false false n y z x o e same none = exchange-none n y z.num 0 _ _ refl refl
var_step true false n y z x o e same none = cc
var_step false true n y z x o e same none = cc

mutual
  unfolding term_boxes

  exchanged-term : (n : ℕ) (r : ℕ → Option Var) (y : ℕ) (z : Var) (t : Term) → r y ≡ None
      → Exchange n y z.num (times y (term_numbers t)) (term_numbers (renewed_term r t)) (term_numbers (renewed_term (changed r y (Some z)) t))
  exchanged-term n r y z (var x) h =
      var_step (eqb x.num y) (eqb y x.num) n y z x (r x.num) (eqb_sym x.num y) (eqb-true x.num y) (λ e. ap r (eqb-true x.num y e) ∙ h)
  exchanged-term n r y z (App f s ts) h = exchanged-terms n r y z ts h

  exchanged-terms : (n : ℕ) (r : ℕ → Option Var) (y : ℕ) (z : Var) (ts : Terms) → r y ≡ None
      → Exchange n y z.num (times y (terms_numbers ts)) (terms_numbers (all_renewed r ts)) (terms_numbers (all_renewed (changed r y (Some z)) ts))
  exchanged-terms n r y z Nil h = exchange-none n y z.num 0 [] [] refl refl
  exchanged-terms n r y z (Cons' _ (one-t t end-t) _ (ones-t ts ends-t)) h =
      exchange-both n y z.num _ _ _ _ _ _ _ _ _ (times-vars y (occurrences t) (all_occurrences ts))
      (numbers-append (occurrences (renewed_term r t)) (all_occurrences (all_renewed r ts)))
      (numbers-append (occurrences (renewed_term (changed r y (Some z)) t)) (all_occurrences (all_renewed (changed r y (Some z)) ts)))
      (exchanged-term n r y z t h) (exchanged-terms n r y z ts h)

-- below a binder of x, where there are no occurrences of y if x is y
exchanged-below : (n : ℕ) (r : ℕ → Option Var) (y : ℕ) (z x : Var) (f : Form) → r y ≡ None
    → (changed r x.num None y ≡ None → Exchange n y z.num (uses y f) (form_numbers (renewed (changed r x.num None) f)) (form_numbers (renewed (changed (changed r x.num None) y (Some z)) f)))
    → Exchange n y z.num (times y (numbers (others x.num (free_occurrences f)))) (x.num ∷ form_numbers (renewed (changed r x.num None) f))
    (x.num ∷ form_numbers (renewed (changed (changed r y (Some z)) x.num None) f))
exchanged-below n r y z x f h inside =
    let old : List ℕ = form_numbers (renewed (changed r x.num None) f) in
    let new : List ℕ = form_numbers (renewed (changed (changed r y (Some z)) x.num None) f) in
    let count : ℕ = times y (numbers (others x.num (free_occurrences f))) in
    exchange-front n y z.num count x.num old new
    (bool_cases (λ q. Exchange n y z.num count old new) (eqb x.num y)
    (λ e.
    exchange-none n y z.num count old new
    (ap (λ q. form_numbers (renewed q f))
    (ap (λ m. changed (changed r y (Some z)) m None) (eqb-true x.num y e) ∙ changed-again r y (Some z) None ∙ ap (λ m. changed r m None) (sym (eqb-true x.num y e))))
    (times-others y x.num (free_occurrences f) ∙ ap (λ b. cond b 0 (uses y f)) (eqb-swap x.num y e)))
    (λ e.
    let off : eqb y x.num ≡ false = eqb-swap x.num y e in
    subst (λ k. Exchange n y z.num k old new) (sym (times-others y x.num (free_occurrences f) ∙ ap (λ b. cond b 0 (uses y f)) off))
    (subst (λ q. Exchange n y z.num (uses y f) old (form_numbers (renewed q f))) (sym (changed-commutes r y x.num (Some z) None off))
    (inside (ap (λ b. cond b None (r y)) off ∙ h)))))

exchanged-form : (n : ℕ) (r : ℕ → Option Var) (y : ℕ) (z : Var) (f : Form) → r y ≡ None
    → Exchange n y z.num (uses y f) (form_numbers (renewed r f)) (form_numbers (renewed (changed r y (Some z)) f))
unfolding boxes
exchanged-form n r y z True h = exchange-none n y z.num 0 [] [] refl refl
exchanged-form n r y z False h = exchange-none n y z.num 0 [] [] refl refl
exchanged-form n r y z (Equal s t) h =
    exchange-both n y z.num _ _ _ _ _ _ _ _ _ (times-vars y (occurrences s) (occurrences t)) refl refl (exchanged-term n r y z s h) (exchanged-term n r y z t h)
exchanged-form n r y z (Atom p ts) h = exchanged-terms n r y z ts h
exchanged-form n r y z (Not' _ (one f end)) h = exchanged-form n r y z f h
exchanged-form n r y z (And' _ (one f end) _ (one g end)) h =
    exchange-both n y z.num _ _ _ _ _ _ _ _ _ (times-vars y (free_occurrences f) (free_occurrences g)) refl refl (exchanged-form n r y z f h) (exchanged-form n r y z g h)
exchanged-form n r y z (Or' _ (one f end) _ (one g end)) h =
    exchange-both n y z.num _ _ _ _ _ _ _ _ _ (times-vars y (free_occurrences f) (free_occurrences g)) refl refl (exchanged-form n r y z f h) (exchanged-form n r y z g h)
exchanged-form n r y z (Imp' _ (one f end) _ (one g end)) h =
    exchange-both n y z.num _ _ _ _ _ _ _ _ _ (times-vars y (free_occurrences f) (free_occurrences g)) refl refl (exchanged-form n r y z f h) (exchanged-form n r y z g h)
exchanged-form n r y z (Iff' _ (one f end) _ (one g end)) h =
    exchange-both n y z.num _ _ _ _ _ _ _ _ _ (times-vars y (free_occurrences f) (free_occurrences g)) refl refl (exchanged-form n r y z f h) (exchanged-form n r y z g h)
exchanged-form n r y z (All' x _ (one f end)) h = exchanged-below n r y z x f h (exchanged-form n (changed r x.num None) y z f)
exchanged-form n r y z (Ex' x _ (one f end)) h = exchanged-below n r y z x f h (exchanged-form n (changed r x.num None) y z f)
exchanged-form n r y z (All2' p _ (one f end)) h = exchanged-form n r y z f h
exchanged-form n r y z (Ex2' p _ (one f end)) h = exchanged-form n r y z f h

-- where y becomes z, z stands there as many times more, and y as many times less, as y is free
pub standing-exchanged : (n : ℕ) (s : List Bound) (r : ℕ → Option Var) (y : ℕ) (z : Var) (f : Form) → r y ≡ None
    → times n (standing s (renewed (changed r y (Some z)) f)) + cond (eqb n y) (uses y f) 0 ≡ times n (standing s (renewed r f)) + cond (eqb n z.num) (uses y f) 0
standing-exchanged n s r y z f h =
    let old = times-append n (binding_numbers s) (form_numbers (renewed r f)) in
    let new = times-append n (binding_numbers s) (form_numbers (renewed (changed r y (Some z)) f)) in
    let inside = (exchanged-form n r y z f h).is in
    omega (arith, old, new, inside)
