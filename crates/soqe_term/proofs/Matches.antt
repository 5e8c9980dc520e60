-- The steps of matching are exact: they find the one binding that makes the pattern the term, or there is none.
--
-- Matching goes through the pairs of an occurrence of a variable and the part of the term at its place. Each of them either
-- agrees with the binding so far or adds one variable to it, so both directions are inductions over the pairs.
--
--   found-match      what the steps give is a match
--   match-found      each match is what the steps give
--   matches-unique   so there is one at most
use Rattle.std.specs.Prelude.{slice_index_or}
use Rattle.std.proofs.Common.{◌≡◌, ℕ, suc, length, drop, arith, true≢false, Bool, true, false, cond, eqb, ◌||◌, List, [], ◌∷◌, ◌++◌, map, Option, Some, None, is_some, refl, sym, ◌∙◌, ap, subst, append_assoc}
use Rattle.std.proofs.lemmas.Bool.{eqb-true, eq-eqb, ne_eqb}
use Rattle.std.proofs.lemmas.List.{append-nil}
use Rattle.std.proofs.lemmas.List.Elements.{All-nil, All-cons, All-head, All-tail}
use Rattle.std.proofs.lemmas.Option.{none-some, same_Some, option_and_then_some}
use Rattle.std.specs.Option.{option_and_then}
use Rattle.soqe_term.specs.declared.bindings.Bound.{Bound}
use Rattle.soqe_term.specs.declared.term.Var.{Var}
use Rattle.soqe_term.specs.declared.term.Term.{Term, Var as var}
use Rattle.soqe_number.specs.Unused.{member}
use Rattle.soqe_term.specs.Sorting.{own_sort}
use Rattle.soqe_term.specs.Bindings.{bound_term, term_or, term_of, bound_in, HasOwnSorts}
use Rattle.soqe_term.specs.Equal.{equal_terms}
use Rattle.soqe_term.specs.Matching.{vars_of, new_vars, is_known, IsMatch}
use Rattle.soqe_term.specs.Matched.{matched_at, matched_var, matched}
use Rattle.soqe_number.proofs.Choices.{bool_cases}
use Rattle.soqe_term.proofs.Worlds.{eqb-self}
use Rattle.soqe_term.proofs.EqualTerms.{equal_terms-same, equal_terms-from}
use Rattle.soqe_term.proofs.Aligned.{Pair, aligned, steps, after, matched-aligned, read, aligned-bound_in, Reads, chosen, bound_in-aligned, aligned-vars}

cons-head : {A : Type 0} (x y : A) (xs ys : List A) → x ∷ xs ≡ y ∷ ys → x ≡ y
cons-head x y xs ys h = ap (λ l. slice_index_or l 0 x) h

cons-tail : {A : Type 0} (x y : A) (xs ys : List A) → x ∷ xs ≡ y ∷ ys → xs ≡ ys
cons-tail x y xs ys h = ap (drop 1) h

cons-nil : {A : Type 0} (x : A) (xs : List A) → x ∷ xs ≡ [] → ⊥
cons-nil x xs h = let e : suc (length xs) ≡ 0 = ap length h in omega (arith, e)

-- the first term that is there
abbrev either : Option Term → Option Term → Option Term
either None q = q
either (Some t) q = Some t

bound_term-append : (s more : List Bound) (n : ℕ) → bound_term (s ++ more) n ≡ either (bound_term s n) (bound_term more n)
bound_term-append [] more n = refl
bound_term-append (b ∷ s) more n = by (eqb n b.var.num) (bound_term-append s more n)
  where
    by : (q : Bool) → bound_term (s ++ more) n ≡ either (bound_term s n) (bound_term more n)
        → cond q (Some b.term) (bound_term (s ++ more) n) ≡ either (cond q (Some b.term) (bound_term s n)) (bound_term more n)
    by true h = refl
    by false h = h

-- what the variables of the front have stays, and the others look behind it
pub bound_term-front : (s more : List Bound) (n : ℕ) (t : Term) → bound_term s n ≡ Some t → bound_term (s ++ more) n ≡ Some t
bound_term-front s more n t h = bound_term-append s more n ∙ ap (λ o. either o (bound_term more n)) h

pub bound_term-behind : (s more : List Bound) (n : ℕ) → bound_term s n ≡ None → bound_term (s ++ more) n ≡ bound_term more n
bound_term-behind s more n h = bound_term-append s more n ∙ ap (λ o. either o (bound_term more n)) h

-- the binding with one more variable
abbrev grown : List Bound → Var → Term → List Bound
grown s x u = s ++ record { var = x; term = u } ∷ []

or_true : (b : Bool) → (b || true) ≡ true
or_true true = refl
or_true false = refl

known-bound : (fixed : List ℕ) (s : List Bound) (n : ℕ) (t : Term) → bound_term s n ≡ Some t → is_known fixed s n ≡ true
known-bound fixed s n t h = ap (λ o. member n fixed || is_some o) h ∙ or_true (member n fixed)

known-fixed : (fixed : List ℕ) (s : List Bound) (n : ℕ) → member n fixed ≡ true → is_known fixed s n ≡ true
known-fixed fixed s n h = ap (λ b. b || is_some (bound_term s n)) h

unknown : (fixed : List ℕ) (s : List Bound) (n : ℕ) → member n fixed ≡ false → bound_term s n ≡ None → is_known fixed s n ≡ false
unknown fixed s n h e = (λ i. h i || is_some (e i))

-- one more variable is known then
known-grown : (fixed : List ℕ) (s : List Bound) (x : Var) (u : Term) → is_known fixed (grown s x u) ≡ (λ n. eqb n x.num || is_known fixed s n)
known-grown fixed s x u = λ i n. (ap (λ o. member n fixed || is_some o) (bound_term-append s (record { var = x; term = u } ∷ []) n) ∙ by (member n fixed) (eqb n x.num) (bound_term s n)) i
  where
    by : (m q : Bool) (o : Option Term) → (m || is_some (either o (cond q (Some u) None))) ≡ (q || (m || is_some o))
    by true true o = refl
    by true false o = refl
    by false true None = refl
    by false true (Some t) = refl
    by false false None = refl
    by false false (Some t) = refl

-- new variables aren't known ones
new-unknown : (n : ℕ) (known : ℕ → Bool) (xs : List Var) (more : List Bound) → known n ≡ true → map (λ b. b.var) more ≡ new_vars known xs → bound_term more n ≡ None
new-unknown n known [] [] k h = refl
new-unknown n known [] (b ∷ more) k h = absurd (cons-nil b.var (map (λ b. b.var) more) h)
new-unknown n known (x ∷ xs) more k h =
    bool_cases (λ q. known x.num ≡ q → map (λ b. b.var) more ≡ cond q (new_vars known xs) (x ∷ new_vars (λ m. eqb m x.num || known m) xs) → bound_term more n ≡ None) (known x.num)
    (λ e q g. new-unknown n known xs more k g)
    (λ e q g. other more g (new-unknown n (λ m. eqb m x.num || known m) xs) q)
    refl h
  where
    other : (more : List Bound) → map (λ b. b.var) more ≡ x ∷ new_vars (λ m. eqb m x.num || known m) xs
        → ((more : List Bound) → (eqb n x.num || known n) ≡ true → map (λ b. b.var) more ≡ new_vars (λ m. eqb m x.num || known m) xs → bound_term more n ≡ None)
        → known x.num ≡ false → bound_term more n ≡ None
    other [] g rest q = absurd (cons-nil x (new_vars (λ m. eqb m x.num || known m) xs) (sym g))
    other (b ∷ more) g rest q =
        let same : b.var ≡ x = cons-head b.var x (map (λ b. b.var) more) (new_vars (λ m. eqb m x.num || known m) xs) g in
        let apart : eqb n b.var.num ≡ false = ne_eqb n b.var.num (λ e. true≢false (sym k ∙ ap known (e ∙ ap (λ v. v.num) same) ∙ q)) in
        ap (λ q. cond q (Some b.term) (bound_term more n)) apart
        ∙ rest more (ap (λ b. eqb n x.num || b) k ∙ or_true (eqb n x.num)) (cons-tail b.var x (map (λ b. b.var) more) (new_vars (λ m. eqb m x.num || known m) xs) g)

module _ (fixed : List ℕ) (x : Var) (u : Term) (s : List Bound) where
  step-bound : (t : Term) → bound_term s x.num ≡ Some t → t ≡ u → matched_var fixed x u s ≡ Some s
  step-bound t e h = ap (λ o. matched_at o fixed x u s) e ∙ ap (λ q. cond q (Some s) None) (equal_terms-from t u h)

  step-fixed : bound_term s x.num ≡ None → member x.num fixed ≡ true → var x ≡ u → matched_var fixed x u s ≡ Some s
  step-fixed e m h =
      ap (λ o. matched_at o fixed x u s) e
      ∙ (λ i. cond (m i) (cond (equal_terms-from (var x) u h i) (Some s) None) (cond (eqb x.sort (own_sort u)) (Some (grown s x u)) None))

  step-new : bound_term s x.num ≡ None → member x.num fixed ≡ false → x.sort ≡ own_sort u → matched_var fixed x u s ≡ Some (grown s x u)
  step-new e m h =
      ap (λ o. matched_at o fixed x u s) e
      ∙ (λ i. cond (m i) (cond (equal_terms (var x) u) (Some s) None) (cond (eq-eqb x.sort (own_sort u) h i) (Some (grown s x u)) None))

  -- the three ways of a variable
  by_var : {P : Type 0} → ((t : Term) → bound_term s x.num ≡ Some t → P) → (bound_term s x.num ≡ None → member x.num fixed ≡ true → P)
      → (bound_term s x.num ≡ None → member x.num fixed ≡ false → P) → P
  by_var {P} f g h = at (bound_term s x.num) refl
    where
      at : (o : Option Term) → bound_term s x.num ≡ o → P
      at (Some t) e = f t e
      at None e = bool_cases (λ b. member x.num fixed ≡ b → P) (member x.num fixed) (λ _ m. g e m) (λ _ m. h e m) refl

  -- the three ways in which a step goes on
  by_step : {P : Type 0} (r : List Bound) → matched_var fixed x u s ≡ Some r
      → ((t : Term) → bound_term s x.num ≡ Some t → t ≡ u → s ≡ r → P)
      → (bound_term s x.num ≡ None → member x.num fixed ≡ true → var x ≡ u → s ≡ r → P)
      → (bound_term s x.num ≡ None → member x.num fixed ≡ false → x.sort ≡ own_sort u → grown s x u ≡ r → P) → P
  by_step {P} r is f g h = by_var
      (λ t e. let c = chosen (equal_terms t u) (Some s) r (sym (ap (λ o. matched_at o fixed x u s) e) ∙ is) in f t e (equal_terms-same t u c.0) (same_Some s r c.1))
      (λ e m. let c = chosen (equal_terms (var x) u) (Some s) r
      (sym (ap (λ b. cond b (cond (equal_terms (var x) u) (Some s) None) (cond (eqb x.sort (own_sort u)) (Some (grown s x u)) None)) m) ∙ sym (ap (λ o. matched_at o fixed x u s) e) ∙ is) in
      g e m (equal_terms-same (var x) u c.0) (same_Some s r c.1))
      (λ e m. let c = chosen (eqb x.sort (own_sort u)) (Some (grown s x u)) r
      (sym (ap (λ b. cond b (cond (equal_terms (var x) u) (Some s) None) (cond (eqb x.sort (own_sort u)) (Some (grown s x u)) None)) m) ∙ sym (ap (λ o. matched_at o fixed x u s) e) ∙ is) in
      h e m (eqb-true x.sort (own_sort u) c.0) (same_Some (grown s x u) r c.1))

-- what the pairs lead to
record Leads (fixed : List ℕ) (ps : List Pair) (s a : List Bound) : Type 0 where
  pub more : List Bound
  pub extends : a ≡ s ++ more
  pub variables : map (λ b. b.var) more ≡ new_vars (is_known fixed s) (map (λ p. p.0) ps)
  pub own_sorts : HasOwnSorts more
  pub reads : Reads a ps

module _ (fixed : List ℕ) (x : Var) (u : Term) (ps : List Pair) (s a : List Bound) where
  leads-bound : (t : Term) → bound_term s x.num ≡ Some t → t ≡ u → Leads fixed ps s a → Leads fixed ((x, u) ∷ ps) s a
  leads-bound t e h l = record {
    more = l.more;
    extends = l.extends;
    variables = l.variables ∙ sym (ap (λ q. cond q (new_vars (is_known fixed s) (map (λ p. p.0) ps)) (x ∷ new_vars (λ n. eqb n x.num || is_known fixed s n) (map (λ p. p.0) ps))) (known-bound fixed s x.num t e));
    own_sorts = l.own_sorts;
    reads = (ap (λ b. term_of b x) l.extends ∙ ap (term_or (var x)) (bound_term-front s l.more x.num t e) ∙ h, l.reads);
  }

  leads-fixed : bound_term s x.num ≡ None → member x.num fixed ≡ true → var x ≡ u → Leads fixed ps s a → Leads fixed ((x, u) ∷ ps) s a
  leads-fixed e m h l = record {
    more = l.more;
    extends = l.extends;
    variables = l.variables ∙ sym (ap (λ q. cond q (new_vars (is_known fixed s) (map (λ p. p.0) ps)) (x ∷ new_vars (λ n. eqb n x.num || is_known fixed s n) (map (λ p. p.0) ps))) (known-fixed fixed s x.num m));
    own_sorts = l.own_sorts;
    reads = (
      ap (λ b. term_of b x) l.extends
          ∙ ap (term_or (var x)) (bound_term-behind s l.more x.num e ∙ new-unknown x.num (is_known fixed s) (map (λ p. p.0) ps) l.more (known-fixed fixed s x.num m) l.variables)
          ∙ h,
      l.reads,
    );
  }

  leads-new : bound_term s x.num ≡ None → member x.num fixed ≡ false → x.sort ≡ own_sort u → Leads fixed ps (grown s x u) a → Leads fixed ((x, u) ∷ ps) s a
  leads-new e m h l =
      let b : Bound = record { var = x; term = u } in
      let all : a ≡ s ++ b ∷ l.more = l.extends ∙ append_assoc s (b ∷ []) l.more in
      record {
        more = b ∷ l.more;
        extends = all;
        variables =
            ap (λ ys. x ∷ ys) (l.variables ∙ ap (λ k. new_vars k (map (λ p. p.0) ps)) (known-grown fixed s x u))
            ∙ sym (ap (λ q. cond q (new_vars (is_known fixed s) (map (λ p. p.0) ps)) (x ∷ new_vars (λ n. eqb n x.num || is_known fixed s n) (map (λ p. p.0) ps))) (unknown fixed s x.num m e));
        own_sorts = All-cons (λ b. own_sort b.term ≡ b.var.sort) b l.more (sym h) l.own_sorts;
        reads = (
          ap (λ c. term_of c x) all
              ∙ ap (term_or (var x)) (bound_term-behind s (b ∷ l.more) x.num e ∙ ap (λ q. cond q (Some u) (bound_term l.more x.num)) (eqb-self x.num)),
          l.reads,
        );
      }

steps-lead : (fixed : List ℕ) (ps : List Pair) (s a : List Bound) → steps fixed ps s ≡ Some a → Leads fixed ps s a
steps-lead fixed [] s a h = record {
  more = [];
  extends = sym (same_Some s a h) ∙ sym (append-nil s);
  variables = refl;
  own_sorts = All-nil (λ b. own_sort b.term ≡ b.var.sort);
  reads = tt;
}
steps-lead fixed (p ∷ ps) s a h =
    option_and_then_some (λ r. steps fixed ps r) (matched_var fixed p.0 p.1 s) a h
    (λ next is then.
    let rest = steps-lead fixed ps next a then in
    by_step fixed p.0 p.1 s next is
    (λ t e q r. leads-bound fixed p.0 p.1 ps s a t e q (subst (λ v. Leads fixed ps v a) (sym r) rest))
    (λ e m q r. leads-fixed fixed p.0 p.1 ps s a e m q (subst (λ v. Leads fixed ps v a) (sym r) rest))
    (λ e m q r. leads-new fixed p.0 p.1 ps s a e m q (subst (λ v. Leads fixed ps v a) (sym r) rest)))

pub found-match : (fixed : List ℕ) (t u : Term) (s a : List Bound) → matched fixed t u s ≡ Some a → IsMatch fixed t u s a
found-match fixed t u s a h = by (aligned t u) refl (sym (matched-aligned fixed t u s) ∙ h)
  where
    by : (o : Option (List Pair)) → aligned t u ≡ o → after fixed o s ≡ Some a → IsMatch fixed t u s a
    by None e h = absurd (none-some a h)
    by (Some ps) e h =
        let l = steps-lead fixed ps s a h in
        record {
          more = l.more;
          extends = l.extends;
          variables = l.variables ∙ ap (new_vars (is_known fixed s)) (aligned-vars t u ps e);
          own_sorts = l.own_sorts;
          becomes = bound_in-aligned a t u ps e l.reads;
        }

-- a list that begins with a new variable
record Begins (x : Var) (ys : List Var) (more : List Bound) : Type 0 where
  pub bound : Bound
  pub rest : List Bound
  pub is : more ≡ bound ∷ rest
  pub variable : bound.var ≡ x
  pub variables : map (λ b. b.var) rest ≡ ys

begins : (x : Var) (ys : List Var) (more : List Bound) → map (λ b. b.var) more ≡ x ∷ ys → Begins x ys more
begins x ys [] h = absurd (cons-nil x ys (sym h))
begins x ys (b ∷ more) h = record {
  bound = b;
  rest = more;
  is = refl;
  variable = cons-head b.var x (map (λ b. b.var) more) ys h;
  variables = cons-tail b.var x (map (λ b. b.var) more) ys h;
}

-- what a binding gives each variable leads to it
reads-lead : (fixed : List ℕ) (a : List Bound) (xs : List Var) (s more : List Bound) → a ≡ s ++ more → map (λ b. b.var) more ≡ new_vars (is_known fixed s) xs
    → HasOwnSorts more → steps fixed (read a xs) s ≡ Some a
reads-lead fixed a [] s [] e v o = ap Some (sym (e ∙ append-nil s))
reads-lead fixed a [] s (b ∷ more) e v o = absurd (cons-nil b.var (map (λ b. b.var) more) v)
reads-lead fixed a (x ∷ xs) s more e v o =
    let rest = reads-lead fixed a xs in
    by_var fixed x (term_of a x) s
    (λ t q.
    let same : t ≡ term_of a x = sym (ap (λ b. term_of b x) e ∙ ap (term_or (var x)) (bound_term-front s more x.num t q)) in
    ap (option_and_then (λ r. steps fixed (read a xs) r)) (step-bound fixed x (term_of a x) s t q same)
    ∙ rest s more e (v ∙ ap (λ k. cond k (new_vars (is_known fixed s) xs) (x ∷ new_vars (λ n. eqb n x.num || is_known fixed s n) xs)) (known-bound fixed s x.num t q)) o)
    (λ q m.
    let u = v ∙ ap (λ k. cond k (new_vars (is_known fixed s) xs) (x ∷ new_vars (λ n. eqb n x.num || is_known fixed s n) xs)) (known-fixed fixed s x.num m) in
    let same : var x ≡ term_of a x = sym (ap (λ b. term_of b x) e ∙ ap (term_or (var x)) (bound_term-behind s more x.num q ∙ new-unknown x.num (is_known fixed s) xs more (known-fixed fixed s x.num m) u)) in
    ap (option_and_then (λ r. steps fixed (read a xs) r)) (step-fixed fixed x (term_of a x) s q m same) ∙ rest s more e u o)
    (λ q m.
    let k = begins x (new_vars (λ n. eqb n x.num || is_known fixed s n) xs) more
    (v ∙ ap (λ k. cond k (new_vars (is_known fixed s) xs) (x ∷ new_vars (λ n. eqb n x.num || is_known fixed s n) xs)) (unknown fixed s x.num m q)) in
    let there : a ≡ s ++ k.bound ∷ k.rest = e ∙ ap (λ l. s ++ l) k.is in
    let own : HasOwnSorts (k.bound ∷ k.rest) = subst HasOwnSorts k.is o in
    let term : term_of a x ≡ k.bound.term =
    ap (λ b. term_of b x) there
    ∙ ap (term_or (var x)) (bound_term-behind s (k.bound ∷ k.rest) x.num q ∙ ap (λ c. cond c (Some k.bound.term) (bound_term k.rest x.num)) (eq-eqb x.num k.bound.var.num (ap (λ v. v.num) (sym k.variable)))) in
    let is : k.bound ≡ record { var = x; term = term_of a x } = (λ i. record { var = k.variable i; term = sym term i }) in
    let sort : x.sort ≡ own_sort (term_of a x) =
    ap (λ v. v.sort) (sym k.variable) ∙ sym (All-head (λ b. own_sort b.term ≡ b.var.sort) k.bound k.rest own) ∙ ap own_sort (sym term) in
    ap (option_and_then (λ r. steps fixed (read a xs) r)) (step-new fixed x (term_of a x) s q m sort)
    ∙ rest (grown s x (term_of a x)) k.rest
    (there ∙ ap (λ b. s ++ b ∷ k.rest) is ∙ sym (append_assoc s (record { var = x; term = term_of a x } ∷ []) k.rest))
    (k.variables ∙ sym (ap (λ c. new_vars c xs) (known-grown fixed s x (term_of a x))))
    (All-tail (λ b. own_sort b.term ≡ b.var.sort) k.bound k.rest own))

pub match-found : (fixed : List ℕ) (t u : Term) (s a : List Bound) → IsMatch fixed t u s a → matched fixed t u s ≡ Some a
match-found fixed t u s a h =
    ap (λ v. matched fixed t v s) (sym h.becomes) ∙ matched-aligned fixed t (bound_in a t) s ∙ ap (λ o. after fixed o s) (aligned-bound_in a t)
    ∙ reads-lead fixed a (vars_of t) s h.more h.extends h.variables h.own_sorts

pub no-match : (fixed : List ℕ) (t u : Term) (s : List Bound) → matched fixed t u s ≡ None → (a : List Bound) → IsMatch fixed t u s a → ⊥
no-match fixed t u s h a m = none-some a (sym h ∙ match-found fixed t u s a m)

pub matches-unique : (fixed : List ℕ) (t u : Term) (s a b : List Bound) → IsMatch fixed t u s a → IsMatch fixed t u s b → a ≡ b
matches-unique fixed t u s a b h k = same_Some a b (sym (match-found fixed t u s a h) ∙ match-found fixed t u s b k)
