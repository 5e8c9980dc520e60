-- A pattern and a term side by side.
--
-- That gives each occurrence of a variable with the part of the term at its place, from left to right. Matching goes
-- through these pairs (matched-aligned); a binding that gives each variable its part makes the pattern the term
-- (bound_in-aligned), and beside what a binding makes of it a pattern reads that binding (aligned-bound_in).
use Rattle.std.proofs.Common.{◌≡◌, ℕ, Bool, true, false, cond, eqb, ◌&&◌, List, [], ◌∷◌, ◌++◌, map, Option, Some, None, refl, sym, ◌∙◌, ap, subst}
use Rattle.std.proofs.lemmas.Bool.{eqb-true}
use Rattle.std.proofs.lemmas.List.{map-append}
use Rattle.std.proofs.lemmas.Option.{none-some, same_Some}
use Rattle.std.specs.Option.{option_and_then}
use Rattle.soqe_term.specs.declared.bindings.Bound.{Bound}
use Rattle.soqe_term.specs.declared.term.Var.{Var}
use Rattle.soqe_term.specs.declared.term.Term.{Term, Var as var, App}
use Rattle.soqe_term.specs.declared.term.Terms.{Terms, Nil, Cons, Cons', end_of-Term as end, more_of-Term as one, end_of-Terms as ends, more_of-Terms as ones}
use Rattle.soqe_term.specs.Boxes.{boxes}
use Rattle.soqe_term.specs.Bindings.{term_of, bound_in, all_bound_in}
use Rattle.soqe_term.specs.Equal.{equal_symbols}
use Rattle.soqe_term.specs.Matching.{vars_of, vars_in}
use Rattle.soqe_term.specs.Matched.{matched_var, matched, matched_all}
use Rattle.soqe_number.proofs.Choices.{and_first, and_second}
use Rattle.soqe_term.proofs.Worlds.{eqb-self}
use Rattle.soqe_term.proofs.EqualTerms.{equal_symbols-same, equal_symbols-refl}

-- an occurrence of a variable, and the part of the term at its place
abbrev pub Pair : Type 0
Pair = Var × Term

abbrev joined : Option (List Pair) → Option (List Pair) → Option (List Pair)
joined None q = None
joined (Some ps) None = None
joined (Some ps) (Some qs) = Some (ps ++ qs)

abbrev mutual
  -- a pattern and a term side by side, none where they clash
  pub aligned : Term → Term → Option (List Pair)
  aligned (var x) u = Some ((x, u) ∷ [])
  aligned (App f m ts) (var y) = None
  aligned (App f m ts) (App g n us) = cond (equal_symbols f g && eqb m n) (aligned_all ts us) None

  pub aligned_all : Terms → Terms → Option (List Pair)
  aligned_all Nil Nil = Some []
  aligned_all Nil (Cons' _ (one u end) _ (ones us ends)) = None
  aligned_all (Cons' _ (one t end) _ (ones ts ends)) Nil = None
  aligned_all (Cons' _ (one t end) _ (ones ts ends)) (Cons' _ (one u end) _ (ones us ends)) = joined (aligned t u) (aligned_all ts us)

-- the pairs one after another
abbrev pub steps : List ℕ → List Pair → List Bound → Option (List Bound)
steps fixed [] s = Some s
steps fixed (p ∷ ps) s = option_and_then (λ r. steps fixed ps r) (matched_var fixed p.0 p.1 s)

abbrev pub after : List ℕ → Option (List Pair) → List Bound → Option (List Bound)
after fixed None s = None
after fixed (Some ps) s = steps fixed ps s

and_then-some : {A : Type 0} (o : Option A) → option_and_then (λ r. Some r) o ≡ o
and_then-some None = refl
and_then-some (Some r) = refl

and_then-none : {A B : Type 0} (o : Option A) → option_and_then {T = A} {U = B} (λ r. None) o ≡ None
and_then-none None = refl
and_then-none (Some r) = refl

module _ (fixed : List ℕ) where
  steps-append : (ps qs : List Pair) (s : List Bound) → option_and_then (λ r. steps fixed qs r) (steps fixed ps s) ≡ steps fixed (ps ++ qs) s
  steps-append [] qs s = refl
  steps-append (p ∷ ps) qs s = by (matched_var fixed p.0 p.1 s) (λ r. steps-append ps qs r)
    where
      by : (o : Option (List Bound)) → ((r : List Bound) → option_and_then (λ r. steps fixed qs r) (steps fixed ps r) ≡ steps fixed (ps ++ qs) r)
          → option_and_then (λ r. steps fixed qs r) (option_and_then (λ r. steps fixed ps r) o) ≡ option_and_then (λ r. steps fixed (ps ++ qs) r) o
      by None h = refl
      by (Some r) h = h r

  after-joined : (o q : Option (List Pair)) (s : List Bound) → option_and_then (λ r. after fixed q r) (after fixed o s) ≡ after fixed (joined o q) s
  after-joined None q s = refl
  after-joined (Some ps) None s = and_then-none (steps fixed ps s)
  after-joined (Some ps) (Some qs) s = steps-append ps qs s

  mutual
    pub matched-aligned : (t u : Term) (s : List Bound) → matched fixed t u s ≡ after fixed (aligned t u) s
    matched-aligned (var x) u s = sym (and_then-some (matched_var fixed x u s))
    matched-aligned (App f m ts) (var y) s = refl
    matched-aligned (App f m ts) (App g n us) s =
        by (equal_symbols f g && eqb m n) (matched_all-aligned ts us s)
      where
        by : (q : Bool) → matched_all fixed ts us s ≡ after fixed (aligned_all ts us) s → cond q (matched_all fixed ts us s) None ≡ after fixed (cond q (aligned_all ts us) None) s
        by true h = h
        by false h = refl

    matched_all-aligned : (ts us : Terms) (s : List Bound) → matched_all fixed ts us s ≡ after fixed (aligned_all ts us) s
    matched_all-aligned Nil Nil s = refl
    matched_all-aligned Nil (Cons' _ (one u end) _ (ones us ends)) s = refl
    matched_all-aligned (Cons' _ (one t end) _ (ones ts ends)) Nil s = refl
    matched_all-aligned (Cons' _ (one t end) _ (ones ts ends)) (Cons' _ (one u end) _ (ones us ends)) s =
        (λ i. option_and_then (λ r. matched_all-aligned ts us r i) (matched-aligned t u s i)) ∙ after-joined (aligned t u) (aligned_all ts us) s

-- what stands for each occurrence
abbrev pub read : List Bound → List Var → List Pair
read a xs = map (λ x. (x, term_of a x)) xs

mutual
  unfolding boxes

  -- a pattern beside what a binding makes of it
  pub aligned-bound_in : (a : List Bound) (t : Term) → aligned t (bound_in a t) ≡ Some (read a (vars_of t))
  aligned-bound_in a (var x) = refl
  aligned-bound_in a (App f m ts) =
      ap (λ q. cond q (aligned_all ts (all_bound_in a ts)) None) (λ i. equal_symbols-refl f i && eqb-self m i) ∙ aligned_all-bound_in a ts

  aligned_all-bound_in : (a : List Bound) (ts : Terms) → aligned_all ts (all_bound_in a ts) ≡ Some (read a (vars_in ts))
  aligned_all-bound_in a Nil = refl
  aligned_all-bound_in a (Cons' _ (one t end) _ (ones ts ends)) =
      (λ i. joined (aligned-bound_in a t i) (aligned_all-bound_in a ts i)) ∙ ap Some (sym (map-append (λ x. (x, term_of a x)) (vars_of t) (vars_in ts)))

-- the binding gives each pair's part to its variable
abbrev pub Reads : List Bound → List Pair → Type 0
Reads a [] = Unit {0}
Reads a (p ∷ ps) = (term_of a p.0 ≡ p.1) × Reads a ps

Reads-append : (a : List Bound) (ps qs : List Pair) → Reads a (ps ++ qs) → Reads a ps × Reads a qs
Reads-append a [] qs h = (tt, h)
Reads-append a (p ∷ ps) qs h = let k = Reads-append a ps qs h.1 in ((h.0, k.0), k.1)

-- both of what is joined is there
record Joins (o q : Option (List Pair)) (ps : List Pair) : Type 0 where
  pub left : List Pair
  pub right : List Pair
  pub left_is : o ≡ Some left
  pub right_is : q ≡ Some right
  pub is : ps ≡ left ++ right

joins : (o q : Option (List Pair)) (ps : List Pair) → joined o q ≡ Some ps → Joins o q ps
joins None q ps h = absurd (none-some ps h)
joins (Some l) None ps h = absurd (none-some ps h)
joins (Some l) (Some r) ps h = record { left = l; right = r; left_is = refl; right_is = refl; is = sym (same_Some (l ++ r) ps h) }

-- a choice that is there took the first part
pub chosen : {A : Type 0} (q : Bool) (o : Option A) (r : A) → cond q o None ≡ Some r → (q ≡ true) × (o ≡ Some r)
chosen true o r h = (refl, h)
chosen false o r h = absurd (none-some r h)

mutual
  unfolding boxes

  -- where the parts are those that the binding gives, it makes the pattern the term
  pub bound_in-aligned : (a : List Bound) (t u : Term) (ps : List Pair) → aligned t u ≡ Some ps → Reads a ps → bound_in a t ≡ u
  bound_in-aligned a (var x) u ps h r = (subst (Reads a) (sym (same_Some ((x, u) ∷ []) ps h)) r).0
  bound_in-aligned a (App f m ts) (var y) ps h r = absurd (none-some ps h)
  bound_in-aligned a (App f m ts) (App g n us) ps h r =
      let c = chosen (equal_symbols f g && eqb m n) (aligned_all ts us) ps h in
      let s = equal_symbols-same f g (and_first (equal_symbols f g) (eqb m n) c.0) in
      let k = eqb-true m n (and_second (equal_symbols f g) (eqb m n) c.0) in
      let more = all_bound_in-aligned a ts us ps c.1 r in
      (λ i. App (s i) (k i) (more i))

  all_bound_in-aligned : (a : List Bound) (ts us : Terms) (ps : List Pair) → aligned_all ts us ≡ Some ps → Reads a ps → all_bound_in a ts ≡ us
  all_bound_in-aligned a Nil Nil ps h r = refl
  all_bound_in-aligned a Nil (Cons' _ (one u end) _ (ones us ends)) ps h r = absurd (none-some ps h)
  all_bound_in-aligned a (Cons' _ (one t end) _ (ones ts ends)) Nil ps h r = absurd (none-some ps h)
  all_bound_in-aligned a (Cons' _ (one t end) _ (ones ts ends)) (Cons' _ (one u end) _ (ones us ends)) ps h r =
      let j = joins (aligned t u) (aligned_all ts us) ps h in
      let both = Reads-append a j.left j.right (subst (Reads a) j.is r) in
      let first = bound_in-aligned a t u j.left j.left_is both.0 in
      let more = all_bound_in-aligned a ts us j.right j.right_is both.1 in
      (λ i. Cons (first i) (more i))

mutual
  -- the pairs' variables are those of the pattern
  pub aligned-vars : (t u : Term) (ps : List Pair) → aligned t u ≡ Some ps → map (λ p. p.0) ps ≡ vars_of t
  aligned-vars (var x) u ps h = ap (map (λ p. p.0)) (sym (same_Some ((x, u) ∷ []) ps h))
  aligned-vars (App f m ts) (var y) ps h = absurd (none-some ps h)
  aligned-vars (App f m ts) (App g n us) ps h = aligned_all-vars ts us ps (chosen (equal_symbols f g && eqb m n) (aligned_all ts us) ps h).1

  aligned_all-vars : (ts us : Terms) (ps : List Pair) → aligned_all ts us ≡ Some ps → map (λ p. p.0) ps ≡ vars_in ts
  aligned_all-vars Nil Nil ps h = ap (map (λ p. p.0)) (sym (same_Some [] ps h))
  aligned_all-vars Nil (Cons' _ (one u end) _ (ones us ends)) ps h = absurd (none-some ps h)
  aligned_all-vars (Cons' _ (one t end) _ (ones ts ends)) Nil ps h = absurd (none-some ps h)
  aligned_all-vars (Cons' _ (one t end) _ (ones ts ends)) (Cons' _ (one u end) _ (ones us ends)) ps h =
      let j = joins (aligned t u) (aligned_all ts us) ps h in
      ap (map (λ p. p.0)) j.is ∙ map-append (λ p. p.0) j.left j.right ∙ (λ i. aligned-vars t u j.left j.left_is i ++ aligned_all-vars ts us j.right j.right_is i)
