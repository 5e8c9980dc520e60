-- Bindings below a binder: what they give to variables, and what they do to assignments.
use Rattle.std.proofs.Common.{◌≡◌, ℕ, Bool, true, false, cond, eqb, ◌||◌, ◌&&◌, List, [], ◌∷◌, Option, Some, None, ◌≤◌, refl, sym, ◌∙◌, ap, arith}
use Rattle.std.proofs.lemmas.Bool.{eqb-true, eqb-false, ne_eqb, or_from, both_ways}
use Rattle.soqe_term.specs.declared.bindings.Bound.{Bound}
use Rattle.soqe_term.specs.declared.term.Var.{Var}
use Rattle.soqe_term.specs.declared.term.Term.{Term, Var as var}
use Rattle.soqe_term.specs.World.{World, with_var, with_bound}
use Rattle.soqe_number.specs.Updates.{changed}
use Rattle.soqe_term.specs.Value.{value}
use Rattle.soqe_term.specs.Occurs.{occurs, AgreeOn}
use Rattle.soqe_term.specs.Bindings.{bound_term, term_or, term_of, assigned}
use Rattle.soqe_number.proofs.Choices.{by_cases, and_fails, or_none_first, or_none_second}
use Rattle.soqe_term.proofs.Worlds.{changed-commutes, value-unused, value-bound, occurs-above}
use Rattle.soqe_subst.specs.Substitution.{visible, without, bound_mentions, bound_above, caught}

two_tests : (p q : Bool) (u v : List Bound) (b : Bound) (r : ℕ → Bool) → visible r u ≡ v → r b.var.num ≡ p → visible r (cond q u (b ∷ u)) ≡ cond (q || p) v (b ∷ v)
two_tests p true u v b r h e = h
two_tests p false u v b r h e = λ i. cond (e i) (h i) (b ∷ h i)

-- two tests, one after the other
pub visible-visible : (p q : ℕ → Bool) (s : List Bound) → visible p (visible q s) ≡ visible (λ n. q n || p n) s
visible-visible p q [] = refl
visible-visible p q (b ∷ more) = two_tests (p b.var.num) (q b.var.num) (visible q more) (visible (λ n. q n || p n) more) b p (visible-visible p q more) refl

cond-or_swap : (b c : Bool) → (c || b) ≡ cond b true c
cond-or_swap true true = refl
cond-or_swap true false = refl
cond-or_swap false true = refl
cond-or_swap false false = refl

-- hiding one more variable
pub without-visible : (p : ℕ → Bool) (y : ℕ) (s : List Bound) → without y (visible p s) ≡ visible (changed p y true) s
without-visible p y s = visible-visible (λ n. eqb n y) p s ∙ ap (λ q. visible q s) (λ i n. cond-or_swap (eqb n y) (p n) i)

pub visible-all : (s : List Bound) → visible (λ n. false) s ≡ s
visible-all [] = refl
visible-all (b ∷ more) = ap (λ l. b ∷ l) (visible-all more)

seen_step : (p q e : Bool) (u : Term) (o : Option Term) (c : Option Term) → (q ≡ true → e ≡ p) → c ≡ cond e None o → cond p c (cond q (Some u) c) ≡ cond e None (cond q (Some u) o)
seen_step true true e u o c h k = k ∙ (λ i. cond (h refl i) None o) ∙ sym (λ i. cond (h refl i) None (Some u))
seen_step true false e u o c h k = k
seen_step false true e u o c h k = sym (λ i. cond (h refl i) None (Some u))
seen_step false false e u o c h k = k

hidden_step : (p : Bool) (n : ℕ) (b : Bound) (s : List Bound) → bound_term (cond p s (b ∷ s)) n ≡ cond p (bound_term s n) (cond (eqb n b.var.num) (Some b.term) (bound_term s n))
hidden_step true n b s = refl
hidden_step false n b s = refl

none_at : (b : Bool) (o : Option Term) → o ≡ cond b o o
none_at true o = refl
none_at false o = refl

-- a hidden variable has no term, and each other one has its own
pub bound_term-visible : (p : ℕ → Bool) (n : ℕ) (s : List Bound) → bound_term (visible p s) n ≡ cond (p n) None (bound_term s n)
bound_term-visible p n [] = none_at (p n) None
bound_term-visible p n (b ∷ more) =
    hidden_step (p b.var.num) n b (visible p more)
    ∙ seen_step (p b.var.num) (eqb n b.var.num) (p n) b.term (bound_term more n) (bound_term (visible p more) n) (λ e. ap p (eqb-true n b.var.num e)) (bound_term-visible p n more)

-- a number that the binding does not mention has no term
pub bound_term-new : (n : ℕ) (s : List Bound) → bound_mentions n s ≡ false → bound_term s n ≡ None
bound_term-new n [] h = refl
bound_term-new n (b ∷ more) h =
    by_cases (λ o. o ≡ None) (eqb n b.var.num) (Some b.term) (bound_term more n)
    (λ e. absurd (both_ways (eqb n b.var.num) (or_none_first (eqb n b.var.num) (occurs n b.term || bound_mentions n more) h) e))
    (λ e. bound_term-new n more (or_none_second (occurs n b.term) (bound_mentions n more) (or_none_second (eqb n b.var.num) (occurs n b.term || bound_mentions n more) h)))

-- a variable that nothing catches is not in the term of another variable that passes the test
pub occurs-uncaught : (y : ℕ) (p : ℕ → Bool) (s : List Bound) (x : Var) → caught y p s ≡ false → p x.num ≡ true → eqb y x.num ≡ false → occurs y (term_of s x) ≡ false
occurs-uncaught y p [] x h o e = e
occurs-uncaught y p (b ∷ more) x h o e =
    by_cases (λ t. occurs y (term_or (var x) t) ≡ false) (eqb x.num b.var.num) (Some b.term) (bound_term more x.num)
    (λ q. and_fails (p b.var.num) (occurs y b.term) (ap p (sym (eqb-true x.num b.var.num q)) ∙ o) (or_none_first (p b.var.num && occurs y b.term) (caught y p more) h))
    (λ q. occurs-uncaught y p more x (or_none_second (p b.var.num && occurs y b.term) (caught y p more) h) o e)

-- nor is a number that the binding does not mention
pub occurs-new : (z : ℕ) (s : List Bound) (x : Var) → bound_mentions z s ≡ false → eqb z x.num ≡ false → occurs z (term_of s x) ≡ false
occurs-new z [] x h e = e
occurs-new z (b ∷ more) x h e =
    by_cases (λ t. occurs z (term_or (var x) t) ≡ false) (eqb x.num b.var.num) (Some b.term) (bound_term more x.num)
    (λ q. or_none_first (occurs z b.term) (bound_mentions z more) (or_none_second (eqb z b.var.num) (occurs z b.term || bound_mentions z more) h))
    (λ q. occurs-new z more x (or_none_second (occurs z b.term) (bound_mentions z more) (or_none_second (eqb z b.var.num) (occurs z b.term || bound_mentions z more) h)) e)

pub bound_mentions-above : (n : ℕ) (s : List Bound) → bound_above s ≤ n → bound_mentions n s ≡ false
bound_mentions-above n [] h = refl
bound_mentions-above n (b ∷ more) h =
    or_from (eqb n b.var.num) (occurs n b.term || bound_mentions n more) (ne_eqb n b.var.num (omega arith))
    (or_from (occurs n b.term) (bound_mentions n more) (occurs-above n b.term (omega arith)) (bound_mentions-above n more (omega arith)))

-- ---- assignments

choice_hidden : {A : Type 0} (q r : Bool) (a u d : A) → q ≡ r → cond q a d ≡ cond q a (cond r u d)
choice_hidden true r a u d e = refl
choice_hidden false true a u d e = let e : false ≡ true = e in cc
choice_hidden false false a u d e = refl

two_sides : {A : Type 0} (q r : Bool) (v u a d : A) → (q ≡ true → v ≡ u) → (q ≡ true → r ≡ false) → cond q v (cond r a d) ≡ cond r a (cond q u d)
two_sides true true v u a d h k = let e : true ≡ false = k refl in cc
two_sides true false v u a d h k = h refl
two_sides false r v u a d h k = refl

same_left : (n m y : ℕ) → eqb n m ≡ true → eqb n y ≡ eqb m y
same_left n m y e = ap (λ k. eqb k y) (eqb-true n m e)

same_right : (n m y : ℕ) → eqb m y ≡ true → eqb n y ≡ eqb n m
same_right n m y e = ap (λ k. eqb n k) (sym (eqb-true m y e))

-- below a binder of y that catches nothing
pub assigned-under : (w : World) (y a : ℕ) (s : List Bound) (p : ℕ → Bool) → caught y p (without y s) ≡ false → AgreeOn p (assigned (with_var w y a) (without y s)) (changed (assigned w s) y a)
assigned-under w y a [] p h n o = refl
assigned-under w y a (b ∷ more) p h n o =
    (by_cases (λ s. caught y p s ≡ false → assigned (with_var w y a) s n ≡ changed (changed (assigned w more) b.var.num (value w b.term)) y a n) (eqb b.var.num y) (without y more) (b ∷ without y more)
    (λ e c. assigned-under w y a more p c n o ∙ choice_hidden (eqb n y) (eqb n b.var.num) a (value w b.term) (assigned w more n) (same_right n b.var.num y e))
    (λ e c. ap (λ d. cond (eqb n b.var.num) (value (with_var w y a) b.term) d) (assigned-under w y a more p (or_none_second (p b.var.num && occurs y b.term) (caught y p (without y more)) c) n o)
    ∙ two_sides (eqb n b.var.num) (eqb n y) (value (with_var w y a) b.term) (value w b.term) a (assigned w more n)
    (λ q. value-unused w y a b.term (and_fails (p b.var.num) (occurs y b.term) (ap p (sym (eqb-true n b.var.num q)) ∙ o) (or_none_first (p b.var.num && occurs y b.term) (caught y p (without y more)) c)))
    (λ q. same_left n b.var.num y q ∙ e))) h

-- a number that the binding does not mention has its own element there
pub assigned-new : (w : World) (z a : ℕ) (s : List Bound) → bound_mentions z s ≡ false → assigned (with_var w z a) s ≡ changed (assigned w s) z a
assigned-new w z a [] h = refl
assigned-new w z a (b ∷ more) h =
    let off_b = or_none_first (eqb z b.var.num) (occurs z b.term || bound_mentions z more) h in
    let others = or_none_second (eqb z b.var.num) (occurs z b.term || bound_mentions z more) h in
    (λ i. changed (assigned-new w z a more (or_none_second (occurs z b.term) (bound_mentions z more) others) i) b.var.num (value-unused w z a b.term (or_none_first (occurs z b.term) (bound_mentions z more) others) i))
    ∙ sym (changed-commutes (assigned w more) b.var.num z (value w b.term) a (ne_eqb b.var.num z (λ e. eqb-false z b.var.num off_b (sym e))))

-- bindings of y don't matter where y is changed
pub assigned-without : (w : World) (y a : ℕ) (s : List Bound) → changed (assigned w (without y s)) y a ≡ changed (assigned w s) y a
assigned-without w y a [] = refl
assigned-without w y a (b ∷ more) =
    by_cases (λ s. changed (assigned w s) y a ≡ changed (changed (assigned w more) b.var.num (value w b.term)) y a) (eqb b.var.num y) (without y more) (b ∷ without y more)
    (λ e. assigned-without w y a more ∙ (λ i n. choice_hidden (eqb n y) (eqb n b.var.num) a (value w b.term) (assigned w more n) (same_right n b.var.num y e) i))
    (λ e. changed-commutes (assigned w (without y more)) b.var.num y (value w b.term) a e
    ∙ ap (λ f. changed f b.var.num (value w b.term)) (assigned-without w y a more)
    ∙ sym (changed-commutes (assigned w more) b.var.num y (value w b.term) a e))

-- tables of bound predicates don't matter
pub assigned-tables : (w : World) (p : ℕ) (t : List ℕ → Bool) (s : List Bound) → assigned (with_bound w p t) s ≡ assigned w s
assigned-tables w p t [] = refl
assigned-tables w p t (b ∷ more) = λ i. changed (assigned-tables w p t more i) b.var.num (value-bound w p t b.term i)
