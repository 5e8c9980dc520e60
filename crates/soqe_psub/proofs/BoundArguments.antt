-- The binding of parameters to arguments, built from the front.
use Rattle.std.proofs.Common.{◌≡◌, ℕ, Bool, true, false, cond, eqb, ◌||◌, List, [], ◌∷◌, ◌++◌, drop, get_or, length, ◌+◌, ◌<◌, Option, Some, None, refl, sym, ◌∙◌, ap, append_assoc}
use Rattle.std.specs.Prelude.{is_some}
use Rattle.std.proofs.lemmas.Bool.{eqb-true}
use Rattle.std.proofs.lemmas.List.{drop_more}
use Rattle.soqe_term.specs.declared.bindings.Bound.{Bound}
use Rattle.soqe_term.specs.declared.term.Var.{Var}
use Rattle.soqe_term.specs.declared.term.Term.{Term}
use Rattle.soqe_term.specs.declared.term.Terms.{Terms, Nil, Cons}
use Rattle.soqe_term.specs.Boxes.{boxes as term_boxes}
use Rattle.soqe_term.specs.Bindings.{bound_term}
use Rattle.soqe_number.proofs.Choices.{bool_cases}
use Rattle.soqe_subst.specs.Substitution.{visible, without}
use Rattle.soqe_subst.proofs.Binders.{visible-visible, visible-all}
use Rattle.soqe_psub.specs.PredSubst.{arguments}
use Rattle.soqe_psub.specs.Replaces.{is_known, with_first}

known_step : (c q : Bool) (t : Term) (o : Option Term) → is_some (cond c (Some t) o) ≡ (c || is_some o)
known_step true q t o = refl
known_step false q t o = refl

or_swap : (a b c : Bool) → (a || (b || c)) ≡ (b || (a || c))
or_swap true true c = refl
or_swap true false c = refl
or_swap false true c = refl
or_swap false false c = refl

-- one more variable at the end
is_known-snoc : (s : List Bound) (b : Bound) (n : ℕ) → is_known (s ++ b ∷ []) n ≡ (eqb n b.var.num || is_known s n)
is_known-snoc [] b n = known_step (eqb n b.var.num) true b.term None
is_known-snoc (c ∷ s) b n =
    known_step (eqb n c.var.num) true c.term (bound_term (s ++ b ∷ []) n) ∙ ap (λ o. eqb n c.var.num || o) (is_known-snoc s b n)
    ∙ or_swap (eqb n c.var.num) (eqb n b.var.num) (is_known s n) ∙ ap (λ o. eqb n b.var.num || o) (sym (known_step (eqb n c.var.num) true c.term (bound_term s n)))

already : (p : ℕ → Bool) (x : ℕ) → p x ≡ true → (λ n. eqb n x || p n) ≡ p
already p x h = λ i n. one n i
  where
    one : (n : ℕ) → (eqb n x || p n) ≡ p n
    one n = bool_cases (λ c. eqb n x ≡ c → (c || p n) ≡ p n) (eqb n x) (λ _ e. sym (ap p (eqb-true n x e) ∙ h)) (λ _ e. refl) refl

-- one parameter more, and those behind it
pub bind-step : (s : List Bound) (x : Var) (t : Term) (z : List Bound)
    → with_first s x t ++ visible (is_known (with_first s x t)) z ≡ s ++ visible (is_known s) (record { var = x; term = t } ∷ without x.num z)
bind-step s x t z =
    let e : Bound = record { var = x; term = t } in
    let p : ℕ → Bool = is_known s in
    let twice : visible p (without x.num z) ≡ visible (λ n. eqb n x.num || p n) z = visible-visible p (λ n. eqb n x.num) z in
    bool_cases (λ k. p x.num ≡ k → cond k s (s ++ e ∷ []) ++ visible (is_known (cond k s (s ++ e ∷ []))) z ≡ s ++ cond k (visible p (without x.num z)) (e ∷ visible p (without x.num z))) (p x.num)
    (λ _ k. ap (λ l. s ++ l) (sym (twice ∙ ap (λ p. visible p z) (already p x.num k))))
    (λ _ k. append_assoc s (e ∷ []) (visible (is_known (s ++ e ∷ [])) z)
    ∙ ap (λ l. s ++ e ∷ l) ((λ i. visible (λ n. is_known-snoc s e n i) z) ∙ sym twice))
    refl

-- at first nothing is known
pub bind-all : (z : List Bound) → [] ++ visible (is_known []) z ≡ z
bind-all z = visible-all z

none-left : (xs : List Var) → arguments xs Nil ≡ []
none-left [] = refl
none-left (x ∷ xs) = refl

no-more : (s : List Bound) → s ++ [] ≡ s
no-more [] = refl
no-more (b ∷ s) = ap (λ l. b ∷ l) (no-more s)

-- no argument is left
pub bind-nil : (xs : List Var) (s : List Bound) (ts : Terms) → ts ≡ Nil → s ≡ s ++ visible (is_known s) (arguments xs ts)
bind-nil xs s ts e = sym (ap (λ l. s ++ visible (is_known s) l) (ap (arguments xs) e ∙ none-left xs) ∙ no-more s)

-- the parameter at a place gets the first argument, and those behind it the others
pub bind-cons : (xs : List Var) (i : ℕ) (s u v : List Bound) (x : Var) (t : Term) (ts all : Terms) → i < length xs → x ≡ get_or xs i x → all ≡ Cons t ts → u ≡ with_first s x t
    → v ≡ u ++ visible (is_known u) (arguments (drop (i + 1) xs) ts) → v ≡ s ++ visible (is_known s) (arguments (drop i xs) all)
unfolding term_boxes
bind-cons xs i s u v x t ts all within at e first rest =
    rest ∙ ap (λ u. u ++ visible (is_known u) (arguments (drop (i + 1) xs) ts)) first
    ∙ bind-step s x t (arguments (drop (i + 1) xs) ts)
    ∙ (λ j. s ++ visible (is_known s) (arguments (at j ∷ drop (i + 1) xs) (sym e j)))
    ∙ (λ j. s ++ visible (is_known s) (arguments (sym (drop_more xs i x within) j) all))
