-- Listing the numbers that stand in terms, and in what is seen of a binding: one list behind the other.
use Rattle.std.proofs.Common.{◌≡◌, ℕ, zero, suc, Bool, true, false, cond, List, [], ◌∷◌, ◌++◌, take, Option, Some, None, refl, sym, ◌∙◌, ap, append_assoc}
use Rattle.std.specs.Prelude.{slice_get}
use Rattle.std.proofs.lemmas.List.{append-nil}
use Rattle.soqe_term.specs.declared.bindings.Bound.{Bound}
use Rattle.soqe_term.specs.declared.term.Var.{Var}
use Rattle.soqe_term.specs.declared.term.Term.{Term}
use Rattle.soqe_term.specs.Bindings.{bound_term}
use Rattle.soqe_uses.specs.Numbers.{numbers}
use Rattle.soqe_subst.specs.Standing.{term_numbers, binding_numbers, entry_numbers, numbers_at}
use Rattle.soqe_subst.specs.Substitution.{visible}
use Rattle.soqe_subst.proofs.Binders.{bound_term-visible}
use Rattle.soqe_subst.proofs.StandingNumbers.{numbers-append}

abbrev Vars : Type 0
Vars = List (ℕ × Option Var)

-- the numbers of two lists of variables, one behind the other
pub listed-both : (xs ys zs : List Var) (ks ls ms : List ℕ) → zs ≡ xs ++ ys → ls ≡ ks ++ numbers xs → ms ≡ ls ++ numbers ys → ms ≡ ks ++ numbers zs
listed-both xs ys zs ks ls ms e h k =
    k ∙ ap (λ l. l ++ numbers ys) h ∙ append_assoc ks (numbers xs) (numbers ys) ∙ ap (λ l. ks ++ l) (sym (ap numbers e ∙ numbers-append xs ys))

-- one more number, and then those of a term
pub listed-more : (n : ℕ) (ks ls ms ns : List ℕ) → ls ≡ ks ++ n ∷ [] → ms ≡ ls ++ ns → ms ≡ ks ++ n ∷ ns
listed-more n ks ls ms ns h k = k ∙ ap (λ l. l ++ ns) h ∙ append_assoc ks (n ∷ []) ns

-- ---- one variable of a binding

-- a hidden variable has no numbers
pub entry-hidden : (h : ℕ → Bool) (s : List Bound) (y : ℕ) (ns : List ℕ) → h y ≡ true → ns ≡ ns ++ entry_numbers y (bound_term (visible h s) y)
entry-hidden h s y ns e =
    sym (append-nil ns) ∙ ap (λ o. ns ++ entry_numbers y o) (sym (bound_term-visible h y s ∙ ap (λ b. cond b None (bound_term s y)) e))

-- and any other has those of its own term
pub entry-shown : (h : ℕ → Bool) (s : List Bound) (y : ℕ) (o : Option Term) (ks ls : List ℕ) → h y ≡ false → bound_term s y ≡ o → ls ≡ ks ++ entry_numbers y o
    → ls ≡ ks ++ entry_numbers y (bound_term (visible h s) y)
entry-shown h s y o ks ls e t k =
    k ∙ ap (λ o. ks ++ entry_numbers y o) (sym (bound_term-visible h y s ∙ ap (λ b. cond b None (bound_term s y)) e ∙ t))

-- ---- a binding, one place after the other

front_step : (q : Bool) (b : Bound) (v : List Bound) → binding_numbers (cond q v (b ∷ v)) ≡ cond q [] (b.var.num ∷ term_numbers b.term) ++ binding_numbers v
front_step true b v = refl
front_step false b v = refl

numbers-take : (h : ℕ → Bool) (s : List Bound) (k : ℕ) → binding_numbers (visible h (take (suc k) s)) ≡ binding_numbers (visible h (take k s)) ++ numbers_at h (slice_get s k)
numbers-take h [] zero = refl
numbers-take h [] (suc k) = refl
numbers-take h (b ∷ more) zero = front_step (h b.var.num) b [] ∙ append-nil (numbers_at h (Some b))
numbers-take h (b ∷ more) (suc k) =
    front_step (h b.var.num) b (visible h (take (suc k) more)) ∙ ap (λ l. numbers_at h (Some b) ++ l) (numbers-take h more k)
    ∙ sym (append_assoc (numbers_at h (Some b)) (binding_numbers (visible h (take k more))) (numbers_at h (slice_get more k)))
    ∙ ap (λ l. l ++ numbers_at h (slice_get more k)) (sym (front_step (h b.var.num) b (visible h (take k more))))

-- the numbers at one more place
pub listed-take : (h : ℕ → Bool) (s : List Bound) (k m : ℕ) (ns ks ls : List ℕ) → m ≡ suc k → ks ≡ ns ++ binding_numbers (visible h (take k s))
    → ls ≡ ks ++ numbers_at h (slice_get s k) → ls ≡ ns ++ binding_numbers (visible h (take m s))
listed-take h s k m ns ks ls e p q =
    q ∙ ap (λ l. l ++ numbers_at h (slice_get s k)) p ∙ append_assoc ns (binding_numbers (visible h (take k s))) (numbers_at h (slice_get s k))
    ∙ ap (λ l. ns ++ l) (sym (ap (λ j. binding_numbers (visible h (take j s))) e ∙ numbers-take h s k))
