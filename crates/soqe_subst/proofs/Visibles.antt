-- What takes the place of a variable in a term, where binders have hidden some variables and given them new ones.
use Rattle.std.proofs.Common.{◌≡◌, ℕ, Bool, true, false, cond, List, Option, Some, None, refl, sym, ◌∙◌, ap}
use Rattle.std.specs.Option.{unwrap_or}
use Rattle.std.proofs.lemmas.Bool.{both_ways}
use Rattle.soqe_term.specs.declared.bindings.Bound.{Bound}
use Rattle.soqe_term.specs.declared.term.Var.{Var}
use Rattle.soqe_term.specs.declared.term.Term.{Term, Var as var}
use Rattle.soqe_term.specs.Bindings.{bound_term, term_or, term_of}
use Rattle.soqe_subst.specs.Substitution.{visible}
use Rattle.soqe_subst.specs.NewVars.{IsApart}
use Rattle.soqe_subst.specs.Renewed.{renewed_var}
use Rattle.soqe_subst.proofs.Binders.{bound_term-visible, bound_term-new}

-- a hidden variable stays, and any other has its own term or stays
term_of-hidden : (h : ℕ → Bool) (s : List Bound) (y : Var) → h y.num ≡ true → var y ≡ term_of (visible h s) y
term_of-hidden h s y e = sym (ap (term_or (var y)) (bound_term-visible h y.num s ∙ ap (λ b. cond b None (bound_term s y.num)) e))

term_of-shown : (h : ℕ → Bool) (s : List Bound) (y : Var) (o : Option Term) → h y.num ≡ false → bound_term s y.num ≡ o → term_or (var y) o ≡ term_of (visible h s) y
term_of-shown h s y o e t = sym (ap (term_or (var y)) (bound_term-visible h y.num s ∙ ap (λ b. cond b None (bound_term s y.num)) e ∙ t))

-- a hidden variable has its new variable in its place or stays, and a binding that is apart leaves either
pub term_of-renewed : (h : ℕ → Bool) (r : ℕ → Option Var) (s : List Bound) (y : Var) → h y.num ≡ true → IsApart (visible h s) h r
    → var (renewed_var r y) ≡ term_of (visible h s) (renewed_var r y)
term_of-renewed h r s y e apart = by_new (r y.num) refl
  where
    by_new : (o : Option Var) → r y.num ≡ o → var (unwrap_or o y) ≡ term_of (visible h s) (unwrap_or o y)
    by_new None q = term_of-hidden h s y e
    by_new (Some z) q = sym (ap (term_or (var z)) (bound_term-new z.num (visible h s) (apart.stands y.num z q)))

-- a variable that is seen has no new one: it has its own term or stays
pub term_of-own : (h : ℕ → Bool) (r : ℕ → Option Var) (s : List Bound) (y : Var) (o : Option Term) → h y.num ≡ false → bound_term s y.num ≡ o
    → IsApart (visible h s) h r → term_or (var y) o ≡ term_of (visible h s) (renewed_var r y)
term_of-own h r s y o e t apart = term_of-shown h s y o e t ∙ by_new (r y.num) refl
  where
    by_new : (new : Option Var) → r y.num ≡ new → term_of (visible h s) y ≡ term_of (visible h s) (unwrap_or new y)
    by_new None q = refl
    by_new (Some z) q = absurd (both_ways (h y.num) e (apart.hides y.num z q))
