-- Uses and formulas of a tree are those of what stands within its negations and parentheses.
use Rattle.std.specs.Prelude.{ℕ, zero, suc, ◌+◌, ◌≤◌, ◌≡◌, List, refl}
use Rattle.std.proofs.Common.{◌∙◌, ap, arith}
use Rattle.soqe_syntax.specs.declared.piece.Span.{Span}
use Rattle.soqe_syntax.specs.Grammar as syntax
use Rattle.soqe_form.specs.declared.form.Form.{Form, Not}
use Rattle.soqe_text.specs.Bare.{Wraps, weight, bare, negated, parened, negations}
use Rattle.soqe_text.specs.Meanings.{Names}
use Rattle.soqe_text.specs.Numbering.{numbered_by}
use Rattle.soqe_text.specs.Uses.{wrong_by}

pub weight-within : (t u : syntax.Tree Span) (n : ℕ) → Wraps t n u → weight u ≤ weight t
weight-within t u n bare = omega arith
weight-within t u n (negated {n = m} w) = let outer = weight-within t (syntax.Not u) m w in omega (arith, outer)
weight-within t u n (parened w) = let outer = weight-within t (syntax.Paren u) n w in omega (arith, outer)

module _ {V P : Type 0} (bytes : List ℕ) (names : Names V P) where
  pub wrong-within : (vs : V) (ps : P) (t u : syntax.Tree Span) (n : ℕ) → Wraps t n u → wrong_by bytes names vs ps t ≡ wrong_by bytes names vs ps u
  wrong-within vs ps t u n bare = refl
  wrong-within vs ps t u n (negated {n = m} w) = wrong-within vs ps t (syntax.Not u) m w
  wrong-within vs ps t u n (parened w) = wrong-within vs ps t (syntax.Paren u) n w

  pub numbered-within : (vs : V) (t u : syntax.Tree Span) (n : ℕ) → Wraps t n u → numbered_by bytes names vs t ≡ negations n (numbered_by bytes names vs u)
  numbered-within vs t u n bare = refl
  numbered-within vs t u n (negated {n = m} w) =
      let e : suc m ≡ m + 1 = omega arith in
      numbered-within vs t (syntax.Not u) m w ∙ ap (λ k. negations k (numbered_by bytes names vs u)) e
  numbered-within vs t u n (parened w) = numbered-within vs t (syntax.Paren u) n w

-- one negation more round a formula within negations
negated_once : (n : ℕ) (f : Form) → Not (negations n f) ≡ negations n (Not f)
negated_once zero f = refl
negated_once (suc n) f = negated_once n (Not f)

pub negations_more : (n : ℕ) (f : Form) → Not (negations n f) ≡ negations (n + 1) f
negations_more n f = let e : suc n ≡ n + 1 = omega arith in negated_once n f ∙ ap (λ k. negations k f) e
