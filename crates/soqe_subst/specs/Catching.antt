-- Which binders of a formula catch a variable, found from the inside out: a binder of y does where a substitution puts y into its body.
-- What is found lies one on another, the topmost first: an outer binder's lies above those in its body, and a second child's lie
-- above those of the first.
use Rattle.std.specs.Prelude.{ℕ, ◌≡◌, ◌+◌, Bool, false, List, Option, Some, None}
use Rattle.soqe_term.specs.declared.bindings.Bound.{Bound}
use Rattle.soqe_term.specs.declared.term.Term.{Term, Var as var, App}
use Rattle.soqe_term.specs.declared.term.Terms.{Terms, Nil, Cons', end_of-Term as end-t, more_of-Term as one-t, end_of-Terms as ends-t, more_of-Terms as ones-t}
use Rattle.soqe_term.specs.Bindings.{bound_term, HasDistinctVars}
use Rattle.soqe_form.specs.declared.form.Form.{Form, True, False, Equal, Atom, Not', And', Or', Imp', Iff', All', Ex', All2', Ex2', end_of-Form as end, more_of-Form as one}
use Rattle.soqe_number.specs.Counts.{times, Counts}
use Rattle.soqe_number.specs.Marks.{marked}
use Rattle.soqe_uses.specs.Uses.{top, under, below}
use Rattle.soqe_subst.specs.Substitution.{visible, without, catches}
use Rattle.soqe_subst.specs.Standing.{term_numbers}

-- how often the number stands in the term that takes a variable's place
abbrev pub put_by : ℕ → Option Term → ℕ
put_by n None = 0
put_by n (Some t) = times n (term_numbers t)

abbrev mutual
  -- how often the binding puts the number into a term
  pub put_in_term : List Bound → ℕ → Term → ℕ
  put_in_term s n (var y) = put_by n (bound_term s y.num)
  put_in_term s n (App f o ts) = put_in_terms s n ts

  pub put_in_terms : List Bound → ℕ → Terms → ℕ
  put_in_terms s n Nil = 0
  put_in_terms s n (Cons' _ (one-t t end-t) _ (ones-t ts ends-t)) = put_in_term s n t + put_in_terms s n ts

-- how often the binding puts the number into a formula
abbrev pub put_in : List Bound → ℕ → Form → ℕ
put_in s n True = 0
put_in s n False = 0
put_in s n (Equal t u) = put_in_term s n t + put_in_term s n u
put_in s n (Atom p ts) = put_in_terms s n ts
put_in s n (Not' _ (one f end)) = put_in s n f
put_in s n (And' _ (one f end) _ (one g end)) = put_in s n f + put_in s n g
put_in s n (Or' _ (one f end) _ (one g end)) = put_in s n f + put_in s n g
put_in s n (Imp' _ (one f end) _ (one g end)) = put_in s n f + put_in s n g
put_in s n (Iff' _ (one f end) _ (one g end)) = put_in s n f + put_in s n g
put_in s n (All' x _ (one f end)) = put_in (without x.num s) n f
put_in s n (Ex' x _ (one f end)) = put_in (without x.num s) n f
put_in s n (All2' p _ (one f end)) = put_in s n f
put_in s n (Ex2' p _ (one f end)) = put_in s n f

-- whether each binder of f catches a variable is on top
abbrev pub AreCaught : List Bound → Form → List Bool → Type 0
AreCaught s True bs = Unit {0}
AreCaught s False bs = Unit {0}
AreCaught s (Equal t u) bs = Unit {0}
AreCaught s (Atom p ts) bs = Unit {0}
AreCaught s (Not' _ (one f end)) bs = AreCaught s f bs
AreCaught s (And' _ (one f end) _ (one g end)) bs = AreCaught s g bs × AreCaught s f (below g bs)
AreCaught s (Or' _ (one f end) _ (one g end)) bs = AreCaught s g bs × AreCaught s f (below g bs)
AreCaught s (Imp' _ (one f end) _ (one g end)) bs = AreCaught s g bs × AreCaught s f (below g bs)
AreCaught s (Iff' _ (one f end) _ (one g end)) bs = AreCaught s g bs × AreCaught s f (below g bs)
AreCaught s (All' x _ (one f end)) bs = (top false bs ≡ catches (without x.num s) x f) × AreCaught (without x.num s) f (under bs)
AreCaught s (Ex' x _ (one f end)) bs = (top false bs ≡ catches (without x.num s) x f) × AreCaught (without x.num s) f (under bs)
AreCaught s (All2' p _ (one f end)) bs = AreCaught s f bs
AreCaught s (Ex2' p _ (one f end)) bs = AreCaught s f bs

-- whether the binders of f catch was put on top, and what the binding puts into f was counted, but for the hidden variables
pub record Foresees (s : List Bound) (marks_old marks_new : List (ℕ × Bool)) (f : Form) (counts_old counts_new : List (ℕ × ℕ)) (old new : List Bool) : Type 0 where
  pub counts : Counts (λ n. put_in (visible (marked marks_old) s) n f) counts_old counts_new
  pub caught : HasDistinctVars s → AreCaught (visible (marked marks_old) s) f new
  pub rest : below f new ≡ old
  pub kept : marked marks_new ≡ marked marks_old
