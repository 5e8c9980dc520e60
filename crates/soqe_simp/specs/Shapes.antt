-- What is done with the parts of a formula of one shape; of another shape nothing is done.
use Rattle.std.specs.Prelude.{Bool, cond, Option, Some, None}
use Rattle.soqe_term.specs.declared.term.Var.{Var}
use Rattle.soqe_term.specs.declared.term.Term.{Term}
use Rattle.soqe_form.specs.declared.form.PVar.{PVar}
use Rattle.soqe_form.specs.declared.form.Form.{Form, Equal, Not', And', Or', Imp', Iff', All', Ex', All2', Ex2', end_of-Form as end, more_of-Form as one}

-- the answer, where the condition holds
abbrev pub given : {A : Type 0} → Bool → A → Option A
given c a = cond c (Some a) None

-- the first answer, or the second where there is no first one
abbrev pub first_of : {A : Type 0} → Option A → Option A → Option A
first_of None b = b
first_of (Some a) b = Some a

-- an equation
abbrev pub on_equal : {A : Type 0} → (Term → Term → Option A) → Form → Option A
on_equal k (Equal s t) = k s t
on_equal k _ = None

-- a negation
abbrev pub on_not : {A : Type 0} → (Form → Option A) → Form → Option A
on_not k (Not' _ (one f end)) = k f
on_not k _ = None

-- a conjunction
abbrev pub on_and : {A : Type 0} → (Form → Form → Option A) → Form → Option A
on_and k (And' _ (one f end) _ (one g end)) = k f g
on_and k _ = None

-- a disjunction
abbrev pub on_or : {A : Type 0} → (Form → Form → Option A) → Form → Option A
on_or k (Or' _ (one f end) _ (one g end)) = k f g
on_or k _ = None

-- an implication
abbrev pub on_imp : {A : Type 0} → (Form → Form → Option A) → Form → Option A
on_imp k (Imp' _ (one f end) _ (one g end)) = k f g
on_imp k _ = None

-- an equivalence
abbrev pub on_iff : {A : Type 0} → (Form → Form → Option A) → Form → Option A
on_iff k (Iff' _ (one f end) _ (one g end)) = k f g
on_iff k _ = None

-- all x.
abbrev pub on_all : {A : Type 0} → (Var → Form → Option A) → Form → Option A
on_all k (All' x _ (one f end)) = k x f
on_all k _ = None

-- ex x.
abbrev pub on_ex : {A : Type 0} → (Var → Form → Option A) → Form → Option A
on_ex k (Ex' x _ (one f end)) = k x f
on_ex k _ = None

-- either quantifier of a variable
abbrev pub on_quantifier : {A : Type 0} → (Var → Form → Option A) → Form → Option A
on_quantifier k (All' x _ (one f end)) = k x f
on_quantifier k (Ex' x _ (one f end)) = k x f
on_quantifier k _ = None

-- either quantifier of a predicate
abbrev pub on_block : {A : Type 0} → (PVar → Form → Option A) → Form → Option A
on_block k (All2' p _ (one f end)) = k p f
on_block k (Ex2' p _ (one f end)) = k p f
on_block k _ = None
