-- A law of a row follows from the law at the node that the row fits, with what its condition says.
use Rattle.std.proofs.Common.{◌≡◌, Bool, true, false, Option, Some, None, refl, subst}
use Rattle.soqe_term.specs.declared.term.Term.{Term}
use Rattle.soqe_term.specs.declared.term.Var.{Var}
use Rattle.soqe_form.specs.declared.form.PVar.{PVar}
use Rattle.soqe_form.specs.declared.form.Form.{Form, Equal, Not, Not', And, And', Or, Or', Imp, Imp', Iff, Iff', All, All', Ex, Ex', All2, All2', Ex2, Ex2', end_of-Form as end, more_of-Form as one}
use Rattle.soqe_form.specs.Boxes.{boxes}
use Rattle.soqe_simp.specs.Shapes.{given, on_equal, on_not, on_and, on_or, on_imp, on_iff, on_all, on_ex, on_quantifier, on_block}

pub Some-is : {A : Type 0} {a b : A} → Some a ≡ Some b → a ≡ b
Some-is e = cc

pub none_of : {A : Type 0} {B : Type 0} {b : B} → None ≡ Some b → A
none_of e = cc

-- what is given under a condition
pub when : {A : Type 0} (P : A → Type 0) (c : Bool) (a g : A) → given c a ≡ Some g → (c ≡ true → P a) → P g
when P true a g h k = subst P (Some-is h) (k refl)
when P false a g h k = none_of h

-- the node with a condition on its parts
pub equal-row : (P : Form → Form → Type 0) (test : Term → Term → Bool) (made : Term → Term → Form) → ((a b : Term) → test a b ≡ true → P (Equal a b) (made a b))
    → (f g : Form) → on_equal (λ a b. given (test a b) (made a b)) f ≡ Some g → P f g
equal-row P test made k (Equal a b) g h = when (P (Equal a b)) (test a b) (made a b) g h (k a b)
equal-row P test made k f g h = none_of h

pub not-row : (P : Form → Form → Type 0) (test : Form → Bool) (made : Form → Form) → ((a : Form) → test a ≡ true → P (Not a) (made a))
    → (f g : Form) → on_not (λ a. given (test a) (made a)) f ≡ Some g → P f g
unfolding boxes
not-row P test made k (Not' _ (one a end)) g h = when (P (Not a)) (test a) (made a) g h (k a)
not-row P test made k f g h = none_of h

pub and-row : (P : Form → Form → Type 0) (test : Form → Form → Bool) (made : Form → Form → Form) → ((a b : Form) → test a b ≡ true → P (And a b) (made a b))
    → (f g : Form) → on_and (λ a b. given (test a b) (made a b)) f ≡ Some g → P f g
unfolding boxes
and-row P test made k (And' _ (one a end) _ (one b end)) g h = when (P (And a b)) (test a b) (made a b) g h (k a b)
and-row P test made k f g h = none_of h

pub or-row : (P : Form → Form → Type 0) (test : Form → Form → Bool) (made : Form → Form → Form) → ((a b : Form) → test a b ≡ true → P (Or a b) (made a b))
    → (f g : Form) → on_or (λ a b. given (test a b) (made a b)) f ≡ Some g → P f g
unfolding boxes
or-row P test made k (Or' _ (one a end) _ (one b end)) g h = when (P (Or a b)) (test a b) (made a b) g h (k a b)
or-row P test made k f g h = none_of h

pub imp-row : (P : Form → Form → Type 0) (test : Form → Form → Bool) (made : Form → Form → Form) → ((a b : Form) → test a b ≡ true → P (Imp a b) (made a b))
    → (f g : Form) → on_imp (λ a b. given (test a b) (made a b)) f ≡ Some g → P f g
unfolding boxes
imp-row P test made k (Imp' _ (one a end) _ (one b end)) g h = when (P (Imp a b)) (test a b) (made a b) g h (k a b)
imp-row P test made k f g h = none_of h

pub iff-row : (P : Form → Form → Type 0) (test : Form → Form → Bool) (made : Form → Form → Form) → ((a b : Form) → test a b ≡ true → P (Iff a b) (made a b))
    → (f g : Form) → on_iff (λ a b. given (test a b) (made a b)) f ≡ Some g → P f g
unfolding boxes
iff-row P test made k (Iff' _ (one a end) _ (one b end)) g h = when (P (Iff a b)) (test a b) (made a b) g h (k a b)
iff-row P test made k f g h = none_of h

-- ---- a formula at which something is found is the node that was looked for

pub on-not : {A : Type 0} (P : Form → Type 0) (k : Form → Option A) (f : Form) (g : A) → on_not k f ≡ Some g → ((a : Form) → k a ≡ Some g → P (Not a)) → P f
unfolding boxes
on-not P k (Not' _ (one a end)) g h n = n a h
on-not P k f g h n = none_of h

pub on-and : {A : Type 0} (P : Form → Type 0) (k : Form → Form → Option A) (f : Form) (g : A) → on_and k f ≡ Some g → ((a b : Form) → k a b ≡ Some g → P (And a b)) → P f
unfolding boxes
on-and P k (And' _ (one a end) _ (one b end)) g h n = n a b h
on-and P k f g h n = none_of h

pub on-or : {A : Type 0} (P : Form → Type 0) (k : Form → Form → Option A) (f : Form) (g : A) → on_or k f ≡ Some g → ((a b : Form) → k a b ≡ Some g → P (Or a b)) → P f
unfolding boxes
on-or P k (Or' _ (one a end) _ (one b end)) g h n = n a b h
on-or P k f g h n = none_of h

pub on-imp : {A : Type 0} (P : Form → Type 0) (k : Form → Form → Option A) (f : Form) (g : A) → on_imp k f ≡ Some g → ((a b : Form) → k a b ≡ Some g → P (Imp a b)) → P f
unfolding boxes
on-imp P k (Imp' _ (one a end) _ (one b end)) g h n = n a b h
on-imp P k f g h n = none_of h

pub on-iff : {A : Type 0} (P : Form → Type 0) (k : Form → Form → Option A) (f : Form) (g : A) → on_iff k f ≡ Some g → ((a b : Form) → k a b ≡ Some g → P (Iff a b)) → P f
unfolding boxes
on-iff P k (Iff' _ (one a end) _ (one b end)) g h n = n a b h
on-iff P k f g h n = none_of h

pub on-all : {A : Type 0} (P : Form → Type 0) (k : Var → Form → Option A) (f : Form) (g : A) → on_all k f ≡ Some g → ((x : Var) (a : Form) → k x a ≡ Some g → P (All x a)) → P f
unfolding boxes
on-all P k (All' x _ (one a end)) g h n = n x a h
on-all P k f g h n = none_of h

pub on-ex : {A : Type 0} (P : Form → Type 0) (k : Var → Form → Option A) (f : Form) (g : A) → on_ex k f ≡ Some g → ((x : Var) (a : Form) → k x a ≡ Some g → P (Ex x a)) → P f
unfolding boxes
on-ex P k (Ex' x _ (one a end)) g h n = n x a h
on-ex P k f g h n = none_of h

pub on-quantifier : {A : Type 0} (P : Form → Type 0) (k : Var → Form → Option A) (f : Form) (g : A) → on_quantifier k f ≡ Some g
    → ((x : Var) (a : Form) → k x a ≡ Some g → P (All x a)) → ((x : Var) (a : Form) → k x a ≡ Some g → P (Ex x a)) → P f
unfolding boxes
on-quantifier P k (All' x _ (one a end)) g h n m = n x a h
on-quantifier P k (Ex' x _ (one a end)) g h n m = m x a h
on-quantifier P k f g h n m = none_of h

pub on-block : {A : Type 0} (P : Form → Type 0) (k : PVar → Form → Option A) (f : Form) (g : A) → on_block k f ≡ Some g
    → ((x : PVar) (a : Form) → k x a ≡ Some g → P (All2 x a)) → ((x : PVar) (a : Form) → k x a ≡ Some g → P (Ex2 x a)) → P f
unfolding boxes
on-block P k (All2' x _ (one a end)) g h n m = n x a h
on-block P k (Ex2' x _ (one a end)) g h n m = m x a h
on-block P k f g h n m = none_of h
