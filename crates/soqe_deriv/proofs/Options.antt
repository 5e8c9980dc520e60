-- An option is none or one thing, never both.
use Rattle.std.proofs.Common.{◌≡◌, Option, Some, None, sym, ◌∙◌}

pub some-is : {A : Type 0} {a b : A} → Some a ≡ Some b → a ≡ b
some-is e = cc

pub none-some : {A B : Type 0} {o : Option A} {a : A} → o ≡ None → o ≡ Some a → B
none-some {o = o} {a = a} n e = let h : None ≡ Some a = sym n ∙ e in cc

pub one_of : {A : Type 0} {o : Option A} {a b : A} → o ≡ Some a → o ≡ Some b → a ≡ b
one_of e h = some-is (sym e ∙ h)
