-- The definitions on small cases, whose answers are plain by hand.
use Rattle.std.specs.Prelude.{ℕ, false, [], ◌∷◌}
use Rattle.soqe_term.specs.declared.term.Var.{Var}
use Rattle.soqe_term.specs.declared.term.Term.{Var as var}
use Rattle.soqe_term.specs.declared.term.Terms.{Nil, Cons}
use Rattle.soqe_term.specs.World.{World}
use Rattle.soqe_form.specs.declared.form.PVar.{PVar}
use Rattle.soqe_form.specs.declared.form.Pred.TheVariants.{Bound}
use Rattle.soqe_form.specs.declared.form.Form.{Form, Equal, Atom, Not, And, All, Ex, Ex2}

-- each sort has n elements, and no predicate holds
abbrev pub sized : ℕ → World
sized n = record {
  size = λ s. n;
  fun = λ f args. 0;
  skolem = λ f args. 0;
  declared = λ p args. false;
  bound = λ p args. false;
  element = λ x. 0;
}

abbrev pub x : Var
x = record { num = 0; sort = 0 }

abbrev pub y : Var
y = record { num = 1; sort = 0 }

-- a predicate of one argument
abbrev pub p : PVar
p = record { num = 0; args = 0 ∷ [] }

-- all x. ex y. x != y
abbrev pub another : Form
another = All x (Ex y (Not (Equal (var x) (var y))))

-- ex2 p. ex x. ex y. p(x) & ~p(y)
abbrev pub told_apart : Form
told_apart = Ex2 p (Ex x (Ex y (And (Atom (Bound 0) (Cons (var x) Nil)) (Not (Atom (Bound 0) (Cons (var y) Nil))))))
