-- The value of a term.
use Rattle.std.specs.Prelude.{ℕ, List, [], ◌∷◌, ◌≡◌, refl}
use Rattle.soqe_term.specs.declared.term.Sym.{Sym}
use Rattle.soqe_term.specs.declared.term.Sym.TheVariants.{Fun, Skolem}
use Rattle.soqe_term.specs.declared.term.Term.{Term, Var, App}
use Rattle.soqe_term.specs.declared.term.Terms.{Terms, Nil, Cons, Cons', end_of-Term as end, more_of-Term as one, end_of-Terms as ends, more_of-Terms as ones}
use Rattle.soqe_term.specs.Boxes.{boxes}
use Rattle.soqe_term.specs.World.{World}

abbrev pub apply : World → Sym → List ℕ → ℕ
apply w (Fun n) = w.fun n
apply w (Skolem n) = w.skolem n

abbrev mutual
  pub value : World → Term → ℕ
  value w (Var x) = w.element x.num
  value w (App f s ts) = apply w f (values w ts)

  pub values : World → Terms → List ℕ
  values w Nil = []
  values w (Cons' a (one t end) b (ones ts ends)) = value w t ∷ values w ts

pub values-cons : (w : World) (t : Term) (ts : Terms) → values w (Cons t ts) ≡ value w t ∷ values w ts
unfolding boxes
values-cons w t ts = refl

pub cons-is : (t : Term) (ts : Terms) → Cons t ts ≡ Cons' tt (one t end) tt (ones ts ends)
unfolding boxes
cons-is t ts = refl
