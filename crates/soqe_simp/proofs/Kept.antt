-- What a lighter formula keeps that is a truth value or a part of the formula: the same for every node.
use Rattle.std.proofs.Common.{◌≡◌, ℕ, ◌+◌, ◌<◌, Bool, true, false, ◌||◌, ◌&&◌, refl, sym, ◌∙◌, arith}
use Rattle.std.proofs.lemmas.Bool.{or_left}
use Rattle.soqe_term.specs.World.{World}
use Rattle.soqe_term.specs.Sorting.{Sorting}
use Rattle.soqe_number.proofs.Choices.{and_first, and_second}
use Rattle.soqe_form.specs.declared.form.Form.{Form, True, False, Equal, Atom, Not', And, And', Or, Or', Imp, Imp', Iff, Iff', All', Ex', All2', Ex2', end_of-Form as end, more_of-Form as one}
use Rattle.soqe_form.specs.Boxes.{boxes}
use Rattle.soqe_form.specs.Constants.{constant}
use Rattle.soqe_form.specs.Truth.{truth}
use Rattle.soqe_form.specs.Free.{free, free_pred}
use Rattle.soqe_form.specs.Sorted.{sorted}
use Rattle.soqe_form.specs.Places.{count_blocks}
use Rattle.soqe_form.proofs.SameCases.{never}
use Rattle.soqe_simp.specs.Weight.{weight}
use Rattle.soqe_simp.specs.Keeps.{Shrinks, Keeps, KeepsIn}

pub or_right : (b c : Bool) → c ≡ true → (b || c) ≡ true
or_right true c h = refl
or_right false c h = h

pub keeps-in : (f g : Form) → Keeps f g → KeepsIn f g
keeps-in f g k = record { alike = λ e s w h. k.truth w; shrinks = k.shrinks }

pub weight-positive : (f : Form) → 0 < weight f
weight-positive True = omega (arith)
weight-positive False = omega (arith)
weight-positive (Equal s t) = omega (arith)
weight-positive (Atom p ts) = omega (arith)
weight-positive (Not' _ (one f end)) = omega (arith)
weight-positive (And' _ (one f end) _ (one g end)) = omega (arith)
weight-positive (Or' _ (one f end) _ (one g end)) = omega (arith)
weight-positive (Imp' _ (one f end) _ (one g end)) = omega (arith)
weight-positive (Iff' _ (one f end) _ (one g end)) = omega (arith)
weight-positive (All' x _ (one f end)) = omega (arith)
weight-positive (Ex' x _ (one f end)) = omega (arith)
weight-positive (All2' p _ (one f end)) = omega (arith)
weight-positive (Ex2' p _ (one f end)) = omega (arith)

-- a node with two parts
pub record IsNode (f a b : Form) : Type 0 where
  pub sorts : (e : Sorting) → sorted e f ≡ (sorted e a && sorted e b)
  pub free : (n : ℕ) → free n f ≡ (free n a || free n b)
  pub free_pred : (n : ℕ) → free_pred n f ≡ (free_pred n a || free_pred n b)
  pub count : count_blocks f ≡ count_blocks a + count_blocks b
  pub weight : weight a + weight b < weight f

pub node-and : (a b : Form) → IsNode (And a b) a b
unfolding boxes
node-and a b = record { sorts = λ e. refl; free = λ n. refl; free_pred = λ n. refl; count = refl; weight = omega (arith) }

pub node-or : (a b : Form) → IsNode (Or a b) a b
unfolding boxes
node-or a b = record { sorts = λ e. refl; free = λ n. refl; free_pred = λ n. refl; count = refl; weight = omega (arith) }

pub node-imp : (a b : Form) → IsNode (Imp a b) a b
unfolding boxes
node-imp a b = record { sorts = λ e. refl; free = λ n. refl; free_pred = λ n. refl; count = refl; weight = omega (arith) }

pub node-iff : (a b : Form) → IsNode (Iff a b) a b
unfolding boxes
node-iff a b = record { sorts = λ e. refl; free = λ n. refl; free_pred = λ n. refl; count = refl; weight = omega (arith) }

-- a truth value in place of a formula
pub constant-shrinks : (f : Form) (v : Bool) → 1 < weight f → Shrinks f (constant v)
constant-shrinks f true h = record { sorts = λ e s. refl; free = λ n p. never p; free_pred = λ n p. never p; count = omega (arith); weight = h }
constant-shrinks f false h = record { sorts = λ e s. refl; free = λ n p. never p; free_pred = λ n p. never p; count = omega (arith); weight = h }

pub node-constant : (f a b : Form) (v : Bool) → IsNode f a b → ((w : World) → truth w f ≡ v) → Keeps f (constant v)
node-constant f a b true n t = record { truth = t; shrinks = constant-shrinks f true (omega (arith, n.weight, weight-positive a, weight-positive b)) }
node-constant f a b false n t = record { truth = t; shrinks = constant-shrinks f false (omega (arith, n.weight, weight-positive a, weight-positive b)) }

-- the first part in place of the node
pub node-first : (f a b : Form) → IsNode f a b → ((w : World) → truth w f ≡ truth w a) → Keeps f a
node-first f a b n t = record {
  truth = t;
  shrinks = record {
    sorts = λ e h. and_first (sorted e a) (sorted e b) (sym (n.sorts e) ∙ h);
    free = λ k h. n.free k ∙ or_left (free k a) (free k b) h;
    free_pred = λ k h. n.free_pred k ∙ or_left (free_pred k a) (free_pred k b) h;
    count = omega (arith, n.count);
    weight = omega (arith, n.weight);
  };
}

-- the second part in place of the node
pub node-second : (f a b : Form) → IsNode f a b → ((w : World) → truth w f ≡ truth w b) → Keeps f b
node-second f a b n t = record {
  truth = t;
  shrinks = record {
    sorts = λ e h. and_second (sorted e a) (sorted e b) (sym (n.sorts e) ∙ h);
    free = λ k h. n.free k ∙ or_right (free k a) (free k b) h;
    free_pred = λ k h. n.free_pred k ∙ or_right (free_pred k a) (free_pred k b) h;
    count = omega (arith, n.count);
    weight = omega (arith, n.weight);
  };
}
