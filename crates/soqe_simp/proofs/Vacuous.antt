-- The rows for a quantifier of a name that is not free in its body.
use Rattle.std.proofs.Common.{◌≡◌, ℕ, Bool, true, false, cond, eqb, not, map, refl, sym, ◌∙◌, ap, arith}
use Rattle.std.proofs.lemmas.Bool.{eqb-true, both_ways}
use Rattle.soqe_term.specs.declared.term.Var.{Var}
use Rattle.soqe_term.specs.World.{with_var, with_bound}
use Rattle.soqe_number.specs.Finite.{product, entry}
use Rattle.soqe_number.proofs.Choices.{bool_cases}
use Rattle.soqe_form.specs.declared.form.PVar.{PVar}
use Rattle.soqe_form.specs.declared.form.Form.{Form, All, Ex, All2, Ex2}
use Rattle.soqe_form.specs.Boxes.{boxes}
use Rattle.soqe_form.specs.Truth.{truth}
use Rattle.soqe_form.specs.Free.{free, free_pred}
use Rattle.soqe_form.proofs.Agree.{truth-unused, truth-lacks}
use Rattle.soqe_form.proofs.Sortings.{sorted-unused, sorted-lacks}
use Rattle.soqe_simp.specs.Shapes.{given}
use Rattle.soqe_simp.specs.Rows.{unused_variable, unused_predicate}
use Rattle.soqe_simp.specs.Keeps.{Shrinks, Keeps, KeepsIn, RowKeeps, RowKeepsIn}
use Rattle.soqe_simp.proofs.RowForms.{when, on-quantifier, on-block}
use Rattle.soqe_simp.proofs.Points.{every-constant, some-constant, every_list-constant, some_list-constant}

pub fails : (b : Bool) → not b ≡ true → b ≡ false
fails true h = sym h
fails false h = refl

-- a number that passes a test is not one that fails it
pub beside : (p : ℕ → Bool) (n x : ℕ) → p x ≡ false → p n ≡ true → cond (eqb n x) false (p n) ≡ true
beside p n x k h =
    bool_cases (λ b. eqb n x ≡ b → cond b false (p n) ≡ true) (eqb n x) (λ _ e. absurd (both_ways (p n) (ap p (eqb-true n x e) ∙ k) h)) (λ _ e. h) refl

variable_shrinks : (x : Var) (a : Form) → free x.num a ≡ false → Shrinks (All x a) a
unfolding boxes
variable_shrinks x a k = record {
  sorts = λ e h. sym (sorted-unused e x.num x.sort a k) ∙ h;
  free = λ n h. beside (λ n. free n a) n x.num k h;
  free_pred = λ n h. h;
  count = omega (arith);
  weight = omega (arith);
}

all_unused : (x : Var) (a : Form) → free x.num a ≡ false → KeepsIn (All x a) a
unfolding boxes
all_unused x a k = record {
  alike = λ e h w fit. every-constant (w.size x.sort) (λ b. truth (with_var w x.num b) a) (truth w a) (fit.size x.sort) (λ b. truth-unused w x.num b a k);
  shrinks = variable_shrinks x a k;
}

ex_unused : (x : Var) (a : Form) → free x.num a ≡ false → KeepsIn (Ex x a) a
unfolding boxes
ex_unused x a k =
    let same = variable_shrinks x a k in
    record {
      alike = λ e h w fit. some-constant (w.size x.sort) (λ b. truth (with_var w x.num b) a) (truth w a) (fit.size x.sort) (λ b. truth-unused w x.num b a k);
      shrinks = record { sorts = same.sorts; free = same.free; free_pred = same.free_pred; count = same.count; weight = same.weight };
    }

pub unused_variable-keeps : RowKeepsIn unused_variable
unfolding boxes
unused_variable-keeps f g h = on-quantifier (λ f. KeepsIn f g) (λ x a. given (not (free x.num a)) a) f g h
    (λ x a h. when (KeepsIn (All x a)) (not (free x.num a)) a g h (λ k. all_unused x a (fails (free x.num a) k)))
    (λ x a h. when (KeepsIn (Ex x a)) (not (free x.num a)) a g h (λ k. ex_unused x a (fails (free x.num a) k)))

predicate_shrinks : (p : PVar) (a : Form) → free_pred p.num a ≡ false → Shrinks (All2 p a) a
unfolding boxes
predicate_shrinks p a k = record {
  sorts = λ e h. sym (sorted-lacks e p.num p.args a k) ∙ h;
  free = λ n h. h;
  free_pred = λ n h. beside (λ n. free_pred n a) n p.num k h;
  count = omega (arith);
  weight = omega (arith);
}

all2_unused : (p : PVar) (a : Form) → free_pred p.num a ≡ false → Keeps (All2 p a) a
unfolding boxes
all2_unused p a k = record {
  truth = λ w. every_list-constant (product (map w.size p.args)) (λ t. truth (with_bound w p.num (entry (map w.size p.args) t)) a) (truth w a)
      (λ t. truth-lacks w p.num (entry (map w.size p.args) t) a k);
  shrinks = predicate_shrinks p a k;
}

ex2_unused : (p : PVar) (a : Form) → free_pred p.num a ≡ false → Keeps (Ex2 p a) a
unfolding boxes
ex2_unused p a k =
    let same = predicate_shrinks p a k in
    record {
      truth = λ w. some_list-constant (product (map w.size p.args)) (λ t. truth (with_bound w p.num (entry (map w.size p.args) t)) a) (truth w a)
          (λ t. truth-lacks w p.num (entry (map w.size p.args) t) a k);
      shrinks = record { sorts = same.sorts; free = same.free; free_pred = same.free_pred; count = same.count; weight = same.weight };
    }

pub unused_predicate-keeps : RowKeeps unused_predicate
unfolding boxes
unused_predicate-keeps f g h = on-block (λ f. Keeps f g) (λ p a. given (not (free_pred p.num a)) a) f g h
    (λ p a h. when (Keeps (All2 p a)) (not (free_pred p.num a)) a g h (λ k. all2_unused p a (fails (free_pred p.num a) k)))
    (λ p a h. when (Keeps (Ex2 p a)) (not (free_pred p.num a)) a g h (λ k. ex2_unused p a (fails (free_pred p.num a) k)))
