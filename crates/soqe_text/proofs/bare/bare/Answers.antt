use Rattle.std.proofs.Common.{ℕ, ◌+◌, sym, subst}
use Rattle.soqe_syntax.specs.declared.shape.Shape.{Shape}
use Rattle.soqe_syntax.specs.Shapes.{view}
use Rattle.soqe_text.specs.Bare.{Wraps, bare, negated, parened}
use Rattle.soqe_text.proofs.bare.bare.Goals as goal

pub loop-inner-init : goal.loop-inner-init
loop-inner-init c = bare

pub loop-inner-preserved-in-Paren : goal.loop-inner-preserved-in-Paren
loop-inner-preserved-in-Paren c =
    let within = λ (inner : Shape). Wraps (view c.args.shape.now) c.loop-inner.negations (view inner) in
    subst within (sym c.deref-inner.ensures) (parened (subst within c.in-Paren.is c.loop-inner.invariant))

pub loop-inner-preserved : goal.loop-inner-preserved
loop-inner-preserved c =
    let within = λ (n : ℕ) (inner : Shape). Wraps (view c.args.shape.now) n (view inner) in
    let body = negated (subst (within c.loop-inner.negations) c.in-Not.is c.loop-inner.invariant) in
    subst (λ (n : ℕ). within n c.deref-inner-in-Not.result.now) (sym c.in-Some.ensures.1)
    (subst (within (c.loop-inner.negations + 1)) (sym c.deref-inner-in-Not.ensures) body)
