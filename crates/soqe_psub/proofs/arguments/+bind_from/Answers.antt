use Rattle.std.proofs.Common.{◌∙◌, ap, sym, drop, ◌+◌, ◌++◌}
use Rattle.std.proofs.lemmas.Bool.{ltb-true}
use Rattle.soqe_subst.specs.Substitution.{visible}
use Rattle.soqe_psub.specs.PredSubst.{arguments}
use Rattle.soqe_psub.specs.Replaces.{is_known, with_first}
use Rattle.soqe_psub.proofs.BoundArguments.{bind-nil, bind-cons}
use Rattle.soqe_psub.proofs.arguments.+bind_from.Goals as goal

pub returns-in-Nil : goal.returns-in-Nil
returns-in-Nil t c = bind-nil (drop c.args.place c.args.params.now) c.args.binding.now c.args.terms.now c.in-Nil.is

pub returns-in_ok-bind_from-in-Some : goal.returns-in_ok-bind_from-in-Some
returns-in_ok-bind_from-in-Some t c =
    bind-cons c.args.params.now c.args.place c.args.binding.now c.bind_first.new.binding c.bind_from.new.binding c.in-Some.x.now c.in-Cons.first c.in-Cons.rest c.args.terms.now
    (ltb-true _ _ (sym c.in-Some.ensures.lookup.0)) c.in-Some.ensures.lookup.1 c.in-Cons.is
    (c.in_ok-bind_first-in-Some.ensures ∙ ap (with_first c.args.binding.now c.in-Some.x.now) c.get-in-Some.ensures)
    (c.in_ok-bind_from-in-Some.ensures ∙ ap (λ ts. c.bind_first.new.binding ++ visible (is_known c.bind_first.new.binding) (arguments (drop (c.args.place + 1) c.args.params.now) ts)) c.get-in-Some-2.ensures)
