use Rattle.std.proofs.Common.{◌∙◌, ap, ◌++◌}
use Rattle.soqe_subst.specs.Substitution.{visible}
use Rattle.soqe_psub.specs.PredSubst.{arguments}
use Rattle.soqe_psub.specs.Replaces.{is_known}
use Rattle.soqe_psub.proofs.BoundArguments.{bind-all}
use Rattle.soqe_psub.proofs.arguments.bind_arguments.Goals as goal

pub returns : goal.returns
returns c =
    c.in_ok-bind_from.ensures ∙ ap (λ s. s ++ visible (is_known s) (arguments c.args.params.now c.args.terms.now)) c.new-binding.ensures
    ∙ bind-all (arguments c.args.params.now c.args.terms.now)
