use Rattle.std.proofs.Common.{None, ◌∙◌, ap}
use Rattle.std.specs.Option.{unwrap_or}
use Rattle.soqe_subst.specs.NewVars.{new_var}
use Rattle.soqe_subst.proofs.new_vars.NewVars.of.Goals as goal

pub returns-in-Some : goal.returns-in-Some
unfolding new_var
returns-in-Some c = ap (λ o. unwrap_or o None) c.in-Some.ensures.value ∙ ap (λ m. new_var m c.args.n) c.self.view_is

pub returns-in-None : goal.returns-in-None
unfolding new_var
returns-in-None c = ap (λ o. unwrap_or o None) c.in-None.ensures.value ∙ ap (λ m. new_var m c.args.n) c.self.view_is
