use Rattle.std.proofs.Common.{◌∙◌, ap, sym}
use Rattle.std.specs.Option.{option_map}
use Rattle.soqe_term.specs.Bindings.{bound_term}
use Rattle.soqe_term.proofs.BoundStores.{bound_term-bounds}
use Rattle.soqe_term.proofs.bindings.Binding.get.Goals as goal

pub returns-in-Some : goal.returns-in-Some
returns-in-Some c =
    ap (λ s. bound_term s c.args.num) (sym c.self.view_is) ∙ bound_term-bounds c.args.num c.self.inside.terms.entries ∙ ap (option_map (λ b. b.term)) (sym c.in-Some.ensures.value)

pub returns-in-None : goal.returns-in-None
returns-in-None c =
    ap (λ s. bound_term s c.args.num) (sym c.self.view_is) ∙ bound_term-bounds c.args.num c.self.inside.terms.entries ∙ ap (option_map (λ b. b.term)) (sym c.in-None.ensures.value)
