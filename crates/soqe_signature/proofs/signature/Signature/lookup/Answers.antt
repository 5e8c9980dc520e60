use Rattle.std.proofs.Common.{◌∙◌, ap, sym}
use Rattle.std.specs.Option.{option_map}
use Rattle.soqe_signature.specs.Declarations.{lookup}
use Rattle.soqe_signature.proofs.Kept.{found, lookup-kept}
use Rattle.soqe_signature.proofs.signature.Signature.lookup.Goals as goal

pub returns-in-Some : goal.returns-in-Some
returns-in-Some c =
    ap (λ ds. lookup ds c.args.name.now) (sym c.self.view_is) ∙ lookup-kept _ _ c.self.invariant c.args.name.now
    ∙ ap (option_map found) (sym c.in-Some.ensures.value)

pub returns-in-None : goal.returns-in-None
returns-in-None c =
    ap (λ ds. lookup ds c.args.name.now) (sym c.self.view_is) ∙ lookup-kept _ _ c.self.invariant c.args.name.now
    ∙ ap (option_map found) (sym c.in-None.ensures.value)
