use Rattle.std.proofs.Common.{◌∙◌, ap, sym, []}
use Rattle.soqe_signature.specs.Declarations.{lookup}
use Rattle.soqe_signature.proofs.Kept.{lookup-no_text}
use Rattle.soqe_signature.proofs.signature.Signature.lookup_bytes.Goals as goal

pub returns-in-Err : goal.returns-in-Err
returns-in-Err c =
    ap (λ ds. lookup ds c.args.name.now) (sym c.self.view_is) ∙ lookup-no_text c.args.name.now c.in-Err.ensures.cases.0 [] c.self.inside.names.entries
