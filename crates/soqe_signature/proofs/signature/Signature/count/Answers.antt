use Rattle.std.proofs.Common.{◌∙◌, ap, length, arith}
use Rattle.soqe_signature.specs.Declarations.{count_of}
use Rattle.soqe_signature.proofs.Kept.{count_of-kept, count_of-few}
use Rattle.soqe_signature.proofs.signature.Signature.count.Goals as goal

pub overflow_cast-result : goal.overflow_cast-result
overflow_cast-result c =
    omega (arith, ap length c.of.ensures, count_of-kept _ _ c.self.invariant c.args.numbering, count_of-few _ _ c.self.invariant c.args.numbering)

pub returns : goal.returns
returns c = ap length c.of.ensures ∙ count_of-kept _ _ c.self.invariant c.args.numbering ∙ ap (count_of c.args.numbering) c.self.view_is
