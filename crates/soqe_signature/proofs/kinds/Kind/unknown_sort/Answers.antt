use Rattle.std.proofs.Common.{◌∙◌, ap, sym, ◌∷◌, [], Some, None}
use Rattle.soqe_signature.specs.Declares.{first_unknown, sorts_named}
use Rattle.soqe_signature.proofs.Faults.{first_unknown-append}
use Rattle.soqe_signature.proofs.kinds.Kind.unknown_sort.Goals as goal

pub returns-in-Some : goal.returns-in-Some
returns-in-Some c =
    sym (first_unknown-append c.args.count c.in-Fun.args (c.in-Fun.result ∷ []) (Some c.in-Some.sort) (ap (first_unknown c.args.count) (sym c.as_slice.ensures) ∙ sym c.in-Some.ensures))
    ∙ ap (λ k. first_unknown c.args.count (sorts_named k)) (sym c.in-Fun.is)

pub returns-in-None : goal.returns-in-None
returns-in-None c =
    c.unknown.ensures
    ∙ sym (first_unknown-append c.args.count c.in-Fun.args (c.in-Fun.result ∷ []) None (ap (first_unknown c.args.count) (sym c.as_slice.ensures) ∙ sym c.in-None.ensures))
    ∙ ap (λ k. first_unknown c.args.count (sorts_named k)) (sym c.in-Fun.is)
