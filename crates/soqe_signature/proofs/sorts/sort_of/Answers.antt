use Rattle.std.proofs.Common.{◌∙◌, sym}
use Rattle.soqe_signature.specs.SkolemSigs.{sorting_with}
use Rattle.soqe_signature.proofs.Borne.{not_well_sorted}
use Rattle.soqe_signature.proofs.sorts.sort_of.Goals as goal

pub returns-else-is_sorted-clause-sorted : goal.returns-else-is_sorted-clause-sorted
returns-else-is_sorted-clause-sorted c =
    not_well_sorted (sorting_with c.args.sig.now c.args.skolems.now) c.args.term.now (sym c.is_sorted.ensures ∙ c.if-is_sorted.false)
