use Rattle.std.proofs.Common.{◌∙◌, ap, ◌++◌, ◌∷◌, []}
use Rattle.soqe_term.specs.Bindings.{bound_term}
use Rattle.soqe_term.proofs.BoundStores.{fresh-front, slice_get-there}
use Rattle.soqe_number.proofs.Slices.{take-push}
use Rattle.soqe_term.proofs.bindings.Binding.insert_copy.Goals as goal

pub insert-requires : goal.insert-requires
insert-requires c =
    ap (λ s. bound_term s c.in-Some.var.num) c.requires.front
    ∙ fresh-front c.args.other.now c.args.place (record { var = c.in-Some.var; term = c.in-Some.term.now }) c.requires.distinct c.in-Some.ensures

pub returns-in_ok-insert-in-Some : goal.returns-in_ok-insert-in-Some
returns-in_ok-insert-in-Some c =
    c.in_ok-insert-in-Some.ensures.ok
    ∙ (λ i. c.requires.front i ++ record { var = c.in-Some.var; term = c.in_ok-copy-in-Some.ensures i } ∷ [])
    ∙ take-push c.args.place c.args.other.now (record { var = c.in-Some.var; term = c.in-Some.term.now }) c.in-Some.ensures

pub returns-in-None : goal.returns-in-None
returns-in-None c = absurd (slice_get-there c.args.other.now c.args.place c.requires.within c.in-None.ensures)
