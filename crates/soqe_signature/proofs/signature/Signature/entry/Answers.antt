use Rattle.std.proofs.Common.{◌∙◌, ap, sym, refl, arith, slice_get}
use Rattle.std.proofs.lemmas.Option.{slice_get_read, slice_get_past}
use Rattle.std.specs.Option.{option_map, option_and_then}
use Rattle.soqe_signature.specs.Declarations.{of_numbering}
use Rattle.soqe_signature.specs.Stored.{declaration}
use Rattle.soqe_signature.proofs.Kept.{of_numbering-kept}
use Rattle.soqe_signature.proofs.signature.Signature.entry.Goals as goal

pub returns-in-Some-get_index : goal.returns-in-Some-get_index
returns-in-Some-get_index c =
    let kept = of_numbering-kept _ _ c.self.invariant c.args.numbering c.args.num in
    let placed = slice_get_read c.of.result.now _ c.args.num c.in-Some.place.now refl c.in-Some.ensures.lookup.3.0 c.in-Some.ensures.lookup.1 in
    ap (λ ds. slice_get (of_numbering c.args.numbering ds) c.args.num) (sym c.self.view_is) ∙ kept
    ∙ ap (λ ps. option_and_then (λ place. option_map declaration (slice_get c.self.inside.names.entries place)) (slice_get ps c.args.num)) (sym c.of.ensures)
    ∙ ap (option_and_then (λ place. option_map declaration (slice_get c.self.inside.names.entries place))) placed
    ∙ ap (option_map declaration) (sym c.in-Some-get_index.ensures.entry)

pub returns-in-None-get_index : goal.returns-in-None-get_index
returns-in-None-get_index c =
    let kept = of_numbering-kept _ _ c.self.invariant c.args.numbering c.args.num in
    let placed = slice_get_read c.of.result.now _ c.args.num c.in-Some.place.now refl c.in-Some.ensures.lookup.3.0 c.in-Some.ensures.lookup.1 in
    ap (λ ds. slice_get (of_numbering c.args.numbering ds) c.args.num) (sym c.self.view_is) ∙ kept
    ∙ ap (λ ps. option_and_then (λ place. option_map declaration (slice_get c.self.inside.names.entries place)) (slice_get ps c.args.num)) (sym c.of.ensures)
    ∙ ap (option_and_then (λ place. option_map declaration (slice_get c.self.inside.names.entries place))) placed
    ∙ ap (option_map declaration) (sym c.in-None-get_index.ensures.entry)

pub returns-in-None : goal.returns-in-None
returns-in-None c =
    let kept = of_numbering-kept _ _ c.self.invariant c.args.numbering c.args.num in
    let past = slice_get_past c.of.result.now c.args.num (grind (arith, c.in-None.ensures.lookup.0)) in
    ap (λ ds. slice_get (of_numbering c.args.numbering ds) c.args.num) (sym c.self.view_is) ∙ kept
    ∙ ap (λ ps. option_and_then (λ place. option_map declaration (slice_get c.self.inside.names.entries place)) (slice_get ps c.args.num)) (sym c.of.ensures)
    ∙ ap (option_and_then (λ place. option_map declaration (slice_get c.self.inside.names.entries place))) past
