use Rattle.std.proofs.Common.{◌≡◌, ◌<◌, ◌++◌, ◌∷◌, [], ◌∙◌, length, min, take, get_or, sym, ap, arith}
use Rattle.std.proofs.lemmas.List.{take_more, length-take}
use Rattle.soqe_term.specs.Bindings.{bound_term}
use Rattle.soqe_term.specs.declared.term.Var.{Var}
use Rattle.soqe_term.specs.declared.term.Term.{Var as var}
use Rattle.soqe_dls.specs.ShownCases.{by_vars}
use Rattle.soqe_dls.proofs.NewParameters.{by_vars-push, distinct-front, none-bound}
use Rattle.soqe_dls.proofs.shown_value.bind_each.Goals as goal

pub insert-requires : goal.insert-requires
insert-requires c =
    let d : Var = record { num = 0; sort = 0 } in
    let x : Var = get_or c.args.old.now c.loop-place.place d in
    ap (λ s. bound_term s x.num) c.loop-place.invariant
    ∙ none-bound (take c.loop-place.place c.args.old.now) (take c.loop-place.place c.args.new.now) x.num (distinct-front c.args.old.now c.loop-place.place d c.loop-place-test.true c.requires.distinct)

pub loop-place-preserved : goal.loop-place-preserved
loop-place-preserved c =
    let d : Var = record { num = 0; sort = 0 } in
    let x : Var = get_or c.args.old.now c.loop-place.place d in
    let y : Var = get_or c.args.new.now c.loop-place.place d in
    let within : c.loop-place.place < length c.args.new.now = omega arith in
    let many : length (take c.loop-place.place c.args.old.now) ≡ length (take c.loop-place.place c.args.new.now) =
    length-take c.loop-place.place c.args.old.now ∙ ap (min c.loop-place.place) (sym c.requires.as_many) ∙ sym (length-take c.loop-place.place c.args.new.now) in
    c.in_ok-insert.ensures.ok ∙ ap (λ s. s ++ record { var = x; term = var y } ∷ []) c.loop-place.invariant
    ∙ sym (by_vars-push (take c.loop-place.place c.args.old.now) (take c.loop-place.place c.args.new.now) x y many)
    ∙ (λ i. by_vars (sym (take_more c.args.old.now c.loop-place.place d c.loop-place-test.true) i) (sym (take_more c.args.new.now c.loop-place.place d within) i))
