use Rattle.std.proofs.Common.{ℕ, List, ◌++◌, ◌∷◌, [], map, take, get_or, sym, subst}
use Rattle.soqe_term.specs.declared.term.Var.{Var}
use Rattle.soqe_number.specs.Marks.{marked}
use Rattle.soqe_ack.proofs.ParameterChoice.{AreChosen, chosen_more}
use Rattle.soqe_dls.proofs.NewParameters.{sorts-more}
use Rattle.soqe_dls.proofs.shown_value.least_numbers.Goals as goal

pub loop-x-preserved : goal.loop-x-preserved
loop-x-preserved c =
    let d : Var = record { num = 0; sort = 0 } in
    let x : Var = get_or c.args.params.now c.loop-x.x-index d in
    let y : Var = record { num = c.least_unmarked_from-next.result; sort = x.sort } in
    let before : List ℕ = map (λ x. x.sort) (take c.loop-x.x-index c.args.params.now) in
    subst (λ (sorts : List ℕ). AreChosen (marked c.args.used.now) sorts c.push.new.self (marked c.set.new.self) y.num) (sorts-more c.args.params.now c.loop-x.x-index d c.loop-x-test.true)
    (subst (λ (xs : List Var). AreChosen (marked c.args.used.now) (before ++ y.sort ∷ []) xs (marked c.set.new.self) y.num) (sym c.in_ok-push.ensures.ok)
    (chosen_more (marked c.args.used.now) before c.loop-x.new (marked c.loop-x.used) (marked c.set.new.self) c.loop-x.next y.sort y.num c.loop-x.invariant
    c.least_unmarked_from-next.ensures c.in_ok-set.ensures))
