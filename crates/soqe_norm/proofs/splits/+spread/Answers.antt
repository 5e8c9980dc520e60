use Rattle.std.proofs.Common.{◌++◌, ◌∙◌, sym, ap}
use Rattle.std.proofs.lemmas.Result.{on_ok_weaker}
use Rattle.soqe_norm.specs.Splits.{cases_in}
use Rattle.soqe_norm.proofs.CaseSplits.{spread-both, spread-either, spread-below, spread-last}
use Rattle.soqe_norm.proofs.splits.+spread.Goals as goal

pub spread-returns-in_ok-spread-in-Both : goal.spread-returns-in_ok-spread-in-Both
spread-returns-in_ok-spread-in-Both t c =
    on_ok_weaker c.spread_each.result
    (λ h. h ∙ ap (λ l. c.args.out.now.items ++ l) (spread-both c.args.case c.args.split c.in-Both.left c.in-Both.right c.new-lefts.result.items c.spread.new.out.items
    (sym c.into_inner.ensures ∙ c.in-Both.is) c.new-lefts.ensures.items c.in_ok-spread-in-Both.ensures))
    c.spread_each.ensures

pub spread-returns-in_ok-spread-in-Either : goal.spread-returns-in_ok-spread-in-Either
spread-returns-in_ok-spread-in-Either t c =
    on_ok_weaker c.spread-in-Either-2.result
    (λ h. h ∙ spread-either c.args.case c.in_ok-copy-in-Either.copy c.args.split c.in-Either.left c.in-Either.right c.args.out.now.items c.spread-in-Either.new.out.items
    (sym c.into_inner.ensures ∙ c.in-Either.is) c.in_ok-copy-in-Either.ensures c.in_ok-spread-in-Either.ensures)
    c.spread-in-Either-2.ensures

pub spread-returns-in_ok-case-in-Below : goal.spread-returns-in_ok-case-in-Below
spread-returns-in_ok-case-in-Below t c =
    on_ok_weaker c.spread-in-Below.result
    (λ h. h ∙ ap (λ l. c.args.out.now.items ++ l) (spread-below c.args.case c.in_ok-case-in-Below.case c.in-Below.x c.args.split c.in-Below.part
    (sym c.into_inner.ensures ∙ c.in-Below.is) c.in_ok-case-in-Below.ensures))
    c.spread-in-Below.ensures

pub spread_each-returns-in_ok-spread_copies-in-Some : goal.spread_each-returns-in_ok-spread_copies-in-Some
spread_each-returns-in_ok-spread_copies-in-Some t c =
    on_ok_weaker c.spread.result
    (λ h. h ∙ spread-last c.args.cases.items c.pop.new.self.items c.in-Some.last (cases_in c.args.split) c.args.out.now.items c.spread_copies.new.out.items
    c.in-Some.ensures.items c.in_ok-spread_copies-in-Some.ensures)
    c.spread.ensures
