use Rattle.std.proofs.Common.{◌++◌, sym, subst}
use Rattle.soqe_number.specs.SmallMap.{Sets}
use Rattle.soqe_number.proofs.SmallMaps.{sets-put, sets-pushed, sets-behind}
use Rattle.soqe_number.proofs.small_map.SmallMap.set.Goals as goal

pub returns-in-Some : goal.returns-in-Some
returns-in-Some c =
    let at = c.self.inside in
    subst (λ old. Sets c.args.n c.args.value old (c.put.new.self ++ at.others.entries)) c.self.view_is
    (subst (λ es. Sets c.args.n c.args.value (at.few ++ at.others.entries) (es ++ at.others.entries)) (sym c.put.ensures)
    (sets-put c.args.n c.args.value at.few at.others.entries c.in-Some.place c.in-Some.ensures.first))

pub returns-then-has_room : goal.returns-then-has_room
returns-then-has_room c =
    let at = c.self.inside in
    subst (λ old. Sets c.args.n c.args.value old (c.push.new.self ++ at.others.entries)) c.self.view_is
    (subst (λ es. Sets c.args.n c.args.value (at.few ++ at.others.entries) (es ++ at.others.entries)) (sym c.push.ensures)
    (sets-pushed c.args.n c.args.value at.few at.others.entries c.in-None.ensures.first))

pub returns-in_ok-set_in-in-None : goal.returns-in_ok-set_in-in-None
returns-in_ok-set_in-in-None c =
    let at = c.self.inside in
    subst (λ old. Sets c.args.n c.args.value old (at.few ++ c.set_in.new.table.entries)) c.self.view_is
    (sets-behind c.args.n c.args.value at.few at.others.entries c.set_in.new.table.entries c.in-None.ensures.first c.in_ok-set_in-in-None.ensures.set)
