use Rattle.std.proofs.Common.{◌∙◌, eqb, Some, sym, ap}
use Rattle.std.specs.Map.{lookup}
use Rattle.soqe_number.proofs.SmallMaps.{lookup-at, lookup-behind}
use Rattle.soqe_number.proofs.small_map.SmallMap.get.Goals as goal

pub returns-in-Some : goal.returns-in-Some
returns-in-Some c =
    let at = c.self.inside in
    ap Some c.at.ensures ∙ sym (lookup-at c.args.n at.few at.others.entries c.in-Some.place c.in-Some.ensures.first) ∙ ap (lookup (eqb c.args.n)) c.self.view_is

pub returns-in-None : goal.returns-in-None
returns-in-None c =
    let at = c.self.inside in
    c.get_in.ensures ∙ sym (lookup-behind c.args.n at.few at.others.entries c.in-None.ensures.first) ∙ ap (lookup (eqb c.args.n)) c.self.view_is
