use Rattle.std.proofs.Common.{eqb, not, sym, ◌∙◌, ap}
use Rattle.std.specs.Option.{unwrap_or}
use Rattle.soqe_number.specs.Marks.{marked}
use Rattle.soqe_number.proofs.Marked.{marked-as}
use Rattle.soqe_number.proofs.marks.Marks.has.Goals as goal

pub returns : goal.returns
returns c =
    ap (λ v. not (eqb v 0)) (c.unwrap_or.ensures ∙ ap (λ o. unwrap_or o 0) c.get.ensures) ∙ sym (marked-as c.args.n c.self.inside.marks)
    ∙ ap (λ m. marked m c.args.n) c.self.view_is
