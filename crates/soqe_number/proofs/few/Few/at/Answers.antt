use Rattle.std.proofs.Common.{◌<◌, length, get_or, sym, ◌∙◌, ap, arith}
use Rattle.std.proofs.lemmas.List.{get_or-take, length-take}
use Rattle.soqe_number.proofs.few.Few.at.Goals as goal

pub returns : goal.returns
returns c =
    let at = c.self.inside in
    let within : c.args.place < at.len = omega (arith, c.requires.within, ap length c.self.view_is, length-take at.len at.entries) in
    ap (λ e. e.1) (sym (get_or-take at.len at.entries c.args.place (0, 0) within) ∙ ap (λ es. get_or es c.args.place (0, 0)) c.self.view_is)
