use Rattle.std.proofs.Common.{◌<◌, length, set, ◌∙◌, ap, arith}
use Rattle.std.proofs.Math.Seq.{take-set-lt}
use Rattle.std.proofs.lemmas.List.{length-take}
use Rattle.soqe_number.proofs.few.Few.put.Goals as goal

pub returns : goal.returns
returns c =
    let at = c.self.inside in
    let within : c.args.place < at.len = omega (arith, c.requires.within, ap length c.self.view_is, length-take at.len at.entries) in
    take-set-lt at.len at.entries c.args.place (c.args.n, c.args.value) within ∙ ap (λ es. set es c.args.place (c.args.n, c.args.value)) c.self.view_is
