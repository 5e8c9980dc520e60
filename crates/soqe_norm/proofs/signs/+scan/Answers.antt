use Rattle.std.proofs.Common.{refl, sym, ◌∙◌, ap}
use Rattle.soqe_form.specs.Boxes.{boxes}
use Rattle.soqe_norm.specs.Signs.{turned, both, signs_under}
use Rattle.soqe_norm.specs.Passes.{signs_in, scanned}
use Rattle.soqe_norm.proofs.Scanned.{scanned_parts}
use Rattle.soqe_norm.proofs.signs.+scan.Goals as goal

pub returns-in-And : goal.returns-in-And
unfolding boxes
returns-in-And t c =
    scanned_parts c.args.pred.now (signs_in c.args.under) (signs_in c.args.under) c.in-And.f c.in-And.g _ _ c.get-in-And.result.now c.get-in-And-2.result.now
    c.args.before c.scan-left.result c.scan-in-And.result refl refl c.get-in-And.ensures c.get-in-And-2.ensures c.scan-left.ensures c.scan-in-And.ensures
    ∙ ap (λ f. scanned c.args.before (signs_under (signs_in c.args.under) c.args.pred.now f)) (sym c.in-And.is)

pub returns-in-Or : goal.returns-in-Or
unfolding boxes
returns-in-Or t c =
    scanned_parts c.args.pred.now (signs_in c.args.under) (signs_in c.args.under) c.in-Or.f c.in-Or.g _ _ c.get-in-Or.result.now c.get-in-Or-2.result.now
    c.args.before c.scan-left-in-Or.result c.scan-in-Or.result refl refl c.get-in-Or.ensures c.get-in-Or-2.ensures c.scan-left-in-Or.ensures c.scan-in-Or.ensures
    ∙ ap (λ f. scanned c.args.before (signs_under (signs_in c.args.under) c.args.pred.now f)) (sym c.in-Or.is)

pub returns-in-Imp : goal.returns-in-Imp
unfolding boxes
returns-in-Imp t c =
    scanned_parts c.args.pred.now (turned (signs_in c.args.under)) (signs_in c.args.under) c.in-Imp.f c.in-Imp.g _ _ c.get-in-Imp.result.now c.get-in-Imp-2.result.now
    c.args.before c.scan-left-in-Imp.result c.scan-in-Imp.result c.under_negation-in-Imp.ensures refl c.get-in-Imp.ensures c.get-in-Imp-2.ensures c.scan-left-in-Imp.ensures c.scan-in-Imp.ensures
    ∙ ap (λ f. scanned c.args.before (signs_under (signs_in c.args.under) c.args.pred.now f)) (sym c.in-Imp.is)

pub returns-in-Iff : goal.returns-in-Iff
unfolding boxes
returns-in-Iff t c =
    scanned_parts c.args.pred.now (both (signs_in c.args.under)) (both (signs_in c.args.under)) c.in-Iff.f c.in-Iff.g _ _ c.get-in-Iff.result.now c.get-in-Iff-2.result.now
    c.args.before c.scan-left-in-Iff.result c.scan-in-Iff.result c.under_equivalence.ensures c.under_equivalence-in-Iff.ensures c.get-in-Iff.ensures c.get-in-Iff-2.ensures c.scan-left-in-Iff.ensures c.scan-in-Iff.ensures
    ∙ ap (λ f. scanned c.args.before (signs_under (signs_in c.args.under) c.args.pred.now f)) (sym c.in-Iff.is)
