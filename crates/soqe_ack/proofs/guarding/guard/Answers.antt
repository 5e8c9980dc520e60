use Rattle.std.proofs.Common.{◌∙◌, refl}
use Rattle.soqe_ack.specs.Signs.{is_pos}
use Rattle.soqe_ack.specs.declared.guarding.Found.TheVariants as found
use Rattle.soqe_ack.proofs.GuardFound.{found-at, lacking-by}
use Rattle.soqe_ack.proofs.GuardTruth.{says-parts}
use Rattle.soqe_ack.proofs.guarding.guard.Goals as goal

pub returns-in_ok-rest-in-Lacking-clause-exact : goal.returns-in_ok-rest-in-Lacking-clause-exact
returns-in_ok-rest-in-Lacking-clause-exact c =
    let k = found-at (is_pos c.args.sign) c.args.pred.now c.args.params.now c.args.form.now c.args.form.now c.in_ok-find.field-0 found.Lacking refl c.in_ok-find.ensures c.in-Lacking.is in
    lacking-by (is_pos c.args.sign) c.args.pred.now c.args.params.now c.args.form.now c.in_ok-cond-in-Lacking.cond c.in_ok-rest-in-Lacking.rest k c.in_ok-cond-in-Lacking.ensures
    (c.in_ok-rest-in-Lacking.ensures ∙ c.in_ok-form-in-Lacking.ensures)

pub returns-in-Parts-clause-exact : goal.returns-in-Parts-clause-exact
returns-in-Parts-clause-exact c =
    let k = found-at (is_pos c.args.sign) c.args.pred.now c.args.params.now c.args.form.now c.args.form.now c.in_ok-find.field-0 (found.Parts c.in-Parts.parts) refl c.in_ok-find.ensures c.in-Parts.is in
    k.1

pub returns-in-Parts-clause-says : goal.returns-in-Parts-clause-says
returns-in-Parts-clause-says c =
    let k = found-at (is_pos c.args.sign) c.args.pred.now c.args.params.now c.args.form.now c.args.form.now c.in_ok-find.field-0 (found.Parts c.in-Parts.parts) refl c.in_ok-find.ensures c.in-Parts.is in
    says-parts (is_pos c.args.sign) c.args.pred.now c.args.params.now c.args.form.now c.in-Parts.parts.cond c.in-Parts.parts.rest k.1

pub returns-in-NoGuard-clause-exact : goal.returns-in-NoGuard-clause-exact
returns-in-NoGuard-clause-exact c =
    let k = found-at (is_pos c.args.sign) c.args.pred.now c.args.params.now c.args.form.now c.args.form.now c.in_ok-find.field-0 found.NoGuard refl c.in_ok-find.ensures c.in-NoGuard.is in
    k.1
