use Rattle.std.proofs.Common.{◌≡◌, take}
use Rattle.soqe_form.proofs.lists.Forms.copy.Given as goal

abbrev pub invariant-loop-form : goal.invariant-loop-form
invariant-loop-form l = l.copy ≡ take l.form-index l.self
