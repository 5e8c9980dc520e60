use Rattle.std.proofs.Common.{◌≡◌, cond, take}
use Rattle.soqe_form.specs.FreeVars.{is_among}
use Rattle.soqe_number.specs.Marks.{marked}
use Rattle.soqe_psub.proofs.fresh_names.mark_each.Given as goal

abbrev pub invariant-loop-x : goal.invariant-loop-x
invariant-loop-x l = marked l.marks ≡ (λ n. cond (is_among (take l.x-index l.vars) n) l.mark (marked l.initial.marks n))
