use Rattle.std.proofs.Common.{◌≡◌, take}
use Rattle.soqe_number.specs.Marks.{marked}
use Rattle.soqe_form.specs.FreeVars.{is_among}
use Rattle.soqe_simp.proofs.known.marks_of_free.Given as goal

abbrev pub invariant-loop-x : goal.invariant-loop-x
invariant-loop-x l = marked l.marks ≡ (λ n. is_among (take l.x-index l.x-items) n)
