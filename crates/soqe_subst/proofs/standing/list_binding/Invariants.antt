use Rattle.std.proofs.Common.{◌≡◌, ◌++◌, take}
use Rattle.soqe_number.specs.Marks.{marked}
use Rattle.soqe_subst.specs.Standing.{binding_numbers}
use Rattle.soqe_subst.specs.Substitution.{visible}
use Rattle.soqe_subst.proofs.standing.list_binding.Given as goal

abbrev pub invariant-loop-place : goal.invariant-loop-place
invariant-loop-place l = l.nums ≡ l.initial.nums ++ binding_numbers (visible (marked l.hidden) (take l.place l.binding))
