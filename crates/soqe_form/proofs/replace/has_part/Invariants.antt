use Rattle.std.proofs.Common.{◌≡◌, drop}
use Rattle.soqe_form.specs.Places.{part_at}
use Rattle.soqe_form.proofs.replace.has_part.Given as goal

abbrev pub invariant-loop-child : goal.invariant-loop-child
invariant-loop-child l = part_at l.place l.form ≡ part_at (drop l.child-index l.place) l.part
