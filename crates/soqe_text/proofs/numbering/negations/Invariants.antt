use Rattle.std.proofs.Common.{◌≡◌}
use Rattle.soqe_text.specs.Bare.{negations}
use Rattle.soqe_text.proofs.numbering.negations.Given as goal

abbrev pub invariant-loop-made : goal.invariant-loop-made
invariant-loop-made l = l.f ≡ negations l._made l.initial.f
