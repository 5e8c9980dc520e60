use Rattle.std.proofs.Common.{take}
use Rattle.soqe_ack.specs.Divides.{IsDivided}
use Rattle.soqe_ack.specs.Signs.{is_pos}
use Rattle.soqe_ack.proofs.dividing.divide.Given as goal

abbrev pub invariant-loop-form : goal.invariant-loop-form
invariant-loop-form l = IsDivided (is_pos l.sign) l.pred l.params (take l.form-index l.conj) l.divided
