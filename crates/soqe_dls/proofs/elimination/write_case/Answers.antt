use Rattle.std.proofs.Common.{Option, subst}
use Rattle.soqe_ack.specs.Applied.{IsFirstTry}
use Rattle.soqe_ack.specs.declared.trying.Tried.{Tried}
use Rattle.soqe_dls.proofs.Running.{tried-distinct}
use Rattle.soqe_dls.proofs.elimination.write_case.Goals as goal

pub write_try-requires : goal.write_try-requires
write_try-requires c =
    tried-distinct (subst (λ (o : Option Tried). IsFirstTry c.args.pred.now c.args.keep.now c.in_ok-case.case.vars c.in_ok-case.case.conj o) c.in-Some.is c.in_ok-tried.ensures.exact)
