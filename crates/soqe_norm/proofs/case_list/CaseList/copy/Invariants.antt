use Rattle.std.proofs.Common.{◌≡◌, take}
use Rattle.soqe_norm.proofs.case_list.CaseList.copy.Given as goal

abbrev pub invariant-loop-case : goal.invariant-loop-case
invariant-loop-case l = l.copy ≡ take l.case-index l.self
