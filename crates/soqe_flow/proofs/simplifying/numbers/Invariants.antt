use Rattle.std.proofs.Common.{◌≡◌, ◌++◌, drop, map}
use Rattle.soqe_flow.proofs.simplifying.numbers.Given as goal

abbrev pub invariant-loop-x : goal.invariant-loop-x
invariant-loop-x l = l.nums ++ map (λ x. x.num) (drop l.x-index l.vars) ≡ map (λ x. x.num) l.fn.vars
