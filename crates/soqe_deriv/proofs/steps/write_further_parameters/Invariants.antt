use Rattle.std.proofs.Common.{◌≡◌, ◌++◌, map, drop, string_bytes}
use Rattle.soqe_show.specs.Printed.{further_text}
use Rattle.soqe_deriv.specs.Text.{parameter_text}
use Rattle.soqe_deriv.proofs.steps.write_further_parameters.Given as goal

abbrev pub invariant-loop-param : goal.invariant-loop-param
invariant-loop-param l =
    string_bytes l.out ++ further_text (map (parameter_text l.sig) (drop l.param-index l.params)) ≡ string_bytes l.fn.out ++ further_text (map (parameter_text l.sig) l.params)
