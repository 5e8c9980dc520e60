use Rattle.std.proofs.Common.{◌≡◌, ◌++◌, map, drop, string_bytes}
use Rattle.soqe_show.specs.Dress.{sort_name}
use Rattle.soqe_show.specs.Printed.{further_text}
use Rattle.soqe_show.proofs.names.write_further_sorts.Given as goal

abbrev pub invariant-loop-sort : goal.invariant-loop-sort
invariant-loop-sort l =
    string_bytes l.out ++ further_text (map (sort_name l.sig) (drop l.sort-index l.sorts)) ≡ string_bytes l.fn.out ++ further_text (map (sort_name l.sig) l.sorts)
