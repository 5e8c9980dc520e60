use Rattle.std.proofs.Common.{◌≡◌, ◌-◌, map, drop, length}
use Rattle.soqe_term.specs.declared.term.Var.{Var}
use Rattle.soqe_text.proofs.form_tables.variables.Given as goal

abbrev pub invariant-loop-n : goal.invariant-loop-n
invariant-loop-n l = l.scope ≡ map (λ (x : Var). x.num) (drop (length l.free - l.n) l.free)
