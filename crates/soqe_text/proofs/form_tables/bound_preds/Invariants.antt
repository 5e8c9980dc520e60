use Rattle.std.proofs.Common.{◌≡◌, ◌-◌, map, drop, length}
use Rattle.soqe_form.specs.declared.form.PVar.{PVar}
use Rattle.soqe_text.proofs.form_tables.bound_preds.Given as goal

abbrev pub invariant-loop-n : goal.invariant-loop-n
invariant-loop-n l = l.scope ≡ map (λ (p : PVar). p.num) (drop (length l.preds - l.n) l.preds)
