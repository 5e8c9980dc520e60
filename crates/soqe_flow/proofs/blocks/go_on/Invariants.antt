use Rattle.soqe_form.specs.declared.form.Form.{Form}
use Rattle.soqe_form.specs.Places.{count_blocks}
use Rattle.soqe_flow.specs.Running.{Leads}
use Rattle.soqe_flow.proofs.blocks.go_on.Given as goal

abbrev pub invariant-loop-now : goal.invariant-loop-now
invariant-loop-now l = (g : Form) → Leads l.keep l.wanted g l.fn.begun l.fn.form → Leads l.keep l.wanted g l.lines l.now

abbrev pub decreases-loop-now : goal.decreases-loop-now
decreases-loop-now l = count_blocks l.now
