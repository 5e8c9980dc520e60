use Rattle.std.proofs.Common.{◌≤◌}
use Rattle.soqe_form.specs.declared.form.Form.{size-Form}
use Rattle.soqe_form.proofs.form.+let_go.Given as goal

-- what is left is no deeper than the whole
abbrev pub invariant-Form::let_go-loop-rest : goal.invariant-Form::let_go-loop-rest
invariant-Form::let_go-loop-rest l = size-Form l.rest ≤ size-Form l.initial.rest
