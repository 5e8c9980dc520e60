use Rattle.std.proofs.Common.{◌≡◌, ◌≤◌, ◌+◌}
use Rattle.soqe_form.specs.declared.form.Form.{size-Form}
use Rattle.soqe_calls.specs.Nodes.{nodes}
use Rattle.soqe_calls.proofs.nodes.+counted.Given as goal

-- what was counted and what is left make up the whole, and what is left is no deeper
abbrev pub invariant-loop-rest : goal.invariant-loop-rest
invariant-loop-rest l = (l.count + nodes l.rest ≡ l.initial.count + nodes l.initial.rest) × (size-Form l.rest ≤ size-Form l.initial.rest)
