use Rattle.soqe_run.specs.Responds.{syntax_fault, names_fault, sorts_fault}
use Rattle.soqe_run.proofs.respond.respond.Goals as goal

pub returns-in_ok-derive-in-Ok-clause-responds : goal.returns-in_ok-derive-in-Ok-clause-responds
returns-in_ok-derive-in-Ok-clause-responds c = c.in_ok-derive-in-Ok.ensures.responds c.args.bytes.now c.in-Ok.ensures.found

pub returns-in_ok-refused_at-in-Err-Syntax-clause-responds : goal.returns-in_ok-refused_at-in-Err-Syntax-clause-responds
returns-in_ok-refused_at-in-Err-Syntax-clause-responds c =
    syntax_fault c.in-Err-Syntax.at (rw c.in-Err-Syntax.field-0-is at c.in-Err-Syntax.ensures.syntax)
    (rw c.in-Err-Syntax.field-0-is at c.in_ok-refused_at-in-Err-Syntax.ensures)

pub returns-in_ok-refused_at-in-Err-Names-clause-responds : goal.returns-in_ok-refused_at-in-Err-Names-clause-responds
returns-in_ok-refused_at-in-Err-Names-clause-responds c =
    names_fault c.in-Err-Names.at (rw c.in-Err-Names.field-0-is at c.in-Err-Names.ensures.names)
    (rw c.in-Err-Names.field-0-is at c.in_ok-refused_at-in-Err-Names.ensures)

pub returns-in_ok-refused_at-in-Err-Sorts-clause-responds : goal.returns-in_ok-refused_at-in-Err-Sorts-clause-responds
returns-in_ok-refused_at-in-Err-Sorts-clause-responds c =
    sorts_fault c.in-Err-Sorts.at (rw c.in-Err-Sorts.field-0-is at c.in-Err-Sorts.ensures.sorts)
    (rw c.in-Err-Sorts.field-0-is at c.in_ok-refused_at-in-Err-Sorts.ensures)
