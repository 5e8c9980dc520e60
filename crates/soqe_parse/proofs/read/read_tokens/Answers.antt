use Rattle.std.proofs.Common.{ℕ, Option, length, sym, subst}
use Rattle.soqe_parse.specs.Faults.{IsFaultIn}
use Rattle.soqe_parse.proofs.Found.{stops, ends}
use Rattle.soqe_parse.proofs.read.read_tokens.Goals as goal

pub returns-in-Some : goal.returns-in-Some
returns-in-Some c =
    subst (λ (o : Option ℕ). IsFaultIn c.args.bytes.now c.args.tokens.now o c.in-Some.at) (sym c.in-Some.is)
    (stops c.args.bytes.now c.args.tokens.now c.in-Some.at c.ran.new.items c.in_ok-stage.stage c.in_ok-stage.ensures)

pub returns-in-None-problem : goal.returns-in-None-problem
returns-in-None-problem c =
    subst (λ (o : Option ℕ). IsFaultIn c.args.bytes.now c.args.tokens.now o (length c.args.bytes.now)) (sym c.in-None.is)
    (ends c.args.bytes.now c.args.tokens.now c.ran.new.items c.in_ok-stage.stage c.in_ok-stage.ensures c.in-None-problem.ensures)
