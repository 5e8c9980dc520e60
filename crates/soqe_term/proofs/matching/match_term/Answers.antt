use Rattle.std.proofs.Common.{◌∙◌, ap, sym, cond, Some, None}
use Rattle.soqe_term.specs.Matched.{matched}
use Rattle.soqe_term.proofs.Matches.{found-match, no-match}
use Rattle.soqe_term.proofs.matching.match_term.Goals as goal

pub returns-then-found-clause-found : goal.returns-then-found-clause-found
returns-then-found-clause-found c =
    found-match c.args.fixed.now c.args.pattern.now c.args.term.now c.args.binding.now c.match_at.new.binding
    (ap (matched c.args.fixed.now c.args.pattern.now c.args.term.now) (sym c.in_ok-answer.ensures) ∙ c.in_ok-found.ensures
    ∙ ap (λ q. cond q (Some c.match_at.new.binding) None) c.if-found.true)

pub returns-else-found-clause-found : goal.returns-else-found-clause-found
returns-else-found-clause-found c =
    no-match c.args.fixed.now c.args.pattern.now c.args.term.now c.args.binding.now
    (ap (matched c.args.fixed.now c.args.pattern.now c.args.term.now) (sym c.in_ok-answer.ensures) ∙ c.in_ok-found.ensures
    ∙ ap (λ q. cond q (Some c.match_at.new.binding) None) c.if-found.false)
