use Rattle.std.proofs.Common.{◌∙◌, sym, Some, None}
use Rattle.std.proofs.lemmas.List.{append-nil}
use Rattle.std.proofs.lemmas.Result.{on_ok_weaker}
use Rattle.soqe_number.specs.Marks.{marked}
use Rattle.soqe_subst.proofs.StandingListed.{entry-hidden, entry-shown, listed-more}
use Rattle.soqe_subst.proofs.standing.list_entry.Goals as goal

pub returns-then-has : goal.returns-then-has
returns-then-has c = entry-hidden (marked c.args.hidden.now) c.args.binding.now c.args.y c.args.nums.now (sym c.has.ensures ∙ c.if-has.true)

pub returns-in_ok-push-in-Some : goal.returns-in_ok-push-in-Some
returns-in_ok-push-in-Some c =
    on_ok_weaker c.list_own.result
    (λ h.
    entry-shown (marked c.args.hidden.now) c.args.binding.now c.args.y (Some c.in-Some.term.now) _ _ (sym c.has.ensures ∙ c.if-has.false) c.in-Some.ensures
    (listed-more c.args.y _ _ _ _ c.in_ok-push-in-Some.ensures.ok h))
    c.list_own.ensures

pub returns-in-None : goal.returns-in-None
returns-in-None c =
    entry-shown (marked c.args.hidden.now) c.args.binding.now c.args.y None _ _ (sym c.has.ensures ∙ c.if-has.false) c.in-None.ensures (sym (append-nil c.args.nums.now))
