use Rattle.std.proofs.Common.{cond, eqb, false, ap, sym, ◌∙◌}
use Rattle.std.specs.Cmp.{unsigned_tied}
use Rattle.soqe_number.specs.Unused.{member}
use Rattle.soqe_number.proofs.Equalities.{eqb_sym}
use Rattle.soqe_number.proofs.Ordered.{contains-member}
use Rattle.soqe_number.proofs.num_order.NumOrder.remove.Goals as goal

pub returns : goal.returns
returns c =
    λ m. sym (contains-member m c.remove.new.self.keys) ∙ c.remove.ensures.updates.0 m
    ∙ (λ i. cond (unsigned_tied c.args.n m i) false (contains-member m c.self.inside.numbers.keys i))
    ∙ ap (λ b. cond b false (member m c.self.inside.numbers.keys)) (eqb_sym c.args.n m)
    ∙ ap (λ l. cond (eqb m c.args.n) false (member m l)) c.self.view_is
