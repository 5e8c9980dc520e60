use Rattle.std.proofs.Common.{cond, eqb, true, ap, sym, ◌∙◌}
use Rattle.std.specs.Cmp.{unsigned_tied}
use Rattle.soqe_number.specs.Unused.{member}
use Rattle.soqe_number.proofs.Equalities.{eqb_sym}
use Rattle.soqe_number.proofs.Ordered.{contains-member}
use Rattle.soqe_number.proofs.num_order.NumOrder.insert.Goals as goal

pub returns : goal.returns
returns c =
    λ m. sym (contains-member m c.insert.new.self.keys) ∙ c.in_ok-insert.ensures.updates.0 m
    ∙ (λ i. cond (unsigned_tied c.args.n m i) true (contains-member m c.self.inside.numbers.keys i))
    ∙ ap (λ b. cond b true (member m c.self.inside.numbers.keys)) (eqb_sym c.args.n m)
    ∙ ap (λ l. cond (eqb m c.args.n) true (member m l)) c.self.view_is
