use Rattle.soqe_term.proofs.BoundStores.{bounds-insert}
use Rattle.soqe_term.proofs.bindings.Binding.insert.Goals as goal

pub returns-clause-ok : goal.returns-clause-ok
returns-clause-ok c =
    bounds-insert c.args.var.num (record { sort = c.args.var.sort; term = c.args.term }) c.self.inside.terms.entries _ c.args.self.now c.self.view_is c.requires c.in_ok-insert.ensures.entries
