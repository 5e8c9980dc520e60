use Rattle.soqe_term.proofs.BoundStores.{distinct-bounds}
use Rattle.soqe_term.proofs.bindings.Binding.len.Goals as goal

pub returns-clause-distinct : goal.returns-clause-distinct
returns-clause-distinct c = distinct-bounds c.self.inside.terms.entries c.args.self.now c.self.view_is c.len.ensures.unique
