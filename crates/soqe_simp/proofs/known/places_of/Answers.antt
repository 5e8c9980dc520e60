use Rattle.std.proofs.Common.{get_or, false}
use Rattle.std.proofs.lemmas.Option.{slice_get-get_or}
use Rattle.soqe_number.specs.Counts.{counted}
use Rattle.soqe_form.specs.declared.quantifiers.Quantifier.{Quantifier}
use Rattle.soqe_simp.proofs.Knowing.{places-more}
use Rattle.soqe_simp.proofs.known.places_of.Goals as goal

pub loop-at-preserved : goal.loop-at-preserved
loop-at-preserved c =
    let default : Quantifier = record { universal = false; variable = record { num = 0; sort = 0 } } in
    places-more c.args.chain.now c.loop-at.at (get_or c.args.chain.now c.loop-at.at default) (counted c.loop-at.places) (counted c.set.new.self)
    (slice_get-get_or c.args.chain.now c.loop-at.at default c.loop-at-test.true) c.in_ok-set.ensures c.loop-at.invariant
