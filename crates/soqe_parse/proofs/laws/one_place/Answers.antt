use Rattle.soqe_parse.proofs.Places.{one_place}
use Rattle.soqe_parse.proofs.laws.one_place.Goals as goal

pub returns : goal.returns
returns c = one_place
