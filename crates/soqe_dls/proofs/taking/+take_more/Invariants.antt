use Rattle.soqe_dls.proofs.taking.+take_more.Given as goal

abbrev pub decreases-take_more : goal.decreases-take_more
decreases-take_more l = l.count
