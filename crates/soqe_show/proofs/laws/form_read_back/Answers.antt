use Rattle.soqe_show.proofs.BackLevels.{levelled}
use Rattle.soqe_show.proofs.FormBack as back
use Rattle.soqe_show.proofs.laws.form_read_back.Goals as goal

pub returns-clause-levelled : goal.returns-clause-levelled
returns-clause-levelled c = levelled

pub returns-clause-words : goal.returns-clause-words
returns-clause-words c = back.form_words

pub returns-clause-places : goal.returns-clause-places
returns-clause-places c = back.form_spells_back

pub returns-clause-text : goal.returns-clause-text
returns-clause-text c = back.form_reads_back
