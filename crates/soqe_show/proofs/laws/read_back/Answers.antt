use Rattle.soqe_show.proofs.Back as back
use Rattle.soqe_show.proofs.laws.read_back.Goals as goal

pub returns-clause-levelled : goal.returns-clause-levelled
returns-clause-levelled c = back.printed_levelled

pub returns-clause-words : goal.returns-clause-words
returns-clause-words c = back.printed_words

pub returns-clause-places : goal.returns-clause-places
returns-clause-places c = back.spells_back

pub returns-clause-text : goal.returns-clause-text
returns-clause-text c = back.reads_back
