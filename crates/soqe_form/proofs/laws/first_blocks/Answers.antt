use Rattle.soqe_form.proofs.FirstBlocks.{block-stands, some-first_block, block-bare, sorted-block}
use Rattle.soqe_form.proofs.laws.first_blocks.Goals as goal

pub returns-clause-stands : goal.returns-clause-stands
returns-clause-stands c = block-stands

pub returns-clause-found : goal.returns-clause-found
returns-clause-found c = some-first_block

pub returns-clause-innermost : goal.returns-clause-innermost
returns-clause-innermost c = block-bare

pub returns-clause-sorted : goal.returns-clause-sorted
returns-clause-sorted c = sorted-block
