use Rattle.std.proofs.Common.{refl}
use Rattle.soqe_form.specs.Found.{seen}
use Rattle.soqe_flow.proofs.Marked.{some-pos, some-neg}
use Rattle.soqe_flow.proofs.sign_blocks.mixed.Goals as goal

pub exact-requires : goal.exact-requires
exact-requires c =
    some-pos (seen c.args.block.now) c.args.block.now.body.now c.first_signs-first.result.pos c.requires c.first_signs-first.ensures.pos refl

pub exact-requires-2 : goal.exact-requires-2
exact-requires-2 c =
    some-neg (seen c.args.block.now) c.args.block.now.body.now c.first_signs-first.result.neg c.requires c.first_signs-first.ensures.neg refl
