use Rattle.std.proofs.Common.{◌≡◌, ◌<◌, map, drop}
use Rattle.soqe_syntax.specs.Shapes.{declared_view}
use Rattle.soqe_signature.specs.declared.kinds.NameKind.TheVariants as numbering
use Rattle.soqe_signature.specs.Declarations.{count_of}
use Rattle.soqe_text.specs.Naming.{all_named_declared}
use Rattle.soqe_text.proofs.declaring.declare_all.Given as goal

abbrev pub invariant-loop-item : goal.invariant-loop-item
invariant-loop-item l = (0 < count_of numbering.Sort l.sig) × (all_named_declared l.bytes l.initial.sig (map declared_view l.items) ≡ all_named_declared l.bytes l.sig (map declared_view (drop l.item-index l.items)))
