-- The search gives back the first block.
use Rattle.std.proofs.Common.{◌≡◌, Option, Some, None, refl, ap}
use Rattle.std.proofs.lemmas.List.{reverse-reverse}
use Rattle.soqe_form.specs.declared.form.Block.{Block}
use Rattle.soqe_form.specs.Found.{upward}

pub upward_twice : (o : Option Block) → upward (upward o) ≡ o
upward_twice None = refl
upward_twice (Some b) = ap (λ p. Some (record b { place = p })) (reverse-reverse b.place)
