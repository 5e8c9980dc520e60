-- The first block as the search gives it back: its place is collected from the block up to the root.
use Rattle.std.specs.Prelude.{ℕ, [], ◌∷◌, ◌++◌, reverse, Option, Some, None}
use Rattle.soqe_form.specs.declared.form.Block.{Block}
use Rattle.soqe_form.specs.declared.blocks.BlockRef.{BlockRef}

-- the block with its place read from the end
abbrev pub upward : Option Block → Option Block
upward None = None
upward (Some b) = Some (record b { place = reverse b.place })

-- one more child at the end of the place
abbrev pub further : ℕ → Option Block → Option Block
further n None = None
further n (Some b) = Some (record b { place = b.place ++ n ∷ [] })

-- the block that is referred to
abbrev pub seen : BlockRef → Block
seen b = record { place = b.place; exists = b.exists; pred = b.pred.now; body = b.body.now }

-- the block that is referred to, where there is one
abbrev pub seen_in : Option BlockRef → Option Block
seen_in None = None
seen_in (Some b) = Some (seen b)
