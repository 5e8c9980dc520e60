-- The lines of a derivation while they are written.
use Rattle.std.specs.Prelude.{◌≡◌, ◌<◌, ℕ, List, [], ◌∷◌, ◌++◌, Option, Some, None}
use Rattle.soqe_form.specs.declared.form.Form.{Form}
use Rattle.soqe_form.specs.declared.form.Pred.TheVariants.{Bound}
use Rattle.soqe_form.specs.declared.form.Block.{Block}
use Rattle.soqe_form.specs.Places.{first_block, count_blocks}
use Rattle.soqe_norm.specs.Valued.{first_pos, first_neg}
use Rattle.soqe_deriv.specs.declared.document.Method.TheVariants as method
use Rattle.soqe_deriv.specs.declared.document.Stop.{Stop}
use Rattle.soqe_deriv.specs.declared.document.Stop.TheVariants as stop
use Rattle.soqe_deriv.specs.declared.document.Line.{Line}
use Rattle.soqe_deriv.specs.declared.document.Line.TheVariants as line
use Rattle.soqe_flow.specs.declared.derivation.Wanted.{Wanted}
use Rattle.soqe_flow.specs.declared.blocks.BlockEnd.{BlockEnd}
use Rattle.soqe_flow.specs.declared.blocks.BlockEnd.TheVariants as block
use Rattle.soqe_flow.specs.Ordered.{Ending, Result, Stops, Follows, stands_with}

-- the lines behind those of a problem are those that are due where the derivation starts with g, and this is their ending
pub record Derives (keep : List ℕ) (w : Wanted) (g : Form) (all : List Line) (e : Ending) : Type 0 where
  pub lines : List Line
  pub are : all ≡ line.Start g ∷ lines
  pub follow : Follows keep w g lines e

-- the lines end with the stop, or with a result where there is none
abbrev pub HasRun : List ℕ → Wanted → Form → List Line → Option Stop → Type 0
HasRun keep w g ls None = (f : Form) × Derives keep w g ls (Result f)
HasRun keep w g ls (Some s) = Derives keep w g ls (Stops s)

-- with whatever lines follow from f these are those of a derivation that starts with g
abbrev pub Leads : List ℕ → Wanted → Form → List Line → Form → Type 0
Leads keep w g all f = (ls : List Line) (e : Ending) → Follows keep w f ls e → Derives keep w g (all ++ ls) e

-- The lines of a block are added. They go on to whatever follows where the part takes the block's place, which leaves fewer
-- quantifiers of predicates, or end with the stop.
abbrev pub WritesBlock : List ℕ → Wanted → Form → List Line → List Line → BlockEnd → Type 0
WritesBlock keep w f old new (block.Closed place part) =
    (ls : List Line) × (new ≡ old ++ ls) × ((ms : List Line) (e : Ending) → Follows keep w (stands_with keep f place part) ms e → Follows keep w f (ls ++ ms) e)
    × (count_blocks (stands_with keep f place part) < count_blocks f)
WritesBlock keep w f old new (block.Stopped s) = (ls : List Line) × (new ≡ old ++ ls) × Follows keep w f ls (Stops s)

-- the lines of the first block are added, and none where there is no block
abbrev pub WritesFirst : List ℕ → Wanted → Form → List Line → List Line → Option BlockEnd → Type 0
WritesFirst keep w f old new None = (first_block f ≡ None) × (new ≡ old)
WritesFirst keep w f old new (Some end) = WritesBlock keep w f old new end

-- the stop has the places where the block's predicate first occurs with each sign
abbrev pub IsMixed : Block → Stop → Type 0
IsMixed b (stop.Mixed i j) = (first_pos (Bound b.pred.num) b.body ≡ Some i) × (first_neg (Bound b.pred.num) b.body ≡ Some j)
IsMixed b (stop.NotReached n) = ⊥

-- the lines of a block whose predicate has both signs
abbrev pub mixed_lines : Block → Stop → List Line
mixed_lines b s = line.Block method.Sign (Bound b.pred.num) ∷ line.Stopped s ∷ line.End ∷ []
