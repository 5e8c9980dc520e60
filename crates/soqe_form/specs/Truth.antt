-- The truth of a formula.
use Rattle.std.specs.Prelude.{ℕ, eqb, Bool, true, false, ◌&&◌, ◌||◌, not, List, cond, map, ◌≡◌, refl}
use Rattle.soqe_term.specs.World.{World, with_var, with_bound}
use Rattle.soqe_term.specs.Value.{value, values}
use Rattle.soqe_form.specs.declared.form.Pred.{Pred}
use Rattle.soqe_form.specs.declared.form.Pred.TheVariants.{Decl, Bound}
use Rattle.soqe_form.specs.declared.form.Form.{Form, True, False, Equal, Atom, Not', And, And', Or', Imp', Iff', All', Ex', All2', Ex2', end_of-Form as end, more_of-Form as one}
use Rattle.soqe_form.specs.Boxes.{boxes}
use Rattle.soqe_number.specs.Finite.{every, some, every_list, some_list, product, entry}

abbrev pub holds : World → Pred → List ℕ → Bool
holds w (Decl n) args = w.declared n args
holds w (Bound n) args = w.bound n args

abbrev pub alike : Bool → Bool → Bool
alike a b = cond a b (not b)

abbrev pub truth : World → Form → Bool
truth w True = true
truth w False = false
truth w (Equal s t) = eqb (value w s) (value w t)
truth w (Atom p ts) = holds w p (values w ts)
truth w (Not' _ (one f end)) = not (truth w f)
truth w (And' _ (one f end) _ (one g end)) = truth w f && truth w g
truth w (Or' _ (one f end) _ (one g end)) = truth w f || truth w g
truth w (Imp' _ (one f end) _ (one g end)) = not (truth w f) || truth w g
truth w (Iff' _ (one f end) _ (one g end)) = alike (truth w f) (truth w g)
truth w (All' x _ (one f end)) = every (w.size x.sort) (λ a. truth (with_var w x.num a) f)
truth w (Ex' x _ (one f end)) = some (w.size x.sort) (λ a. truth (with_var w x.num a) f)
truth w (All2' p _ (one f end)) =
    every_list (product (map w.size p.args)) (λ t. truth (with_bound w p.num (entry (map w.size p.args) t)) f)
truth w (Ex2' p _ (one f end)) =
    some_list (product (map w.size p.args)) (λ t. truth (with_bound w p.num (entry (map w.size p.args) t)) f)

pub truth-and : (w : World) (f g : Form) → truth w (And f g) ≡ (truth w f && truth w g)
unfolding boxes
truth-and w f g = refl
