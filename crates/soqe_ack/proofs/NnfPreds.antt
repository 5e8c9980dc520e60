-- A normal form has the free predicates of the formula, declared ones too.
use Rattle.std.proofs.Common.{◌≡◌, Bool, true, false, cond, ◌||◌, refl, ◌∙◌, ap}
use Rattle.soqe_form.specs.declared.form.Pred.{Pred}
use Rattle.soqe_form.specs.declared.form.Form.{Form, True, False, Equal, Atom, Not', And', Or', Imp', Iff', All', Ex', All2', Ex2', end_of-Form as end, more_of-Form as one}
use Rattle.soqe_form.specs.Boxes.{boxes}
use Rattle.soqe_form.specs.FreePreds.{hides, has_free}
use Rattle.soqe_norm.specs.Nnf.{nnf}

or_twice : (b : Bool) → (b || b) ≡ b
or_twice true = refl
or_twice false = refl

pub has_free-nnf : (q : Pred) (n : Bool) (f : Form) → has_free q (nnf n f) ≡ has_free q f
unfolding boxes
has_free-nnf q false True = refl
has_free-nnf q true True = refl
has_free-nnf q false False = refl
has_free-nnf q true False = refl
has_free-nnf q false (Equal s t) = refl
has_free-nnf q true (Equal s t) = refl
has_free-nnf q false (Atom p ts) = refl
has_free-nnf q true (Atom p ts) = refl
has_free-nnf q false (Not' _ (one f end)) = has_free-nnf q true f
has_free-nnf q true (Not' _ (one f end)) = has_free-nnf q false f
has_free-nnf q false (And' _ (one f end) _ (one g end)) = λ i. has_free-nnf q false f i || has_free-nnf q false g i
has_free-nnf q true (And' _ (one f end) _ (one g end)) = λ i. has_free-nnf q true f i || has_free-nnf q true g i
has_free-nnf q false (Or' _ (one f end) _ (one g end)) = λ i. has_free-nnf q false f i || has_free-nnf q false g i
has_free-nnf q true (Or' _ (one f end) _ (one g end)) = λ i. has_free-nnf q true f i || has_free-nnf q true g i
has_free-nnf q false (Imp' _ (one f end) _ (one g end)) = λ i. has_free-nnf q true f i || has_free-nnf q false g i
has_free-nnf q true (Imp' _ (one f end) _ (one g end)) = λ i. has_free-nnf q false f i || has_free-nnf q true g i
has_free-nnf q false (Iff' _ (one f end) _ (one g end)) = (λ i. (has_free-nnf q true f i || has_free-nnf q false g i) || (has_free-nnf q false f i || has_free-nnf q true g i)) ∙ or_twice (has_free q f || has_free q g)
has_free-nnf q true (Iff' _ (one f end) _ (one g end)) = (λ i. (has_free-nnf q false f i || has_free-nnf q true g i) || (has_free-nnf q true f i || has_free-nnf q false g i)) ∙ or_twice (has_free q f || has_free q g)
has_free-nnf q false (All' x _ (one f end)) = has_free-nnf q false f
has_free-nnf q true (All' x _ (one f end)) = has_free-nnf q true f
has_free-nnf q false (Ex' x _ (one f end)) = has_free-nnf q false f
has_free-nnf q true (Ex' x _ (one f end)) = has_free-nnf q true f
has_free-nnf q false (All2' p _ (one f end)) = ap (cond (hides p.num q) false) (has_free-nnf q false f)
has_free-nnf q true (All2' p _ (one f end)) = ap (cond (hides p.num q) false) (has_free-nnf q true f)
has_free-nnf q false (Ex2' p _ (one f end)) = ap (cond (hides p.num q) false) (has_free-nnf q false f)
has_free-nnf q true (Ex2' p _ (one f end)) = ap (cond (hides p.num q) false) (has_free-nnf q true f)
