-- A formula has as many quantifiers of predicates after renaming and substitution as before.
use Rattle.std.proofs.Common.{◌≡◌, ℕ, zero, suc, ◌+◌, Bool, true, false, cond, eqb, List, refl, ◌∙◌}
use Rattle.soqe_term.specs.declared.bindings.Bound.{Bound as Pair}
use Rattle.soqe_term.specs.declared.term.Var.{Var}
use Rattle.soqe_number.proofs.Choices.{by_cases}
use Rattle.soqe_form.specs.declared.form.Form.{Form, True, False, Equal, Atom, Not', And', Or', Imp', Iff', All', Ex', All2', Ex2', end_of-Form as end, more_of-Form as one}
use Rattle.soqe_form.specs.Boxes.{boxes}
use Rattle.soqe_form.specs.Places.{has_blocks, count_blocks}
use Rattle.soqe_form.proofs.BlockCounts.{blocks-by_count}
use Rattle.soqe_subst.specs.Substitution.{without, renamed, fresh, catches, new_body, sub}
use Rattle.soqe_term.specs.Renumber.{numbered}

either_way : (b : Bool) (f g : Form) → count_blocks g ≡ count_blocks f → count_blocks (cond b f g) ≡ count_blocks f
either_way true f g h = refl
either_way false f g h = h

pub count-renamed : (y : ℕ) (z : Var) (f : Form) → count_blocks (renamed y z f) ≡ count_blocks f
unfolding boxes
count-renamed y z True = refl
count-renamed y z False = refl
count-renamed y z (Equal s t) = refl
count-renamed y z (Atom p ts) = refl
count-renamed y z (Not' _ (one f end)) = count-renamed y z f
count-renamed y z (And' _ (one f end) _ (one g end)) = λ i. count-renamed y z f i + count-renamed y z g i
count-renamed y z (Or' _ (one f end) _ (one g end)) = λ i. count-renamed y z f i + count-renamed y z g i
count-renamed y z (Imp' _ (one f end) _ (one g end)) = λ i. count-renamed y z f i + count-renamed y z g i
count-renamed y z (Iff' _ (one f end) _ (one g end)) = λ i. count-renamed y z f i + count-renamed y z g i
count-renamed y z (All' x _ (one f end)) = either_way (eqb x.num y) f (renamed y z f) (count-renamed y z f)
count-renamed y z (Ex' x _ (one f end)) = either_way (eqb x.num y) f (renamed y z f) (count-renamed y z f)
count-renamed y z (All2' q _ (one f end)) = λ i. suc (count-renamed y z f i)
count-renamed y z (Ex2' q _ (one f end)) = λ i. suc (count-renamed y z f i)

count-body : (bs : List Pair) (y : Var) (f : Form) → count_blocks (new_body bs y f) ≡ count_blocks f
count-body bs y f = by_cases (λ r. count_blocks r ≡ count_blocks f) (catches bs y f) (renamed y.num (numbered y (fresh bs f)) f) f (λ _. count-renamed y.num (numbered y (fresh bs f)) f) (λ _. refl)

pub count-sub : (k : ℕ) (bs : List Pair) (f : Form) → count_blocks (sub k bs f) ≡ count_blocks f
unfolding boxes
count-sub zero bs f = refl
count-sub (suc k) bs True = refl
count-sub (suc k) bs False = refl
count-sub (suc k) bs (Equal s t) = refl
count-sub (suc k) bs (Atom p ts) = refl
count-sub (suc k) bs (Not' _ (one f end)) = count-sub k bs f
count-sub (suc k) bs (And' _ (one f end) _ (one g end)) = λ i. count-sub k bs f i + count-sub k bs g i
count-sub (suc k) bs (Or' _ (one f end) _ (one g end)) = λ i. count-sub k bs f i + count-sub k bs g i
count-sub (suc k) bs (Imp' _ (one f end) _ (one g end)) = λ i. count-sub k bs f i + count-sub k bs g i
count-sub (suc k) bs (Iff' _ (one f end) _ (one g end)) = λ i. count-sub k bs f i + count-sub k bs g i
count-sub (suc k) bs (All' x _ (one f end)) = count-sub k (without x.num bs) (new_body (without x.num bs) x f) ∙ count-body (without x.num bs) x f
count-sub (suc k) bs (Ex' x _ (one f end)) = count-sub k (without x.num bs) (new_body (without x.num bs) x f) ∙ count-body (without x.num bs) x f
count-sub (suc k) bs (All2' q _ (one f end)) = λ i. suc (count-sub k bs f i)
count-sub (suc k) bs (Ex2' q _ (one f end)) = λ i. suc (count-sub k bs f i)

pub has_blocks-renamed : (y : ℕ) (z : Var) (f : Form) → has_blocks (renamed y z f) ≡ has_blocks f
has_blocks-renamed y z f = blocks-by_count f (renamed y z f) (count-renamed y z f)

pub has_blocks-sub : (k : ℕ) (bs : List Pair) (f : Form) → has_blocks (sub k bs f) ≡ has_blocks f
has_blocks-sub k bs f = blocks-by_count f (sub k bs f) (count-sub k bs f)
