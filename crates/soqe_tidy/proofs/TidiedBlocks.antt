-- A tidy formula has as many quantifiers of predicates as the formula.
use Rattle.std.proofs.Common.{◌≡◌, ℕ, suc, ◌+◌, List, refl}
use Rattle.soqe_number.specs.Updates.{changed}
use Rattle.soqe_form.specs.declared.form.Form.{Form, True, False, Equal, Atom, Not', And', Or', Imp', Iff', All', Ex', All2', Ex2', end_of-Form as end, more_of-Form as one}
use Rattle.soqe_form.specs.Boxes.{boxes}
use Rattle.soqe_form.specs.Places.{count_blocks}
use Rattle.soqe_tidy.specs.Tidy.{tidied, tidy_number, tidy}

pub count-tidied : (keep : List ℕ) (r : ℕ → ℕ) (f : Form) → count_blocks (tidied keep r f) ≡ count_blocks f
unfolding boxes
count-tidied keep r True = refl
count-tidied keep r False = refl
count-tidied keep r (Equal s t) = refl
count-tidied keep r (Atom p ts) = refl
count-tidied keep r (Not' _ (one f end)) = count-tidied keep r f
count-tidied keep r (And' _ (one f end) _ (one g end)) = λ i. count-tidied keep r f i + count-tidied keep r g i
count-tidied keep r (Or' _ (one f end) _ (one g end)) = λ i. count-tidied keep r f i + count-tidied keep r g i
count-tidied keep r (Imp' _ (one f end) _ (one g end)) = λ i. count-tidied keep r f i + count-tidied keep r g i
count-tidied keep r (Iff' _ (one f end) _ (one g end)) = λ i. count-tidied keep r f i + count-tidied keep r g i
count-tidied keep r (All' x _ (one f end)) = count-tidied keep (changed r x.num (tidy_number keep r x.num f)) f
count-tidied keep r (Ex' x _ (one f end)) = count-tidied keep (changed r x.num (tidy_number keep r x.num f)) f
count-tidied keep r (All2' q _ (one f end)) = λ i. suc (count-tidied keep r f i)
count-tidied keep r (Ex2' q _ (one f end)) = λ i. suc (count-tidied keep r f i)

pub count-tidy : (keep : List ℕ) (f : Form) → count_blocks (tidy keep f) ≡ count_blocks f
count-tidy keep f = count-tidied keep (λ n. n) f
