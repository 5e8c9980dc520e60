-- Negation normal form keeps truth, sorts and free names, and is in normal form.
use Rattle.std.proofs.Common.{◌≡◌, ℕ, Bool, true, false, cond, eqb, not, ◌||◌, ◌&&◌, map, refl, sym, ◌∙◌, ap}
use Rattle.std.proofs.lemmas.Bool.{and_from}
use Rattle.soqe_term.specs.World.{World, with_var, with_bound}
use Rattle.soqe_number.specs.Finite.{every, some, every_list, some_list, product, entry}
use Rattle.soqe_term.specs.Sorting.{Sorting, over_var, over_bound}
use Rattle.soqe_number.proofs.Choices.{not_and, not_or, not_twice}
use Rattle.soqe_number.proofs.Enumerations.{not_every, not_some, not_every_list, not_some_list}
use Rattle.soqe_form.specs.declared.form.Form.{Form, True, False, Equal, Atom, Not', And', Or', Imp', Iff', All', Ex', All2', Ex2', end_of-Form as end, more_of-Form as one}
use Rattle.soqe_form.specs.Boxes.{boxes}
use Rattle.soqe_form.specs.Truth.{truth, alike}
use Rattle.soqe_form.specs.Free.{free, free_pred}
use Rattle.soqe_form.specs.Sorted.{sorted}
use Rattle.soqe_form.specs.Places.{has_blocks}
use Rattle.soqe_norm.specs.Nnf.{nnf, is_nnf, signed}

agreeing-alike : (a b : Bool) → ((not a || b) && (a || not b)) ≡ alike a b
agreeing-alike true true = refl
agreeing-alike true false = refl
agreeing-alike false true = refl
agreeing-alike false false = refl

differing-alike : (a b : Bool) → ((a && not b) || (not a && b)) ≡ not (alike a b)
differing-alike true true = refl
differing-alike true false = refl
differing-alike false true = refl
differing-alike false false = refl

not_implied : (a b : Bool) → (a && not b) ≡ not (not a || b)
not_implied true b = refl
not_implied false b = refl

and_twice : (b : Bool) → (b && b) ≡ b
and_twice true = refl
and_twice false = refl

or_twice : (b : Bool) → (b || b) ≡ b
or_twice true = refl
or_twice false = refl

pub truth-nnf : (n : Bool) (w : World) (f : Form) → truth w (nnf n f) ≡ signed n (truth w f)
unfolding boxes
truth-nnf false w True = refl
truth-nnf true w True = refl
truth-nnf false w False = refl
truth-nnf true w False = refl
truth-nnf false w (Equal s t) = refl
truth-nnf true w (Equal s t) = refl
truth-nnf false w (Atom p ts) = refl
truth-nnf true w (Atom p ts) = refl
truth-nnf false w (Not' _ (one f end)) = truth-nnf true w f
truth-nnf true w (Not' _ (one f end)) = truth-nnf false w f ∙ sym (not_twice (truth w f))
truth-nnf false w (And' _ (one f end) _ (one g end)) = λ i. truth-nnf false w f i && truth-nnf false w g i
truth-nnf true w (And' _ (one f end) _ (one g end)) = (λ i. truth-nnf true w f i || truth-nnf true w g i) ∙ sym (not_and (truth w f) (truth w g))
truth-nnf false w (Or' _ (one f end) _ (one g end)) = λ i. truth-nnf false w f i || truth-nnf false w g i
truth-nnf true w (Or' _ (one f end) _ (one g end)) = (λ i. truth-nnf true w f i && truth-nnf true w g i) ∙ sym (not_or (truth w f) (truth w g))
truth-nnf false w (Imp' _ (one f end) _ (one g end)) = λ i. truth-nnf true w f i || truth-nnf false w g i
truth-nnf true w (Imp' _ (one f end) _ (one g end)) = (λ i. truth-nnf false w f i && truth-nnf true w g i) ∙ not_implied (truth w f) (truth w g)
truth-nnf false w (Iff' _ (one f end) _ (one g end)) =
    (λ i. (truth-nnf true w f i || truth-nnf false w g i) && (truth-nnf false w f i || truth-nnf true w g i)) ∙ agreeing-alike (truth w f) (truth w g)
truth-nnf true w (Iff' _ (one f end) _ (one g end)) =
    (λ i. (truth-nnf false w f i && truth-nnf true w g i) || (truth-nnf true w f i && truth-nnf false w g i)) ∙ differing-alike (truth w f) (truth w g)
truth-nnf false w (All' x _ (one f end)) = λ i. every (w.size x.sort) (λ a. truth-nnf false (with_var w x.num a) f i)
truth-nnf true w (All' x _ (one f end)) = (λ i. some (w.size x.sort) (λ a. truth-nnf true (with_var w x.num a) f i)) ∙ sym (not_every (w.size x.sort) (λ a. truth (with_var w x.num a) f))
truth-nnf false w (Ex' x _ (one f end)) = λ i. some (w.size x.sort) (λ a. truth-nnf false (with_var w x.num a) f i)
truth-nnf true w (Ex' x _ (one f end)) = (λ i. every (w.size x.sort) (λ a. truth-nnf true (with_var w x.num a) f i)) ∙ sym (not_some (w.size x.sort) (λ a. truth (with_var w x.num a) f))
truth-nnf false w (All2' p _ (one f end)) = λ i. every_list (product (map w.size p.args)) (λ t. truth-nnf false (with_bound w p.num (entry (map w.size p.args) t)) f i)
truth-nnf true w (All2' p _ (one f end)) =
    (λ i. some_list (product (map w.size p.args)) (λ t. truth-nnf true (with_bound w p.num (entry (map w.size p.args) t)) f i))
    ∙ sym (not_every_list (product (map w.size p.args)) (λ t. truth (with_bound w p.num (entry (map w.size p.args) t)) f))
truth-nnf false w (Ex2' p _ (one f end)) = λ i. some_list (product (map w.size p.args)) (λ t. truth-nnf false (with_bound w p.num (entry (map w.size p.args) t)) f i)
truth-nnf true w (Ex2' p _ (one f end)) =
    (λ i. every_list (product (map w.size p.args)) (λ t. truth-nnf true (with_bound w p.num (entry (map w.size p.args) t)) f i))
    ∙ sym (not_some_list (product (map w.size p.args)) (λ t. truth (with_bound w p.num (entry (map w.size p.args) t)) f))

both_from : (a b c d : Bool) → a ≡ true → b ≡ true → c ≡ true → d ≡ true → ((a && b) && (c && d)) ≡ true
both_from a b c d h k l m = and_from (a && b) (c && d) (and_from a b h k) (and_from c d l m)

-- only literals are negated
pub is_nnf-nnf : (n : Bool) (f : Form) → is_nnf (nnf n f) ≡ true
unfolding boxes
is_nnf-nnf false True = refl
is_nnf-nnf true True = refl
is_nnf-nnf false False = refl
is_nnf-nnf true False = refl
is_nnf-nnf false (Equal s t) = refl
is_nnf-nnf true (Equal s t) = refl
is_nnf-nnf false (Atom p ts) = refl
is_nnf-nnf true (Atom p ts) = refl
is_nnf-nnf false (Not' _ (one f end)) = is_nnf-nnf true f
is_nnf-nnf true (Not' _ (one f end)) = is_nnf-nnf false f
is_nnf-nnf false (And' _ (one f end) _ (one g end)) = and_from (is_nnf (nnf false f)) (is_nnf (nnf false g)) (is_nnf-nnf false f) (is_nnf-nnf false g)
is_nnf-nnf true (And' _ (one f end) _ (one g end)) = and_from (is_nnf (nnf true f)) (is_nnf (nnf true g)) (is_nnf-nnf true f) (is_nnf-nnf true g)
is_nnf-nnf false (Or' _ (one f end) _ (one g end)) = and_from (is_nnf (nnf false f)) (is_nnf (nnf false g)) (is_nnf-nnf false f) (is_nnf-nnf false g)
is_nnf-nnf true (Or' _ (one f end) _ (one g end)) = and_from (is_nnf (nnf true f)) (is_nnf (nnf true g)) (is_nnf-nnf true f) (is_nnf-nnf true g)
is_nnf-nnf false (Imp' _ (one f end) _ (one g end)) = and_from (is_nnf (nnf true f)) (is_nnf (nnf false g)) (is_nnf-nnf true f) (is_nnf-nnf false g)
is_nnf-nnf true (Imp' _ (one f end) _ (one g end)) = and_from (is_nnf (nnf false f)) (is_nnf (nnf true g)) (is_nnf-nnf false f) (is_nnf-nnf true g)
is_nnf-nnf false (Iff' _ (one f end) _ (one g end)) = both_from (is_nnf (nnf true f)) (is_nnf (nnf false g)) (is_nnf (nnf false f)) (is_nnf (nnf true g)) (is_nnf-nnf true f) (is_nnf-nnf false g) (is_nnf-nnf false f) (is_nnf-nnf true g)
is_nnf-nnf true (Iff' _ (one f end) _ (one g end)) = both_from (is_nnf (nnf false f)) (is_nnf (nnf true g)) (is_nnf (nnf true f)) (is_nnf (nnf false g)) (is_nnf-nnf false f) (is_nnf-nnf true g) (is_nnf-nnf true f) (is_nnf-nnf false g)
is_nnf-nnf false (All' x _ (one f end)) = is_nnf-nnf false f
is_nnf-nnf true (All' x _ (one f end)) = is_nnf-nnf true f
is_nnf-nnf false (Ex' x _ (one f end)) = is_nnf-nnf false f
is_nnf-nnf true (Ex' x _ (one f end)) = is_nnf-nnf true f
is_nnf-nnf false (All2' p _ (one f end)) = is_nnf-nnf false f
is_nnf-nnf true (All2' p _ (one f end)) = is_nnf-nnf true f
is_nnf-nnf false (Ex2' p _ (one f end)) = is_nnf-nnf false f
is_nnf-nnf true (Ex2' p _ (one f end)) = is_nnf-nnf true f

-- sorts stay
pub sorted-nnf : (n : Bool) (e : Sorting) (f : Form) → sorted e (nnf n f) ≡ sorted e f
unfolding boxes
sorted-nnf false e True = refl
sorted-nnf true e True = refl
sorted-nnf false e False = refl
sorted-nnf true e False = refl
sorted-nnf false e (Equal s t) = refl
sorted-nnf true e (Equal s t) = refl
sorted-nnf false e (Atom p ts) = refl
sorted-nnf true e (Atom p ts) = refl
sorted-nnf false e (Not' _ (one f end)) = sorted-nnf true e f
sorted-nnf true e (Not' _ (one f end)) = sorted-nnf false e f
sorted-nnf false e (And' _ (one f end) _ (one g end)) = λ i. sorted-nnf false e f i && sorted-nnf false e g i
sorted-nnf true e (And' _ (one f end) _ (one g end)) = λ i. sorted-nnf true e f i && sorted-nnf true e g i
sorted-nnf false e (Or' _ (one f end) _ (one g end)) = λ i. sorted-nnf false e f i && sorted-nnf false e g i
sorted-nnf true e (Or' _ (one f end) _ (one g end)) = λ i. sorted-nnf true e f i && sorted-nnf true e g i
sorted-nnf false e (Imp' _ (one f end) _ (one g end)) = λ i. sorted-nnf true e f i && sorted-nnf false e g i
sorted-nnf true e (Imp' _ (one f end) _ (one g end)) = λ i. sorted-nnf false e f i && sorted-nnf true e g i
sorted-nnf false e (Iff' _ (one f end) _ (one g end)) = (λ i. (sorted-nnf true e f i && sorted-nnf false e g i) && (sorted-nnf false e f i && sorted-nnf true e g i)) ∙ and_twice (sorted e f && sorted e g)
sorted-nnf true e (Iff' _ (one f end) _ (one g end)) = (λ i. (sorted-nnf false e f i && sorted-nnf true e g i) && (sorted-nnf true e f i && sorted-nnf false e g i)) ∙ and_twice (sorted e f && sorted e g)
sorted-nnf false e (All' x _ (one f end)) = sorted-nnf false (over_var e x.num x.sort) f
sorted-nnf true e (All' x _ (one f end)) = sorted-nnf true (over_var e x.num x.sort) f
sorted-nnf false e (Ex' x _ (one f end)) = sorted-nnf false (over_var e x.num x.sort) f
sorted-nnf true e (Ex' x _ (one f end)) = sorted-nnf true (over_var e x.num x.sort) f
sorted-nnf false e (All2' p _ (one f end)) = sorted-nnf false (over_bound e p.num p.args) f
sorted-nnf true e (All2' p _ (one f end)) = sorted-nnf true (over_bound e p.num p.args) f
sorted-nnf false e (Ex2' p _ (one f end)) = sorted-nnf false (over_bound e p.num p.args) f
sorted-nnf true e (Ex2' p _ (one f end)) = sorted-nnf true (over_bound e p.num p.args) f

-- free names stay
pub free-nnf : (k : ℕ) (n : Bool) (f : Form) → free k (nnf n f) ≡ free k f
unfolding boxes
free-nnf k false True = refl
free-nnf k true True = refl
free-nnf k false False = refl
free-nnf k true False = refl
free-nnf k false (Equal s t) = refl
free-nnf k true (Equal s t) = refl
free-nnf k false (Atom p ts) = refl
free-nnf k true (Atom p ts) = refl
free-nnf k false (Not' _ (one f end)) = free-nnf k true f
free-nnf k true (Not' _ (one f end)) = free-nnf k false f
free-nnf k false (And' _ (one f end) _ (one g end)) = λ i. free-nnf k false f i || free-nnf k false g i
free-nnf k true (And' _ (one f end) _ (one g end)) = λ i. free-nnf k true f i || free-nnf k true g i
free-nnf k false (Or' _ (one f end) _ (one g end)) = λ i. free-nnf k false f i || free-nnf k false g i
free-nnf k true (Or' _ (one f end) _ (one g end)) = λ i. free-nnf k true f i || free-nnf k true g i
free-nnf k false (Imp' _ (one f end) _ (one g end)) = λ i. free-nnf k true f i || free-nnf k false g i
free-nnf k true (Imp' _ (one f end) _ (one g end)) = λ i. free-nnf k false f i || free-nnf k true g i
free-nnf k false (Iff' _ (one f end) _ (one g end)) = (λ i. (free-nnf k true f i || free-nnf k false g i) || (free-nnf k false f i || free-nnf k true g i)) ∙ or_twice (free k f || free k g)
free-nnf k true (Iff' _ (one f end) _ (one g end)) = (λ i. (free-nnf k false f i || free-nnf k true g i) || (free-nnf k true f i || free-nnf k false g i)) ∙ or_twice (free k f || free k g)
free-nnf k false (All' x _ (one f end)) = ap (cond (eqb k x.num) false) (free-nnf k false f)
free-nnf k true (All' x _ (one f end)) = ap (cond (eqb k x.num) false) (free-nnf k true f)
free-nnf k false (Ex' x _ (one f end)) = ap (cond (eqb k x.num) false) (free-nnf k false f)
free-nnf k true (Ex' x _ (one f end)) = ap (cond (eqb k x.num) false) (free-nnf k true f)
free-nnf k false (All2' p _ (one f end)) = free-nnf k false f
free-nnf k true (All2' p _ (one f end)) = free-nnf k true f
free-nnf k false (Ex2' p _ (one f end)) = free-nnf k false f
free-nnf k true (Ex2' p _ (one f end)) = free-nnf k true f

-- free names stay
pub free_pred-nnf : (k : ℕ) (n : Bool) (f : Form) → free_pred k (nnf n f) ≡ free_pred k f
unfolding boxes
free_pred-nnf k false True = refl
free_pred-nnf k true True = refl
free_pred-nnf k false False = refl
free_pred-nnf k true False = refl
free_pred-nnf k false (Equal s t) = refl
free_pred-nnf k true (Equal s t) = refl
free_pred-nnf k false (Atom p ts) = refl
free_pred-nnf k true (Atom p ts) = refl
free_pred-nnf k false (Not' _ (one f end)) = free_pred-nnf k true f
free_pred-nnf k true (Not' _ (one f end)) = free_pred-nnf k false f
free_pred-nnf k false (And' _ (one f end) _ (one g end)) = λ i. free_pred-nnf k false f i || free_pred-nnf k false g i
free_pred-nnf k true (And' _ (one f end) _ (one g end)) = λ i. free_pred-nnf k true f i || free_pred-nnf k true g i
free_pred-nnf k false (Or' _ (one f end) _ (one g end)) = λ i. free_pred-nnf k false f i || free_pred-nnf k false g i
free_pred-nnf k true (Or' _ (one f end) _ (one g end)) = λ i. free_pred-nnf k true f i || free_pred-nnf k true g i
free_pred-nnf k false (Imp' _ (one f end) _ (one g end)) = λ i. free_pred-nnf k true f i || free_pred-nnf k false g i
free_pred-nnf k true (Imp' _ (one f end) _ (one g end)) = λ i. free_pred-nnf k false f i || free_pred-nnf k true g i
free_pred-nnf k false (Iff' _ (one f end) _ (one g end)) = (λ i. (free_pred-nnf k true f i || free_pred-nnf k false g i) || (free_pred-nnf k false f i || free_pred-nnf k true g i)) ∙ or_twice (free_pred k f || free_pred k g)
free_pred-nnf k true (Iff' _ (one f end) _ (one g end)) = (λ i. (free_pred-nnf k false f i || free_pred-nnf k true g i) || (free_pred-nnf k true f i || free_pred-nnf k false g i)) ∙ or_twice (free_pred k f || free_pred k g)
free_pred-nnf k false (All' x _ (one f end)) = free_pred-nnf k false f
free_pred-nnf k true (All' x _ (one f end)) = free_pred-nnf k true f
free_pred-nnf k false (Ex' x _ (one f end)) = free_pred-nnf k false f
free_pred-nnf k true (Ex' x _ (one f end)) = free_pred-nnf k true f
free_pred-nnf k false (All2' p _ (one f end)) = ap (cond (eqb k p.num) false) (free_pred-nnf k false f)
free_pred-nnf k true (All2' p _ (one f end)) = ap (cond (eqb k p.num) false) (free_pred-nnf k true f)
free_pred-nnf k false (Ex2' p _ (one f end)) = ap (cond (eqb k p.num) false) (free_pred-nnf k false f)
free_pred-nnf k true (Ex2' p _ (one f end)) = ap (cond (eqb k p.num) false) (free_pred-nnf k true f)

-- no quantifier of a predicate comes or goes
pub has_blocks-nnf : (n : Bool) (f : Form) → has_blocks (nnf n f) ≡ has_blocks f
unfolding boxes
has_blocks-nnf false True = refl
has_blocks-nnf true True = refl
has_blocks-nnf false False = refl
has_blocks-nnf true False = refl
has_blocks-nnf false (Equal s t) = refl
has_blocks-nnf true (Equal s t) = refl
has_blocks-nnf false (Atom p ts) = refl
has_blocks-nnf true (Atom p ts) = refl
has_blocks-nnf false (Not' _ (one f end)) = has_blocks-nnf true f
has_blocks-nnf true (Not' _ (one f end)) = has_blocks-nnf false f
has_blocks-nnf false (And' _ (one f end) _ (one g end)) = λ i. has_blocks-nnf false f i || has_blocks-nnf false g i
has_blocks-nnf true (And' _ (one f end) _ (one g end)) = λ i. has_blocks-nnf true f i || has_blocks-nnf true g i
has_blocks-nnf false (Or' _ (one f end) _ (one g end)) = λ i. has_blocks-nnf false f i || has_blocks-nnf false g i
has_blocks-nnf true (Or' _ (one f end) _ (one g end)) = λ i. has_blocks-nnf true f i || has_blocks-nnf true g i
has_blocks-nnf false (Imp' _ (one f end) _ (one g end)) = λ i. has_blocks-nnf true f i || has_blocks-nnf false g i
has_blocks-nnf true (Imp' _ (one f end) _ (one g end)) = λ i. has_blocks-nnf false f i || has_blocks-nnf true g i
has_blocks-nnf false (Iff' _ (one f end) _ (one g end)) = (λ i. (has_blocks-nnf true f i || has_blocks-nnf false g i) || (has_blocks-nnf false f i || has_blocks-nnf true g i)) ∙ or_twice (has_blocks f || has_blocks g)
has_blocks-nnf true (Iff' _ (one f end) _ (one g end)) = (λ i. (has_blocks-nnf false f i || has_blocks-nnf true g i) || (has_blocks-nnf true f i || has_blocks-nnf false g i)) ∙ or_twice (has_blocks f || has_blocks g)
has_blocks-nnf false (All' x _ (one f end)) = has_blocks-nnf false f
has_blocks-nnf true (All' x _ (one f end)) = has_blocks-nnf true f
has_blocks-nnf false (Ex' x _ (one f end)) = has_blocks-nnf false f
has_blocks-nnf true (Ex' x _ (one f end)) = has_blocks-nnf true f
has_blocks-nnf false (All2' p _ (one f end)) = refl
has_blocks-nnf true (All2' p _ (one f end)) = refl
has_blocks-nnf false (Ex2' p _ (one f end)) = refl
has_blocks-nnf true (Ex2' p _ (one f end)) = refl
