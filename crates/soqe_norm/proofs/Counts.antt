-- How many quantifiers of predicates a formula has once a predicate has a truth value, and that the cases of a formula without
-- any have none.
use Rattle.std.proofs.Common.{◌≡◌, ℕ, suc, ◌+◌, Bool, true, false, cond, eqb, List, [], ◌∷◌, refl, sym, ◌∙◌, ap, subst}
use Rattle.std.specs.List.{list_any, AllByRecursion}
use Rattle.std.proofs.lemmas.Bool.{or_from}
use Rattle.soqe_form.specs.declared.form.Pred.{Pred}
use Rattle.soqe_form.specs.declared.form.Form.{Form, True, False, Equal, Atom, Not', And', Or', Imp', Iff', All', Ex', All2', Ex2', end_of-Form as end, more_of-Form as one}
use Rattle.soqe_form.specs.Boxes.{boxes}
use Rattle.soqe_form.specs.Constants.{constant}
use Rattle.soqe_form.specs.Free.{is_bound}
use Rattle.soqe_form.specs.Places.{has_blocks, count_blocks}
use Rattle.soqe_norm.specs.declared.case_list.Case.{Case}
use Rattle.soqe_norm.specs.Cases.{cases_of, form_of}
use Rattle.soqe_norm.specs.CasesLaws.{AreCases}
use Rattle.soqe_norm.specs.Valued.{valued}
use Rattle.soqe_norm.proofs.Aparts.{has_blocks-apart}
use Rattle.soqe_norm.proofs.CaseLists.{OfConjuncts, of_conjuncts, blocks-down, each-weaker}
use Rattle.soqe_norm.proofs.Folded.{has_blocks-case}

-- ---- a truth value for a predicate

atom-bare : (b v : Bool) (f : Form) → count_blocks f ≡ 0 → count_blocks (cond b (constant v) f) ≡ 0
atom-bare true true f h = refl
atom-bare true false f h = refl
atom-bare false v f h = h

below : (b : Bool) (f g : Form) → count_blocks g ≡ count_blocks f → count_blocks (cond b f g) ≡ count_blocks f
below true f g h = refl
below false f g h = h

pub count-valued : (m : ℕ) (v : Bool) (f : Form) → count_blocks (valued m v f) ≡ count_blocks f
unfolding boxes
count-valued m v True = refl
count-valued m v False = refl
count-valued m v (Equal s t) = refl
count-valued m v (Atom q ts) = atom-bare (is_bound m q) v (Atom q ts) refl
count-valued m v (Not' _ (one f end)) = count-valued m v f
count-valued m v (And' _ (one f end) _ (one g end)) = λ i. count-valued m v f i + count-valued m v g i
count-valued m v (Or' _ (one f end) _ (one g end)) = λ i. count-valued m v f i + count-valued m v g i
count-valued m v (Imp' _ (one f end) _ (one g end)) = λ i. count-valued m v f i + count-valued m v g i
count-valued m v (Iff' _ (one f end) _ (one g end)) = λ i. count-valued m v f i + count-valued m v g i
count-valued m v (All' x _ (one f end)) = count-valued m v f
count-valued m v (Ex' x _ (one f end)) = count-valued m v f
count-valued m v (All2' p _ (one f end)) = ap suc (below (eqb m p.num) f (valued m v f) (count-valued m v f))
count-valued m v (Ex2' p _ (one f end)) = ap suc (below (eqb m p.num) f (valued m v f) (count-valued m v f))

-- ---- the cases of a formula

abbrev Bare : Form → Type 0
Bare f = has_blocks f ≡ false

none-listed : (fs : List Form) → AllByRecursion Bare fs → list_any has_blocks fs ≡ false
none-listed [] h = refl
none-listed (f ∷ fs) h = or_from (has_blocks f) (list_any has_blocks fs) h.0 (none-listed fs h.1)

case-bare : (c : Case) → OfConjuncts Bare c → Bare (form_of c)
case-bare c h = has_blocks-case c.vars c.conj ∙ none-listed c.conj h

-- no case of a formula without quantifiers of predicates has one
pub cases-bare : (keep : List ℕ) (q : Pred) (f : Form) (cs : List Case) → AreCases keep q f cs → has_blocks f ≡ false → AllByRecursion (λ c. has_blocks (form_of c) ≡ false) cs
cases-bare keep q f cs a h =
    subst (λ (cs : List Case). AllByRecursion (λ c. Bare (form_of c)) cs) (sym a.are)
    (each-weaker (OfConjuncts Bare) (λ c. Bare (form_of c)) case-bare (cases_of q a.apart)
    (of_conjuncts Bare blocks-down q a.apart (has_blocks-apart keep f a.apart a.distinct ∙ h)))
