-- Some case of a formula with distinct bound variables holds exactly where the formula does.
-- Of a conjunction, the cases of both sides are joined in pairs, since neither side's variables stand in the other; a sort
-- that is empty would tell them apart.
use Rattle.std.proofs.Common.{◌≡◌, ℕ, zero, suc, Bool, true, false, ◌||◌, ◌&&◌, List, [], ◌∷◌, ◌++◌, map, refl, sym, ◌∙◌, ap}
use Rattle.std.specs.List.{AllByRecursion}
use Rattle.std.proofs.lemmas.List.{map-append}
use Rattle.soqe_term.specs.declared.term.Var.{Var}
use Rattle.soqe_term.specs.World.{World, with_var}
use Rattle.soqe_number.specs.Finite.{some}
use Rattle.soqe_term.specs.Sorting.{Sorting}
use Rattle.soqe_number.proofs.Choices.{by_cases}
use Rattle.soqe_form.specs.declared.form.Pred.{Pred}
use Rattle.soqe_form.specs.declared.form.Form.{Form, True, False, Equal, Atom, Not, Not', And, And', Or, Or', Imp, Imp', Iff, Iff', All, All', Ex, Ex', All2, All2', Ex2, Ex2', end_of-Form as end, more_of-Form as one}
use Rattle.soqe_form.specs.Boxes.{boxes}
use Rattle.soqe_form.specs.Truth.{truth}
use Rattle.soqe_form.specs.Free.{free}
use Rattle.soqe_form.specs.FreePreds.{has_free}
use Rattle.soqe_form.specs.Alike.{AlikeIn}
use Rattle.soqe_norm.specs.declared.case_list.Case.{Case}
use Rattle.soqe_norm.specs.Apart.{binders, IsApart}
use Rattle.soqe_norm.specs.Folds.{all_of}
use Rattle.soqe_norm.specs.Cases.{whole, both, pairings, below, cases_of, form_of, some_case}
use Rattle.soqe_norm.specs.CasesLaws.{AreCases}
use Rattle.soqe_norm.proofs.Quantifieds.{NoneEmpty, and-keeps, and-keeps_right, and_false, or_false, quantified, truth-quantify, both-drawn}
use Rattle.soqe_norm.proofs.Aparts.{Unlike, truth-apart, unlike-apart, bound-free-apart}
use Rattle.soqe_norm.proofs.Prenexes.{Closed, closed-under, Sides, sides}
use Rattle.soqe_norm.proofs.Folded.{any_passes, or_assoc, truth-any, truth-all}
use Rattle.soqe_norm.proofs.CaseNames.{existential, existentials, exists_in-quantify, all_pass-append, Named, named-cases, Strange, strange}

-- some case of the list holds
abbrev pub any_case : World → List Case → Bool
any_case w cs = any_passes (truth w) (map form_of cs)

any_case-append : (w : World) (bs cs : List Case) → any_case w (bs ++ cs) ≡ (any_case w bs || any_case w cs)
any_case-append w [] cs = refl
any_case-append w (b ∷ bs) cs = ap (λ a. truth w (form_of b) || a) (any_case-append w bs cs) ∙ sym (or_assoc (truth w (form_of b)) (any_case w bs) (any_case w cs))

-- ---- two cases together

truth-joined : (w : World) (fs gs : List Form) → truth w (all_of (fs ++ gs)) ≡ (truth w (all_of fs) && truth w (all_of gs))
truth-joined w fs gs = truth-all w (fs ++ gs) ∙ all_pass-append (truth w) fs gs ∙ sym (λ i. truth-all w fs i && truth-all w gs i)

truth-both : (w : World) → NoneEmpty w → (b c : Case) → Strange b c → truth w (form_of (both b c)) ≡ (truth w (form_of b) && truth w (form_of c))
truth-both w o b c s =
    ap (truth w) (exists_in-quantify (b.vars ++ c.vars) (all_of (b.conj ++ c.conj)))
    ∙ truth-quantify w (existentials (b.vars ++ c.vars)) (all_of (b.conj ++ c.conj))
    ∙ (λ i. quantified w (map-append existential b.vars c.vars i) (λ v. truth-joined v b.conj c.conj i))
    ∙ both-drawn (λ a d. a && d) and-keeps and-keeps_right w o (existentials b.vars) (existentials c.vars) (all_of b.conj) (form_of b) (all_of c.conj) (form_of c) s.first s.second
    (ap (truth w) (sym (exists_in-quantify b.vars (all_of b.conj)))) (λ v e. ap (truth v) (sym (exists_in-quantify c.vars (all_of c.conj))))

-- ---- pairings

both_share : (a b c : Bool) → ((a && b) || (a && c)) ≡ (a && (b || c))
both_share true b c = refl
both_share false b c = refl

either_shares : (a b c : Bool) → ((a && c) || (b && c)) ≡ ((a || b) && c)
either_shares true true true = refl
either_shares true true false = refl
either_shares true false true = refl
either_shares true false false = refl
either_shares false b c = refl

row : (w : World) (Q : Case → Type 0) (b : Case) → ((c : Case) → Q c → truth w (form_of (both b c)) ≡ (truth w (form_of b) && truth w (form_of c)))
    → (cs : List Case) → AllByRecursion Q cs → any_case w (map (both b) cs) ≡ (truth w (form_of b) && any_case w cs)
row w Q b h [] k = sym (and_false (truth w (form_of b)))
row w Q b h (c ∷ cs) k = (λ i. h c k.0 i || row w Q b h cs k.1 i) ∙ both_share (truth w (form_of b)) (truth w (form_of c)) (any_case w cs)

-- where any two cases together are a conjunction, so are any two lists
pub any-pairing : (w : World) (P Q : Case → Type 0) → ((b c : Case) → P b → Q c → truth w (form_of (both b c)) ≡ (truth w (form_of b) && truth w (form_of c)))
    → (bs cs : List Case) → AllByRecursion P bs → AllByRecursion Q cs → any_case w (pairings bs cs) ≡ (any_case w bs && any_case w cs)
any-pairing w P Q h [] cs k l = refl
any-pairing w P Q h (b ∷ bs) cs k l =
    any_case-append w (map (both b) cs) (pairings bs cs)
    ∙ (λ i. row w Q b (λ c q. h b c k.0 q) cs l i || any-pairing w P Q h bs cs k.1 l i)
    ∙ either_shares (truth w (form_of b)) (any_case w bs) (any_case w cs)

-- ---- below an existential variable

some-none : (n : ℕ) → some n (λ a. false) ≡ false
some-none zero = refl
some-none (suc n) = ap (λ b. b || false) (some-none n)

four_apart : (a b c d : Bool) → ((a || b) || (c || d)) ≡ ((a || c) || (b || d))
four_apart true b c d = refl
four_apart false true true d = refl
four_apart false true false d = refl
four_apart false false c d = refl

some-or : (n : ℕ) (p q : ℕ → Bool) → some n (λ a. p a || q a) ≡ (some n p || some n q)
some-or zero p q = refl
some-or (suc n) p q = ap (λ b. b || (p n || q n)) (some-or n p q) ∙ four_apart (some n p) (some n q) (p n) (q n)

any-below : (w : World) (x : Var) (cs : List Case) → any_case w (map (below x) cs) ≡ some (w.size x.sort) (λ a. any_case (with_var w x.num a) cs)
unfolding boxes
any-below w x [] = sym (some-none (w.size x.sort))
any-below w x (c ∷ cs) =
    ap (λ b. some (w.size x.sort) (λ a. truth (with_var w x.num a) (form_of c)) || b) (any-below w x cs)
    ∙ sym (some-or (w.size x.sort) (λ a. truth (with_var w x.num a) (form_of c)) (λ a. any_case (with_var w x.num a) cs))

-- ---- the cases of a formula

abbrev Told : Pred → Form → Type 0
Told q f = Unlike (binders f) → Closed (binders f) (λ n. free n f) → (w : World) → NoneEmpty w → any_case w (cases_of q f) ≡ truth w f

told-whole : (w : World) (f : Form) → any_case w (whole f) ≡ truth w f
told-whole w f = or_false (truth w f)

pub any-cases : (q : Pred) (f : Form) → Told q f
unfolding boxes
any-cases q True u c w o = told-whole w True
any-cases q False u c w o = told-whole w False
any-cases q (Equal s t) u c w o = told-whole w (Equal s t)
any-cases q (Atom p ts) u c w o = told-whole w (Atom p ts)
any-cases q (Not' _ (one f end)) u c w o = told-whole w (Not f)
any-cases q (And' _ (one f end) _ (one g end)) u c w o =
    let s : Sides f g = sides f g u c in
    by_cases (λ cs. any_case w cs ≡ (truth w f && truth w g)) (has_free q f || has_free q g) (pairings (cases_of q f) (cases_of q g)) (whole (And f g))
    (λ _. any-pairing w (Named (binders f) (λ n. free n f)) (Named (binders g) (λ n. free n g)) (λ b d h k. truth-both w o b d (strange f g u c b d h k))
    (cases_of q f) (cases_of q g) (named-cases q f) (named-cases q g)
    ∙ (λ i. any-cases q f s.unlike-left s.closed-left w o i && any-cases q g s.unlike-right s.closed-right w o i))
    (λ _. told-whole w (And f g))
any-cases q (Or' _ (one f end) _ (one g end)) u c w o =
    let s : Sides f g = sides f g u c in
    by_cases (λ cs. any_case w cs ≡ (truth w f || truth w g)) (has_free q f || has_free q g) (cases_of q f ++ cases_of q g) (whole (Or f g))
    (λ _. any_case-append w (cases_of q f) (cases_of q g)
    ∙ (λ i. any-cases q f s.unlike-left s.closed-left w o i || any-cases q g s.unlike-right s.closed-right w o i))
    (λ _. told-whole w (Or f g))
any-cases q (Imp' _ (one f end) _ (one g end)) u c w o = told-whole w (Imp f g)
any-cases q (Iff' _ (one f end) _ (one g end)) u c w o = told-whole w (Iff f g)
any-cases q (All' x _ (one f end)) u c w o = told-whole w (All x f)
any-cases q (Ex' x _ (one f end)) u c w o =
    by_cases (λ cs. any_case w cs ≡ some (w.size x.sort) (λ a. truth (with_var w x.num a) f)) (has_free q f) (map (below x) (cases_of q f)) (whole (Ex x f))
    (λ _. any-below w x (cases_of q f)
    ∙ (λ i. some (w.size x.sort) (λ a. any-cases q f u.1 (closed-under x.num (binders f) (λ n. free n f) u c) (with_var w x.num a) o i)))
    (λ _. told-whole w (Ex x f))
any-cases q (All2' p _ (one f end)) u c w o = told-whole w (All2 p f)
any-cases q (Ex2' p _ (one f end)) u c w o = told-whole w (Ex2 p f)

-- some case holds exactly where the formula does, in every world without an empty sort
pub truth-cases : (keep : List ℕ) (f made : Form) → IsApart keep f made → (q : Pred) (w : World) → NoneEmpty w → truth w (some_case (cases_of q made)) ≡ truth w f
truth-cases keep f made a q w o =
    truth-any w (map form_of (cases_of q made))
    ∙ any-cases q made (unlike-apart keep f made a) (bound-free-apart keep f made a) w o
    ∙ truth-apart keep f made a w

pub alike-cases : (keep : List ℕ) (f made : Form) → IsApart keep f made → (q : Pred) (e : Sorting) → AlikeIn e (some_case (cases_of q made)) f
alike-cases keep f made a q e = λ w fits. truth-cases keep f made a q w fits.size

pub alike-are : (keep : List ℕ) (q : Pred) (f : Form) (cs : List Case) → AreCases keep q f cs → (e : Sorting) → AlikeIn e (some_case cs) f
alike-are keep q f cs a e = λ w fits. ap (λ ds. truth w (some_case ds)) a.are ∙ alike-cases keep f a.apart a.distinct q e w fits
