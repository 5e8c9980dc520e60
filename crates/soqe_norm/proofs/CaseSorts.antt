-- Each case of a well-sorted formula with distinct bound variables is well sorted.
use Rattle.std.proofs.Common.{◌≡◌, ℕ, true, ◌||◌, ◌&&◌, List, [], ◌∷◌, ◌++◌, map, refl, sym, ◌∙◌, ap}
use Rattle.std.specs.List.{AllByRecursion}
use Rattle.std.proofs.lemmas.Bool.{and_parts, and_from}
use Rattle.std.proofs.lemmas.List.{map-append}
use Rattle.soqe_term.specs.declared.term.Var.{Var}
use Rattle.soqe_term.specs.Sorting.{Sorting, over_var}
use Rattle.soqe_number.proofs.Choices.{by_cases}
use Rattle.soqe_form.specs.declared.form.Pred.{Pred}
use Rattle.soqe_form.specs.declared.form.Form.{Form, True, False, Equal, Atom, Not', And, And', Or, Or', Imp', Iff', All', Ex, Ex', All2', Ex2', end_of-Form as end, more_of-Form as one}
use Rattle.soqe_form.specs.Boxes.{boxes}
use Rattle.soqe_form.specs.Free.{free}
use Rattle.soqe_form.specs.FreePreds.{has_free}
use Rattle.soqe_form.specs.Sorted.{sorted}
use Rattle.soqe_norm.specs.declared.case_list.Case.{Case}
use Rattle.soqe_norm.specs.Apart.{binders, IsApart}
use Rattle.soqe_norm.specs.Folds.{all_of}
use Rattle.soqe_norm.specs.Cases.{whole, both, pairings, below, cases_of, form_of, some_case}
use Rattle.soqe_norm.proofs.Aparts.{Unlike, sorted-apart, unlike-apart, bound-free-apart}
use Rattle.soqe_norm.proofs.Prenexes.{Closed, closed-under, Sides, sides}
use Rattle.soqe_norm.proofs.PrenexNames.{below as sorting_below, below-append, sorted-quantify, sorted-lacking}
use Rattle.soqe_norm.proofs.Folded.{all_pass, sorted-all, sorted-any}
use Rattle.soqe_norm.proofs.CaseLists.{each-append, each-map, each-two, each-pairing}
use Rattle.soqe_norm.proofs.CaseNames.{existential, existentials, exists_in-quantify, all_pass-append, Named, named-cases, Strange, strange}

sorted-joined : (e : Sorting) (fs gs : List Form) → sorted e (all_of (fs ++ gs)) ≡ (sorted e (all_of fs) && sorted e (all_of gs))
sorted-joined e fs gs = sorted-all e (fs ++ gs) ∙ all_pass-append (sorted e) fs gs ∙ sym (λ i. sorted-all e fs i && sorted-all e gs i)

sorted-case : (e : Sorting) (c : Case) → sorted e (form_of c) ≡ sorted (sorting_below e (existentials c.vars)) (all_of c.conj)
sorted-case e c = ap (sorted e) (exists_in-quantify c.vars (all_of c.conj)) ∙ sorted-quantify e (existentials c.vars) (all_of c.conj)

sorted-both : (e : Sorting) (b c : Case) → Strange b c → sorted e (form_of (both b c)) ≡ (sorted e (form_of b) && sorted e (form_of c))
sorted-both e b c s =
    let d : Sorting = sorting_below e (existentials b.vars) in
    let first : sorted (sorting_below d (existentials c.vars)) (all_of b.conj) ≡ sorted e (form_of b) =
    sorted-lacking d (existentials c.vars) (all_of b.conj) s.first ∙ sym (sorted-case e b) in
    let second : sorted (sorting_below d (existentials c.vars)) (all_of c.conj) ≡ sorted e (form_of c) =
    sym (sorted-case d c) ∙ sorted-lacking e (existentials b.vars) (form_of c) s.second in
    sorted-case e (both b c)
    ∙ (λ i. sorted (sorting_below e (map-append existential b.vars c.vars i)) (all_of (b.conj ++ c.conj)))
    ∙ (λ i. sorted (below-append e (existentials b.vars) (existentials c.vars) i) (all_of (b.conj ++ c.conj)))
    ∙ sorted-joined (sorting_below d (existentials c.vars)) b.conj c.conj
    ∙ (λ i. first i && second i)

-- the case is well sorted
abbrev pub IsSorted : Sorting → Case → Type 0
IsSorted e c = sorted e (form_of c) ≡ true

abbrev SortsCases : Pred → Form → Type 0
SortsCases q f = Unlike (binders f) → Closed (binders f) (λ n. free n f) → (e : Sorting) → sorted e f ≡ true → AllByRecursion (IsSorted e) (cases_of q f)

paired : (q : Pred) (f g : Form) → SortsCases q f → SortsCases q g → Unlike (binders f ++ binders g) → Closed (binders f ++ binders g) (λ n. free n f || free n g)
    → (e : Sorting) → (sorted e f && sorted e g) ≡ true → AllByRecursion (IsSorted e) (pairings (cases_of q f) (cases_of q g))
paired q f g hf hg u cl e h =
    let s : Sides f g = sides f g u cl in
    let k = and_parts (sorted e f) (sorted e g) h in
    each-pairing (λ b. Named (binders f) (λ n. free n f) b × IsSorted e b) (λ c. Named (binders g) (λ n. free n g) c × IsSorted e c) (IsSorted e)
    (λ b c m n. sorted-both e b c (strange f g u cl b c m.0 n.0) ∙ and_from (sorted e (form_of b)) (sorted e (form_of c)) m.1 n.1)
    (cases_of q f) (cases_of q g)
    (each-two (Named (binders f) (λ n. free n f)) (IsSorted e) (cases_of q f) (named-cases q f) (hf s.unlike-left s.closed-left e k.0))
    (each-two (Named (binders g) (λ n. free n g)) (IsSorted e) (cases_of q g) (named-cases q g) (hg s.unlike-right s.closed-right e k.1))

appended : (q : Pred) (f g : Form) → SortsCases q f → SortsCases q g → Unlike (binders f ++ binders g) → Closed (binders f ++ binders g) (λ n. free n f || free n g)
    → (e : Sorting) → (sorted e f && sorted e g) ≡ true → AllByRecursion (IsSorted e) (cases_of q f ++ cases_of q g)
appended q f g hf hg u cl e h =
    let s : Sides f g = sides f g u cl in
    let k = and_parts (sorted e f) (sorted e g) h in
    each-append (IsSorted e) (cases_of q f) (cases_of q g) (hf s.unlike-left s.closed-left e k.0) (hg s.unlike-right s.closed-right e k.1)

sorted-below : (e : Sorting) (x : Var) (c : Case) → IsSorted (over_var e x.num x.sort) c → IsSorted e (below x c)
unfolding boxes
sorted-below e x c h = h

pub sorted-each : (q : Pred) (f : Form) → SortsCases q f
unfolding boxes
sorted-each q True u c e h = (h, tt)
sorted-each q False u c e h = (h, tt)
sorted-each q (Equal s t) u c e h = (h, tt)
sorted-each q (Atom p ts) u c e h = (h, tt)
sorted-each q (Not' _ (one f end)) u c e h = (h, tt)
sorted-each q (And' _ (one f end) _ (one g end)) u c e h =
    by_cases (AllByRecursion (IsSorted e)) (has_free q f || has_free q g) (pairings (cases_of q f) (cases_of q g)) (whole (And f g))
    (λ _. paired q f g (sorted-each q f) (sorted-each q g) u c e h) (λ _. (h, tt))
sorted-each q (Or' _ (one f end) _ (one g end)) u c e h =
    by_cases (AllByRecursion (IsSorted e)) (has_free q f || has_free q g) (cases_of q f ++ cases_of q g) (whole (Or f g))
    (λ _. appended q f g (sorted-each q f) (sorted-each q g) u c e h) (λ _. (h, tt))
sorted-each q (Imp' _ (one f end) _ (one g end)) u c e h = (h, tt)
sorted-each q (Iff' _ (one f end) _ (one g end)) u c e h = (h, tt)
sorted-each q (All' x _ (one f end)) u c e h = (h, tt)
sorted-each q (Ex' x _ (one f end)) u c e h =
    by_cases (AllByRecursion (IsSorted e)) (has_free q f) (map (below x) (cases_of q f)) (whole (Ex x f))
    (λ _. each-map (IsSorted (over_var e x.num x.sort)) (IsSorted e) (below x) (sorted-below e x) (cases_of q f)
    (sorted-each q f u.1 (closed-under x.num (binders f) (λ n. free n f) u c) (over_var e x.num x.sort) h))
    (λ _. (h, tt))
sorted-each q (All2' p _ (one f end)) u c e h = (h, tt)
sorted-each q (Ex2' p _ (one f end)) u c e h = (h, tt)

-- each case of a formula whose bound variables were made distinct
pub sorted-cases : (keep : List ℕ) (f made : Form) → IsApart keep f made → (q : Pred) (e : Sorting) → sorted e f ≡ true → AllByRecursion (IsSorted e) (cases_of q made)
sorted-cases keep f made a q e h = sorted-each q made (unlike-apart keep f made a) (bound-free-apart keep f made a) e (sorted-apart keep f made a e ∙ h)

all_sorted : (e : Sorting) (cs : List Case) → AllByRecursion (IsSorted e) cs → all_pass (sorted e) (map form_of cs) ≡ true
all_sorted e [] h = refl
all_sorted e (c ∷ cs) h = and_from (sorted e (form_of c)) (all_pass (sorted e) (map form_of cs)) h.0 (all_sorted e cs h.1)

pub sorted-some : (keep : List ℕ) (f made : Form) → IsApart keep f made → (q : Pred) (e : Sorting) → sorted e f ≡ true → sorted e (some_case (cases_of q made)) ≡ true
sorted-some keep f made a q e h = sorted-any e (map form_of (cases_of q made)) ∙ all_sorted e (cases_of q made) (sorted-cases keep f made a q e h)
