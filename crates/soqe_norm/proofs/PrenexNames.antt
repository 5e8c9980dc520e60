-- Sorts, free names and blocks of a formula whose quantifiers stand in front.
use Rattle.std.proofs.Common.{◌≡◌, ℕ, Bool, true, false, cond, eqb, ◌||◌, ◌&&◌, List, [], ◌∷◌, ◌++◌, refl, sym, ◌∙◌, ap}
use Rattle.std.proofs.lemmas.Bool.{or_left, or_right}
use Rattle.std.proofs.lemmas.List.Folds.{list_any-append}
use Rattle.soqe_term.specs.Sorting.{Sorting, over_var}
use Rattle.soqe_term.proofs.Worlds.{eqb-self}
use Rattle.soqe_form.specs.declared.form.Form.{Form, True, False, Equal, Atom, Not', And, And', Or, Or', Imp', Iff', All, All', Ex, Ex', All2', Ex2', end_of-Form as end, more_of-Form as one}
use Rattle.soqe_form.specs.Boxes.{boxes}
use Rattle.soqe_form.specs.Free.{free, free_pred}
use Rattle.soqe_form.specs.Sorted.{sorted}
use Rattle.soqe_form.specs.Places.{has_blocks}
use Rattle.soqe_form.proofs.Sortings.{sorted-unused}
use Rattle.soqe_norm.specs.Apart.{binders}
use Rattle.soqe_form.specs.declared.quantifiers.Quantifier.{Quantifier}
use Rattle.soqe_norm.specs.Prenex.{prefix, matrix, pulled, IsPrenexed}
use Rattle.soqe_form.specs.Quantifiers.{quantify}
use Rattle.soqe_norm.proofs.Quantifieds.{binds, Lack}
use Rattle.soqe_norm.proofs.Aparts.{Unlike, sorted-apart, free-apart, free_pred-apart, has_blocks-apart, unlike-apart, bound-free-apart}
use Rattle.soqe_norm.proofs.Prenexes.{Closed, closed-under, Sides, sides}

-- ---- sorts

-- the sorting below quantifiers
abbrev pub below : Sorting → List Quantifier → Sorting
below e [] = e
below e (q ∷ qs) = below (over_var e q.variable.num q.variable.sort) qs

pub below-append : (e : Sorting) (ps qs : List Quantifier) → below e (ps ++ qs) ≡ below (below e ps) qs
below-append e [] qs = refl
below-append e (p ∷ ps) qs = below-append (over_var e p.variable.num p.variable.sort) ps qs

either-sorted : (b : Bool) (e : Sorting) (f g : Form) (s : Bool) → sorted e f ≡ s → sorted e g ≡ s → sorted e (cond b f g) ≡ s
either-sorted true e f g s h k = h
either-sorted false e f g s h k = k

pub sorted-quantify : (e : Sorting) (qs : List Quantifier) (f : Form) → sorted e (quantify qs f) ≡ sorted (below e qs) f
unfolding boxes
sorted-quantify e [] f = refl
sorted-quantify e (q ∷ qs) f =
    let h = sorted-quantify (over_var e q.variable.num q.variable.sort) qs f in
    either-sorted q.universal e (All q.variable (quantify qs f)) (Ex q.variable (quantify qs f)) (sorted (below e (q ∷ qs)) f) h h

pub sorted-lacking : (e : Sorting) (qs : List Quantifier) (f : Form) → Lack qs f → sorted (below e qs) f ≡ sorted e f
sorted-lacking e [] f l = refl
sorted-lacking e (q ∷ qs) f l =
    sorted-lacking (over_var e q.variable.num q.variable.sort) qs f (λ n b. l n (or_right (eqb n q.variable.num) (binds n qs) b))
    ∙ sorted-unused e q.variable.num q.variable.sort f (l q.variable.num (or_left (eqb q.variable.num q.variable.num) (binds q.variable.num qs) (eqb-self q.variable.num)))

abbrev SortsKept : Form → Type 0
SortsKept f = Unlike (binders f) → Closed (binders f) (λ n. free n f) → (e : Sorting) → sorted e (pulled f) ≡ sorted e f

two-sorted : (f g : Form) → SortsKept f → SortsKept g → Unlike (binders f ++ binders g) → Closed (binders f ++ binders g) (λ n. free n f || free n g) → (e : Sorting)
    → (sorted (below e (prefix f ++ prefix g)) (matrix f) && sorted (below e (prefix f ++ prefix g)) (matrix g)) ≡ (sorted e f && sorted e g)
two-sorted f g hf hg u c e =
    let s : Sides f g = sides f g u c in
    let d : Sorting = below e (prefix f) in
    let first : sorted (below d (prefix g)) (matrix f) ≡ sorted e f = sorted-lacking d (prefix g) (matrix f) s.lack-matrix ∙ sym (sorted-quantify e (prefix f) (matrix f)) ∙ hf s.unlike-left s.closed-left e in
    let second : sorted (below d (prefix g)) (matrix g) ≡ sorted e g = sym (sorted-quantify d (prefix g) (matrix g)) ∙ hg s.unlike-right s.closed-right d ∙ sorted-lacking e (prefix f) g s.lack-right in
    (λ i. sorted (below-append e (prefix f) (prefix g) i) (matrix f) && sorted (below-append e (prefix f) (prefix g) i) (matrix g)) ∙ (λ i. first i && second i)

pub sorted-pulled : (f : Form) → SortsKept f
unfolding boxes
sorted-pulled True u c e = refl
sorted-pulled False u c e = refl
sorted-pulled (Equal s t) u c e = refl
sorted-pulled (Atom p ts) u c e = refl
sorted-pulled (Not' _ (one f end)) u c e = refl
sorted-pulled (And' _ (one f end) _ (one g end)) u c e = sorted-quantify e (prefix f ++ prefix g) (And (matrix f) (matrix g)) ∙ two-sorted f g (sorted-pulled f) (sorted-pulled g) u c e
sorted-pulled (Or' _ (one f end) _ (one g end)) u c e = sorted-quantify e (prefix f ++ prefix g) (Or (matrix f) (matrix g)) ∙ two-sorted f g (sorted-pulled f) (sorted-pulled g) u c e
sorted-pulled (Imp' _ (one f end) _ (one g end)) u c e = refl
sorted-pulled (Iff' _ (one f end) _ (one g end)) u c e = refl
sorted-pulled (All' x _ (one f end)) u c e = sorted-pulled f u.1 (closed-under x.num (binders f) (λ n. free n f) u c) (over_var e x.num x.sort)
sorted-pulled (Ex' x _ (one f end)) u c e = sorted-pulled f u.1 (closed-under x.num (binders f) (λ n. free n f) u c) (over_var e x.num x.sort)
sorted-pulled (All2' p _ (one f end)) u c e = refl
sorted-pulled (Ex2' p _ (one f end)) u c e = refl

-- ---- free variables

either-free : (b : Bool) (n : ℕ) (f g : Form) (s : Bool) → free n f ≡ s → free n g ≡ s → free n (cond b f g) ≡ s
either-free true n f g s h k = h
either-free false n f g s h k = k

hidden : (b c a : Bool) → cond b false (cond c false a) ≡ cond (b || c) false a
hidden true c a = refl
hidden false c a = refl

pub free-quantify : (n : ℕ) (qs : List Quantifier) (f : Form) → free n (quantify qs f) ≡ cond (binds n qs) false (free n f)
unfolding boxes
free-quantify n [] f = refl
free-quantify n (q ∷ qs) f =
    let h : cond (eqb n q.variable.num) false (free n (quantify qs f)) ≡ cond (binds n (q ∷ qs)) false (free n f) =
    ap (λ a. cond (eqb n q.variable.num) false a) (free-quantify n qs f) ∙ hidden (eqb n q.variable.num) (binds n qs) (free n f) in
    either-free q.universal n (All q.variable (quantify qs f)) (Ex q.variable (quantify qs f)) (cond (binds n (q ∷ qs)) false (free n f)) h h

-- of two sides: p and q whether a side binds the number, a and b whether it is free in a matrix, and c and d in a side
two_sides : (p q a b c d : Bool) → cond p false a ≡ c → cond q false b ≡ d → (p ≡ true → d ≡ false) → (q ≡ true → c ≡ false) → cond (p || q) false (a || b) ≡ (c || d)
two_sides true true a b c d h k l m = λ i. h i || k i
two_sides true false a b c d h k l m = λ i. h i || sym (l refl) i
two_sides false true a b c d h k l m = λ i. sym (m refl) i || k i
two_sides false false a b c d h k l m = λ i. h i || k i

abbrev VariablesKept : Form → Type 0
VariablesKept f = Unlike (binders f) → Closed (binders f) (λ n. free n f) → (n : ℕ) → free n (pulled f) ≡ free n f

two-free : (f g : Form) → VariablesKept f → VariablesKept g → Unlike (binders f ++ binders g) → Closed (binders f ++ binders g) (λ n. free n f || free n g) → (n : ℕ)
    → cond (binds n (prefix f ++ prefix g)) false (free n (matrix f) || free n (matrix g)) ≡ (free n f || free n g)
two-free f g hf hg u c n =
    let s : Sides f g = sides f g u c in
    ap (λ b. cond b false (free n (matrix f) || free n (matrix g))) (list_any-append (λ q. eqb n q.variable.num) (prefix f) (prefix g))
    ∙ two_sides (binds n (prefix f)) (binds n (prefix g)) (free n (matrix f)) (free n (matrix g)) (free n f) (free n g)
    (sym (free-quantify n (prefix f) (matrix f)) ∙ hf s.unlike-left s.closed-left n) (sym (free-quantify n (prefix g) (matrix g)) ∙ hg s.unlike-right s.closed-right n)
    (s.lack-right n) (s.lack-left n)

pub free-pulled : (f : Form) → VariablesKept f
unfolding boxes
free-pulled True u c n = refl
free-pulled False u c n = refl
free-pulled (Equal s t) u c n = refl
free-pulled (Atom p ts) u c n = refl
free-pulled (Not' _ (one f end)) u c n = refl
free-pulled (And' _ (one f end) _ (one g end)) u c n = free-quantify n (prefix f ++ prefix g) (And (matrix f) (matrix g)) ∙ two-free f g (free-pulled f) (free-pulled g) u c n
free-pulled (Or' _ (one f end) _ (one g end)) u c n = free-quantify n (prefix f ++ prefix g) (Or (matrix f) (matrix g)) ∙ two-free f g (free-pulled f) (free-pulled g) u c n
free-pulled (Imp' _ (one f end) _ (one g end)) u c n = refl
free-pulled (Iff' _ (one f end) _ (one g end)) u c n = refl
free-pulled (All' x _ (one f end)) u c n = ap (λ a. cond (eqb n x.num) false a) (free-pulled f u.1 (closed-under x.num (binders f) (λ n. free n f) u c) n)
free-pulled (Ex' x _ (one f end)) u c n = ap (λ a. cond (eqb n x.num) false a) (free-pulled f u.1 (closed-under x.num (binders f) (λ n. free n f) u c) n)
free-pulled (All2' p _ (one f end)) u c n = refl
free-pulled (Ex2' p _ (one f end)) u c n = refl

-- ---- free bound predicates, and blocks

either-free_pred : (n : ℕ) (b : Bool) (f g : Form) (s : Bool) → free_pred n f ≡ s → free_pred n g ≡ s → free_pred n (cond b f g) ≡ s
either-free_pred n true f g s h k = h
either-free_pred n false f g s h k = k

free_pred-quantify : (n : ℕ) (qs : List Quantifier) (f : Form) → free_pred n (quantify qs f) ≡ free_pred n f
unfolding boxes
free_pred-quantify n [] f = refl
free_pred-quantify n (q ∷ qs) f = either-free_pred n q.universal (All q.variable (quantify qs f)) (Ex q.variable (quantify qs f)) (free_pred n f) (free_pred-quantify n qs f) (free_pred-quantify n qs f)

free_pred-matrix : (n : ℕ) (f : Form) → free_pred n (matrix f) ≡ free_pred n f
unfolding boxes
free_pred-matrix n True = refl
free_pred-matrix n False = refl
free_pred-matrix n (Equal s t) = refl
free_pred-matrix n (Atom p ts) = refl
free_pred-matrix n (Not' _ (one f end)) = refl
free_pred-matrix n (And' _ (one f end) _ (one g end)) = λ i. free_pred-matrix n f i || free_pred-matrix n g i
free_pred-matrix n (Or' _ (one f end) _ (one g end)) = λ i. free_pred-matrix n f i || free_pred-matrix n g i
free_pred-matrix n (Imp' _ (one f end) _ (one g end)) = refl
free_pred-matrix n (Iff' _ (one f end) _ (one g end)) = refl
free_pred-matrix n (All' x _ (one f end)) = free_pred-matrix n f
free_pred-matrix n (Ex' x _ (one f end)) = free_pred-matrix n f
free_pred-matrix n (All2' p _ (one f end)) = refl
free_pred-matrix n (Ex2' p _ (one f end)) = refl

either-has_blocks : (b : Bool) (f g : Form) (s : Bool) → has_blocks f ≡ s → has_blocks g ≡ s → has_blocks (cond b f g) ≡ s
either-has_blocks true f g s h k = h
either-has_blocks false f g s h k = k

has_blocks-quantify : (qs : List Quantifier) (f : Form) → has_blocks (quantify qs f) ≡ has_blocks f
unfolding boxes
has_blocks-quantify [] f = refl
has_blocks-quantify (q ∷ qs) f = either-has_blocks q.universal (All q.variable (quantify qs f)) (Ex q.variable (quantify qs f)) (has_blocks f) (has_blocks-quantify qs f) (has_blocks-quantify qs f)

has_blocks-matrix : (f : Form) → has_blocks (matrix f) ≡ has_blocks f
unfolding boxes
has_blocks-matrix True = refl
has_blocks-matrix False = refl
has_blocks-matrix (Equal s t) = refl
has_blocks-matrix (Atom p ts) = refl
has_blocks-matrix (Not' _ (one f end)) = refl
has_blocks-matrix (And' _ (one f end) _ (one g end)) = λ i. has_blocks-matrix f i || has_blocks-matrix g i
has_blocks-matrix (Or' _ (one f end) _ (one g end)) = λ i. has_blocks-matrix f i || has_blocks-matrix g i
has_blocks-matrix (Imp' _ (one f end) _ (one g end)) = refl
has_blocks-matrix (Iff' _ (one f end) _ (one g end)) = refl
has_blocks-matrix (All' x _ (one f end)) = has_blocks-matrix f
has_blocks-matrix (Ex' x _ (one f end)) = has_blocks-matrix f
has_blocks-matrix (All2' p _ (one f end)) = refl
has_blocks-matrix (Ex2' p _ (one f end)) = refl

-- ---- what prenex form keeps

pub sorted-prenexed : (f made : Form) → IsPrenexed f made → (e : Sorting) → sorted e made ≡ sorted e f
sorted-prenexed f made c e =
    ap (sorted e) c.is ∙ sorted-pulled c.apart (unlike-apart [] f c.apart c.distinct) (bound-free-apart [] f c.apart c.distinct) e ∙ sorted-apart [] f c.apart c.distinct e

pub free-prenexed : (f made : Form) → IsPrenexed f made → (n : ℕ) → free n made ≡ free n f
free-prenexed f made c n =
    ap (free n) c.is ∙ free-pulled c.apart (unlike-apart [] f c.apart c.distinct) (bound-free-apart [] f c.apart c.distinct) n ∙ free-apart [] f c.apart c.distinct n

pub free_pred-prenexed : (f made : Form) → IsPrenexed f made → (n : ℕ) → free_pred n made ≡ free_pred n f
free_pred-prenexed f made c n =
    ap (free_pred n) c.is ∙ free_pred-quantify n (prefix c.apart) (matrix c.apart) ∙ free_pred-matrix n c.apart ∙ free_pred-apart [] f c.apart c.distinct n

pub has_blocks-prenexed : (f made : Form) → IsPrenexed f made → has_blocks made ≡ has_blocks f
has_blocks-prenexed f made c = ap has_blocks c.is ∙ has_blocks-quantify (prefix c.apart) (matrix c.apart) ∙ has_blocks-matrix c.apart ∙ has_blocks-apart [] f c.apart c.distinct
