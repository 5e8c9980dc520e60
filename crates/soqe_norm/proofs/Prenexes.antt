-- The quantifiers of a formula with distinct bound variables stand in front as well as where they stood.
use Rattle.std.proofs.Common.{◌≡◌, ℕ, Bool, true, false, cond, eqb, ◌||◌, ◌&&◌, List, [], ◌∷◌, ◌++◌, refl, sym, ◌∙◌, ap, ⊎_elim}
use Rattle.std.proofs.lemmas.Bool.{eqb-true, false_from_ne_true, both_ways, or_cases, or_left, or_right, and_parts, and_from}
use Rattle.std.proofs.lemmas.List.Folds.{list_any-append}
use Rattle.soqe_term.specs.World.{World, with_var}
use Rattle.soqe_number.specs.Finite.{every, some}
use Rattle.soqe_number.specs.Unused.{member}
use Rattle.soqe_number.proofs.Choices.{or_none_first, or_none_second}
use Rattle.soqe_form.specs.declared.form.Form.{Form, True, False, Equal, Atom, Not', And, And', Or, Or', Imp', Iff', All, All', Ex, Ex', All2', Ex2', end_of-Form as end, more_of-Form as one}
use Rattle.soqe_form.specs.Boxes.{boxes}
use Rattle.soqe_form.specs.Truth.{truth}
use Rattle.soqe_form.specs.Free.{free}
use Rattle.soqe_form.specs.Places.{has_blocks}
use Rattle.soqe_norm.specs.Nnf.{is_atomic, is_nnf}
use Rattle.soqe_norm.specs.Apart.{binders}
use Rattle.soqe_form.specs.declared.quantifiers.Quantifier.{Quantifier}
use Rattle.soqe_norm.specs.Prenex.{prefix, matrix, pulled, is_open, is_prenex, IsPrenexed}
use Rattle.soqe_form.specs.Quantifiers.{quantify}
use Rattle.soqe_norm.proofs.Quantifieds.{NoneEmpty, Keeps, and-keeps, or-keeps, and-keeps_right, or-keeps_right, quantified, truth-quantify, binds, Lack, both-drawn}
use Rattle.soqe_norm.proofs.Aparts.{Unlike, truth-apart, is_nnf-apart, has_blocks-apart, unlike-apart, bound-free-apart}

-- two lists without a number twice in them, one after the other
pub record Parted (xs ys : List ℕ) : Type 0 where
  pub first : Unlike xs
  pub second : Unlike ys
  pub cross : (n : ℕ) → member n xs ≡ true → member n ys ≡ false

pub member-append : (n : ℕ) (xs ys : List ℕ) → member n (xs ++ ys) ≡ (member n xs || member n ys)
member-append n xs ys = list_any-append (λ m. eqb n m) xs ys

pub parted : (xs ys : List ℕ) → Unlike (xs ++ ys) → Parted xs ys
parted [] ys u = record { first = tt; second = u; cross = λ n h. let h : false ≡ true = h in cc }
parted (x ∷ xs) ys u =
    let r = parted xs ys u.1 in
    let e : (member x xs || member x ys) ≡ false = sym (member-append x xs ys) ∙ u.0 in
    record {
      first = (or_none_first (member x xs) (member x ys) e, r.first);
      second = r.second;
      cross = λ n h. ⊎_elim (λ d. ap (λ m. member m ys) (eqb-true n x d) ∙ or_none_second (member x xs) (member x ys) e) (λ d. r.cross n d) (or_cases (eqb n x) (member n xs) h);
    }

binds-append : (n : ℕ) (ps qs : List Quantifier) → binds n (ps ++ qs) ≡ (binds n ps || binds n qs)
binds-append n ps qs = list_any-append (λ q. eqb n q.variable.num) ps qs

pub or_more : (a b c d : Bool) → (a ≡ true → c ≡ true) → (b ≡ true → d ≡ true) → (a || b) ≡ true → (c || d) ≡ true
or_more a b c d f g h = ⊎_elim (λ e. or_left c d (f e)) (λ e. or_right c d (g e)) (or_cases a b h)

pub two-bind : (n : ℕ) (ps qs : List Quantifier) (xs ys : List ℕ) → (binds n ps ≡ true → member n xs ≡ true) → (binds n qs ≡ true → member n ys ≡ true) → binds n (ps ++ qs) ≡ true → member n (xs ++ ys) ≡ true
two-bind n ps qs xs ys f g h = member-append n xs ys ∙ or_more (binds n ps) (binds n qs) (member n xs) (member n ys) f g (sym (binds-append n ps qs) ∙ h)

pub none : {A : Type 0} → false ≡ true → A
none h = cc

-- a quantifier of the prefix is a binder
binds-prefix : (n : ℕ) (f : Form) → binds n (prefix f) ≡ true → member n (binders f) ≡ true
binds-prefix n True h = none h
binds-prefix n False h = none h
binds-prefix n (Equal s t) h = none h
binds-prefix n (Atom p ts) h = none h
binds-prefix n (Not' _ (one f end)) h = none h
binds-prefix n (And' _ (one f end) _ (one g end)) h = two-bind n (prefix f) (prefix g) (binders f) (binders g) (binds-prefix n f) (binds-prefix n g) h
binds-prefix n (Or' _ (one f end) _ (one g end)) h = two-bind n (prefix f) (prefix g) (binders f) (binders g) (binds-prefix n f) (binds-prefix n g) h
binds-prefix n (Imp' _ (one f end) _ (one g end)) h = none h
binds-prefix n (Iff' _ (one f end) _ (one g end)) h = none h
binds-prefix n (All' x _ (one f end)) h = or_more (eqb n x.num) (binds n (prefix f)) (eqb n x.num) (member n (binders f)) (λ e. e) (binds-prefix n f) h
binds-prefix n (Ex' x _ (one f end)) h = or_more (eqb n x.num) (binds n (prefix f)) (eqb n x.num) (member n (binders f)) (λ e. e) (binds-prefix n f) h
binds-prefix n (All2' p _ (one f end)) h = none h
binds-prefix n (Ex2' p _ (one f end)) h = none h

pub two-free : (n : ℕ) (xs ys : List ℕ) (a b c d : Bool) → member n (xs ++ ys) ≡ false → (member n xs ≡ false → a ≡ true → c ≡ true) → (member n ys ≡ false → b ≡ true → d ≡ true) → (a || b) ≡ true → (c || d) ≡ true
two-free n xs ys a b c d m f g h =
    let e : (member n xs || member n ys) ≡ false = sym (member-append n xs ys) ∙ m in
    or_more a b c d (f (or_none_first (member n xs) (member n ys) e)) (g (or_none_second (member n xs) (member n ys) e)) h

pub one-free : (n x : ℕ) (b c m : Bool) → (eqb n x || m) ≡ false → (m ≡ false → b ≡ true → c ≡ true) → b ≡ true → cond (eqb n x) false c ≡ true
one-free n x b c m o f h = ap (λ d. cond d false c) (or_none_first (eqb n x) m o) ∙ f (or_none_second (eqb n x) m o) h

-- a variable that is free in the matrix and no binder's is free in the formula
free-matrix : (n : ℕ) (f : Form) → member n (binders f) ≡ false → free n (matrix f) ≡ true → free n f ≡ true
unfolding boxes
free-matrix n True m h = h
free-matrix n False m h = h
free-matrix n (Equal s t) m h = h
free-matrix n (Atom p ts) m h = h
free-matrix n (Not' _ (one f end)) m h = h
free-matrix n (And' _ (one f end) _ (one g end)) m h = two-free n (binders f) (binders g) (free n (matrix f)) (free n (matrix g)) (free n f) (free n g) m (free-matrix n f) (free-matrix n g) h
free-matrix n (Or' _ (one f end) _ (one g end)) m h = two-free n (binders f) (binders g) (free n (matrix f)) (free n (matrix g)) (free n f) (free n g) m (free-matrix n f) (free-matrix n g) h
free-matrix n (Imp' _ (one f end) _ (one g end)) m h = h
free-matrix n (Iff' _ (one f end) _ (one g end)) m h = h
free-matrix n (All' x _ (one f end)) m h = one-free n x.num (free n (matrix f)) (free n f) (member n (binders f)) m (free-matrix n f) h
free-matrix n (Ex' x _ (one f end)) m h = one-free n x.num (free n (matrix f)) (free n f) (member n (binders f)) m (free-matrix n f) h
free-matrix n (All2' p _ (one f end)) m h = h
free-matrix n (Ex2' p _ (one f end)) m h = h

-- no number of a binder is free
abbrev pub Closed : List ℕ → (ℕ → Bool) → Type 0
Closed bs p = (n : ℕ) → member n bs ≡ true → p n ≡ false

pub closed-first : (xs ys : List ℕ) (p q : ℕ → Bool) → Closed (xs ++ ys) (λ n. p n || q n) → Closed xs (λ n. p n || q n)
closed-first xs ys p q c n m = c n (member-append n xs ys ∙ or_left (member n xs) (member n ys) m)

pub closed-second : (xs ys : List ℕ) (p q : ℕ → Bool) → Closed (xs ++ ys) (λ n. p n || q n) → Closed ys (λ n. p n || q n)
closed-second xs ys p q c n m = c n (member-append n xs ys ∙ or_right (member n xs) (member n ys) m)

pub closed-under : (x : ℕ) (xs : List ℕ) (p : ℕ → Bool) → Unlike (x ∷ xs) → Closed (x ∷ xs) (λ n. cond (eqb n x) false (p n)) → Closed xs p
closed-under x xs p u c n m = choose (eqb n x) refl
  where
    choose : (b : Bool) → eqb n x ≡ b → p n ≡ false
    choose true e = none (sym u.0 ∙ ap (λ k. member k xs) (sym (eqb-true n x e)) ∙ m)
    choose false e = ap (λ b. cond b false (p n)) (sym e) ∙ c n (or_right (eqb n x) (member n xs) m)

-- the formula's truth is kept
abbrev Kept : Form → Type 0
Kept f = Unlike (binders f) → Closed (binders f) (λ n. free n f) → (w : World) → NoneEmpty w → truth w (pulled f) ≡ truth w f

-- the two sides of a conjunction or a disjunction: neither's quantifiers bind what is free in the other
pub record Sides (f g : Form) : Type 0 where
  pub unlike-left : Unlike (binders f)
  pub unlike-right : Unlike (binders g)
  pub closed-left : Closed (binders f) (λ n. free n f)
  pub closed-right : Closed (binders g) (λ n. free n g)
  pub lack-right : Lack (prefix f) g
  pub lack-left : Lack (prefix g) f
  pub lack-matrix : Lack (prefix g) (matrix f)

pub sides : (f g : Form) → Unlike (binders f ++ binders g) → Closed (binders f ++ binders g) (λ n. free n f || free n g) → Sides f g
sides f g u c =
    let parts : Parted (binders f) (binders g) = parted (binders f) (binders g) u in
    let left : Closed (binders f) (λ n. free n f || free n g) = closed-first (binders f) (binders g) (λ n. free n f) (λ n. free n g) c in
    let right : Closed (binders g) (λ n. free n f || free n g) = closed-second (binders f) (binders g) (λ n. free n f) (λ n. free n g) c in
    record {
      unlike-left = parts.first;
      unlike-right = parts.second;
      closed-left = λ n m. or_none_first (free n f) (free n g) (left n m);
      closed-right = λ n m. or_none_second (free n f) (free n g) (right n m);
      lack-right = λ n b. or_none_second (free n f) (free n g) (left n (binds-prefix n f b));
      lack-left = λ n b. or_none_first (free n f) (free n g) (right n (binds-prefix n g b));
      lack-matrix = λ n b. false_from_ne_true (free n (matrix f)) (λ h. both_ways (free n f)
          (or_none_first (free n f) (free n g) (right n (binds-prefix n g b)))
          (free-matrix n f (false_from_ne_true (member n (binders f)) (λ e. both_ways (member n (binders g)) (parts.cross n e) (binds-prefix n g b))) h));
    }

two-pulled : (op : Bool → Bool → Bool) → ((c : Bool) → Keeps (op c)) → ((c : Bool) → Keeps (λ b. op b c)) → (f g : Form) → Kept f → Kept g
    → Unlike (binders f ++ binders g) → Closed (binders f ++ binders g) (λ n. free n f || free n g) → (w : World) → NoneEmpty w
    → quantified w (prefix f ++ prefix g) (λ v. op (truth v (matrix f)) (truth v (matrix g))) ≡ op (truth w f) (truth w g)
two-pulled op left right f g hf hg u c w o =
    let s : Sides f g = sides f g u c in
    both-drawn op left right w o (prefix f) (prefix g) (matrix f) f (matrix g) g s.lack-matrix s.lack-right (hf s.unlike-left s.closed-left w o) (λ v e. hg s.unlike-right s.closed-right v e)

pub truth-pulled : (f : Form) → Kept f
unfolding boxes
truth-pulled True u c w o = refl
truth-pulled False u c w o = refl
truth-pulled (Equal s t) u c w o = refl
truth-pulled (Atom p ts) u c w o = refl
truth-pulled (Not' _ (one f end)) u c w o = refl
truth-pulled (And' _ (one f end) _ (one g end)) u c w o =
    truth-quantify w (prefix f ++ prefix g) (And (matrix f) (matrix g)) ∙ two-pulled (λ a b. a && b) and-keeps and-keeps_right f g (truth-pulled f) (truth-pulled g) u c w o
truth-pulled (Or' _ (one f end) _ (one g end)) u c w o =
    truth-quantify w (prefix f ++ prefix g) (Or (matrix f) (matrix g)) ∙ two-pulled (λ a b. a || b) or-keeps or-keeps_right f g (truth-pulled f) (truth-pulled g) u c w o
truth-pulled (Imp' _ (one f end) _ (one g end)) u c w o = refl
truth-pulled (Iff' _ (one f end) _ (one g end)) u c w o = refl
truth-pulled (All' x _ (one f end)) u c w o = λ i. every (w.size x.sort) (λ a. truth-pulled f u.1 (closed-under x.num (binders f) (λ n. free n f) u c) (with_var w x.num a) o i)
truth-pulled (Ex' x _ (one f end)) u c w o = λ i. some (w.size x.sort) (λ a. truth-pulled f u.1 (closed-under x.num (binders f) (λ n. free n f) u c) (with_var w x.num a) o i)
truth-pulled (All2' p _ (one f end)) u c w o = refl
truth-pulled (Ex2' p _ (one f end)) u c w o = refl

atomic-open : (f : Form) → is_atomic f ≡ true → is_open f ≡ true
atomic-open True h = refl
atomic-open False h = refl
atomic-open (Equal s t) h = refl
atomic-open (Atom p ts) h = refl
atomic-open (Not' _ (one f end)) h = none h
atomic-open (And' _ (one f end) _ (one g end)) h = none h
atomic-open (Or' _ (one f end) _ (one g end)) h = none h
atomic-open (Imp' _ (one f end) _ (one g end)) h = none h
atomic-open (Iff' _ (one f end) _ (one g end)) h = none h
atomic-open (All' x _ (one f end)) h = none h
atomic-open (Ex' x _ (one f end)) h = none h
atomic-open (All2' x _ (one f end)) h = none h
atomic-open (Ex2' x _ (one f end)) h = none h

two-open : (f g : Form) → (is_nnf f ≡ true → has_blocks f ≡ false → is_open (matrix f) ≡ true) → (is_nnf g ≡ true → has_blocks g ≡ false → is_open (matrix g) ≡ true)
    → (is_nnf f && is_nnf g) ≡ true → (has_blocks f || has_blocks g) ≡ false → (is_open (matrix f) && is_open (matrix g)) ≡ true
two-open f g hf hg n b =
    let k = and_parts (is_nnf f) (is_nnf g) n in
    and_from (is_open (matrix f)) (is_open (matrix g)) (hf k.0 (or_none_first (has_blocks f) (has_blocks g) b)) (hg k.1 (or_none_second (has_blocks f) (has_blocks g) b))

open-matrix : (f : Form) → is_nnf f ≡ true → has_blocks f ≡ false → is_open (matrix f) ≡ true
unfolding boxes
open-matrix True n b = refl
open-matrix False n b = refl
open-matrix (Equal s t) n b = refl
open-matrix (Atom p ts) n b = refl
open-matrix (Not' _ (one f end)) n b = atomic-open f n
open-matrix (And' _ (one f end) _ (one g end)) n b = two-open f g (open-matrix f) (open-matrix g) n b
open-matrix (Or' _ (one f end) _ (one g end)) n b = two-open f g (open-matrix f) (open-matrix g) n b
open-matrix (Imp' _ (one f end) _ (one g end)) n b = none n
open-matrix (Iff' _ (one f end) _ (one g end)) n b = none n
open-matrix (All' x _ (one f end)) n b = open-matrix f n b
open-matrix (Ex' x _ (one f end)) n b = open-matrix f n b
open-matrix (All2' p _ (one f end)) n b = none (sym b)
open-matrix (Ex2' p _ (one f end)) n b = none (sym b)

open-prenex : (f : Form) → is_open f ≡ true → is_prenex f ≡ true
open-prenex True h = refl
open-prenex False h = refl
open-prenex (Equal s t) h = refl
open-prenex (Atom p ts) h = refl
open-prenex (Not' _ (one f end)) h = h
open-prenex (And' _ (one f end) _ (one g end)) h = h
open-prenex (Or' _ (one f end) _ (one g end)) h = h
open-prenex (Imp' _ (one f end) _ (one g end)) h = h
open-prenex (Iff' _ (one f end) _ (one g end)) h = h
open-prenex (All' x _ (one f end)) h = none h
open-prenex (Ex' x _ (one f end)) h = none h
open-prenex (All2' p _ (one f end)) h = none h
open-prenex (Ex2' p _ (one f end)) h = none h

prenex-quantify : (qs : List Quantifier) (f : Form) → is_prenex f ≡ true → is_prenex (quantify qs f) ≡ true
unfolding boxes
prenex-quantify [] f h = h
prenex-quantify (q ∷ qs) f h = choice q.universal (All q.variable (quantify qs f)) (Ex q.variable (quantify qs f)) (prenex-quantify qs f h) (prenex-quantify qs f h)
  where
    choice : (b : Bool) (f g : Form) → is_prenex f ≡ true → is_prenex g ≡ true → is_prenex (cond b f g) ≡ true
    choice true f g h k = h
    choice false f g h k = k

pub truth-prenexed : (f made : Form) → IsPrenexed f made → (w : World) → NoneEmpty w → truth w made ≡ truth w f
truth-prenexed f made c w o =
    ap (truth w) c.is
    ∙ truth-pulled c.apart (unlike-apart [] f c.apart c.distinct) (bound-free-apart [] f c.apart c.distinct) w o
    ∙ truth-apart [] f c.apart c.distinct w

pub is_prenex-prenexed : (f made : Form) → IsPrenexed f made → is_nnf f ≡ true → has_blocks f ≡ false → is_prenex made ≡ true
is_prenex-prenexed f made c n b =
    ap is_prenex c.is
    ∙ prenex-quantify (prefix c.apart) (matrix c.apart)
    (open-prenex (matrix c.apart) (open-matrix c.apart (is_nnf-apart [] f c.apart c.distinct ∙ n) (has_blocks-apart [] f c.apart c.distinct ∙ b)))
