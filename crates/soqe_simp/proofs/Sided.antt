-- Where no equation is told to say what x is, the search for a conjunct that does finds none: each term that an equation gives has
-- x itself, or a variable of a quantifier that stands further in, and was passed.
use Rattle.std.proofs.Common.{◌≡◌, ℕ, ◌<◌, Bool, true, false, cond, eqb, nat_lt, not, ◌&&◌, ◌||◌, List, [], ◌∷◌, Option, None, refl, sym, ◌∙◌, ap, subst}
use Rattle.std.specs.Option.{option_map}
use Rattle.std.proofs.lemmas.Bool.{eqb-true, eq-eqb, or_left, ltb-true}
use Rattle.soqe_number.specs.Updates.{changed}
use Rattle.soqe_term.specs.Occurs.{occurs, occurs_any}
use Rattle.soqe_number.specs.Unused.{member}
use Rattle.soqe_term.specs.Equal.{equal_terms}
use Rattle.soqe_term.specs.Sorting.{own_sort}
use Rattle.soqe_term.specs.declared.term.Var.{Var}
use Rattle.soqe_term.specs.declared.term.Term.{Term, Var as var, App}
use Rattle.soqe_term.specs.declared.term.Terms.{Terms, Nil, Cons', end_of-Term as end-t, more_of-Term as one-t, end_of-Terms as ends-t, more_of-Terms as ones-t}
use Rattle.soqe_number.proofs.Choices.{bool_cases, and_first, and_fails, or_none_first, or_none_second, or_holds}
use Rattle.soqe_form.specs.declared.form.Form.{Form, True, False, Equal, Atom, Not, Not', And, And', Or', Imp, Imp', Iff', All, All', Ex, Ex', All2', Ex2', end_of-Form as end, more_of-Form as one}
use Rattle.soqe_form.specs.Boxes.{boxes}
use Rattle.soqe_form.specs.Free.{free}
use Rattle.soqe_form.proofs.SameCases.{never}
use Rattle.soqe_simp.specs.declared.conjuncts.Solved.{Solved}
use Rattle.soqe_simp.specs.Shapes.{given, first_of}
use Rattle.soqe_simp.specs.Conjuncts.{around, occurs_one, defines, solution, solved, below_alls, solved_not, solved_imp}
use Rattle.soqe_simp.specs.Sides.{is_within, has_number, has_number_in, says, innermost, has_side, has_condition}
use Rattle.soqe_simp.specs.Known.{HasWithin}
use Rattle.soqe_simp.proofs.Kept.{or_right}

mutual
  -- a number of the term that passes the test
  number-of : (p : ℕ → Bool) (t : Term) → has_number p t ≡ true → (m : ℕ) × (p m ≡ true) × (occurs m t ≡ true)
  number-of p (var x) h = (x.num, h, eq-eqb x.num x.num refl)
  number-of p (App f s ts) h = number-in p ts h

  number-in : (p : ℕ → Bool) (ts : Terms) → has_number_in p ts ≡ true → (m : ℕ) × (p m ≡ true) × (occurs_any m ts ≡ true)
  number-in p Nil h = never h
  number-in p (Cons' _ (one-t t end-t) _ (ones-t ts ends-t)) h =
      bool_cases (λ b. has_number p t ≡ b → (m : ℕ) × (p m ≡ true) × ((occurs m t || occurs_any m ts) ≡ true)) (has_number p t)
      (λ e k. let r = number-of p t e in (r.0, r.1, or_left (occurs r.0 t) (occurs_any r.0 ts) r.2))
      (λ e k. let r = number-in p ts (or_holds (has_number p t) (has_number_in p ts) e h) in (r.0, r.1, or_right (occurs r.0 t) (occurs_any r.0 ts) r.2))
      refl

member-occurs : (m : ℕ) (ys : List ℕ) (t : Term) → member m ys ≡ true → occurs m t ≡ true → occurs_one ys t ≡ true
member-occurs m [] t h o = never h
member-occurs m (y ∷ ys) t h o =
    bool_cases (λ b. (b || member m ys) ≡ true → (occurs y t || occurs_one ys t) ≡ true) (eqb m y)
    (λ e k. or_left (occurs y t) (occurs_one ys t) (subst (λ n. occurs n t ≡ true) (eqb-true m y e) o))
    (λ e k. or_right (occurs y t) (occurs_one ys t) (member-occurs m ys t k o))
    h

not_false : (b : Bool) → not b ≡ false → b ≡ true
not_false true h = refl
not_false false h = never (sym h)

-- the conditions of a definition that fail
second-fails : (a b c d : Bool) → b ≡ true → (a && (not b && (c && d))) ≡ false
second-fails true true c d h = refl
second-fails false b c d h = refl
second-fails true false c d h = never h

third-fails : (a b c d : Bool) → c ≡ true → (a && (not b && (not c && d))) ≡ false
third-fails true true c d h = refl
third-fails true false true d h = refl
third-fails true false false d h = never h
third-fails false b c d h = refl

last-fails : (a b c d e : Bool) → e ≡ true → (a && (b && (c && (d && not e)))) ≡ false
last-fails true true true true true h = refl
last-fails true true true true false h = never h
last-fails true true true false e h = refl
last-fails true true false d e h = refl
last-fails true false c d e h = refl
last-fails false b c d e h = refl

-- the term has x, or a number that was passed
found-fails : (place : ℕ → ℕ) (ys : List ℕ) (x z : Var) (t : Term) → x.num ≡ z.num → has_number (is_within place z.num) t ≡ true
    → ((m : ℕ) → occurs m t ≡ true → place x.num < place m → member m ys ≡ true)
    → (eqb (own_sort t) x.sort && (not (occurs x.num t) && (not (occurs_one ys t) && not (member x.num ys)))) ≡ false
found-fails place ys x z t same h w =
    let r = number-of (is_within place z.num) t h in
    bool_cases (λ b. (b || nat_lt (place z.num) (place r.0)) ≡ true → (eqb (own_sort t) x.sort && (not (occurs x.num t) && (not (occurs_one ys t) && not (member x.num ys)))) ≡ false)
    (eqb r.0 z.num)
    (λ e k. second-fails (eqb (own_sort t) x.sort) (occurs x.num t) (not (occurs_one ys t)) (not (member x.num ys))
    (subst (λ n. occurs n t ≡ true) (eqb-true r.0 z.num e ∙ sym same) r.2))
    (λ e k. third-fails (eqb (own_sort t) x.sort) (occurs x.num t) (occurs_one ys t) (not (member x.num ys))
    (member-occurs r.0 ys t (w r.0 r.2 (subst (λ n. place n < place r.0) (sym same) (ltb-true (place z.num) (place r.0) k))) r.2))
    r.1

defines-none : (place : ℕ → ℕ) (ys : List ℕ) (x : Var) (s t : Term) → says place x.num s t ≡ false
    → ((m : ℕ) → occurs m t ≡ true → place x.num < place m → member m ys ≡ true) → defines ys x s t ≡ false
defines-none place ys x (App f r ts) t h w = refl
defines-none place ys x (var z) t h w =
    bool_cases (λ b. equal_terms (var x) (var z) ≡ b → (b && (eqb (own_sort t) x.sort && (not (occurs x.num t) && (not (occurs_one ys t) && not (member x.num ys))))) ≡ false)
    (equal_terms (var x) (var z))
    (λ e _.
    let same : eqb x.num z.num ≡ true = and_first (eqb x.num z.num) (eqb x.sort z.sort) e in
    found-fails place ys x z t (eqb-true x.num z.num same)
    (not_false (has_number (is_within place z.num) t) (and_fails (eqb x.num z.num) (not (has_number (is_within place z.num) t)) same h)) w)
    (λ e _. refl) refl

solution-none : (ys : List ℕ) (x : Var) (s t : Term) → defines ys x s t ≡ false → defines ys x t s ≡ false → solution ys x s t ≡ None
solution-none ys x s t d e = λ i. first_of (given (d i) (record { term = t; rest = True })) (given (e i) (record { term = s; rest = True }))

-- a variable that was passed is not defined
defines-passed : (ys : List ℕ) (x : Var) (s t : Term) → member x.num ys ≡ true → defines ys x s t ≡ false
defines-passed ys x s t h = last-fails (equal_terms (var x) s) (eqb (own_sort t) x.sort) (not (occurs x.num t)) (not (occurs_one ys t)) (member x.num ys) h

passed-none : (ys : List ℕ) (x : Var) (f : Form) → member x.num ys ≡ true → solved ys x f ≡ None
passed-none ys x True h = refl
passed-none ys x False h = refl
passed-none ys x (Equal s t) h = solution-none ys x s t (defines-passed ys x s t h) (defines-passed ys x t s h)
passed-none ys x (Atom p ts) h = refl
passed-none ys x (Not' _ (one f end)) h = refl
passed-none ys x (And' _ (one f end) _ (one g end)) h =
    λ i. first_of (option_map (around (λ r. And r g)) (passed-none ys x f h i)) (option_map (around (λ r. And f r)) (passed-none ys x g h i))
passed-none ys x (Or' _ (one f end) _ (one g end)) h = refl
passed-none ys x (Imp' _ (one f end) _ (one g end)) h = refl
passed-none ys x (Iff' _ (one f end) _ (one g end)) h = refl
passed-none ys x (All' y _ (one f end)) h = refl
passed-none ys x (Ex' y _ (one f end)) h = ap (option_map (around (λ r. Ex y r))) (passed-none (y.num ∷ ys) x f (or_right (eqb x.num y.num) (member x.num ys) h))
passed-none ys x (All2' p _ (one f end)) h = refl
passed-none ys x (Ex2' p _ (one f end)) h = refl

-- ---- behind one more binder

-- what stands further in than x in the body is y, or stands further in than x in the whole
pub within-body : (place : ℕ → ℕ) (x y : Var) (f : Form) (ys : List ℕ) → ((m : ℕ) → cond (eqb m y.num) false (free m f) ≡ true → place x.num < place m → member m ys ≡ true)
    → HasWithin place x.num f (y.num ∷ ys)
within-body place x y f ys w m o l =
    bool_cases (λ b. (b || member m ys) ≡ true) (eqb m y.num) (λ e. refl) (λ e. w m (ap (λ b. cond b false (free m f)) e ∙ o) l)

within-inside : (place : ℕ → ℕ) (k : ℕ) (x y : Var) (f : Form) (ys : List ℕ) → eqb x.num y.num ≡ false
    → ((m : ℕ) → cond (eqb m y.num) false (free m f) ≡ true → place x.num < place m → member m ys ≡ true) → HasWithin (changed place y.num k) x.num f (y.num ∷ ys)
within-inside place k x y f ys ne w m o l =
    bool_cases (λ b. (b || member m ys) ≡ true) (eqb m y.num) (λ e. refl)
    (λ e. w m (ap (λ b. cond b false (free m f)) e ∙ o)
    (subst (λ b. cond b k (place x.num) < place m) ne (subst (λ b. cond (eqb x.num y.num) k (place x.num) < cond b k (place m)) e l)))

pub side-none : (place : ℕ → ℕ) (ys : List ℕ) (x : Var) (f : Form) → has_side place x.num f ≡ false → HasWithin place x.num f ys → solved ys x f ≡ None
unfolding boxes
side-none place ys x True h w = refl
side-none place ys x False h w = refl
side-none place ys x (Equal s t) h w = solution-none ys x s t
    (defines-none place ys x s t (or_none_first (says place x.num s t) (says place x.num t s) h) (λ m o l. w m (or_right (occurs m s) (occurs m t) o) l))
    (defines-none place ys x t s (or_none_second (says place x.num s t) (says place x.num t s) h) (λ m o l. w m (or_left (occurs m s) (occurs m t) o) l))
side-none place ys x (Atom p ts) h w = refl
side-none place ys x (Not' _ (one f end)) h w = refl
side-none place ys x (And' _ (one f end) _ (one g end)) h w =
    let first : solved ys x f ≡ None = side-none place ys x f (or_none_first (has_side place x.num f) (has_side place x.num g) h) (λ m o l. w m (or_left (free m f) (free m g) o) l) in
    let second : solved ys x g ≡ None = side-none place ys x g (or_none_second (has_side place x.num f) (has_side place x.num g) h) (λ m o l. w m (or_right (free m f) (free m g) o) l) in
    λ i. first_of (option_map (around (λ r. And r g)) (first i)) (option_map (around (λ r. And f r)) (second i))
side-none place ys x (Or' _ (one f end) _ (one g end)) h w = refl
side-none place ys x (Imp' _ (one f end) _ (one g end)) h w = refl
side-none place ys x (Iff' _ (one f end) _ (one g end)) h w = refl
side-none place ys x (All' y _ (one f end)) h w = refl
side-none place ys x (Ex' y _ (one f end)) h w = ap (option_map (around (λ r. Ex y r)))
    (bool_cases (λ b. eqb x.num y.num ≡ b → solved (y.num ∷ ys) x f ≡ None) (eqb x.num y.num)
    (λ e _. passed-none (y.num ∷ ys) x f (or_left (eqb x.num y.num) (member x.num ys) e))
    (λ e _. side-none (changed place y.num innermost) (y.num ∷ ys) x f h (within-inside place innermost x y f ys e w)) refl)
side-none place ys x (All2' p _ (one f end)) h w = refl
side-none place ys x (Ex2' p _ (one f end)) h w = refl

-- ---- behind binders `all y.`

-- the search k finds nothing in a formula without a condition that says what x is, nor where x was passed
record FindsNone (k : List ℕ → Form → Option Solved) (x : Var) : Type 0 where
  none : (place : ℕ → ℕ) (ys : List ℕ) (f : Form) → has_condition place x.num f ≡ false → HasWithin place x.num f ys → k ys f ≡ None
  passed : (ys : List ℕ) (f : Form) → member x.num ys ≡ true → k ys f ≡ None

below-passed : (k : List ℕ → Form → Option Solved) (x : Var) (ys : List ℕ) (f : Form) → FindsNone k x → member x.num ys ≡ true → below_alls k ys f ≡ None
unfolding boxes
below-passed k x ys True p h = p.passed ys True h
below-passed k x ys False p h = p.passed ys False h
below-passed k x ys (Equal s t) p h = p.passed ys (Equal s t) h
below-passed k x ys (Atom q ts) p h = p.passed ys (Atom q ts) h
below-passed k x ys (Not' a (one f end)) p h = p.passed ys (Not' a (one f end)) h
below-passed k x ys (And' a (one f end) b (one g end)) p h = p.passed ys (And' a (one f end) b (one g end)) h
below-passed k x ys (Or' a (one f end) b (one g end)) p h = p.passed ys (Or' a (one f end) b (one g end)) h
below-passed k x ys (Imp' a (one f end) b (one g end)) p h = p.passed ys (Imp' a (one f end) b (one g end)) h
below-passed k x ys (Iff' a (one f end) b (one g end)) p h = p.passed ys (Iff' a (one f end) b (one g end)) h
below-passed k x ys (All' y _ (one f end)) p h = ap (option_map (around (λ r. All y r))) (below-passed k x (y.num ∷ ys) f p (or_right (eqb x.num y.num) (member x.num ys) h))
below-passed k x ys (Ex' y a (one f end)) p h = p.passed ys (Ex' y a (one f end)) h
below-passed k x ys (All2' q a (one f end)) p h = p.passed ys (All2' q a (one f end)) h
below-passed k x ys (Ex2' q a (one f end)) p h = p.passed ys (Ex2' q a (one f end)) h

below-none : (k : List ℕ → Form → Option Solved) (place : ℕ → ℕ) (x : Var) (ys : List ℕ) (f : Form) → FindsNone k x → has_condition place x.num f ≡ false → HasWithin place x.num f ys
    → below_alls k ys f ≡ None
unfolding boxes
below-none k place x ys True p h w = p.none place ys True h w
below-none k place x ys False p h w = p.none place ys False h w
below-none k place x ys (Equal s t) p h w = p.none place ys (Equal s t) h w
below-none k place x ys (Atom q ts) p h w = p.none place ys (Atom q ts) h w
below-none k place x ys (Not' a (one f end)) p h w = p.none place ys (Not' a (one f end)) h w
below-none k place x ys (And' a (one f end) b (one g end)) p h w = p.none place ys (And' a (one f end) b (one g end)) h w
below-none k place x ys (Or' a (one f end) b (one g end)) p h w = p.none place ys (Or' a (one f end) b (one g end)) h w
below-none k place x ys (Imp' a (one f end) b (one g end)) p h w = p.none place ys (Imp' a (one f end) b (one g end)) h w
below-none k place x ys (Iff' a (one f end) b (one g end)) p h w = p.none place ys (Iff' a (one f end) b (one g end)) h w
below-none k place x ys (All' y _ (one f end)) p h w = ap (option_map (around (λ r. All y r)))
    (bool_cases (λ b. eqb x.num y.num ≡ b → below_alls k (y.num ∷ ys) f ≡ None) (eqb x.num y.num)
    (λ e _. below-passed k x (y.num ∷ ys) f p (or_left (eqb x.num y.num) (member x.num ys) e))
    (λ e _. below-none k (changed place y.num innermost) x (y.num ∷ ys) f p h (within-inside place innermost x y f ys e w)) refl)
below-none k place x ys (Ex' y a (one f end)) p h w = p.none place ys (Ex' y a (one f end)) h w
below-none k place x ys (All2' q a (one f end)) p h w = p.none place ys (All2' q a (one f end)) h w
below-none k place x ys (Ex2' q a (one f end)) p h w = p.none place ys (Ex2' q a (one f end)) h w

not-none : (x : Var) (place : ℕ → ℕ) (ys : List ℕ) (f : Form) → has_condition place x.num f ≡ false → HasWithin place x.num f ys → solved_not x ys f ≡ None
not-none x place ys (Not' _ (one c end)) h w = ap (option_map (around (λ r. Not r))) (side-none place ys x c h w)
not-none x place ys f h w = refl

not-passed : (x : Var) (ys : List ℕ) (f : Form) → member x.num ys ≡ true → solved_not x ys f ≡ None
not-passed x ys (Not' _ (one c end)) h = ap (option_map (around (λ r. Not r))) (passed-none ys x c h)
not-passed x ys f h = refl

imp-none : (x : Var) (place : ℕ → ℕ) (ys : List ℕ) (f : Form) → has_condition place x.num f ≡ false → HasWithin place x.num f ys → solved_imp x ys f ≡ None
unfolding boxes
imp-none x place ys (Imp' _ (one c end) _ (one d end)) h w = ap (option_map (around (λ r. Imp r d))) (side-none place ys x c h (λ m o l. w m (or_left (free m c) (free m d) o) l))
imp-none x place ys f h w = refl

imp-passed : (x : Var) (ys : List ℕ) (f : Form) → member x.num ys ≡ true → solved_imp x ys f ≡ None
imp-passed x ys (Imp' _ (one c end) _ (one d end)) h = ap (option_map (around (λ r. Imp r d))) (passed-none ys x c h)
imp-passed x ys f h = refl

pub not_condition-none : (place : ℕ → ℕ) (ys : List ℕ) (x : Var) (f : Form) → has_condition place x.num f ≡ false → HasWithin place x.num f ys → below_alls (solved_not x) ys f ≡ None
not_condition-none place ys x f h w = below-none (solved_not x) place x ys f (record { none = not-none x; passed = not-passed x }) h w

pub imp_condition-none : (place : ℕ → ℕ) (ys : List ℕ) (x : Var) (f : Form) → has_condition place x.num f ≡ false → HasWithin place x.num f ys → below_alls (solved_imp x) ys f ≡ None
imp_condition-none place ys x f h w = below-none (solved_imp x) place x ys f (record { none = imp-none x; passed = imp-passed x }) h w
