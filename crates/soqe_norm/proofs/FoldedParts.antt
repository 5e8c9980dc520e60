-- Folded formulas: one more at the end, and the parts of which they are made.
use Rattle.std.proofs.Common.{◌≡◌, ℕ, suc, ◌+◌, ◌<◌, List, [], ◌∷◌, ◌++◌, length, refl, sym, ◌∙◌, ap, arith}
use Rattle.std.proofs.lemmas.List.{length_push}
use Rattle.soqe_term.specs.declared.term.Var.{Var}
use Rattle.soqe_form.specs.declared.form.Form.{Form, And, And', Ex, Ex', end_of-Form as end, more_of-Form as one}
use Rattle.soqe_form.specs.Boxes.{boxes}
use Rattle.soqe_norm.specs.Folds.{and_after, all_of, exists_in, case_form}

-- ---- one more at the end

and_after-push : (f : Form) (fs : List Form) (g : Form) → and_after f (fs ++ g ∷ []) ≡ And (and_after f fs) g
and_after-push f [] g = refl
and_after-push f (h ∷ fs) g = and_after-push (And f h) fs g

pub exists_in-push : (xs : List Var) (x : Var) (f : Form) → exists_in (xs ++ x ∷ []) f ≡ exists_in xs (Ex x f)
exists_in-push [] x f = refl
exists_in-push (y ∷ xs) x f = ap (Ex y) (exists_in-push xs x f)

-- a conjunction joins the formulas of its left side, and its right side
pub all_of-push : (f a b : Form) (fs : List Form) → f ≡ And a b → a ≡ all_of fs → 0 < length fs → f ≡ all_of (fs ++ b ∷ [])
all_of-push f a b [] e h l = absurd (omega (arith, l))
all_of-push f a b (g ∷ fs) e h l = e ∙ ap (λ c. And c b) h ∙ sym (and_after-push g fs b)

-- the last of a list, and those in front of it
record Ends (f : Form) (fs : List Form) : Type 0 where
  front : List Form
  last : Form
  is : f ∷ fs ≡ front ++ last ∷ []

last_of : (f : Form) (fs : List Form) → Ends f fs
last_of f [] = record { front = []; last = f; is = refl }
last_of f (g ∷ fs) = let more = last_of g fs in record { front = f ∷ more.front; last = more.last; is = ap (λ l. f ∷ l) more.is }

-- two formulas or more are joined to a conjunction, and its left side joins all but the last
pub record IsLastJoined (f g : Form) (fs : List Form) : Type 0 where
  pub front : List Form
  pub last : Form
  pub is : and_after f (g ∷ fs) ≡ And (and_after f front) last
  pub many : length (g ∷ fs) ≡ length front + 1

pub last-joined : (f g : Form) (fs : List Form) → IsLastJoined f g fs
last-joined f g fs =
    let ends = last_of g fs in
    record { front = ends.front; last = ends.last; is = ap (and_after f) ends.is ∙ and_after-push f ends.front ends.last; many = ap length ends.is ∙ length_push ends.front ends.last }

-- ---- the parts

abbrev left_of : Form → Form
left_of (And' _ (one f end) _ (one g end)) = f
left_of f = f

abbrev right_of : Form → Form
right_of (And' _ (one f end) _ (one g end)) = g
right_of f = f

abbrev below_of : Form → Form
below_of (Ex' x _ (one f end)) = f
below_of f = f

abbrev variable_of : Var → Form → Var
variable_of y (Ex' x _ (one f end)) = x
variable_of y f = y

pub and-sides : (f g h k : Form) → And f g ≡ And h k → (f ≡ h) × (g ≡ k)
unfolding boxes
and-sides f g h k e = (ap left_of e, ap right_of e)

pub ex-parts : (x y : Var) (f g : Form) → Ex x f ≡ Ex y g → (x ≡ y) × (f ≡ g)
unfolding boxes
ex-parts x y f g e = (ap (variable_of x) e, ap below_of e)

fewer : {m n : ℕ} → suc m ≡ suc n → m ≡ n
fewer e = cc

none_is_some : {P : Type 0} {n : ℕ} → 0 ≡ suc n → P
none_is_some e = cc

and_after-parts : (f g : Form) (fs gs : List Form) → and_after f fs ≡ and_after g gs → length fs ≡ length gs → (f ≡ g) × (fs ≡ gs)
and_after-parts f g [] [] e l = (e, refl)
and_after-parts f g [] (k ∷ gs) e l = none_is_some l
and_after-parts f g (h ∷ fs) [] e l = none_is_some (sym l)
and_after-parts f g (h ∷ fs) (k ∷ gs) e l =
    let more = and_after-parts (And f h) (And g k) fs gs e (fewer l) in
    let sides = and-sides f h g k more.0 in
    (sides.0, λ i. sides.1 i ∷ more.1 i)

-- a formula joins one list of so many formulas
all_of-parts : (fs gs : List Form) → all_of fs ≡ all_of gs → length fs ≡ length gs → fs ≡ gs
all_of-parts [] [] e l = refl
all_of-parts [] (g ∷ gs) e l = none_is_some l
all_of-parts (f ∷ fs) [] e l = none_is_some (sym l)
all_of-parts (f ∷ fs) (g ∷ gs) e l = let parts = and_after-parts f g fs gs e (fewer l) in λ i. parts.0 i ∷ parts.1 i

-- a formula has one list of so many variables in front
pub exists_in-parts : (xs ys : List Var) (f g : Form) → exists_in xs f ≡ exists_in ys g → length xs ≡ length ys → (xs ≡ ys) × (f ≡ g)
exists_in-parts [] [] f g e l = (refl, e)
exists_in-parts [] (y ∷ ys) f g e l = none_is_some l
exists_in-parts (x ∷ xs) [] f g e l = none_is_some (sym l)
exists_in-parts (x ∷ xs) (y ∷ ys) f g e l =
    let parts = ex-parts x y (exists_in xs f) (exists_in ys g) e in
    let more = exists_in-parts xs ys f g parts.1 (fewer l) in
    (λ i. parts.0 i ∷ more.0 i, more.1)

-- a formula is that of one case with so many variables and conjuncts
pub case-parts : (xs ys : List Var) (fs gs : List Form) → case_form xs fs ≡ case_form ys gs → length xs ≡ length ys → length fs ≡ length gs → (xs ≡ ys) × (fs ≡ gs)
case-parts xs ys fs gs e l m =
    let front = exists_in-parts xs ys (all_of fs) (all_of gs) e l in
    (front.0, all_of-parts fs gs front.1 m)
