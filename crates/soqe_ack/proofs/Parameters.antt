-- Parameters, and what their equations with the arguments of an atom say.
use Rattle.std.proofs.Common.{◌≡◌, ℕ, true, false, cond, eqb, not, ◌||◌, map, List, [], ◌∷◌, refl, sym, ◌∙◌, ap, ⊎_elim}
use Rattle.std.proofs.lemmas.Bool.{eqb-true, eq-eqb, ne_eqb, and_parts, and_from, or_left, or_right, not-true, not_from_false, both_ways, cases_Bool}
use Rattle.soqe_term.specs.declared.term.Var.{Var}
use Rattle.soqe_term.specs.declared.term.Term.{Var as var}
use Rattle.soqe_term.specs.declared.term.Terms.{Terms, Nil, Cons', end_of-Term as end-t, more_of-Term as one-t, end_of-Terms as ends-t, more_of-Terms as ones-t}
use Rattle.soqe_term.specs.World.{World}
use Rattle.soqe_number.specs.Updates.{changed}
use Rattle.soqe_term.specs.Value.{value, values}
use Rattle.soqe_term.specs.Occurs.{occurs_any}
use Rattle.soqe_number.specs.Ranges.{InRange}
use Rattle.soqe_number.proofs.Choices.{or_none_first, or_none_second}
use Rattle.soqe_term.proofs.Worlds.{changed-off, changed-at, values-agree}
use Rattle.soqe_form.specs.declared.form.Pred.{Pred}
use Rattle.soqe_form.specs.declared.form.Pred.TheVariants.{Decl, Bound}
use Rattle.soqe_form.specs.declared.form.Form.{Form, Equal, And}
use Rattle.soqe_form.specs.Boxes.{boxes}
use Rattle.soqe_form.specs.Free.{free}
use Rattle.soqe_form.specs.FreeVars.{is_among}
use Rattle.soqe_form.specs.Truth.{truth, holds}
use Rattle.soqe_form.proofs.Agree.{truth-agree}
use Rattle.soqe_subst.proofs.Renamings.{free-mentions}
use Rattle.soqe_psub.specs.PredSubstLaws.{with_args}
use Rattle.soqe_ack.specs.Guards.{equations_after, equations}
use Rattle.soqe_ack.specs.GuardLaws.{at, AgreeOff, elements_of, sorts_of, StandNowhere, AreDistinct}

pub no_false : {P : Type 0} → false ≡ true → P
no_false h = cc

pub holds-at : (w : World) (d : ℕ → ℕ) (q : Pred) (args : List ℕ) → holds (at w d) q args ≡ holds w q args
holds-at w d (Decl n) args = refl
holds-at w d (Bound n) args = refl

-- a number that stands in the formula is no parameter's
pub no_parameter : (xs : List Var) (f : Form) (n : ℕ) → StandNowhere xs f → free n f ≡ true → not (is_among xs n) ≡ true
no_parameter xs f n u o = ⊎_elim (λ q. absurd (both_ways (free n f) (free-mentions n f (u n q)) o)) (λ q. not_from_false (is_among xs n) q) (cases_Bool (is_among xs n))

-- other elements of the parameters change nothing
pub truth-off : (w : World) (xs : List Var) (d : ℕ → ℕ) (f : Form) → StandNowhere xs f → AgreeOff xs d w.element → truth (at w d) f ≡ truth w f
truth-off w xs d f u o = truth-agree w d w.element w.bound w.bound f (λ n p. o n (no_parameter xs f n u p)) (λ n p. refl)

pub values-off : (w : World) (xs : List Var) (d : ℕ → ℕ) (ts : Terms) → ((n : ℕ) → is_among xs n ≡ true → occurs_any n ts ≡ false) → AgreeOff xs d w.element → values (at w d) ts ≡ values w ts
values-off w xs d ts u o = values-agree w d w.element w.bound w.bound ts (λ n q. o n (off n q))
  where
    off : (n : ℕ) → occurs_any n ts ≡ true → not (is_among xs n) ≡ true
    off n q = ⊎_elim (λ p. absurd (both_ways (occurs_any n ts) (u n p) q)) (λ p. not_from_false (is_among xs n) p) (cases_Bool (is_among xs n))

after-true : (w : World) (f : Form) (xs : List Var) (ts : Terms) → truth w (equations_after f xs ts) ≡ true → (truth w f ≡ true) × (elements_of w.element xs ≡ values w ts)
unfolding boxes
after-true w f [] Nil h = (h, refl)
after-true w f [] (Cons' _ (one-t t end-t) _ (ones-t ts ends-t)) h = no_false h
after-true w f (x ∷ xs) Nil h = no_false h
after-true w f (x ∷ xs) (Cons' _ (one-t t end-t) _ (ones-t ts ends-t)) h =
    let r = after-true w (And f (Equal (var x) t)) xs ts h in
    let q = and_parts (truth w f) (eqb (w.element x.num) (value w t)) r.0 in
    (q.0, λ i. eqb-true (w.element x.num) (value w t) q.1 i ∷ r.1 i)

-- where the equations are true, the parameters have the values of the arguments
pub equations-true : (w : World) (xs : List Var) (ts : Terms) → truth w (equations xs ts) ≡ true → elements_of w.element xs ≡ values w ts
equations-true w [] Nil h = refl
equations-true w [] (Cons' _ (one-t t end-t) _ (ones-t ts ends-t)) h = no_false h
equations-true w (x ∷ xs) Nil h = no_false h
equations-true w (x ∷ xs) (Cons' _ (one-t t end-t) _ (ones-t ts ends-t)) h =
    let r = after-true w (Equal (var x) t) xs ts h in
    λ i. eqb-true (w.element x.num) (value w t) r.0 i ∷ r.1 i

after-hold : (w : World) (f : Form) (xs : List Var) (ts : Terms) → truth w f ≡ true → elements_of w.element xs ≡ values w ts → truth w (equations_after f xs ts) ≡ true
unfolding boxes
after-hold w f [] Nil h e = h
after-hold w f [] (Cons' _ (one-t t end-t) _ (ones-t ts ends-t)) h e = cc
after-hold w f (x ∷ xs) Nil h e = cc
after-hold w f (x ∷ xs) (Cons' _ (one-t t end-t) _ (ones-t ts ends-t)) h e =
    let head : w.element x.num ≡ value w t = cc in
    let tail : elements_of w.element xs ≡ values w ts = cc in
    after-hold w (And f (Equal (var x) t)) xs ts (and_from (truth w f) (eqb (w.element x.num) (value w t)) h (eq-eqb (w.element x.num) (value w t) head)) tail

-- and back
pub equations-hold : (w : World) (xs : List Var) (ts : Terms) → elements_of w.element xs ≡ values w ts → truth w (equations xs ts) ≡ true
equations-hold w [] Nil e = refl
equations-hold w [] (Cons' _ (one-t t end-t) _ (ones-t ts ends-t)) e = cc
equations-hold w (x ∷ xs) Nil e = cc
equations-hold w (x ∷ xs) (Cons' _ (one-t t end-t) _ (ones-t ts ends-t)) e =
    let head : w.element x.num ≡ value w t = cc in
    let tail : elements_of w.element xs ≡ values w ts = cc in
    after-hold w (Equal (var x) t) xs ts (eq-eqb (w.element x.num) (value w t) head) tail

-- a change at a number of no parameter
pub same-elements : (xs : List Var) (d : ℕ → ℕ) (x a : ℕ) → (is_among xs x ≡ true → ⊥) → elements_of (changed d x a) xs ≡ elements_of d xs
same-elements [] d x a h = refl
same-elements (y ∷ xs) d x a h =
    λ i. changed-off d x y.num a (ne_eqb y.num x (λ e. h (or_left (eqb x y.num) (is_among xs x) (eq-eqb x y.num (sym e))))) i
    ∷ same-elements xs d x a (λ q. h (or_right (eqb x y.num) (is_among xs x) q)) i

pub off-var : (xs : List Var) (x a : ℕ) (d e : ℕ → ℕ) → AgreeOff xs d e → AgreeOff xs (changed d x a) (changed e x a)
off-var xs x a d e o n p = ap (λ k. cond (eqb n x) a k) (o n p)

-- elements with the arguments for the parameters
pub off-with : (e : ℕ → ℕ) (xs : List Var) (args : List ℕ) → AgreeOff xs (with_args e xs args) e
off-with e [] args n p = refl
off-with e (x ∷ xs) [] n p = refl
off-with e (x ∷ xs) (a ∷ more) n p =
    let none : (eqb n x.num || is_among xs n) ≡ false = not-true (eqb n x.num || is_among xs n) p in
    changed-off (with_args e xs more) x.num n a (or_none_first (eqb n x.num) (is_among xs n) none)
    ∙ off-with e xs more n (not_from_false (is_among xs n) (or_none_second (eqb n x.num) (is_among xs n) none))

pub elements-with : (size : ℕ → ℕ) (e : ℕ → ℕ) (xs : List Var) (args : List ℕ) → AreDistinct xs → InRange (map size (sorts_of xs)) args → elements_of (with_args e xs args) xs ≡ args
elements-with size e [] [] t r = refl
elements-with size e [] (a ∷ more) t r = absurd r
elements-with size e (x ∷ xs) [] t r = absurd r
elements-with size e (x ∷ xs) (a ∷ more) t r =
    λ i. changed-at (with_args e xs more) x.num a i
    ∷ (same-elements xs (with_args e xs more) x.num a (both_ways (is_among xs x.num) t.0) ∙ elements-with size e xs more t.1 r.1) i
