-- A block whose predicate has one sign is alike to its body with a truth value for the predicate.
--
-- The idea: think of tables as sets of argument lists, ordered by inclusion. Where every occurrence of P in the body is
-- positive, a greater table can only make the body more true. There is a greatest table, the one that is true
-- everywhere; so `ex2 P. body` holds exactly where the body holds with it, and `all2 P. body` exactly where the body
-- holds with the least table, the one that is false everywhere. Where every occurrence is negative, the two change
-- places. A constant table needs no quantifier: an atom of P is its truth value.
--
-- One turn is needed: the quantifier tries finite lists, and the constant table is a function. The list that tabulates
-- it agrees with it at arguments in range, and a well-sorted body asks about no others.
use Rattle.std.proofs.Common.{◌≡◌, ℕ, Bool, true, false, cond, not, map, List, Option, Some, None, refl, sym, ◌∙◌, ap}
use Rattle.std.specs.Prelude.{position}
use Rattle.std.specs.Option.{is_some}
use Rattle.soqe_term.specs.World.{World, with_bound}
use Rattle.soqe_number.specs.Finite.{every_list, some_list, product, entry}
use Rattle.soqe_term.specs.Sorting.{Sorting, over_bound}
use Rattle.soqe_term.specs.Fits.{Fits}
use Rattle.soqe_number.proofs.Choices.{same_test, not_twice}
use Rattle.soqe_number.proofs.Enumerations.{found_list, every_list-from}
use Rattle.soqe_form.specs.declared.form.Pred.TheVariants.{Bound}
use Rattle.soqe_form.specs.declared.form.PVar.{PVar}
use Rattle.soqe_form.specs.declared.form.Block.{Block}
use Rattle.soqe_form.specs.declared.form.Form.{Form, All2, Ex2}
use Rattle.soqe_form.specs.Boxes.{boxes}
use Rattle.soqe_form.specs.Truth.{truth}
use Rattle.soqe_form.specs.Sorted.{sorted}
use Rattle.soqe_form.specs.Alike.{AlikeIn}
use Rattle.soqe_form.specs.Places.{quantified}
use Rattle.soqe_form.proofs.Tables.{some-table, every-table}
use Rattle.soqe_norm.specs.Signs.{signs_of}
use Rattle.soqe_norm.specs.Valued.{valued, value_by, value_for, occurs_pos, occurs_neg, first_pos, first_neg, from_one}
use Rattle.soqe_norm.specs.Rises.{has_sign}
use Rattle.soqe_norm.proofs.Occurrences.{pos-is-sign, neg-is-sign}
use Rattle.soqe_norm.proofs.Scanned.{some-any}
use Rattle.soqe_norm.proofs.Risen.{truth-rises}
use Rattle.soqe_norm.proofs.Replaced.{truth-valued}
use Rattle.soqe_norm.proofs.SortedValues.{sorted-valued}

-- nothing has the value v and the other one
never-other : (v b : Bool) → v ≡ not v → b ≡ not v
never-other true b e = let e : true ≡ false = e in cc
never-other false b e = let e : false ≡ true = e in cc

module _ (e : Sorting) (w : World) (fit : Fits w e) (p : PVar) (f : Form) (o : sorted (over_bound e p.num p.args) f ≡ true) (v : Bool) where
  abbrev sizes : List ℕ
  sizes = map w.size p.args

  abbrev with_table : (List ℕ → Bool) → Bool
  with_table t = truth (with_bound w p.num t) f

  abbrev everywhere : List ℕ → Bool
  everywhere args = v

  -- some table does where the one that is v everywhere does, if the body lacks the sign by which a table of v alone falls
  pub some-extreme : has_sign (not v) (Bound p.num) f ≡ false → with_table everywhere ≡ some_list (product sizes) (λ t. with_table (entry sizes t))
  some-extreme h = same_test (with_table everywhere) (some_list (product sizes) (λ t. with_table (entry sizes t)))
      (λ q. some-table w e p.num p.args everywhere f fit o q)
      (λ q. let r = found_list (product sizes) (λ t. with_table (entry sizes t)) q in
      truth-rises p.num f v w (entry sizes r.items) everywhere h (λ args d. refl) r.passes)

  -- every table does where the one that is v everywhere does, if the body lacks the sign by which a table of v alone rises
  pub every-extreme : has_sign v (Bound p.num) f ≡ false → with_table everywhere ≡ every_list (product sizes) (λ t. with_table (entry sizes t))
  every-extreme h = same_test (with_table everywhere) (every_list (product sizes) (λ t. with_table (entry sizes t)))
      (λ q. every_list-from (product sizes) (λ t. with_table (entry sizes t)) (λ t l.
      truth-rises p.num f (not v) w everywhere (entry sizes t) (ap (λ s. has_sign s (Bound p.num) f) (not_twice v) ∙ h) (λ args d. never-other v (entry sizes t args) d) q))
      (λ q. every-table w e p.num p.args everywhere f fit o q)

-- the signs that a value rules out
some-lacks : (pos neg v : Bool) → value_by true pos neg ≡ Some v → cond (not v) pos neg ≡ false
some-lacks true false true h = refl
some-lacks true false false h = let h : Some true ≡ Some false = h in cc
some-lacks false false true h = refl
some-lacks false false false h = refl
some-lacks false true true h = let h : Some false ≡ Some true = h in cc
some-lacks false true false h = refl
some-lacks true true v h = let h : None ≡ Some v = h in cc

every-lacks : (pos neg v : Bool) → value_by false pos neg ≡ Some v → cond v pos neg ≡ false
every-lacks true false true h = let h : Some false ≡ Some true = h in cc
every-lacks true false false h = refl
every-lacks false false true h = refl
every-lacks false false false h = refl
every-lacks false true true h = refl
every-lacks false true false h = let h : Some true ≡ Some false = h in cc
every-lacks true true v h = let h : None ≡ Some v = h in cc

sign-is : (s : Bool) (m : ℕ) (f : Form) → has_sign s (Bound m) f ≡ cond s (occurs_pos (Bound m) f) (occurs_neg (Bound m) f)
sign-is true m f = sym (pos-is-sign (Bound m) f)
sign-is false m f = sym (neg-is-sign (Bound m) f)

block-alike : (e : Sorting) (exists : Bool) (p : PVar) (f : Form) (v : Bool) → value_by exists (occurs_pos (Bound p.num) f) (occurs_neg (Bound p.num) f) ≡ Some v
    → sorted e (cond exists (Ex2 p f) (All2 p f)) ≡ true → AlikeIn e (valued p.num v f) (cond exists (Ex2 p f) (All2 p f))
unfolding boxes
block-alike e true p f v h o w fit = truth-valued p.num v w f
    ∙ some-extreme e w fit p f o v (sign-is (not v) p.num f ∙ some-lacks (occurs_pos (Bound p.num) f) (occurs_neg (Bound p.num) f) v h)
block-alike e false p f v h o w fit = truth-valued p.num v w f
    ∙ every-extreme e w fit p f o v (sign-is v p.num f ∙ every-lacks (occurs_pos (Bound p.num) f) (occurs_neg (Bound p.num) f) v h)

pub replaces-block : (e : Sorting) (b : Block) (v : Bool) → value_for b ≡ Some v → sorted e (quantified b) ≡ true → AlikeIn e (valued b.pred.num v b.body) (quantified b)
replaces-block e b v h o = block-alike e b.exists b.pred b.body v h o

below-quantifier : (e : Sorting) (exists : Bool) (p : PVar) (f : Form) → sorted e (cond exists (Ex2 p f) (All2 p f)) ≡ true → sorted (over_bound e p.num p.args) f ≡ true
unfolding boxes
below-quantifier e true p f h = h
below-quantifier e false p f h = h

pub stays-sorted : (e : Sorting) (b : Block) (v : Bool) → sorted e (quantified b) ≡ true → sorted e (valued b.pred.num v b.body) ≡ true
stays-sorted e b v h = sorted-valued b.pred.num v b.pred.args e b.body (below-quantifier e b.exists b.pred b.body h)

mixed-signs : (exists pos neg : Bool) → value_by exists pos neg ≡ None → (pos ≡ true) × (neg ≡ true)
mixed-signs exists true true h = (refl, refl)
mixed-signs true true false h = let h : Some true ≡ None = h in cc
mixed-signs true false false h = let h : Some true ≡ None = h in cc
mixed-signs true false true h = let h : Some false ≡ None = h in cc
mixed-signs false true false h = let h : Some false ≡ None = h in cc
mixed-signs false false false h = let h : Some false ≡ None = h in cc
mixed-signs false false true h = let h : Some true ≡ None = h in cc

counted : (o : Option ℕ) → is_some (from_one o) ≡ is_some o
counted None = refl
counted (Some n) = refl

pub mixed-has-both : (b : Block) → value_for b ≡ None → (is_some (first_pos (Bound b.pred.num) b.body) ≡ true) × (is_some (first_neg (Bound b.pred.num) b.body) ≡ true)
mixed-has-both b h =
    let r = mixed-signs b.exists (occurs_pos (Bound b.pred.num) b.body) (occurs_neg (Bound b.pred.num) b.body) h in (
      counted (position (λ s. s.pos) (signs_of (Bound b.pred.num) b.body)) ∙ some-any (λ s. s.pos) (signs_of (Bound b.pred.num) b.body) ∙ r.0,
      counted (position (λ s. s.neg) (signs_of (Bound b.pred.num) b.body)) ∙ some-any (λ s. s.neg) (signs_of (Bound b.pred.num) b.body) ∙ r.1,
    )

pub both-is-mixed : (b : Block) → occurs_pos (Bound b.pred.num) b.body ≡ true → occurs_neg (Bound b.pred.num) b.body ≡ true → value_for b ≡ None
both-is-mixed b h k = (λ i. value_by b.exists (h i) (k i)) ∙ none b.exists
  where
    none : (exists : Bool) → value_by exists true true ≡ None
    none true = refl
    none false = refl
