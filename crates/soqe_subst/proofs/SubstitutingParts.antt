-- The two parts of a node under substitution: the larger one goes on with the tally, from which the numbers of the smaller were taken.
use Rattle.std.proofs.Common.{◌≡◌, ℕ, max, ◌≤◌, Bool, true, false, not, List, Option, refl, sym, ◌∙◌, ap, subst, arith}
use Rattle.std.proofs.lemmas.Bool.{both_ways}
use Rattle.soqe_term.specs.declared.bindings.Bound.{Bound as Pair}
use Rattle.soqe_term.specs.declared.term.Var.{Var}
use Rattle.soqe_number.proofs.Choices.{or_none_first, or_none_second}
use Rattle.soqe_form.specs.declared.form.Form.{Form, And, Or, Imp, Iff}
use Rattle.soqe_form.specs.Boxes.{boxes}
use Rattle.soqe_number.specs.Marks.{marked}
use Rattle.soqe_form.specs.Mentions.{depth}
use Rattle.soqe_number.specs.declared.unkept.Unkept.{Unkept}
use Rattle.soqe_number.specs.declared.tally.Tally.{Tally}
use Rattle.soqe_uses.specs.Uses.{below}
use Rattle.soqe_number.specs.Tallies.{IsRightIfKnown, Leaves}
use Rattle.soqe_subst.specs.declared.walk.Walk.{Walk}
use Rattle.soqe_subst.specs.NewVars.{new_var}
use Rattle.soqe_subst.specs.Renewed.{renewed, binds}
use Rattle.soqe_subst.specs.Standing.{form_numbers, standing}
use Rattle.soqe_subst.specs.Substitution.{sub, visible}
use Rattle.soqe_subst.specs.Substitutes.{seen, left_of, IsReadyAt, IsReady, IsRightFor, IsSame, Passes, Substitutes, SubstitutesPart, IsOfLarger}
use Rattle.soqe_subst.proofs.Caught.{any-below}
use Rattle.soqe_subst.proofs.Substituting.{fuel}
use Rattle.soqe_subst.proofs.StandingNumbers.{standing-left, standing-right}

-- ---- the same facts of another walk

pub ready-moved : (u : Unkept) (s : List Pair) (f : Form) (h1 h2 : ℕ → Bool) (r1 r2 : ℕ → Option Var) (c1 c2 : List Bool) (n1 n2 : List ℕ) → h1 ≡ h2 → r1 ≡ r2 → c1 ≡ c2 → n1 ≡ n2
    → IsReadyAt u s h1 r1 c1 n1 f → IsReadyAt u s h2 r2 c2 n2 f
ready-moved u s f h1 h2 r1 r2 c1 c2 n1 n2 eh er ec en p =
    subst (λ h. IsReadyAt u s h r2 c2 n2 f) eh (subst (λ r. IsReadyAt u s h1 r c2 n2 f) er (subst (λ c. IsReadyAt u s h1 r1 c n2 f) ec (subst (λ n. IsReadyAt u s h1 r1 c1 n f) en p)))

pub right-moved : (u : Unkept) (s : List Pair) (f : Form) (t : Tally) (h1 h2 : ℕ → Bool) (r1 r2 : ℕ → Option Var) → h1 ≡ h2 → r1 ≡ r2
    → IsRightIfKnown u (standing (visible h1 s) (renewed r1 f)) t → IsRightIfKnown u (standing (visible h2 s) (renewed r2 f)) t
right-moved u s f t h1 h2 r1 r2 eh er = subst (λ ns. IsRightIfKnown u ns t) (λ i. standing (visible (eh i) s) (renewed (er i) f))

-- ---- the larger part

-- the tally of the larger part, without the numbers of the smaller one
pub larger-right : (u : Unkept) (f g : Form) (a b : Tally) → Leaves u (form_numbers f) a b → IsOfLarger u f g true a b
larger-right u f g a b leaves = record {
  left = λ e. absurd (both_ways true e refl);
  right = λ e v. leaves.is (standing v (And f g)) (standing v g) (λ n. standing-right n v f g);
}

pub larger-left : (u : Unkept) (f g : Form) (a b : Tally) → Leaves u (form_numbers g) a b → IsOfLarger u f g false a b
larger-left u f g a b leaves = record {
  left = λ e v. leaves.is (standing v (And f g)) (standing v f) (λ n. standing-left n v f g);
  right = λ e. absurd (both_ways false refl e);
}

-- ---- both parts

-- what is ready for both parts is ready for the right one, and for the left one when what was on top for the right one is gone
ready-right : (u : Unkept) (s : List Pair) (h : ℕ → Bool) (r : ℕ → Option Var) (cs : List Bool) (ns : List ℕ) (f g : Form) → IsReadyAt u s h r cs ns (And f g) → IsReadyAt u s h r cs ns g
unfolding boxes
ready-right u s h r cs ns f g p = record {
  kept = p.kept;
  distinct = p.distinct;
  apart = p.apart;
  unbound = λ n z e. or_none_second (binds z.num f) (binds z.num g) (p.unbound n z e);
  caught = p.caught.0;
  used = λ any. (p.used any).0;
}

ready-left : (u : Unkept) (s : List Pair) (h : ℕ → Bool) (r : ℕ → Option Var) (cs : List Bool) (ns : List ℕ) (f g : Form) → IsReadyAt u s h r cs ns (And f g) → IsReadyAt u s h r (below g cs) (below g ns) f
unfolding boxes
ready-left u s h r cs ns f g p = record {
  kept = p.kept;
  distinct = p.distinct;
  apart = p.apart;
  unbound = λ n z e. or_none_first (binds z.num f) (binds z.num g) (p.unbound n z e);
  caught = p.caught.1;
  used = λ any. (p.used (any-below g cs any)).1;
}

pub from_not : (b : Bool) → not b ≡ true → b ≡ false
from_not true h = sym h
from_not false h = refl

pub from_not_false : (b : Bool) → not b ≡ false → b ≡ true
from_not_false true h = refl
from_not_false false h = sym h

-- both parts of a node were made
pub record SubstitutesBoth (u : Unkept) (s : List Pair) (a b : Walk) (t : Tally) (f g made_f made_g : Form) : Type 0 where
  pub left : (k : ℕ) → depth f ≤ k → IsReady u s a (And f g) → IsRightFor u s a (And f g) t → made_f ≡ sub k (seen s a) (left_of a f)
  pub right : (k : ℕ) → depth g ≤ k → IsReady u s a (And f g) → IsRightFor u s a (And f g) t → made_g ≡ sub k (seen s a) (left_of a g)
  pub walk : Passes (And f g) a b

-- the right part is gone through first; the larger part goes on with the tally
pub both-parts : (u : Unkept) (s : List Pair) (larger : Bool) (a b c d : Walk) (t t1 t2 t3 : Tally) (f g m n : Form) → IsOfLarger u (left_of a f) (left_of a g) larger t t1 → IsSame a b
    → SubstitutesPart u s larger b c t1 t2 g n → SubstitutesPart u s (not larger) c d t2 t3 f m → SubstitutesBoth u s a d t f g m n
unfolding boxes
both-parts u s larger a b c d t t1 t2 t3 f g m n of same p q =
    let hb : marked a.hidden ≡ marked b.hidden = ap marked (sym same.hidden) in
    let rb : new_var a.renamed ≡ new_var b.renamed = sym same.renamed in
    let hc : marked a.hidden ≡ marked c.hidden = hb ∙ sym p.walk.hidden in
    let rc : new_var a.renamed ≡ new_var c.renamed = rb ∙ sym p.walk.renamed in
    let cc1 : below g a.catches ≡ c.catches = ap (below g) (sym same.catches) ∙ sym p.walk.catches in
    let uc : below g a.uses ≡ c.uses = ap (below g) (sym same.uses) ∙ sym p.walk.uses in
    record {
      left = λ k h ready right.
          q.is k h
          (ready-moved u s f (marked a.hidden) (marked c.hidden) (new_var a.renamed) (new_var c.renamed) (below g a.catches) c.catches (below g a.uses) c.uses hc rc cc1 uc
          (ready-left u s (marked a.hidden) (new_var a.renamed) a.catches a.uses f g ready))
          (λ e. let off : larger ≡ false = from_not larger e in
          right-moved u s f t2 (marked a.hidden) (marked c.hidden) (new_var a.renamed) (new_var c.renamed) hc rc
          (p.right off (standing (seen s a) (left_of a f)) (of.left off (seen s a) right)))
          ∙ (λ i. sub k (visible (sym hc i) s) (renewed (sym rc i) f));
      right = λ k h ready right.
          p.is k h
          (ready-moved u s g (marked a.hidden) (marked b.hidden) (new_var a.renamed) (new_var b.renamed) a.catches b.catches a.uses b.uses hb rb (sym same.catches) (sym same.uses)
          (ready-right u s (marked a.hidden) (new_var a.renamed) a.catches a.uses f g ready))
          (λ e. right-moved u s g t1 (marked a.hidden) (marked b.hidden) (new_var a.renamed) (new_var b.renamed) hb rb (of.right e (seen s a) right))
          ∙ (λ i. sub k (visible (sym hb i) s) (renewed (sym rb i) g));
      walk = record {
        hidden = q.walk.hidden ∙ sym hc;
        renamed = q.walk.renamed ∙ sym rc;
        catches = q.walk.catches ∙ ap (below f) (sym cc1);
        uses = q.walk.uses ∙ ap (below f) (sym uc);
      };
    }

-- ---- each node over two parts

-- what is ready for a node over two parts is ready for their conjunction
ready-or : (u : Unkept) (s : List Pair) (h : ℕ → Bool) (r : ℕ → Option Var) (cs : List Bool) (ns : List ℕ) (f g : Form) → IsReadyAt u s h r cs ns (Or f g) → IsReadyAt u s h r cs ns (And f g)
unfolding boxes
ready-or u s h r cs ns f g p = record { kept = p.kept; distinct = p.distinct; apart = p.apart; unbound = p.unbound; caught = p.caught; used = p.used }

ready-imp : (u : Unkept) (s : List Pair) (h : ℕ → Bool) (r : ℕ → Option Var) (cs : List Bool) (ns : List ℕ) (f g : Form) → IsReadyAt u s h r cs ns (Imp f g) → IsReadyAt u s h r cs ns (And f g)
unfolding boxes
ready-imp u s h r cs ns f g p = record { kept = p.kept; distinct = p.distinct; apart = p.apart; unbound = p.unbound; caught = p.caught; used = p.used }

ready-iff : (u : Unkept) (s : List Pair) (h : ℕ → Bool) (r : ℕ → Option Var) (cs : List Bool) (ns : List ℕ) (f g : Form) → IsReadyAt u s h r cs ns (Iff f g) → IsReadyAt u s h r cs ns (And f g)
unfolding boxes
ready-iff u s h r cs ns f g p = record { kept = p.kept; distinct = p.distinct; apart = p.apart; unbound = p.unbound; caught = p.caught; used = p.used }

module _ (u : Unkept) (s : List Pair) where
  pub substitutes-and : (a b : Walk) (t : Tally) (f g m n : Form) → SubstitutesBoth u s a b t f g m n → Substitutes u s a b t (And f g) (And m n)
  unfolding boxes
  substitutes-and a b t f g m n p = record {
    is = λ k h ready right. let q = fuel (max (depth f) (depth g)) k h in
        (λ i. And (p.left q.less (omega (arith, q.enough)) ready right i) (p.right q.less (omega (arith, q.enough)) ready right i))
        ∙ ap (λ k. sub k (seen s a) (And (left_of a f) (left_of a g))) (sym q.is);
    walk = p.walk;
  }

  pub substitutes-or : (a b : Walk) (t : Tally) (f g m n : Form) → SubstitutesBoth u s a b t f g m n → Substitutes u s a b t (Or f g) (Or m n)
  unfolding boxes
  substitutes-or a b t f g m n p = record {
    is = λ k h ready right. let q = fuel (max (depth f) (depth g)) k h in
        let both = ready-or u s (marked a.hidden) (new_var a.renamed) a.catches a.uses f g ready in
        (λ i. Or (p.left q.less (omega (arith, q.enough)) both right i) (p.right q.less (omega (arith, q.enough)) both right i))
        ∙ ap (λ k. sub k (seen s a) (Or (left_of a f) (left_of a g))) (sym q.is);
    walk = record { hidden = p.walk.hidden; renamed = p.walk.renamed; catches = p.walk.catches; uses = p.walk.uses };
  }

  pub substitutes-imp : (a b : Walk) (t : Tally) (f g m n : Form) → SubstitutesBoth u s a b t f g m n → Substitutes u s a b t (Imp f g) (Imp m n)
  unfolding boxes
  substitutes-imp a b t f g m n p = record {
    is = λ k h ready right. let q = fuel (max (depth f) (depth g)) k h in
        let both = ready-imp u s (marked a.hidden) (new_var a.renamed) a.catches a.uses f g ready in
        (λ i. Imp (p.left q.less (omega (arith, q.enough)) both right i) (p.right q.less (omega (arith, q.enough)) both right i))
        ∙ ap (λ k. sub k (seen s a) (Imp (left_of a f) (left_of a g))) (sym q.is);
    walk = record { hidden = p.walk.hidden; renamed = p.walk.renamed; catches = p.walk.catches; uses = p.walk.uses };
  }

  pub substitutes-iff : (a b : Walk) (t : Tally) (f g m n : Form) → SubstitutesBoth u s a b t f g m n → Substitutes u s a b t (Iff f g) (Iff m n)
  unfolding boxes
  substitutes-iff a b t f g m n p = record {
    is = λ k h ready right. let q = fuel (max (depth f) (depth g)) k h in
        let both = ready-iff u s (marked a.hidden) (new_var a.renamed) a.catches a.uses f g ready in
        (λ i. Iff (p.left q.less (omega (arith, q.enough)) both right i) (p.right q.less (omega (arith, q.enough)) both right i))
        ∙ ap (λ k. sub k (seen s a) (Iff (left_of a f) (left_of a g))) (sym q.is);
    walk = record { hidden = p.walk.hidden; renamed = p.walk.renamed; catches = p.walk.catches; uses = p.walk.uses };
  }
