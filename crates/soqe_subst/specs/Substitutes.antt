-- What the walk that substitutes gives, where binders around a part have hidden some variables and given new ones to others.
use Rattle.std.specs.Prelude.{ℕ, ◌≡◌, ◌≤◌, ◌+◌, Bool, true, false, eqb, cond, [], List, Option, Some, None}
use Rattle.std.specs.List.{list_any}
use Rattle.soqe_term.specs.declared.bindings.Bound.{Bound}
use Rattle.soqe_term.specs.declared.term.Var.{Var}
use Rattle.soqe_term.specs.declared.term.Term.{Term}
use Rattle.soqe_term.specs.declared.term.Terms.{Terms}
use Rattle.soqe_term.specs.Bindings.{bound_in, all_bound_in, HasDistinctVars}
use Rattle.soqe_form.specs.declared.form.Form.{Form, And, All}
use Rattle.soqe_number.specs.Marks.{marked}
use Rattle.soqe_form.specs.Mentions.{depth}
use Rattle.soqe_number.specs.Counts.{times}
use Rattle.soqe_number.specs.Updates.{changed}
use Rattle.soqe_number.specs.declared.unkept.Unkept.{Unkept}
use Rattle.soqe_number.specs.declared.tally.Tally.{Tally}
use Rattle.soqe_number.specs.Unkept.{Keeps}
use Rattle.soqe_uses.specs.Uses.{uses, below, AreOnTop}
use Rattle.soqe_number.specs.Tallies.{IsRightIfKnown}
use Rattle.soqe_subst.specs.declared.walk.Walk.{Walk}
use Rattle.soqe_subst.specs.declared.walk.Found.{Found}
use Rattle.soqe_subst.specs.Catching.{AreCaught}
use Rattle.soqe_subst.specs.NewVars.{new_var, IsApart, AreOpen}
use Rattle.soqe_subst.specs.Renewed.{renewed_term, all_renewed, renewed}
use Rattle.soqe_subst.specs.Standing.{standing}
use Rattle.soqe_subst.specs.Substitution.{sub, visible, without, catches, new_binder, new_body}

-- what is seen of the binding in the walk
abbrev pub seen : List Bound → Walk → List Bound
seen s a = visible (marked a.hidden) s

-- f as the binders around it have left it
abbrev pub left_of : Walk → Form → Form
left_of a f = renewed (new_var a.renamed) f

-- what takes the place of a term: its new variables stay, and of the others those that are seen get their terms
abbrev pub BindsTerm : List Bound → (ℕ → Bool) → (ℕ → Option Var) → Term → Term → Type 0
BindsTerm s h r t made = IsApart (visible h s) h r → made ≡ bound_in (visible h s) (renewed_term r t)

-- the same for terms
abbrev pub BindsTerms : List Bound → (ℕ → Bool) → (ℕ → Option Var) → Terms → Terms → Type 0
BindsTerms s h r ts made = IsApart (visible h s) h r → made ≡ all_bound_in (visible h s) (all_renewed r ts)

-- The new variables are apart from what else stands there; what the binders of f catch is on top, and where some binder catches, how
-- often their variables are used. No numbers are kept out, and no variable is bound twice.
pub record IsReadyAt (u : Unkept) (s : List Bound) (h : ℕ → Bool) (r : ℕ → Option Var) (cs : List Bool) (ns : List ℕ) (f : Form) : Type 0 where
  pub kept : Keeps [] u
  pub distinct : HasDistinctVars s
  pub apart : IsApart (visible h s) h r
  pub unbound : AreOpen r f
  pub caught : AreCaught (visible h s) f cs
  pub used : list_any (λ b. b) cs ≡ true → AreOnTop f ns

-- so it is for f in the walk
abbrev pub IsReady : Unkept → List Bound → Walk → Form → Type 0
IsReady u s a f = IsReadyAt u s (marked a.hidden) (new_var a.renamed) a.catches a.uses f

-- the tally, if it is known, counts the numbers that stand in f and in what is seen of the binding
abbrev pub IsRightFor : Unkept → List Bound → Walk → Form → Tally → Type 0
IsRightFor u s a f t = IsRightIfKnown u (standing (seen s a) (left_of a f)) t

-- nothing was taken from what is on top, and hidden and new variables are as before
pub record IsSame (a b : Walk) : Type 0 where
  pub hidden : b.hidden ≡ a.hidden
  pub renamed : new_var b.renamed ≡ new_var a.renamed
  pub catches : b.catches ≡ a.catches
  pub uses : b.uses ≡ a.uses

-- hidden and new variables are as before, and what was on top for f is gone
pub record Passes (f : Form) (a b : Walk) : Type 0 where
  pub hidden : marked b.hidden ≡ marked a.hidden
  pub renamed : new_var b.renamed ≡ new_var a.renamed
  pub catches : b.catches ≡ below f a.catches
  pub uses : b.uses ≡ below f a.uses

-- the formula that was made is f, as the binders around it have left it, with the terms of its free variables
pub record Substitutes (u : Unkept) (s : List Bound) (a b : Walk) (t : Tally) (f made : Form) : Type 0 where
  pub is : (k : ℕ) → depth f ≤ k → IsReady u s a f → IsRightFor u s a f t → made ≡ sub k (seen s a) (left_of a f)
  pub walk : Passes f a b

-- the same for a part of a node that goes on with the tally, or is gone through without it; then a right tally stays right
pub record SubstitutesPart (u : Unkept) (s : List Bound) (goes_on : Bool) (a b : Walk) (t later : Tally) (f made : Form) : Type 0 where
  pub is : (k : ℕ) → depth f ≤ k → IsReady u s a f → (goes_on ≡ true → IsRightFor u s a f t) → made ≡ sub k (seen s a) (left_of a f)
  pub walk : Passes f a b
  pub right : goes_on ≡ false → (ns : List ℕ) → IsRightIfKnown u ns t → IsRightIfKnown u ns later

-- where the tally of both parts of a node is right, if it is known, it becomes that of the larger part
pub record IsOfLarger (u : Unkept) (f g : Form) (left_is_smaller : Bool) (old new : Tally) : Type 0 where
  pub left : left_is_smaller ≡ false → (v : List Bound) → IsRightIfKnown u (standing v (And f g)) old → IsRightIfKnown u (standing v f) new
  pub right : left_is_smaller ≡ true → (v : List Bound) → IsRightIfKnown u (standing v (And f g)) old → IsRightIfKnown u (standing v g) new

-- in the tally, z stands so many times more and y so many times less
pub record Exchanges (u : Unkept) (y z count : ℕ) (old new : Tally) : Type 0 where
  pub is : (ms ls : List ℕ) → ((n : ℕ) → times n ls + cond (eqb n y) count 0 ≡ times n ms + cond (eqb n z) count 0) → IsRightIfKnown u ms old → IsRightIfKnown u ls new

-- what is on top for a binder of y: whether it catches, and how often y is used in f, if it does
pub record IsFound (v : List Bound) (found : Found) (y : Var) (f : Form) : Type 0 where
  pub catches : found.catches ≡ catches v y f
  pub count : found.catches ≡ true → found.count ≡ uses y.num f

-- y is hidden already and has no new variable, and its binder binds none
pub record IsReadyBody (u : Unkept) (s : List Bound) (a : Walk) (found : Found) (y : Var) (f : Form) : Type 0 where
  pub body : IsReady u s a f
  pub hidden : marked a.hidden y.num ≡ true
  pub unbound : (n : ℕ) (z : Var) → new_var a.renamed n ≡ Some z → eqb z.num y.num ≡ false
  pub known : IsFound (seen s a) found y f

-- the binder and its body become z and the formula that was made
pub record SubstitutesBody (u : Unkept) (s : List Bound) (a b : Walk) (t : Tally) (found : Found) (y : Var) (f : Form) (z : Var) (made : Form) : Type 0 where
  pub binder : IsReadyBody u s a found y f → IsRightFor u s a f t → z ≡ new_binder (seen s a) y (left_of a f)
  pub body : (k : ℕ) → depth f ≤ k → IsReadyBody u s a found y f → IsRightFor u s a f t → made ≡ sub k (seen s a) (new_body (seen s a) y (left_of a f))
  pub walk : Passes f a b

-- the same where y is yet to be hidden: the binder is All or Ex
pub record SubstitutesBelow (u : Unkept) (s : List Bound) (a b : Walk) (t : Tally) (y : Var) (f : Form) (z : Var) (made : Form) : Type 0 where
  pub binder : IsReady u s a (All y f) → IsRightFor u s a (All y f) t → z ≡ new_binder (without y.num (seen s a)) y (renewed (changed (new_var a.renamed) y.num None) f)
  pub body : (k : ℕ) → depth f ≤ k → IsReady u s a (All y f) → IsRightFor u s a (All y f) t
      → made ≡ sub k (without y.num (seen s a)) (new_body (without y.num (seen s a)) y (renewed (changed (new_var a.renamed) y.num None) f))
  pub walk : Passes (All y f) a b
