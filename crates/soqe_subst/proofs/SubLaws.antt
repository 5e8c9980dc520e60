-- What the result of a substitution says, from the exact result.
use Rattle.std.proofs.Common.{◌≡◌, true, false, List, [], Option, Some, None, sym, ◌∙◌, ap, arith}
use Rattle.std.specs.List.{list_any}
use Rattle.soqe_term.specs.declared.bindings.Bound.{Bound as Pair}
use Rattle.soqe_term.specs.declared.term.Var.{Var}
use Rattle.soqe_term.specs.declared.term.Term.{Term}
use Rattle.soqe_term.specs.Sorting.{own_sort}
use Rattle.soqe_form.specs.declared.form.Form.{Form}
use Rattle.soqe_number.specs.Marks.{marked}
use Rattle.soqe_form.specs.Mentions.{depth}
use Rattle.soqe_form.specs.Truth.{truth}
use Rattle.soqe_form.specs.Sorted.{sorted}
use Rattle.soqe_term.specs.Bindings.{HasDistinctVars}
use Rattle.soqe_number.specs.declared.unkept.Unkept.{Unkept}
use Rattle.soqe_number.specs.declared.tally.Tally.{Tally}
use Rattle.soqe_number.specs.Unkept.{Keeps}
use Rattle.soqe_uses.specs.Uses.{AreOnTop}
use Rattle.soqe_number.proofs.Tallied.{unknown}
use Rattle.soqe_subst.specs.declared.walk.Walk.{Walk}
use Rattle.soqe_subst.specs.Catching.{AreCaught}
use Rattle.soqe_subst.specs.NewVars.{new_var}
use Rattle.soqe_subst.specs.Renewed.{renewed}
use Rattle.soqe_subst.specs.Standing.{standing}
use Rattle.soqe_subst.specs.Substitution.{sub, visible}
use Rattle.soqe_subst.specs.Substitutes.{seen, left_of, Substitutes}
use Rattle.soqe_subst.proofs.Binders.{visible-all}
use Rattle.soqe_subst.proofs.Renewed.{renewed-none}
use Rattle.soqe_subst.specs.IsSub.{single, HasTruthOfSub, HasTruthOfSubst, SubKeepsSorts, SubstKeepsSorts}
use Rattle.soqe_subst.proofs.Substitutions.{truth-sub}
use Rattle.soqe_subst.proofs.SubstitutedSorts.{sorted-sub_binding, has_own_sort, is_sorted_single}

-- what the walk gives where nothing is hidden yet
pub exact_of : (u : Unkept) (s : List Pair) (a b : Walk) (t : Tally) (f r : Form) → marked a.hidden ≡ (λ n. false) → new_var a.renamed ≡ (λ n. None) → t.is_known ≡ false
    → Keeps [] u → HasDistinctVars s → (HasDistinctVars s → AreCaught (visible (marked a.hidden) s) f a.catches) → (list_any (λ b. b) a.catches ≡ true → AreOnTop f a.uses)
    → Substitutes u s a b t f r → r ≡ sub (depth f) s f
exact_of u s a b t f r hidden stay off kept distinct caught used p =
    p.is (depth f) (omega arith)
    (record {
      kept = kept;
      distinct = distinct;
      apart = record { hides = λ n z e. none (new_var a.renamed n) z (λ i. stay i n) e; stands = λ n z e. none (new_var a.renamed n) z (λ i. stay i n) e };
      unbound = λ n z e. none (new_var a.renamed n) z (λ i. stay i n) e;
      caught = caught distinct;
      used = used;
    })
    (unknown u (standing (seen s a) (left_of a f)) t off)
    ∙ (λ i. sub (depth f) (visible (hidden i) s) (renewed (stay i) f)) ∙ (λ i. sub (depth f) (visible-all s i) (renewed-none f i))
  where
    none : {A : Type 0} (o : Option Var) (z : Var) → o ≡ None → o ≡ Some z → A
    none o z e k = let e : None ≡ Some z = sym e ∙ k in cc

pub truth_of : (s : List Pair) (f r : Form) → r ≡ sub (depth f) s f → HasTruthOfSub s f r
truth_of s f r e w = ap (truth w) e ∙ truth-sub (depth f) w s f (omega arith)

pub sorts_of : (s : List Pair) (f r : Form) → r ≡ sub (depth f) s f → SubKeepsSorts s f r
sorts_of s f r e d own are o = ap (sorted d) e ∙ sorted-sub_binding (depth f) d s f (omega arith) own are o

-- the same for one variable
pub truth_of_single : (x : Var) (by : Term) (f r : Form) → r ≡ sub (depth f) (single x by) f → HasTruthOfSubst x by f r
truth_of_single x by f r e w = truth_of (single x by) f r e w

pub sorts_of_single : (x : Var) (by : Term) (f r : Form) → own_sort by ≡ x.sort → r ≡ sub (depth f) (single x by) f → SubstKeepsSorts x by f r
sorts_of_single x by f r own e d are o = sorts_of (single x by) f r e d (has_own_sort x by own) (is_sorted_single d x by are) o

pub ruleset substitution_laws = (exact_of, truth_of, sorts_of, truth_of_single, sorts_of_single)
