-- A case without its predicate: the guards of a sign say what the predicate has to be, and it becomes no more than that.
use Rattle.std.specs.Prelude.{ℕ, ◌≡◌, Bool, true, false, cond, eqb, not, ◌||◌, List, [], ◌∷◌}
use Rattle.std.specs.List.{list_any, Contains}
use Rattle.soqe_term.specs.declared.term.Var.{Var}
use Rattle.soqe_number.specs.Unused.{member}
use Rattle.soqe_form.specs.declared.form.Pred.{Pred}
use Rattle.soqe_form.specs.declared.form.Pred.TheVariants.{Bound}
use Rattle.soqe_form.specs.declared.form.PVar.{PVar}
use Rattle.soqe_form.specs.declared.form.Form.{Form}
use Rattle.soqe_form.specs.FreeVars.{is_among}
use Rattle.soqe_form.specs.Mentions.{mentions}
use Rattle.soqe_norm.specs.Apart.{IsLeast}
use Rattle.soqe_norm.specs.Nnf.{nnf}
use Rattle.soqe_norm.specs.Rises.{has_sign}
use Rattle.soqe_psub.specs.PredSubst.{IsPredSub}
use Rattle.soqe_ack.specs.Guards.{IsGuard}
use Rattle.soqe_norm.specs.Folds.{any_of, case_form}

-- the number is to be kept out, or stands in a case
abbrev pub is_used : List ℕ → List Var → List Form → ℕ → Bool
is_used keep vars fs n = member n keep || (is_among vars n || list_any (λ f. mentions n f) fs)

-- parameters of these sorts, each with the least number that isn't used, and is then used for those behind
abbrev pub AreParameters : (ℕ → Bool) → List ℕ → List Var → Type 0
AreParameters used [] [] = Unit {0}
AreParameters used [] (x ∷ xs) = ⊥
AreParameters used (s ∷ sorts) [] = ⊥
AreParameters used (s ∷ sorts) (x ∷ xs) = (x.sort ≡ s) × IsLeast (λ n. not (used n)) x.num × AreParameters (λ n. eqb n x.num || used n) sorts xs

-- every conjunct with an occurrence of the sign is a guard of it, and these are the conditions of the guards, in order
pub data AreConditions (s : Bool) (q : Pred) (xs : List Var) : List Form → List Form → Type 0 where
  no_more : AreConditions s q xs [] []
  no_guard : {f : Form} {fs cs : List Form} → has_sign s q f ≡ false → AreConditions s q xs fs cs → AreConditions s q xs (f ∷ fs) cs
  guard : {f c r : Form} {fs cs : List Form} → has_sign s q f ≡ true → IsGuard s q xs f c r → AreConditions s q xs fs cs
      → AreConditions s q xs (f ∷ fs) (c ∷ cs)

-- what the predicate becomes: the condition of the case, or the normal form of its negation where the sign is negative
abbrev pub value_of : Bool → List Form → Form
value_of s cs = cond s (any_of cs) (nnf true (any_of cs))

-- a guard becomes its rest, any other conjunct has the value for the predicate
pub data AreCleared (s : Bool) (q : Pred) (xs : List Var) (value : Form) : List Form → List Form → Type 0 where
  all_done : AreCleared s q xs value [] []
  replaced : {f g : Form} {fs gs : List Form} → has_sign s q f ≡ false → IsPredSub q xs value f g → AreCleared s q xs value fs gs
      → AreCleared s q xs value (f ∷ fs) (g ∷ gs)
  rest : {f c r : Form} {fs gs : List Form} → has_sign s q f ≡ true → IsGuard s q xs f c r → AreCleared s q xs value fs gs
      → AreCleared s q xs value (f ∷ fs) (r ∷ gs)

-- the case without the predicate p, by the plain try of a sign
pub record IsAcked (s : Bool) (p : PVar) (keep : List ℕ) (vars : List Var) (fs : List Form) (params : List Var) (value form : Form) : Type 0 where
  pub parameters : AreParameters (is_used keep vars fs) p.args params
  pub conditions : List Form
  pub conditioned : AreConditions s (Bound p.num) params fs conditions
  pub is_value : value ≡ value_of s conditions
  pub conjuncts : List Form
  pub cleared : AreCleared s (Bound p.num) params value fs conjuncts
  pub is_form : form ≡ case_form vars conjuncts

-- some conjunct has an occurrence of the sign and is no guard of it
pub record IsStuck (s : Bool) (q : Pred) (fs : List Form) : Type 0 where
  pub conjunct : Form
  pub within : Contains fs conjunct
  pub has : has_sign s q conjunct ≡ true
  pub none : (xs : List Var) (c r : Form) → IsGuard s q xs conjunct c r → ⊥
