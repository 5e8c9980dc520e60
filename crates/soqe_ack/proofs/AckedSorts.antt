-- What a well-sorted case becomes is well sorted, and so is the value below the variables and the parameters.
use Rattle.std.proofs.Common.{◌≡◌, ℕ, Bool, true, false, cond, eqb, not, ◌||◌, List, [], ◌∷◌, Option, Some, refl, sym, ◌∙◌, ap}
use Rattle.std.proofs.lemmas.Bool.{and_parts, and_from, not-true, not_from_false, both_ways}
use Rattle.soqe_term.specs.declared.term.Var.{Var}
use Rattle.soqe_term.specs.Sorting.{Sorting, over_var, over_bound}
use Rattle.soqe_number.specs.Updates.{changed}
use Rattle.soqe_number.proofs.Choices.{or_none_first, or_none_second}
use Rattle.soqe_term.proofs.Worlds.{changed-off, changed-at}
use Rattle.soqe_form.specs.declared.form.Pred.TheVariants.{Bound}
use Rattle.soqe_form.specs.declared.form.PVar.{PVar}
use Rattle.soqe_form.specs.declared.form.Form.{Form, Ex2}
use Rattle.soqe_form.specs.Boxes.{boxes}
use Rattle.soqe_form.specs.FreeVars.{is_among}
use Rattle.soqe_form.specs.Sorted.{sorted}
use Rattle.soqe_subst.proofs.PredSorts.{sorted-unchanged}
use Rattle.soqe_norm.specs.Folds.{any_of, all_of, exists_in, case_form}
use Rattle.soqe_norm.specs.Nnf.{nnf}
use Rattle.soqe_norm.proofs.Folded.{all_pass, sorted-any, sorted-all}
use Rattle.soqe_norm.proofs.Nnfs.{sorted-nnf}
use Rattle.soqe_psub.specs.PredSubstLaws.{with_params, over_params}
use Rattle.soqe_psub.proofs.PredSubLaws as sub
use Rattle.soqe_ack.specs.Acked.{AreConditions, no_more, no_guard, guard, AreCleared, all_done, replaced, rest, value_of, is_used, IsAcked}
use Rattle.soqe_ack.specs.AckedLaws.{sorts_below, below}
use Rattle.soqe_ack.specs.GuardLaws.{sorts_of, AreDistinct}
use Rattle.soqe_ack.proofs.GuardParts.{parts-lack}
use Rattle.soqe_ack.proofs.GuardSorts.{HaveSorts, SameOff, have-var, condition-sorted, rest-sorted}
use Rattle.soqe_ack.proofs.ParameterNumbers.{StandInNone, parameters-sorts, parameters-distinct, parameters-nowhere}

-- ---- the sorts of the parameters

none-first : (xs : List Var) (x : Var) (n : ℕ) → not (eqb n x.num || is_among xs n) ≡ true → eqb n x.num ≡ false
none-first xs x n p = or_none_first (eqb n x.num) (is_among xs n) (not-true (eqb n x.num || is_among xs n) p)

none-behind : (xs : List Var) (x : Var) (n : ℕ) → not (eqb n x.num || is_among xs n) ≡ true → not (is_among xs n) ≡ true
none-behind xs x n p = not_from_false (is_among xs n) (or_none_second (eqb n x.num) (is_among xs n) (not-true (eqb n x.num || is_among xs n) p))

params-off : (xs : List Var) (v : ℕ → Option ℕ) → SameOff xs (with_params v xs) v
params-off [] v n p = refl
params-off (x ∷ xs) v n p = changed-off (with_params v xs) x.num n (Some x.sort) (none-first xs x n p) ∙ params-off xs v n (none-behind xs x n p)

params-have : (xs : List Var) (v : ℕ → Option ℕ) → AreDistinct xs → HaveSorts (with_params v xs) xs
params-have [] v d = tt
params-have (x ∷ xs) v d = (changed-at (with_params v xs) x.num (Some x.sort), have-var (with_params v xs) x.num x.sort xs (both_ways (is_among xs x.num) d.0) (params-have xs v d.1))

below-off : (xs : List Var) (v : ℕ → Option ℕ) → SameOff xs (sorts_below v xs) v
below-off [] v n p = refl
below-off (x ∷ xs) v n p = below-off xs (changed v x.num (Some x.sort)) n (none-behind xs x n p) ∙ changed-off v x.num n (Some x.sort) (none-first xs x n p)

below-have : (xs : List Var) (v : ℕ → Option ℕ) → AreDistinct xs → HaveSorts (sorts_below v xs) xs
below-have [] v d = tt
below-have (x ∷ xs) v d = (
  below-off xs (changed v x.num (Some x.sort)) x.num (not_from_false (is_among xs x.num) d.0) ∙ changed-at v x.num (Some x.sort),
  below-have xs (changed v x.num (Some x.sort)) d.1,
)

-- ---- below the variables of the case

sorted-below : (vars : List Var) (e : Sorting) (f : Form) → sorted e (exists_in vars f) ≡ sorted (below e vars) f
unfolding boxes
sorted-below [] e f = refl
sorted-below (x ∷ vars) e f = sorted-below vars (over_var e x.num x.sort) f

module _ (s : Bool) (m : ℕ) (xs : List Var) where
  conditions-sorted : {fs cs : List Form} → AreConditions s (Bound m) xs fs cs → StandInNone xs fs → (e : Sorting) (u : ℕ → Option ℕ)
      → all_pass (sorted (over_bound e m (sorts_of xs))) fs ≡ true → SameOff xs u e.variable → HaveSorts u xs → all_pass (sorted (record e { variable = u })) cs ≡ true
  conditions-sorted no_more un e u o same have = refl
  conditions-sorted (no_guard {f = f} {fs = fs} _ k) un e u o same have =
      conditions-sorted k un.1 e u (and_parts (sorted (over_bound e m (sorts_of xs)) f) (all_pass (sorted (over_bound e m (sorts_of xs))) fs) o).1 same have
  conditions-sorted (guard {f = f} {c = c} {r = r} {fs = fs} {cs = cs} _ g k) un e u o same have =
      let os = and_parts (sorted (over_bound e m (sorts_of xs)) f) (all_pass (sorted (over_bound e m (sorts_of xs))) fs) o in
      and_from (sorted (record e { variable = u }) c) (all_pass (sorted (record e { variable = u })) cs)
      (sym (sorted-unchanged (record e { variable = u }) (Bound m) (sorts_of xs) c (parts-lack s (Bound m) xs f c r g).0)
      ∙ condition-sorted s (Bound m) xs g (over_bound e m (sorts_of xs)) u os.0 (changed-at e.bound m (Some (sorts_of xs))) un.0 same have)
      (conditions-sorted k un.1 e u os.1 same have)

  by_sign : (b : Bool) (k : Sorting) (c : Form) → sorted k c ≡ true → sorted k (cond b c (nnf true c)) ≡ true
  by_sign true k c o = o
  by_sign false k c o = sorted-nnf true k c ∙ o

  value-sorted : {fs cs : List Form} → AreConditions s (Bound m) xs fs cs → StandInNone xs fs → (e : Sorting) (u : ℕ → Option ℕ)
      → all_pass (sorted (over_bound e m (sorts_of xs))) fs ≡ true → SameOff xs u e.variable → HaveSorts u xs → sorted (record e { variable = u }) (value_of s cs) ≡ true
  value-sorted {cs = cs} k un e u o same have =
      by_sign s (record e { variable = u }) (any_of cs) (sorted-any (record e { variable = u }) cs ∙ conditions-sorted k un e u o same have)

  cleared-sorted : (e : Sorting) (value : Form) → sorted (over_params e xs) value ≡ true → {fs gs : List Form} → AreCleared s (Bound m) xs value fs gs
      → all_pass (sorted (over_bound e m (sorts_of xs))) fs ≡ true → all_pass (sorted e) gs ≡ true
  cleared-sorted e value v all_done o = refl
  cleared-sorted e value v (replaced {f = f} {g = g} {fs = fs} {gs = gs} _ is k) o =
      let os = and_parts (sorted (over_bound e m (sorts_of xs)) f) (all_pass (sorted (over_bound e m (sorts_of xs))) fs) o in
      and_from (sorted e g) (all_pass (sorted e) gs) (sub.sorts_of (Bound m) xs value f g is e v os.0) (cleared-sorted e value v k os.1)
  cleared-sorted e value v (rest {f = f} {c = c} {r = r} {fs = fs} {gs = gs} _ g k) o =
      let os = and_parts (sorted (over_bound e m (sorts_of xs)) f) (all_pass (sorted (over_bound e m (sorts_of xs))) fs) o in
      and_from (sorted e r) (all_pass (sorted e) gs)
      (sym (sorted-unchanged e (Bound m) (sorts_of xs) r (parts-lack s (Bound m) xs f c r g).1) ∙ rest-sorted s (Bound m) xs g (over_bound e m (sorts_of xs)) os.0)
      (cleared-sorted e value v k os.1)

module _ (s : Bool) (p : PVar) (keep : List ℕ) (vars : List Var) (fs : List Form) (params : List Var) (value form : Form) (a : IsAcked s p keep vars fs params value form)
    (e : Sorting) (o : sorted e (Ex2 p (case_form vars fs)) ≡ true) where
  conjuncts-sorted : all_pass (sorted (over_bound (below e vars) p.num (sorts_of params))) fs ≡ true
  unfolding boxes
  conjuncts-sorted =
      sym (sorted-all (over_bound (below e vars) p.num (sorts_of params)) fs) ∙ sym (sorted-below vars (over_bound e p.num (sorts_of params)) (all_of fs))
      ∙ ap (λ r. sorted (over_bound e p.num r) (case_form vars fs)) (parameters-sorts (is_used keep vars fs) p.args params a.parameters) ∙ o

  distinct : AreDistinct params
  distinct = parameters-distinct (is_used keep vars fs) p.args params a.parameters

  nowhere : StandInNone params fs
  nowhere = parameters-nowhere keep vars fs p.args params a.parameters

  pub value-is-sorted : sorted (below (below e vars) params) value ≡ true
  value-is-sorted =
      ap (sorted (below (below e vars) params)) a.is_value
      ∙ value-sorted s p.num params a.conditioned nowhere (below e vars) (sorts_below (sorts_below e.variable vars) params) conjuncts-sorted
      (below-off params (sorts_below e.variable vars)) (below-have params (sorts_below e.variable vars) distinct)

  pub form-is-sorted : sorted e form ≡ true
  form-is-sorted =
      ap (sorted e) a.is_form ∙ sorted-below vars e (all_of a.conjuncts) ∙ sorted-all (below e vars) a.conjuncts
      ∙ cleared-sorted s p.num params (below e vars) value
      (ap (sorted (over_params (below e vars) params)) a.is_value
      ∙ value-sorted s p.num params a.conditioned nowhere (below e vars) (with_params (sorts_below e.variable vars) params) conjuncts-sorted
      (params-off params (sorts_below e.variable vars)) (params-have params (sorts_below e.variable vars) distinct))
      a.cleared conjuncts-sorted
