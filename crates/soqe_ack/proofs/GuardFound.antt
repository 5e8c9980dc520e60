-- What the search finds in a formula: what the function of a guard's parts gives.
use Rattle.std.proofs.Common.{◌≡◌, Bool, true, false, cond, not, ◌||◌, List, Some, None, refl, sym, ◌∙◌, ap, subst}
use Rattle.soqe_term.specs.declared.term.Var.{Var}
use Rattle.soqe_term.specs.declared.term.Terms.{Terms}
use Rattle.soqe_form.specs.declared.form.Pred.{Pred}
use Rattle.soqe_form.specs.declared.form.Form.{Form, True, False, Equal, Atom, Not', And', Or', Imp', Iff', All', Ex', All2', Ex2', end_of-Form as end, more_of-Form as one}
use Rattle.soqe_form.specs.Boxes.{boxes}
use Rattle.soqe_form.specs.FreePreds.{same_pred, hides, has_free}
use Rattle.soqe_ack.specs.declared.guarding.Found.{Found}
use Rattle.soqe_ack.specs.declared.guarding.Found.TheVariants as found
use Rattle.soqe_ack.specs.Guards.{equations, IsGuard, lacking}
use Rattle.soqe_ack.specs.Parts.{unless_lacking, in_negation, together, alternatives, for_all_elements, found_in}
use Rattle.soqe_ack.proofs.GuardOf.{Chosen, chosen, both, for_all, one_side, of_negated, parts, from_chosen, parts-right, Right, reaches}

-- what is found where the predicate is there or not, and these are the parts
abbrev as_found : Bool → Chosen → Found
as_found false o = found.Lacking
as_found true None = found.NoGuard
as_found true (Some a) = found.Parts (record { cond = a.0; rest = a.1 })

together-is : (f g : Form) (b c : Bool) (o u : Chosen) → together f g (as_found b o) (as_found c u) ≡ as_found (b || c) (both (chosen b f o) (chosen c g u))
together-is f g false false o u = refl
together-is f g false true o None = refl
together-is f g false true o (Some a) = refl
together-is f g true false None u = refl
together-is f g true false (Some a) u = refl
together-is f g true true None u = refl
together-is f g true true (Some a) None = refl
together-is f g true true (Some a) (Some b) = refl

alternatives-is : (f g : Form) (b c : Bool) (o u : Chosen) → alternatives f g (as_found b o) (as_found c u) ≡ as_found (b || c) (one_side b c f g o u)
alternatives-is f g false false o u = refl
alternatives-is f g false true o None = refl
alternatives-is f g false true o (Some a) = refl
alternatives-is f g true false None u = refl
alternatives-is f g true false (Some a) u = refl
alternatives-is f g true true None u = refl
alternatives-is f g true true (Some a) None = refl
alternatives-is f g true true (Some a) (Some b) = refl

all-is : (x : Var) (b : Bool) (o : Chosen) → for_all_elements x (as_found b o) ≡ as_found b (for_all x o)
all-is x false o = refl
all-is x true None = refl
all-is x true (Some a) = refl

unless-is : (b : Bool) → unless_lacking b ≡ as_found b None
unless-is true = refl
unless-is false = refl

module _ (q : Pred) (xs : List Var) where
  literal-is : (b c : Bool) (ts : Terms)
      → cond c (cond b (found.Parts (record { cond = equations xs ts; rest = True })) found.NoGuard) found.Lacking ≡ as_found c (cond b (Some (equations xs ts, True)) None)
  literal-is b false ts = refl
  literal-is true true ts = refl
  literal-is false true ts = refl

  negated-is : (s c : Bool) (ts : Terms)
      → cond c (cond (not s) (found.Parts (record { cond = equations xs ts; rest = True })) found.NoGuard) found.Lacking ≡ as_found c (cond s None (Some (equations xs ts, True)))
  negated-is s false ts = refl
  negated-is true true ts = refl
  negated-is false true ts = refl

module _ (s : Bool) (q : Pred) (xs : List Var) where
  negation-is : (f : Form) → in_negation s q xs f ≡ as_found (has_free q f) (of_negated s q xs f)
  unfolding boxes
  negation-is True = refl
  negation-is False = refl
  negation-is (Equal a b) = refl
  negation-is (Atom p ts) = negated-is q xs s (same_pred q p) ts
  negation-is (Not' _ (one f end)) = unless-is (has_free q f)
  negation-is (And' _ (one f end) _ (one g end)) = unless-is (has_free q f || has_free q g)
  negation-is (Or' _ (one f end) _ (one g end)) = unless-is (has_free q f || has_free q g)
  negation-is (Imp' _ (one f end) _ (one g end)) = unless-is (has_free q f || has_free q g)
  negation-is (Iff' _ (one f end) _ (one g end)) = unless-is (has_free q f || has_free q g)
  negation-is (All' x _ (one f end)) = unless-is (has_free q f)
  negation-is (Ex' x _ (one f end)) = unless-is (has_free q f)
  negation-is (All2' p _ (one f end)) = unless-is (cond (hides p.num q) false (has_free q f))
  negation-is (Ex2' p _ (one f end)) = unless-is (cond (hides p.num q) false (has_free q f))

  found-is : (f : Form) → found_in s q xs f ≡ as_found (has_free q f) (parts s q xs f)
  unfolding boxes
  found-is True = refl
  found-is False = refl
  found-is (Equal a b) = refl
  found-is (Atom p ts) = literal-is q xs s (same_pred q p) ts
  found-is (Not' _ (one f end)) = negation-is f
  found-is (And' _ (one f end) _ (one g end)) =
      (λ i. together f g (found-is f i) (found-is g i)) ∙ together-is f g (has_free q f) (has_free q g) (parts s q xs f) (parts s q xs g)
  found-is (Or' _ (one f end) _ (one g end)) =
      (λ i. alternatives f g (found-is f i) (found-is g i)) ∙ alternatives-is f g (has_free q f) (has_free q g) (parts s q xs f) (parts s q xs g)
  found-is (Imp' _ (one f end) _ (one g end)) = unless-is (has_free q f || has_free q g)
  found-is (Iff' _ (one f end) _ (one g end)) = unless-is (has_free q f || has_free q g)
  found-is (All' x _ (one f end)) = ap (for_all_elements x) (found-is f) ∙ all-is x (has_free q f) (parts s q xs f)
  found-is (Ex' x _ (one f end)) = unless-is (has_free q f)
  found-is (All2' p _ (one f end)) = unless-is (cond (hides p.num q) false (has_free q f))
  found-is (Ex2' p _ (one f end)) = unless-is (cond (hides p.num q) false (has_free q f))

  -- ---- what is found is so

  abbrev pub IsFound : Form → Found → Type 0
  IsFound f found.Lacking = has_free q f ≡ false
  IsFound f (found.Parts a) = (has_free q f ≡ true) × IsGuard s q xs f a.cond a.rest
  IsFound f found.NoGuard = (has_free q f ≡ true) × ((c r : Form) → IsGuard s q xs f c r → ⊥)

  none : (a : Form × Form) → None ≡ Some a → ⊥
  none a e = cc

  says : (f : Form) (b : Bool) (o : Chosen) → has_free q f ≡ b → parts s q xs f ≡ o → IsFound f (as_found b o)
  says f false o e h = e
  says f true None e h = (e, λ c r g. none (c, r) (sym h ∙ from_chosen s q xs f (parts s q xs f) (Some (c, r)) e (reaches s q xs g)))
  says f true (Some a) e h = (e, subst (Right s q xs f) h (parts-right s q xs f e))

  pub found-says : (f : Form) → IsFound f (found_in s q xs f)
  found-says f = subst (IsFound f) (sym (found-is f)) (says f (has_free q f) (parts s q xs f) refl refl)

  -- the same of a result
  pub found-at : (f g : Form) (r t : Found) → g ≡ f → r ≡ found_in s q xs g → r ≡ t → IsFound f t
  found-at f g r t e h k = subst (IsFound f) k (subst (λ g. IsFound g r) e (subst (IsFound g) (sym h) (found-says g)))

  pub lacking-by : (f c r : Form) → has_free q f ≡ false → c ≡ False → r ≡ f → IsGuard s q xs f c r
  lacking-by f c r h e k = subst (λ c. IsGuard s q xs f c r) (sym e) (subst (λ r. IsGuard s q xs f False r) (sym k) (lacking h))
