-- What is known of the formula behind a chain of quantifiers stays right while they are put back.
use Rattle.std.proofs.Common.{◌≡◌, ℕ, suc, ◌+◌, ◌<◌, ◌≤◌, Bool, true, false, cond, eqb, ◌||◌, List, [], ◌∷◌, ◌++◌, length, length-append, Some, refl, sym, ◌∙◌, ap, subst, arith}
use Rattle.std.specs.Prelude.{slice_get}
use Rattle.std.specs.Option.{option_map}
use Rattle.std.proofs.lemmas.Bool.{eqb-true, eqb-false}
use Rattle.std.proofs.lemmas.Option.{slice_get_within}
use Rattle.soqe_number.specs.Updates.{changed}
use Rattle.soqe_term.specs.declared.term.Var.{Var}
use Rattle.soqe_number.proofs.Choices.{by_cases, bool_cases}
use Rattle.soqe_term.proofs.Worlds.{changed-at}
use Rattle.soqe_number.proofs.Slices.{slice_get-append, slice_get-last}
use Rattle.soqe_number.specs.Counts.{counted}
use Rattle.soqe_number.specs.Marks.{marked, Adds}
use Rattle.soqe_form.specs.Free.{free}
use Rattle.soqe_form.specs.declared.form.Form.{Form, All, Ex}
use Rattle.soqe_form.specs.Boxes.{boxes}
use Rattle.soqe_form.proofs.SameCases.{never}
use Rattle.soqe_form.specs.declared.quantifiers.Quantifier.{Quantifier}
use Rattle.soqe_simp.specs.declared.known.Known.{Known}
use Rattle.soqe_simp.specs.Conjuncts.{around}
use Rattle.soqe_simp.specs.Ready.{IsSimple}
use Rattle.soqe_simp.specs.Simplified.{simplify}
use Rattle.soqe_form.specs.Quantifiers.{quantified}
use Rattle.soqe_simp.specs.Known.{IsPlaceOf, ArePlaces, Learns, Passes, HasWithin, Knows, PutsBack}
use Rattle.soqe_simp.proofs.RowForms.{Some-is}
use Rattle.soqe_simp.proofs.Simplifies.{simplify-keeps}
use Rattle.soqe_simp.proofs.Sided.{within-body, side-none, not_condition-none, imp_condition-none}
use Rattle.soqe_simp.proofs.Quantified.{free-quantified, quantified-stays, quantified-goes}

-- ---- the places of the quantifiers

last-place : (old : ℕ → ℕ) (i x : ℕ) → ((m : ℕ) → old m ≤ i) → IsPlaceOf (changed old x (i + 1)) i x
last-place old i x most = record {
  least = subst (λ p. i < p) (sym (changed-at old x (i + 1))) (omega (arith));
  only = λ m e. bool_cases (λ b. eqb m x ≡ b → cond b (i + 1) (old m) ≡ suc i → m ≡ x) (eqb m x) (λ d _ _. eqb-true m x d)
      (λ d _ g. absurd (omega (arith, g, most m))) refl e;
}

kept-place : (old : ℕ → ℕ) (i x k n : ℕ) → k < i → IsPlaceOf old k n → IsPlaceOf (changed old x (i + 1)) k n
kept-place old i x k n l h = record {
  least = by_cases (λ p. k < p) (eqb n x) (i + 1) (old n) (λ e. omega (arith, l)) (λ e. h.least);
  only = λ m e. bool_cases (λ b. cond b (i + 1) (old m) ≡ suc k → m ≡ n) (eqb m x) (λ _ g. absurd (omega (arith, g, l))) (λ _ g. h.only m g) e;
}

-- the place of one more quantifier is set
pub places-more : (chain : List Quantifier) (i : ℕ) (q : Quantifier) (old new : ℕ → ℕ) → slice_get chain i ≡ Some q → new ≡ changed old q.variable.num (i + 1) → ArePlaces i chain old
    → ArePlaces (i + 1) chain new
places-more chain i q old new at made h =
    subst (ArePlaces (i + 1) chain) (sym made) (record {
      most = λ m. by_cases (λ p. p ≤ i + 1) (eqb m q.variable.num) (i + 1) (old m) (λ e. omega (arith)) (λ e. omega (arith, h.most m));
      each = λ k p l e. bool_cases (λ b. eqb k i ≡ b → IsPlaceOf (changed old q.variable.num (i + 1)) k p.variable.num) (eqb k i)
          (λ d _.
          let here : k ≡ i = eqb-true k i d in
          let same : q.variable.num ≡ p.variable.num = ap (λ p. p.variable.num) (Some-is (sym at ∙ ap (slice_get chain) (sym here) ∙ e)) in
          subst (λ j. IsPlaceOf (changed old q.variable.num (i + 1)) j p.variable.num) (sym here)
          (subst (IsPlaceOf (changed old q.variable.num (i + 1)) i) same (last-place old i q.variable.num h.most)))
          (λ d _. let ne : k ≡ i → ⊥ = eqb-false k i d in kept-place old i q.variable.num k p.variable.num (omega arith) (h.each k p (omega arith) e)) refl;
    })

pub places-none : (chain : List Quantifier) (place : ℕ → ℕ) → place ≡ (λ n. 0) → ArePlaces 0 chain place
places-none chain place e = record {
  most = λ m. omega (arith, ap (λ p. p m) e);
  each = λ k q l h. absurd (omega (arith, l));
}

-- each quantifier of the chain has its place
abbrev pub EachHasPlace : List Quantifier → (ℕ → ℕ) → Type 0
EachHasPlace qs place = (k : ℕ) (q : Quantifier) → slice_get qs k ≡ Some q → IsPlaceOf place k q.variable.num

pub each-place : (qs : List Quantifier) (place : ℕ → ℕ) → ArePlaces (length qs) qs place → EachHasPlace qs place
each-place qs place h k q e = h.each k q (slice_get_within qs k q e) e

pub each-popped : (qs : List Quantifier) (q : Quantifier) (place : ℕ → ℕ) → EachHasPlace (qs ++ q ∷ []) place → EachHasPlace qs place
each-popped qs q place h k p e = h k p (slice_get-append qs (q ∷ []) k p e)

pub last-popped : (qs : List Quantifier) (q : Quantifier) (place : ℕ → ℕ) → EachHasPlace (qs ++ q ∷ []) place → IsPlaceOf place (length qs) q.variable.num
last-popped qs q place h = h (length qs) q (slice_get-last qs q)

-- ---- what is known

-- it was learned
pub knows-learned : (k : ℕ) (place : ℕ → ℕ) (known : Known) (f : Form) → counted known.places ≡ place → Learns place known f → ((n : ℕ) → free n f ≡ true → place n ≤ k) → Knows k known f
knows-learned k place known f same h l = record {
  free = h.free;
  placed = λ n o. subst (λ p. p n ≤ k) (sym same) (l n o);
  sides = λ x ys m w. side-none place ys x f (ap (λ g. g x.num) (sym h.sides) ∙ m) (subst (λ p. HasWithin p x.num f ys) same w);
  not_conditions = λ x ys m w. not_condition-none place ys x f (ap (λ g. g x.num) (sym h.conditions) ∙ m) (subst (λ p. HasWithin p x.num f ys) same w);
  imp_conditions = λ x ys m w. imp_condition-none place ys x f (ap (λ g. g x.num) (sym h.conditions) ∙ m) (subst (λ p. HasWithin p x.num f ys) same w);
}

-- a number without the greatest place has a smaller one
placed-less : (place : ℕ → ℕ) (k n x : ℕ) → IsPlaceOf place k x → (n ≡ x → ⊥) → place n ≤ suc k → place n ≤ k
placed-less place k n x p ne l =
    bool_cases (λ b. eqb (place n) (suc k) ≡ b → place n ≤ k) (eqb (place n) (suc k)) (λ e _. absurd (ne (p.only n (eqb-true (place n) (suc k) e))))
    (λ e _. let other : place n ≡ suc k → ⊥ = eqb-false (place n) (suc k) e in omega arith) refl

-- what is free behind a quantifier, and what is free with it in front
free-inside : (n x : ℕ) (b : Bool) → cond (eqb n x) false b ≡ true → (n ≡ x → ⊥) × (b ≡ true)
free-inside n x b h = bool_cases (λ c. eqb n x ≡ c → cond c false b ≡ true → (n ≡ x → ⊥) × (b ≡ true)) (eqb n x) (λ e _ o. never o) (λ e _ o. (eqb-false n x e, o)) refl h

-- the quantifier was put in front
knows-all : (k : ℕ) (x : Var) (old new : Known) (f : Form) → Passes (record { universal = true; variable = x }) old new → IsPlaceOf (counted old.places) k x.num → Knows (suc k) old f → Knows k new (All x f)
unfolding boxes
knows-all k x old new f p at h = record {
  free = p.free ∙ ap (λ g. changed g x.num false) h.free;
  placed = λ n o. let inside = free-inside n x.num (free n f) o in
      subst (λ q. q n ≤ k) (sym p.places) (placed-less (counted old.places) k n x.num at inside.0 (h.placed n inside.1));
  sides = λ z ys m w. refl;
  not_conditions = λ z ys m w. ap (option_map (around (λ r. All x r)))
      (h.not_conditions z (x.num ∷ ys) (sym (ap (λ g. g z.num) (p.conditions refl)) ∙ m) (within-body (counted old.places) z x f ys (subst (λ q. HasWithin q z.num (All x f) ys) p.places w)));
  imp_conditions = λ z ys m w. ap (option_map (around (λ r. All x r)))
      (h.imp_conditions z (x.num ∷ ys) (sym (ap (λ g. g z.num) (p.conditions refl)) ∙ m) (within-body (counted old.places) z x f ys (subst (λ q. HasWithin q z.num (All x f) ys) p.places w)));
}

knows-ex : (k : ℕ) (x : Var) (old new : Known) (f : Form) → Passes (record { universal = false; variable = x }) old new → IsPlaceOf (counted old.places) k x.num → Knows (suc k) old f → Knows k new (Ex x f)
unfolding boxes
knows-ex k x old new f p at h = record {
  free = p.free ∙ ap (λ g. changed g x.num false) h.free;
  placed = λ n o. let inside = free-inside n x.num (free n f) o in
      subst (λ q. q n ≤ k) (sym p.places) (placed-less (counted old.places) k n x.num at inside.0 (h.placed n inside.1));
  sides = λ z ys m w. ap (option_map (around (λ r. Ex x r)))
      (h.sides z (x.num ∷ ys) (sym (ap (λ g. g z.num) (p.sides refl)) ∙ m) (within-body (counted old.places) z x f ys (subst (λ q. HasWithin q z.num (Ex x f) ys) p.places w)));
  not_conditions = λ z ys m w. refl;
  imp_conditions = λ z ys m w. refl;
}

knows-either : (b : Bool) (k : ℕ) (x : Var) (old new : Known) (f : Form) → Passes (record { universal = b; variable = x }) old new → IsPlaceOf (counted old.places) k x.num → Knows (suc k) old f
    → Knows k new (cond b (All x f) (Ex x f))
knows-either true k x old new f p at h = knows-all k x old new f p at h
knows-either false k x old new f p at h = knows-ex k x old new f p at h

pub knows-passed : (q : Quantifier) (k : ℕ) (old new : Known) (f : Form) → Passes q old new → IsPlaceOf (counted old.places) k q.variable.num → Knows (suc k) old f → Knows k new (quantified q f)
knows-passed q k old new f p at h = knows-either q.universal k q.variable old new f p at h

-- ---- one quantifier is put back

-- its variable is not free
pub puts-none : (q : Quantifier) (f : Form) (known : Known) → IsSimple f → marked known.free q.variable.num ≡ false → PutsBack q f known known f
puts-none q f known s m = record {
  places = refl;
  knows = λ k at h. record {
    free = h.free;
    placed = λ n o. placed-less (counted known.places) k n q.variable.num at
        (λ e. never (sym m ∙ ap (λ g. g q.variable.num) h.free ∙ ap (λ v. free v f) (sym e) ∙ o)) (h.placed n o);
    sides = h.sides;
    not_conditions = h.not_conditions;
    imp_conditions = h.imp_conditions;
  };
  simple = λ k at h. quantified-goes q f s (sym (ap (λ g. g q.variable.num) h.free) ∙ m);
}

-- nothing that is free stands further in than the innermost quantifier
none-within : (k : ℕ) (x : ℕ) (known : Known) (f : Form) → IsPlaceOf (counted known.places) k x → Knows (suc k) known f → HasWithin (counted known.places) x f []
none-within k x known f at h m o l = absurd (omega (arith, l, at.least, h.placed m o))

-- its variable is free, and no equation may define it
pub puts-passed : (q : Quantifier) (f : Form) (old new : Known) (g : Form) → IsSimple f → marked old.free q.variable.num ≡ true
    → cond q.universal (marked old.conditions q.variable.num) (marked old.sides q.variable.num) ≡ false → Passes q old new → g ≡ quantified q f → PutsBack q f old new g
puts-passed q f old new g s m none p e = record {
  places = p.places;
  knows = λ k at h. subst (Knows k new) (sym e) (knows-passed q k old new f p at h);
  simple = λ k at h. e ∙ quantified-stays q f s (sym (ap (λ g. g q.variable.num) h.free) ∙ m)
      (λ u. h.sides q.variable [] (ap (λ b. cond b (marked old.conditions q.variable.num) (marked old.sides q.variable.num)) (sym u) ∙ none) (none-within k q.variable.num old f at h))
      (λ u. let unmarked = ap (λ b. cond b (marked old.conditions q.variable.num) (marked old.sides q.variable.num)) (sym u) ∙ none in (
        h.not_conditions q.variable [] unmarked (none-within k q.variable.num old f at h),
        h.imp_conditions q.variable [] unmarked (none-within k q.variable.num old f at h),
      ));
}

-- no row applied
pub puts-settled : (q : Quantifier) (f : Form) (old new : Known) (g : Form) → Passes q old new → g ≡ quantified q f → g ≡ simplify (quantified q f) → PutsBack q f old new g
puts-settled q f old new g p e made = record {
  places = p.places;
  knows = λ k at h. subst (Knows k new) (sym e) (knows-passed q k old new f p at h);
  simple = λ k at h. made;
}

-- a row gave another formula, and it was learned
pub puts-learned : (q : Quantifier) (f : Form) (old new : Known) (g : Form) → counted new.places ≡ counted old.places → Learns (counted old.places) new g → g ≡ simplify (quantified q f) → PutsBack q f old new g
puts-learned q f old new g same l made = record {
  places = same;
  knows = λ k at h. knows-learned k (counted old.places) new g same l
      (λ n o.
      let inside = free-inside n q.variable.num (free n f)
      (sym (free-quantified q f n) ∙ (simplify-keeps (quantified q f)).free n (subst (λ a. free n a ≡ true) made o)) in
      placed-less (counted old.places) k n q.variable.num at inside.0 (h.placed n inside.1));
  simple = λ k at h. made;
}

-- ---- marks that are made anew

or_none : (b : Bool) → (b || false) ≡ b
or_none true = refl
or_none false = refl

pub marks-anew : (p : ℕ → Bool) (old new : List (ℕ × Bool)) → Adds p old new → marked old ≡ (λ n. false) → marked new ≡ p
marks-anew p old new h e = h.is ∙ (λ i n. p n || e i n) ∙ (λ i n. or_none (p n) i)

-- ---- the last quantifier of a chain is put back

pub last-knows : (chain qs : List Quantifier) (q : Quantifier) (known : Known) (f : Form) → chain ≡ qs ++ q ∷ [] → Knows (length chain) known f → Knows (suc (length qs)) known f
last-knows chain qs q known f e h =
    let count : length chain ≡ suc (length qs) = omega (arith, ap length e, length-append qs (q ∷ [])) in
    subst (λ n. Knows n known f) count h

pub last-place_of : (chain qs : List Quantifier) (q : Quantifier) (place : ℕ → ℕ) → chain ≡ qs ++ q ∷ [] → EachHasPlace chain place → IsPlaceOf place (length qs) q.variable.num
last-place_of chain qs q place e h = last-popped qs q place (subst (λ c. EachHasPlace c place) e h)

pub others-place : (chain qs : List Quantifier) (q : Quantifier) (old new : ℕ → ℕ) → chain ≡ qs ++ q ∷ [] → new ≡ old → EachHasPlace chain old → EachHasPlace qs new
others-place chain qs q old new e same h = subst (EachHasPlace qs) (sym same) (each-popped qs q old (subst (λ c. EachHasPlace c old) e h))
