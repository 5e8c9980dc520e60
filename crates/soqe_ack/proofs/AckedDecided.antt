-- The try of a sign succeeds or a conjunct stands in its way, and never both; what it comes to is determined.
use Rattle.std.proofs.Common.{◌≡◌, ℕ, zero, suc, max, ◌+◌, ◌<◌, ◌≤◌, Bool, true, false, eqb, not, ◌||◌, List, [], ◌∷◌, refl, sym, ◌∙◌, ap, subst, arith, ◌⊎◌, inl, inr, ⊎_elim}
use Rattle.std.specs.List.{list_any, All, Contains}
use Rattle.std.proofs.lemmas.Bool.{ne_eqb, eq-eqb, or_from, both_ways, eqb-true}
use Rattle.std.proofs.lemmas.List.Elements.{All-nil, All-cons, All-contains, Contains-push, Contains-append_left, Contains-append_right}
use Rattle.soqe_term.specs.declared.term.Var.{Var}
use Rattle.soqe_number.specs.Unused.{member}
use Rattle.soqe_number.proofs.Choices.{bool_cases}
use Rattle.soqe_form.specs.declared.form.Pred.{Pred}
use Rattle.soqe_form.specs.declared.form.Pred.TheVariants.{Bound}
use Rattle.soqe_form.specs.declared.form.PVar.{PVar}
use Rattle.soqe_form.specs.declared.form.Form.{Form}
use Rattle.soqe_form.specs.FreeVars.{is_among}
use Rattle.soqe_form.specs.Mentions.{mentions, form_above, depth}
use Rattle.soqe_subst.proofs.Renamings.{mentions-above}
use Rattle.soqe_norm.specs.Apart.{IsLeast}
use Rattle.soqe_norm.specs.Folds.{case_form}
use Rattle.soqe_norm.specs.Rises.{has_sign}
use Rattle.soqe_psub.specs.PredSubst.{vars_above, pred_sub}
use Rattle.soqe_psub.proofs.NewNumbers.{is_among-above}
use Rattle.soqe_ack.specs.Acked.{is_used, AreParameters, AreConditions, no_more, no_guard, guard, value_of, AreCleared, all_done, replaced, rest, IsAcked, IsStuck}
use Rattle.soqe_ack.specs.AckedLaws.{HasTry}
use Rattle.soqe_ack.specs.GuardLaws.{HasParts}
use Rattle.soqe_ack.specs.Guards.{IsGuard}
use Rattle.soqe_ack.proofs.GuardOf.{unique, decided}
use Rattle.soqe_ack.proofs.GuardSigns.{any_parameters}
use Rattle.soqe_ack.proofs.ParameterNumbers.{one-parameters}
use Rattle.soqe_psub.proofs.PredSubs.{is_pred_sub, pred_sub-unique}

-- ---- parameters

record Least (p : ℕ → Bool) : Type 0 where
  number : ℕ
  is : IsLeast p number

least_from : (p : ℕ → Bool) (k n : ℕ) → ((m : ℕ) → m < n → p m ≡ false) → p (n + k) ≡ true → Least p
least_from p zero n below h = let e : n + 0 ≡ n = omega arith in record { number = n; is = record { passes = subst (λ m. p m ≡ true) e h; least = below } }
least_from p (suc k) n below h =
    bool_cases (λ b. p n ≡ b → Least p) (p n) (λ _ e. record { number = n; is = record { passes = e; least = below } })
    (λ _ e. let s : n + suc k ≡ suc n + k = omega arith in least_from p k (suc n) (λ m l. further m l e) (subst (λ m. p m ≡ true) s h)) refl
  where
    further : (m : ℕ) → m < suc n → p n ≡ false → p m ≡ false
    further m l e = bool_cases (λ b. eqb m n ≡ b → p m ≡ false) (eqb m n) (λ _ q. ap p (eqb-true m n q) ∙ e)
        (λ _ q. let ne : m ≡ n → ⊥ = λ i. both_ways (eqb m n) q (eq-eqb m n i) in below m (omega arith)) refl

record Parameters (used : ℕ → Bool) (sorts : List ℕ) : Type 0 where
  vars : List Var
  are : AreParameters used sorts vars

some_parameters : (sorts : List ℕ) (used : ℕ → Bool) (last : ℕ) → ((n : ℕ) → last ≤ n → used n ≡ false) → Parameters used sorts
some_parameters [] used last h = record { vars = []; are = tt }
some_parameters (s ∷ sorts) used last h =
    let l : Least (λ m. not (used m)) = least_from (λ m. not (used m)) last 0 (λ m i. absurd (omega arith)) (ap not (h (0 + last) (omega arith))) in
    let more : Parameters (λ m. eqb m l.number || used m) sorts =
    some_parameters sorts (λ m. eqb m l.number || used m) (max (suc l.number) last) (λ n i. or_from (eqb n l.number) (used n) (ne_eqb n l.number (omega arith)) (h n (omega arith))) in
    record { vars = record { num = l.number; sort = s } ∷ more.vars; are = (refl, l.is, more.are) }

abbrev nums_above : List ℕ → ℕ
nums_above [] = 0
nums_above (n ∷ ns) = max (suc n) (nums_above ns)

member-above : (n : ℕ) (ns : List ℕ) → nums_above ns ≤ n → member n ns ≡ false
member-above n [] h = refl
member-above n (m ∷ ns) h = or_from (eqb n m) (member n ns) (ne_eqb n m (omega arith)) (member-above n ns (omega arith))

abbrev forms_above : List Form → ℕ
forms_above [] = 0
forms_above (f ∷ fs) = max (form_above f) (forms_above fs)

any-above : (n : ℕ) (fs : List Form) → forms_above fs ≤ n → list_any (λ f. mentions n f) fs ≡ false
any-above n [] h = refl
any-above n (f ∷ fs) h = or_from (mentions n f) (list_any (λ f. mentions n f) fs) (mentions-above n f (omega arith)) (any-above n fs (omega arith))

parameters-exist : (keep : List ℕ) (vars : List Var) (fs : List Form) (sorts : List ℕ) → Parameters (is_used keep vars fs) sorts
parameters-exist keep vars fs sorts =
    some_parameters sorts (is_used keep vars fs) (max (nums_above keep) (max (vars_above vars) (forms_above fs)))
    (λ n h. or_from (member n keep) (is_among vars n || list_any (λ f. mentions n f) fs) (member-above n keep (omega arith))
    (or_from (is_among vars n) (list_any (λ f. mentions n f) fs) (is_among-above n vars (omega arith)) (any-above n fs (omega arith))))

-- ---- conditions

module _ (s : Bool) (q : Pred) (xs : List Var) where
  record Conditions (fs : List Form) : Type 0 where
    conditions : List Form
    are : AreConditions s q xs fs conditions

  one_sign : (f : Form) (fs : List Form) (b : Bool) → has_sign s q f ≡ b → Conditions fs → (b ≡ true → HasParts s q xs f) → Conditions (f ∷ fs)
  one_sign f fs true h k g = let p = g refl in record { conditions = p.condition ∷ k.conditions; are = guard h p.is k.are }
  one_sign f fs false h k g = record { conditions = k.conditions; are = no_guard h k.are }

  -- a conjunct in the way, at the head
  in_way : (f : Form) (fs : List Form) → has_sign s q f ≡ true → ((c r : Form) → IsGuard s q xs f c r → ⊥) → IsStuck s q (f ∷ fs)
  in_way f fs h n = record {
    conjunct = f;
    within = Contains-append_left (f ∷ []) fs f (Contains-push [] f);
    has = h;
    none = λ ys c r g. let p = any_parameters s q ys xs g in n p.condition p.rest p.is;
  }

  further : (f : Form) (fs : List Form) → IsStuck s q fs → IsStuck s q (f ∷ fs)
  further f fs t = record { conjunct = t.conjunct; within = Contains-append_right (f ∷ []) fs t.conjunct t.within; has = t.has; none = t.none }

  head : (f : Form) (fs : List Form) (b : Bool) → has_sign s q f ≡ b → Conditions fs → Conditions (f ∷ fs) ⊎ IsStuck s q (f ∷ fs)
  head f fs false h k = inl (one_sign f fs false h k (λ e. absurd (both_ways false refl e)))
  head f fs true h k = ⊎_elim (λ p. inl (one_sign f fs true h k (λ _. p))) (λ n. inr (in_way f fs h n)) (decided s q xs f)

  conditions-or : (fs : List Form) → Conditions fs ⊎ IsStuck s q fs
  conditions-or [] = inl (record { conditions = []; are = no_more })
  conditions-or (f ∷ fs) = ⊎_elim (λ k. head f fs (has_sign s q f) refl k) (λ t. inr (further f fs t)) (conditions-or fs)

  conditions-one : {fs cs ds : List Form} → AreConditions s q xs fs cs → AreConditions s q xs fs ds → cs ≡ ds
  conditions-one no_more no_more = refl
  conditions-one (no_guard _ a) (no_guard _ b) = conditions-one a b
  conditions-one (no_guard {f = f} n _) (guard h _ _) = absurd (both_ways (has_sign s q f) n h)
  conditions-one (guard {f = f} h _ _) (no_guard n _) = absurd (both_ways (has_sign s q f) n h)
  conditions-one (guard _ g a) (guard _ h b) = λ i. (unique s q xs g h).0 i ∷ conditions-one a b i

  record Cleared (value : Form) (fs : List Form) : Type 0 where
    conjuncts : List Form
    are : AreCleared s q xs value fs conjuncts

  clear : (value : Form) {fs cs : List Form} → AreConditions s q xs fs cs → Cleared value fs
  clear value no_more = record { conjuncts = []; are = all_done }
  clear value (no_guard {f = f} n a) =
      let k = clear value a in record { conjuncts = pred_sub (depth f) q xs value f ∷ k.conjuncts; are = replaced n (is_pred_sub q xs value f) k.are }
  clear value (guard {r = r} h g a) = let k = clear value a in record { conjuncts = r ∷ k.conjuncts; are = rest h g k.are }

  cleared-one : (value : Form) {fs gs hs : List Form} → AreCleared s q xs value fs gs → AreCleared s q xs value fs hs → gs ≡ hs
  cleared-one value all_done all_done = refl
  cleared-one value (replaced {f = f} {g = g} _ a k) (replaced {g = h} _ b l) = λ i. pred_sub-unique q xs value f g h a b i ∷ cleared-one value k l i
  cleared-one value (replaced {f = f} n _ _) (rest h _ _) = absurd (both_ways (has_sign s q f) n h)
  cleared-one value (rest {f = f} h _ _) (replaced n _ _) = absurd (both_ways (has_sign s q f) n h)
  cleared-one value (rest _ g k) (rest _ h l) = λ i. (unique s q xs g h).1 i ∷ cleared-one value k l i

  -- a conjunct with the sign is a guard
  abbrev Guarded : Form → Type 0
  Guarded f = has_sign s q f ≡ true → HasParts s q xs f

  all-guarded : {fs cs : List Form} → AreConditions s q xs fs cs → All Guarded fs
  all-guarded no_more = All-nil Guarded
  all-guarded (no_guard {f = f} {fs = fs} n k) = All-cons Guarded f fs (λ h. absurd (both_ways (has_sign s q f) n h)) (all-guarded k)
  all-guarded (guard {f = f} {c = c} {r = r} {fs = fs} _ g k) = All-cons Guarded f fs (λ h. record { condition = c; rest = r; is = g }) (all-guarded k)

  guarded : {fs cs : List Form} → AreConditions s q xs fs cs → (f : Form) → Contains fs f → has_sign s q f ≡ true → HasParts s q xs f
  guarded {fs = fs} k f w h = All-contains Guarded fs f (all-guarded k) w h

-- ---- the try

pub acked-or-stuck : (s : Bool) (p : PVar) (keep : List ℕ) (vars : List Var) (fs : List Form) → HasTry s p keep vars fs ⊎ IsStuck s (Bound p.num) fs
acked-or-stuck s p keep vars fs =
    let ps : Parameters (is_used keep vars fs) p.args = parameters-exist keep vars fs p.args in
    ⊎_elim (λ k. inl (found ps k)) (λ t. inr t) (conditions-or s (Bound p.num) ps.vars fs)
  where
    found : (ps : Parameters (is_used keep vars fs) p.args) → Conditions s (Bound p.num) ps.vars fs → HasTry s p keep vars fs
    found ps k =
        let c = clear s (Bound p.num) ps.vars (value_of s k.conditions) k.are in
        record {
          params = ps.vars;
          value = value_of s k.conditions;
          form = case_form vars c.conjuncts;
          is = record { parameters = ps.are; conditions = k.conditions; conditioned = k.are; is_value = refl; conjuncts = c.conjuncts; cleared = c.are; is_form = refl };
        }

pub not-both : (s : Bool) (p : PVar) (keep : List ℕ) (vars : List Var) (fs : List Form) (params : List Var) (value form : Form)
    → IsAcked s p keep vars fs params value form → IsStuck s (Bound p.num) fs → ⊥
not-both s p keep vars fs params value form a t =
    let g = guarded s (Bound p.num) params a.conditioned t.conjunct t.within t.has in t.none params g.condition g.rest g.is

pub acked-one : (s : Bool) (p : PVar) (keep : List ℕ) (vars : List Var) (fs : List Form) (xs ys : List Var) (v w f g : Form)
    → IsAcked s p keep vars fs xs v f → IsAcked s p keep vars fs ys w g → (xs ≡ ys) × (v ≡ w) × (f ≡ g)
acked-one s p keep vars fs xs ys v w f g a b =
    let e : xs ≡ ys = one-parameters (is_used keep vars fs) p.args xs ys a.parameters b.parameters in
    let cs : a.conditions ≡ b.conditions = conditions-one s (Bound p.num) xs a.conditioned (subst (λ zs. AreConditions s (Bound p.num) zs fs b.conditions) (sym e) b.conditioned) in
    let k : v ≡ w = a.is_value ∙ ap (value_of s) cs ∙ sym b.is_value in
    let gs : a.conjuncts ≡ b.conjuncts =
    cleared-one s (Bound p.num) xs v a.cleared
    (subst (λ u. AreCleared s (Bound p.num) xs u fs b.conjuncts) (sym k) (subst (λ zs. AreCleared s (Bound p.num) zs w fs b.conjuncts) (sym e) b.cleared)) in
    (e, k, a.is_form ∙ ap (case_form vars) gs ∙ sym b.is_form)
