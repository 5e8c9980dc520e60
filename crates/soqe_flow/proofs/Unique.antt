-- A method has one derivation from a formula: its first block is one, and so are the value for it and the places of its signs.
use Rattle.std.proofs.Common.{◌≡◌, ℕ, List, [], ◌∷◌, ◌++◌, Option, Some, None, refl, sym, ◌∙◌, ap, subst}
use Rattle.std.specs.Prelude.{is_some, position}
use Rattle.soqe_form.specs.declared.form.Pred.TheVariants.{Bound}
use Rattle.soqe_form.specs.declared.form.Block.{Block}
use Rattle.soqe_norm.specs.Signs.{signs_of}
use Rattle.soqe_norm.specs.Valued.{value_for, first_pos, first_neg, from_one}
use Rattle.soqe_norm.proofs.Scanned.{some-any}
use Rattle.soqe_norm.proofs.Blocks.{both-is-mixed}
use Rattle.soqe_deriv.specs.declared.document.Stop.TheVariants as stop
use Rattle.soqe_deriv.specs.declared.document.Line.TheVariants as line
use Rattle.soqe_deriv.specs.declared.document.Method.TheVariants as method
use Rattle.soqe_flow.specs.declared.derivation.Wanted.TheVariants as wanted
use Rattle.soqe_dls.specs.declared.elimination.DlsEnd.TheVariants as end
use Rattle.soqe_dls.specs.Runs.{IsAnswer}
use Rattle.soqe_dls.proofs.RunUnique.{one-answer}
use Rattle.soqe_ack.specs.declared.steps.DlsStep.{DlsStep}
use Rattle.soqe_form.specs.declared.form.Form.{Form}
use Rattle.soqe_flow.specs.Ordered.{Stops, Follows, result, sign, mixed, dls, not_reached, sign_lines, after_sign, normal, closed_by, after_block, cases_lines, lost_lines}
use Rattle.soqe_flow.specs.Laws.{OneDerivation}

some-is : {A : Type 0} {a b : A} → Some a ≡ Some b → a ≡ b
some-is e = cc

none-some : {A B : Type 0} {o : Option A} {a : A} → o ≡ None → o ≡ Some a → B
none-some {o = o} {a = a} n e = let h : None ≡ Some a = sym n ∙ e in cc

one_of : {A : Type 0} {o : Option A} {a b : A} → o ≡ Some a → o ≡ Some b → a ≡ b
one_of e h = some-is (sym e ∙ h)

counted : (o : Option ℕ) → is_some (from_one o) ≡ is_some o
counted None = refl
counted (Some n) = refl

-- a block with both signs has no value
both-none : (b : Block) (i j : ℕ) → first_pos (Bound b.pred.num) b.body ≡ Some i → first_neg (Bound b.pred.num) b.body ≡ Some j → value_for b ≡ None
both-none b i j h k = both-is-mixed b
    (sym (some-any (λ s. s.pos) (signs_of (Bound b.pred.num) b.body)) ∙ sym (counted (position (λ s. s.pos) (signs_of (Bound b.pred.num) b.body))) ∙ ap is_some h)
    (sym (some-any (λ s. s.neg) (signs_of (Bound b.pred.num) b.body)) ∙ sym (counted (position (λ s. s.neg) (signs_of (Bound b.pred.num) b.body))) ∙ ap is_some k)

-- the answers for a block are one
done-parts : {ss ts : List DlsStep} {f g : Form} → end.Done ss f ≡ end.Done ts g → (ss ≡ ts) × (f ≡ g)
done-parts e = (cc, cc)

lost-parts : {ss ts : List DlsStep} {m n : ℕ} → end.NotReached ss m ≡ end.NotReached ts n → (ss ≡ ts) × (m ≡ n)
lost-parts e = (cc, cc)

done-lost : {A : Type 0} {ss ts : List DlsStep} {f : Form} {n : ℕ} → end.Done ss f ≡ end.NotReached ts n → A
done-lost e = cc

pub one-derivation : OneDerivation
one-derivation keep w f _ _ _ _ (result h) (result k) = (refl, refl)
one-derivation keep _ f _ _ _ _ (result h) (sign k q r) = none-some h k
one-derivation keep _ f _ _ _ _ (result h) (mixed k i j) = none-some h k
one-derivation keep _ f _ _ _ _ (sign h q r) (result k) = none-some k h
one-derivation keep _ f _ _ e g (sign {b = b} {v = v} {ls = ls} h q r) (sign {b = c} {v = u} {ls = ns} k p s) =
    let same : b ≡ c = one_of h k in
    let equal : v ≡ u = one_of q (ap value_for same ∙ p) in
    let rest = one-derivation keep _ (after_sign keep f b v) ls ns e g r (subst (λ x. Follows keep wanted.Sign x ns g) (sym (λ i. after_sign keep f (same i) (equal i))) s) in
    (λ i. sign_lines keep (same i) (equal i) ++ rest.0 i, rest.1)
one-derivation keep _ f _ _ _ _ (sign h q r) (mixed {b = c} {i = i} {j = j} k x y) = none-some (ap value_for (one_of h k) ∙ both-none c i j x y) q
one-derivation keep _ f _ _ _ _ (mixed h i j) (result k) = none-some k h
one-derivation keep _ f _ _ _ _ (mixed {b = b} {i = i} {j = j} h x y) (sign k q r) = none-some (ap value_for (one_of k h) ∙ both-none b i j x y) q
one-derivation keep _ f _ _ _ _ (mixed {b = b} {i = i} {j = j} h x y) (mixed {b = c} {i = l} {j = m} k s t) =
    let same : b ≡ c = one_of h k in
    let first : i ≡ l = one_of x (ap (λ b. first_pos (Bound b.pred.num) b.body) same ∙ s) in
    let second : j ≡ m = one_of y (ap (λ b. first_neg (Bound b.pred.num) b.body) same ∙ t) in
    (λ n. line.Block method.Sign (Bound (same n).pred.num) ∷ line.Stopped (stop.Mixed (first n) (second n)) ∷ line.End ∷ [], λ n. Stops (stop.Mixed (first n) (second n)))
one-derivation keep _ f _ _ _ _ (result h) (dls k a r) = none-some h k
one-derivation keep _ f _ _ _ _ (result h) (not_reached k a) = none-some h k
one-derivation keep _ f _ _ _ _ (dls h a r) (result k) = none-some k h
one-derivation keep _ f _ _ e g (dls {form = p} {b = b} {steps = ss} {ls = ls} h a r) (dls {form = q} {b = c} {steps = ts} {ls = ns} k d s) =
    let same : b ≡ c = one_of h k in
    let parts = done-parts (one-answer keep b.pred (normal keep b) (end.Done ss p) (end.Done ts q) a (subst (λ x. IsAnswer keep x.pred (normal keep x) (end.Done ts q)) (sym same) d)) in
    let rest = one-derivation keep _ (after_block keep f b (closed_by keep b p)) ls ns e g r
    (subst (λ x. Follows keep wanted.Dls x ns g) (sym (λ i. after_block keep f (same i) (closed_by keep (same i) (parts.1 i)))) s) in
    (λ i. cases_lines (same i) (normal keep (same i)) (parts.0 i) ++ line.Close (closed_by keep (same i) (parts.1 i)) ∷ rest.0 i, rest.1)
one-derivation keep _ f _ _ _ _ (dls {form = p} {b = b} {steps = ss} h a r) (not_reached {b = c} {steps = ts} {n = n} k d) =
    done-lost (one-answer keep b.pred (normal keep b) (end.Done ss p) (end.NotReached ts n) a (subst (λ x. IsAnswer keep x.pred (normal keep x) (end.NotReached ts n)) (sym (one_of h k)) d))
one-derivation keep _ f _ _ _ _ (not_reached h a) (result k) = none-some k h
one-derivation keep _ f _ _ _ _ (not_reached {b = b} {steps = ss} {n = n} h a) (dls {form = q} {b = c} {steps = ts} k d s) =
    done-lost (one-answer keep c.pred (normal keep c) (end.Done ts q) (end.NotReached ss n) d (subst (λ x. IsAnswer keep x.pred (normal keep x) (end.NotReached ss n)) (one_of h k) a))
one-derivation keep _ f _ _ _ _ (not_reached {b = b} {steps = ss} {n = m} h a) (not_reached {b = c} {steps = ts} {n = n} k d) =
    let same : b ≡ c = one_of h k in
    let parts = lost-parts (one-answer keep b.pred (normal keep b) (end.NotReached ss m) (end.NotReached ts n) a (subst (λ x. IsAnswer keep x.pred (normal keep x) (end.NotReached ts n)) (sym same) d)) in
    (λ i. cases_lines (same i) (normal keep (same i)) (parts.0 i) ++ lost_lines (parts.1 i), λ i. Stops (stop.NotReached (parts.1 i)))
