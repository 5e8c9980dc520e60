-- What the lines of a block by cases come to has the truth of the block.
--
-- The body of the block, or its negation where the quantifier is universal, is brought to its normal form and split into
-- cases; as an existential quantifier goes through a disjunction, it stands before each of them. From there on one formula of
-- the disjunction is replaced at a time, always by one of its truth: a case by itself with other numbers, and a case below its
-- quantifier, by Ackermann's lemma, by the formula of its `gives` line. In the end no quantifier is left, and for a universal
-- one the disjunction is negated.
use Rattle.std.proofs.Common.{◌≡◌, ℕ, Bool, true, false, cond, not, map, List, [], ◌∷◌, ◌++◌, Option, Some, None, refl, sym, ◌∙◌, ap, subst, append_assoc, append-nil}
use Rattle.soqe_term.specs.declared.term.Var.{Var}
use Rattle.soqe_term.specs.Sorting.{Sorting, over_bound}
use Rattle.soqe_number.proofs.Choices.{not_twice}
use Rattle.soqe_form.specs.declared.form.PVar.{PVar}
use Rattle.soqe_form.specs.declared.form.Form.{Form, All2, Ex2}
use Rattle.soqe_form.specs.declared.form.Pred.TheVariants.{Bound}
use Rattle.soqe_form.specs.declared.form.Block.{Block}
use Rattle.soqe_form.specs.Boxes.{boxes}
use Rattle.soqe_form.specs.Places.{quantified}
use Rattle.soqe_form.specs.Same.{same}
use Rattle.soqe_form.specs.Sorted.{sorted}
use Rattle.soqe_form.specs.Truth.{truth}
use Rattle.soqe_norm.specs.Apart.{IsApart}
use Rattle.soqe_norm.specs.declared.case_list.Case.{Case}
use Rattle.soqe_norm.specs.Cases.{cases_of, form_of}
use Rattle.soqe_norm.specs.Folds.{any_of, case_form}
use Rattle.soqe_norm.specs.Nnf.{nnf}
use Rattle.soqe_norm.proofs.CaseSorts.{sorted-some}
use Rattle.soqe_norm.proofs.CaseTruth.{alike-cases}
use Rattle.soqe_norm.proofs.Nnfs.{truth-nnf, sorted-nnf}
use Rattle.soqe_ack.proofs.AckedSorts.{form-is-sorted}
use Rattle.soqe_ack.proofs.AckermannCases.{ackermann}
use Rattle.soqe_deriv.specs.declared.document.Line.{Line}
use Rattle.soqe_deriv.specs.Cased.{Present, Cases, CaseStep, normal, case, ack, gives, any_for, cases_come_to}
use Rattle.soqe_deriv.proofs.Options.{some-is, none-some}
use Rattle.soqe_deriv.proofs.Meanings.{Means, means-same}
use Rattle.soqe_deriv.proofs.Disjunctions.{means-part, means-ex2, means-drawn}

-- the formula of the present case, where there is one
abbrev pub standing : Option Present → List Form
standing None = []
standing (Some c) = case_form c.vars c.conj ∷ []

-- the formulas that are given, and those of the present case and of the cases that are due, each below the quantifier
abbrev pub disjuncts : PVar → Option Present → List Case → List Form → List Form
disjuncts p present due given = given ++ map (Ex2 p) (standing present ++ map form_of due)

-- an existential quantifier over the normal form of what is split
abbrev pub target : Block → Form
target b = Ex2 b.pred (nnf (not b.exists) b.body)

-- no case is present or due, and nothing was given
pub record IsUnsplit (w : Cases) : Type 0 where
  pub present : w.present ≡ None
  pub due : w.due ≡ []
  pub given : w.given ≡ []

-- the disjunction has the truth of what is split
abbrev pub Splits : Sorting → Block → Option Present → List Case → List Form → Type 0
Splits e b present due given = Means e (any_of (disjuncts b.pred present due given)) (target b)

-- before the normal form there is nothing, and from there on the disjunction has the truth of what is split
pub record IsCased (e : Sorting) (b : Block) (w : Cases) : Type 0 where
  pub unsplit : w.normal ≡ None → IsUnsplit w
  pub splits : (f : Form) → w.normal ≡ Some f → Splits e b w.present w.due w.given

cons-not : {A B : Type 0} {xs : List A} {x : A} {ys : List A} → xs ≡ [] → xs ≡ x ∷ ys → B
cons-not {x = x} {ys = ys} n e = let h : [] ≡ x ∷ ys = sym n ∙ e in cc

-- ---- the quantifier of the block

turned : (exists : Bool) (p : PVar) (f : Form) → nnf (not exists) (cond exists (Ex2 p f) (All2 p f)) ≡ Ex2 p (nnf (not exists) f)
unfolding boxes
turned true p f = refl
turned false p f = refl

target-sorted : (e : Sorting) (b : Block) → sorted e (quantified b) ≡ true → sorted e (target b) ≡ true
target-sorted e b o = ap (sorted e) (sym (turned b.exists b.pred b.body)) ∙ sorted-nnf (not b.exists) e (quantified b) ∙ o

-- what has the truth of the existential quantifier, by the quantifier of the block
returned : (e : Sorting) (exists : Bool) (f : Form) (fs : List Form) → Means e (any_of fs) (nnf (not exists) f) → Means e (any_for exists fs) f
returned e true f fs m = record { well = m.well; alike = λ w fit. m.alike w fit ∙ truth-nnf false w f }
returned e false f fs m = record {
  well = sorted-nnf true e (any_of fs) ∙ m.well;
  alike = λ w fit. truth-nnf true w (any_of fs) ∙ ap not (m.alike w fit ∙ truth-nnf true w f) ∙ not_twice (truth w f);
}

came : (e : Sorting) (exists : Bool) (p : PVar) (t : Form) (normal : Option Form) (due : List Case) (present : Option Present) (given : List Form)
    → ((f : Form) → normal ≡ Some f → Means e (any_of (disjuncts p present due given)) t)
    → (r : Form) → cases_come_to exists normal due present given ≡ Some r → Means e (any_of given) t × (any_for exists given ≡ r)
came e exists p t None due present given m r q = none-some refl q
came e exists p t (Some f) [] None given m r q = (subst (λ fs. Means e (any_of fs) t) (append-nil given) (m f refl), some-is q)
came e exists p t (Some f) [] (Some c) given m r q = none-some refl q
came e exists p t (Some f) (c ∷ cs) present given m r q = none-some refl q

-- what is left once no case is due has the truth of the block
pub cased-comes : (e : Sorting) (b : Block) (w : Cases) → IsCased e b w → (r : Form) → cases_come_to b.exists w.normal w.due w.present w.given ≡ Some r → Means e r (quantified b)
cased-comes e b w h r q =
    let c = came e b.exists b.pred (target b) w.normal w.due w.present w.given h.splits r q in
    subst (λ f. Means e f (quantified b)) c.1
    (returned e b.exists (quantified b) w.given (subst (Means e (any_of w.given)) (sym (turned b.exists b.pred b.body)) c.0))

-- ---- the lines

module _ (e : Sorting) (b : Block) where
  -- of a formula that was split, with the number of its cases
  split : (keep : List ℕ) (f made : Form) → sorted e (quantified b) ≡ true → same f (nnf (not b.exists) b.body) ≡ true → IsApart keep f made → Splits e b None (cases_of (Bound b.pred.num) made) []
  unfolding boxes
  split keep f made o q a =
      let under = over_bound e b.pred.num b.pred.args in
      let here = means-same under f (nnf (not b.exists) b.body) (nnf (not b.exists) b.body) q (record { well = target-sorted e b o; alike = λ w fit. refl }) in
      means-drawn e b.pred (map form_of (cases_of (Bound b.pred.num) made)) (nnf (not b.exists) b.body) (record {
        well = sorted-some keep f made a (Bound b.pred.num) under here.well;
        alike = λ w fit. alike-cases keep f made a (Bound b.pred.num) under w fit ∙ here.alike w fit;
      })

  -- the first case that is due becomes the present one, with other numbers
  presented : (c : Case) (cs : List Case) (given : List Form) (vars : List Var) (fs : List Form) (s : Option Bool) → same (case_form vars fs) (form_of c) ≡ true
      → Splits e b None (c ∷ cs) given → Splits e b (Some (record { vars = vars; conj = fs; sign = s })) cs given
  unfolding boxes
  presented c cs given vars fs s q m = means-part e given (map (Ex2 b.pred) (map form_of cs)) (Ex2 b.pred (form_of c)) (Ex2 b.pred (case_form vars fs)) (target b)
      (λ o. means-ex2 e b.pred (case_form vars fs) (form_of c)
      (means-same (over_bound e b.pred.num b.pred.args) (case_form vars fs) (form_of c) (form_of c) q (record { well = o; alike = λ w fit. refl })))
      m

  -- the present case becomes the formula of its `gives` line
  cleared : (c : Present) (cs : List Case) (given : List Form) (f : Form) → (sorted e (Ex2 b.pred (case_form c.vars c.conj)) ≡ true → Means e f (Ex2 b.pred (case_form c.vars c.conj)))
      → Splits e b (Some c) cs given → Splits e b None cs (given ++ f ∷ [])
  cleared c cs given f k m = subst (λ fs. Means e (any_of fs) (target b)) (sym (append_assoc given (f ∷ []) (map (Ex2 b.pred) (map form_of cs))))
      (means-part e given (map (Ex2 b.pred) (map form_of cs)) (Ex2 b.pred (case_form c.vars c.conj)) f (target b) k m)

  -- each line keeps what the cases have come to
  pub keeps-cased : {keep : List ℕ} {w v : Cases} {l : Line} → sorted e (quantified b) ≡ true → IsCased e b w → CaseStep keep b w l v → IsCased e b v
  keeps-cased {keep = keep} {w = w} o h (normal {f = f} {made = made} n q a) = record {
    unsplit = λ u. none-some u refl;
    splits = λ g u. let k = h.unsplit n in
        subst (λ x. Splits e b x (cases_of (Bound b.pred.num) made) w.given) (sym k.present)
        (subst (Splits e b None (cases_of (Bound b.pred.num) made)) (sym k.given) (split keep f made o q a));
  }
  keeps-cased {w = w} o h (case {c = c} {cs = cs} {f = f} {vars = vars} {fs = fs} p d n q i lv lc) = record {
    unsplit = λ u. cons-not (h.unsplit u).due d;
    splits = λ g u. presented c cs w.given vars fs None (ap (λ x. same x (form_of c)) (sym i) ∙ q)
        (subst (λ cs. Splits e b None cs w.given) d (subst (λ x. Splits e b x w.due w.given) p (h.splits g u)));
  }
  keeps-cased {w = w} o h (ack {c = c} p s a k) = record {
    unsplit = λ u. none-some (h.unsplit u).present p;
    splits = λ g u. subst (λ x. Splits e b x w.due w.given) p (h.splits g u);
  }
  keeps-cased {keep = keep} {w = w} o h (gives {c = c} {s = s} {params = params} {value = value} {form = form} {f = f} p i a q) = record {
    unsplit = λ u. none-some (h.unsplit u).present p;
    splits = λ g u. cleared c w.due w.given f
        (λ o. means-same e f form (Ex2 b.pred (case_form c.vars c.conj)) q (record {
          well = form-is-sorted s b.pred keep c.vars c.conj params value form a e o;
          alike = ackermann s b.pred keep c.vars c.conj params value form a e o;
        }))
        (subst (λ x. Splits e b x w.due w.given) p (h.splits g u));
  }
