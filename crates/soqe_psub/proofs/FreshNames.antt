-- The marks of the code say which numbers are used, and its new numbers are the least that are not.
use Rattle.std.proofs.Common.{◌≡◌, ℕ, suc, max, Bool, true, false, cond, eqb, not, ◌||◌, ◌&&◌, List, [], ◌∷◌, ◌++◌, refl, sym, ◌∙◌, ap, arith}
use Rattle.std.proofs.lemmas.Bool.{ne_eqb, or_from}
use Rattle.soqe_term.specs.declared.term.Var.{Var}
use Rattle.soqe_number.specs.Updates.{changed}
use Rattle.soqe_form.specs.declared.form.PVar.{PVar}
use Rattle.soqe_form.specs.declared.form.Form.{Form}
use Rattle.soqe_form.specs.Free.{free}
use Rattle.soqe_form.specs.FreeVars.{free_vars, is_among}
use Rattle.soqe_number.specs.Marks.{marked, Adds, IsLeastWithout}
use Rattle.soqe_form.specs.Mentions.{mentions, form_above}
use Rattle.soqe_form.specs.MentionsPreds.{mentions_pred, preds_above}
use Rattle.soqe_form.proofs.Numbers.{first-unmarked}
use Rattle.soqe_form.proofs.FreeVariables.{is_among-free_vars}
use Rattle.soqe_subst.proofs.PredRenamings.{mentions_pred-above}
use Rattle.soqe_subst.proofs.Renamings.{mentions-above}
use Rattle.soqe_psub.specs.PredSubst.{vars_above, fresh_var, fresh_pred}
use Rattle.soqe_psub.specs.Replaces.{is_own}
use Rattle.soqe_psub.proofs.NewNumbers.{is_among-above}

abbrev Marks : Type 0
Marks = List (ℕ × Bool)

own_mark : (a f : Bool) → cond a false (cond f true false) ≡ (f && not a)
own_mark true true = refl
own_mark true false = refl
own_mark false true = refl
own_mark false false = refl

-- marks on the free variables of the body, but for the parameters
pub own-marks : (xs : List Var) (b : Form) (a c d : Marks) → marked a ≡ (λ n. false)
    → marked c ≡ (λ n. cond (is_among (free_vars b) n) true (marked a n)) → marked d ≡ (λ n. cond (is_among xs n) false (marked c n)) → marked d ≡ is_own xs b
own-marks xs b a c d none free_ones params =
    params ∙ (λ i n. cond (is_among xs n) false (free_ones i n)) ∙ (λ i n. cond (is_among xs n) false (cond (is_among (free_vars b) n) true (none i n)))
    ∙ (λ i n. cond (is_among xs n) false (cond (is_among-free_vars b n i) true false)) ∙ (λ i n. own_mark (is_among xs n) (free n b) i)

or_four : (x b y f : Bool) → (f || cond y true (b || cond x true false)) ≡ (x || (b || (y || f)))
or_four true true true true = refl
or_four true true true false = refl
or_four true true false true = refl
or_four true true false false = refl
or_four true false true true = refl
or_four true false true false = refl
or_four true false false true = refl
or_four true false false false = refl
or_four false true true true = refl
or_four false true true false = refl
or_four false true false true = refl
or_four false true false false = refl
or_four false false true true = refl
or_four false false true false = refl
or_four false false false true = refl
or_four false false false false = refl

or_three : (b y f : Bool) → (f || cond y true (b || false)) ≡ (b || (y || f))
or_three b y f = or_four false b y f

-- the least number without a mark, where marks are on all that a new variable must not be
pub least-var : (xs : List Var) (b : Form) (y : Var) (f : Form) (a c d e g : Marks) (n : ℕ) → marked a ≡ (λ n. false)
    → marked c ≡ (λ n. cond (is_among xs n) true (marked a n)) → Adds (λ n. mentions n b) c d → marked e ≡ changed (marked d) y.num true → Adds (λ n. mentions n f) e g
    → IsLeastWithout (marked g) n → n ≡ fresh_var xs b y f
least-var xs b y f a c d e g n none params body binder below least =
    let used : ℕ → Bool = λ n. is_among xs n || (mentions n b || (eqb n y.num || mentions n f)) in
    let last : ℕ = max (vars_above xs) (max (form_above b) (max (suc y.num) (form_above f))) in
    let is : marked g ≡ used =
    below.is ∙ (λ i n. mentions n f || binder i n) ∙ (λ i n. mentions n f || cond (eqb n y.num) true (body.is i n))
    ∙ (λ i n. mentions n f || cond (eqb n y.num) true (mentions n b || params i n))
    ∙ (λ i n. mentions n f || cond (eqb n y.num) true (mentions n b || cond (is_among xs n) true (none i n)))
    ∙ (λ i n. or_four (is_among xs n) (mentions n b) (eqb n y.num) (mentions n f) i) in
    let at_last : used last ≡ false =
    or_from (is_among xs last) (mentions last b || (eqb last y.num || mentions last f)) (is_among-above last xs (omega arith))
    (or_from (mentions last b) (eqb last y.num || mentions last f) (mentions-above last b (omega arith))
    (or_from (eqb last y.num) (mentions last f) (ne_eqb last y.num (omega arith)) (mentions-above last f (omega arith)))) in
    first-unmarked used last g n is at_last least

-- the same of a new predicate
pub least-pred : (b : Form) (p : PVar) (f : Form) (a c d e : Marks) (n : ℕ) → marked a ≡ (λ n. false)
    → Adds (λ n. mentions_pred n b) a c → marked d ≡ changed (marked c) p.num true → Adds (λ n. mentions_pred n f) d e
    → IsLeastWithout (marked e) n → n ≡ fresh_pred b p f
least-pred b p f a c d e n none body binder below least =
    let used : ℕ → Bool = λ n. mentions_pred n b || (eqb n p.num || mentions_pred n f) in
    let last : ℕ = max (preds_above b) (max (suc p.num) (preds_above f)) in
    let is : marked e ≡ used =
    below.is ∙ (λ i n. mentions_pred n f || binder i n) ∙ (λ i n. mentions_pred n f || cond (eqb n p.num) true (body.is i n))
    ∙ (λ i n. mentions_pred n f || cond (eqb n p.num) true (mentions_pred n b || none i n))
    ∙ (λ i n. or_three (mentions_pred n b) (eqb n p.num) (mentions_pred n f) i) in
    let at_last : used last ≡ false =
    or_from (mentions_pred last b) (eqb last p.num || mentions_pred last f) (mentions_pred-above last b (omega arith))
    (or_from (eqb last p.num) (mentions_pred last f) (ne_eqb last p.num (omega arith)) (mentions_pred-above last f (omega arith))) in
    first-unmarked used last e n is at_last least

-- ---- one variable more

among_more : (q m u : Bool) (a : Bool) → cond q m (cond a m u) ≡ cond (a || q) m u
among_more true m u true = refl
among_more true m u false = refl
among_more false m u true = refl
among_more false m u false = refl

is_among-snoc : (xs : List Var) (x : Var) (n : ℕ) → is_among (xs ++ x ∷ []) n ≡ (is_among xs n || eqb n x.num)
is_among-snoc [] x n = last (eqb n x.num)
  where
    last : (b : Bool) → (b || false) ≡ b
    last true = refl
    last false = refl
is_among-snoc (y ∷ xs) x n = ap (λ c. eqb n y.num || c) (is_among-snoc xs x n) ∙ group (eqb n y.num) (is_among xs n) (eqb n x.num)
  where
    group : (a b c : Bool) → (a || (b || c)) ≡ ((a || b) || c)
    group true b c = refl
    group false b c = refl

pub mark-more : (done next : List Var) (x : Var) (mark : Bool) (a b c : Marks) → next ≡ done ++ x ∷ [] → marked b ≡ (λ n. cond (is_among done n) mark (marked a n))
    → marked c ≡ changed (marked b) x.num mark → marked c ≡ (λ n. cond (is_among next n) mark (marked a n))
mark-more done next x mark a b c e h k =
    k ∙ (λ i n. cond (eqb n x.num) mark (h i n)) ∙ (λ i n. among_more (eqb n x.num) mark (marked a n) (is_among done n) i)
    ∙ (λ i n. cond (sym (is_among-snoc done x n) i) mark (marked a n)) ∙ (λ i n. cond (is_among (sym e i) n) mark (marked a n))
