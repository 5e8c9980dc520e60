-- No quantifier of a predicate is new in the formula of an answer: the cases have none where the normal form has none, a try
-- brings none in, and the answer joins what the tries gave.
use Rattle.std.proofs.Common.{◌≡◌, ℕ, Bool, false, List, refl, sym, ◌∙◌, ap}
use Rattle.std.specs.List.{list_any, AllByRecursion}
use Rattle.std.proofs.lemmas.Bool.{or_from}
use Rattle.soqe_term.specs.declared.term.Var.{Var}
use Rattle.soqe_form.specs.declared.form.Pred.TheVariants.{Bound}
use Rattle.soqe_form.specs.declared.form.PVar.{PVar}
use Rattle.soqe_form.specs.declared.form.Form.{Form}
use Rattle.soqe_form.specs.Places.{has_blocks}
use Rattle.soqe_tidy.specs.Tidy.{tidy}
use Rattle.soqe_form.proofs.SamePures.{blocks-same}
use Rattle.soqe_tidy.proofs.Tidied.{same-tidy}
use Rattle.soqe_norm.specs.declared.case_list.Case.{Case}
use Rattle.soqe_norm.specs.Cases.{form_of}
use Rattle.soqe_norm.proofs.Counts.{cases-bare}
use Rattle.soqe_norm.proofs.Folded.{has_blocks-any, has_blocks-case}
use Rattle.soqe_ack.specs.declared.steps.DlsStep.{DlsStep}
use Rattle.soqe_ack.specs.Signs.{is_pos}
use Rattle.soqe_ack.specs.Tries.{IsTried}
use Rattle.soqe_dls.specs.ShownCases.{IsTidyCase}
use Rattle.soqe_ack.proofs.AckedBlocks.{acked-bare}
use Rattle.soqe_ack.proofs.Applies.{acked-of}
use Rattle.soqe_dls.specs.declared.elimination.DlsEnd.TheVariants as end
use Rattle.soqe_dls.specs.Runs.{Outcome, Reached, NotReached, after, IsRun, no_more, reached, stops, IsAnswer}

tidy-bare : (keep : List ℕ) (f : Form) → has_blocks f ≡ false → has_blocks (tidy keep f) ≡ false
tidy-bare keep f h = blocks-same (tidy keep f) f (same-tidy keep f) ∙ h

module _ (p : PVar) (keep : List ℕ) (c : Case) (vars : List Var) (fs : List Form) (s : Bool) (params : List Var) (value form : Form)
    (t : IsTidyCase keep c.vars c.conj vars fs) (a : IsTried p keep vars fs s params value form) (h : has_blocks (form_of c) ≡ false) where
  conjuncts-bare : list_any has_blocks fs ≡ false
  conjuncts-bare = sym (has_blocks-case vars fs) ∙ ap has_blocks t.tidied ∙ tidy-bare keep (form_of c) h

  form-bare : has_blocks (tidy keep form) ≡ false
  form-bare = tidy-bare keep form (acked-bare s p keep vars fs params value form (acked-of a) conjuncts-bare).1

-- no formula that the cases came to has a quantifier of a predicate
abbrev Bare : Outcome → Type 0
Bare (Reached fs) = list_any has_blocks fs ≡ false
Bare (NotReached n) = Unit {0}

bare-more : (f : Form) (o : Outcome) → has_blocks f ≡ false → Bare o → Bare (after f o)
bare-more f (Reached fs) h k = or_from (has_blocks f) (list_any has_blocks fs) h k
bare-more f (NotReached n) h k = tt

run-bare : (p : PVar) (keep : List ℕ) {n : ℕ} {cs : List Case} {steps : List DlsStep} {o : Outcome} → IsRun keep p n cs steps o
    → AllByRecursion (λ c. has_blocks (form_of c) ≡ false) cs → Bare o
run-bare p keep no_more h = refl
run-bare p keep (reached {c = c} {cs = cs} {vars = vars} {fs = fs} sign {params = params} {value = value} {form = form} {o = o} t a _ r) h =
    bare-more (tidy keep form) o (form-bare p keep c vars fs (is_pos sign) params value form t a h.0) (run-bare p keep r h.1)
run-bare p keep (stops _ _) h = tt

pub answer-bare : (keep : List ℕ) (p : PVar) (f form : Form) (steps : List DlsStep) → IsAnswer keep p f (end.Done steps form) → has_blocks f ≡ false → has_blocks form ≡ false
answer-bare keep p f form steps a h =
    ap has_blocks a.ends.is ∙ has_blocks-any a.ends.forms ∙ run-bare p keep a.ends.run (cases-bare keep (Bound p.num) f a.cases a.are h)
