-- The lines of a block by cases are valid.
--
-- A case line shows a tidy case, which is the case that is due with other numbers for what is bound. An ack line shows the
-- value of a try with other numbers, and the laws of shown values ask that it is well sorted below its parameters: so each
-- case is known to be well sorted where the block stands.
use Rattle.std.proofs.Common.{◌≡◌, ℕ, suc, Bool, true, List, [], ◌∷◌, ◌++◌, map, Some, None, refl, sym, ◌∙◌, ap, subst, append_assoc, append-nil}
use Rattle.std.specs.List.{AllByRecursion}
use Rattle.soqe_term.specs.declared.term.Var.{Var}
use Rattle.soqe_term.specs.Sorting.{Sorting, over_bound}
use Rattle.soqe_form.specs.declared.form.Form.{Form, Ex2}
use Rattle.soqe_form.specs.declared.form.Pred.TheVariants.{Bound}
use Rattle.soqe_form.specs.declared.form.PVar.{PVar}
use Rattle.soqe_form.specs.declared.form.Block.{Block}
use Rattle.soqe_form.specs.Boxes.{boxes}
use Rattle.soqe_form.specs.Same.{same}
use Rattle.soqe_form.specs.Sorted.{sorted}
use Rattle.soqe_tidy.specs.Tidy.{tidy}
use Rattle.soqe_form.proofs.SameSorted.{sorted-same}
use Rattle.soqe_tidy.proofs.Tidied.{same-tidy}
use Rattle.soqe_norm.specs.declared.case_list.Case.{Case}
use Rattle.soqe_norm.specs.Cases.{form_of}
use Rattle.soqe_norm.specs.Folds.{case_form}
use Rattle.soqe_norm.proofs.CaseSorts.{IsSorted}
use Rattle.soqe_ack.specs.declared.steps.DlsStep.{DlsStep}
use Rattle.soqe_ack.specs.declared.steps.DlsStep.TheVariants as step
use Rattle.soqe_ack.specs.Acked.{IsAcked, is_used}
use Rattle.soqe_ack.specs.AckedLaws.{below}
use Rattle.soqe_ack.specs.Signs.{is_pos}
use Rattle.soqe_ack.specs.Tries.{positive, negative}
use Rattle.soqe_dls.specs.ShownCases.{IsTidyCase, IsShown}
use Rattle.soqe_ack.proofs.AckedSorts.{value-is-sorted}
use Rattle.soqe_ack.proofs.Applies.{acked-of}
use Rattle.soqe_ack.proofs.ParameterNumbers.{parameters-sorts, parameters-distinct}
use Rattle.soqe_dls.proofs.Shown.{shown-same, shown-distinct}
use Rattle.soqe_dls.specs.Runs.{Outcome, Reached, NotReached, after, IsRun, no_more, reached, stops}
use Rattle.soqe_text.specs.declared.problem.Problem.{Problem}
use Rattle.soqe_deriv.specs.declared.document.Line.TheVariants as line
use Rattle.soqe_deriv.specs.declared.document.Stop.TheVariants as stop
use Rattle.soqe_deriv.specs.Cased.{Cases, case, ack, gives, IsValueOf}
use Rattle.soqe_deriv.specs.Valid.{Row, Further, Running, Halted, State, Dls, start_state, kept, dls, not_reached, Reach, more, further}

-- the state in a block by cases
abbrev pub in_cases : Problem → Form → Block → Cases → State
in_cases p f b w = record { phase = Running; problem = Some p; formula = Some f; block = Some (record { block = b; work = Dls w }) }

-- the cases of a block between two of them
abbrev pub between : Form → List Case → ℕ → List Form → Cases
between normal due n given = record { normal = Some normal; due = due; number = n; present = None; given = given }

below-sorted : (e : Sorting) (p : PVar) (f : Form) → sorted e (Ex2 p f) ≡ sorted (over_bound e p.num p.args) f
unfolding boxes
below-sorted e p f = refl

-- ---- one case

module _ (keep : List ℕ) (p : PVar) (c : Case) (vars : List Var) (fs : List Form) (t : IsTidyCase keep c.vars c.conj vars fs) where
  tidy-case-same : same (case_form vars fs) (form_of c) ≡ true
  tidy-case-same = ap (λ g. same g (form_of c)) t.tidied ∙ same-tidy keep (form_of c)

  tidy-case-sorted : (e : Sorting) → sorted (over_bound e p.num p.args) (form_of c) ≡ true → sorted e (Ex2 p (case_form vars fs)) ≡ true
  tidy-case-sorted e o = below-sorted e p (case_form vars fs) ∙ sorted-same (case_form vars fs) (form_of c) tidy-case-same (over_bound e p.num p.args) ∙ o

-- a value as it is shown is the value of the try
shown-value : (s : Bool) (p : PVar) (keep : List ℕ) (vars : List Var) (fs : List Form) (params : List Var) (value form : Form) (ys : List Var) (shown : Form)
    → IsAcked s p keep vars fs params value form → IsShown keep params value ys shown → (e : Sorting) → sorted e (Ex2 p (case_form vars fs)) ≡ true
    → IsValueOf p.args params value ys shown
shown-value s p keep vars fs params value form ys shown a h e o = record {
  sorts = parameters-sorts _ (map (λ x. x.sort) params) ys h.numbers ∙ parameters-sorts (is_used keep vars fs) p.args params a.parameters;
  distinct = (shown-distinct keep params value ys shown h).0;
  same_value = shown-same keep params value ys shown (parameters-distinct (is_used keep vars fs) p.args params a.parameters) h (below e vars)
      (value-is-sorted s p keep vars fs params value form a e o);
}

-- ---- all cases

three : (rs qs : List Row) (a b c : Row) → (((rs ++ a ∷ []) ++ b ∷ []) ++ c ∷ []) ++ qs ≡ rs ++ a ∷ b ∷ c ∷ qs
three rs qs a b c = simp append_assoc

module _ (p : Problem) (f : Form) (b : Block) (normal : Form) (e : Sorting) where
  -- where the rows lead to once the cases are through, or at the stop of a case that no try reaches
  abbrev pub Through : List Row → List Form → Outcome → Type 0
  Through rs given (Reached fs) = (n : ℕ) × Reach start_state rs (in_cases p f b (between normal [] n (given ++ fs)))
  Through rs given (NotReached n) = (t : State) × (Reach start_state (rs ++ Further (line.Stopped (stop.NotReached n)) ∷ []) t × (t.phase ≡ Halted))

  through-after : (rs : List Row) (given : List Form) (g : Form) (o : Outcome) → Through rs (given ++ g ∷ []) o → Through rs given (after g o)
  through-after rs given g (Reached fs) h =
      (h.0, subst (λ gs. Reach start_state rs (in_cases p f b (between normal [] h.0 gs))) (append_assoc given (g ∷ []) fs) h.1)
  through-after rs given g (NotReached n) h = h

  pub run-valid : {n : ℕ} {cs : List Case} {steps : List DlsStep} {o : Outcome} (rs : List Row) (given : List Form)
      → AllByRecursion (IsSorted (over_bound e b.pred.num b.pred.args)) cs → Reach start_state rs (in_cases p f b (between normal cs n given))
      → IsRun (kept p) b.pred n cs steps o → Through (rs ++ further (map line.Dls steps)) given o
  run-valid {n = n} rs given os r no_more = (
    n,
    subst (λ qs. Reach start_state qs (in_cases p f b (between normal [] n (given ++ [])))) (sym (append-nil rs))
        (subst (λ gs. Reach start_state rs (in_cases p f b (between normal [] n gs))) (sym (append-nil given)) r),
  )
  run-valid {n = n} rs given os r (reached {c = c} {cs = cs} {vars = vars} {fs = fs} s {params = params} {value = value} {form = form} {ys = ys} {shown = shown} {steps = steps} {o = o} t a h k) =
      let keep : List ℕ = kept p in
      let acked : IsAcked (is_pos s) b.pred keep vars fs params value form = acked-of a in
      let value_is : IsValueOf b.pred.args params value ys shown =
      shown-value (is_pos s) b.pred keep vars fs params value form ys shown acked h e (tidy-case-sorted keep b.pred c vars fs t e os.0) in
      subst (λ qs. Through qs given (after (tidy keep form) o))
      (three rs (further (map line.Dls steps)) (Further (line.Dls (step.Case (suc n) (case_form vars fs)))) (Further (line.Dls (step.Ack s (Bound b.pred.num) ys shown))) (Further (line.Dls (step.Gives (tidy keep form)))))
      (through-after _ given (tidy keep form) o
      (run-valid _ (given ++ tidy keep form ∷ []) os.1
      (more (more (more r
      (dls refl refl refl (case refl refl refl (tidy-case-same keep b.pred c vars fs t) refl t.as_many_vars t.as_many)))
      (dls refl refl refl (ack refl refl acked value_is)))
      (dls refl refl refl (gives refl refl acked (same-tidy keep form))))
      k))
  run-valid {n = n} rs given os r (stops {c = c} {vars = vars} {fs = fs} t l) = (
    _,
    (
      more (more r
          (dls refl refl refl (case refl refl refl (tidy-case-same (kept p) b.pred c vars fs t) refl t.as_many_vars t.as_many)))
          (not_reached refl refl refl refl refl l.positive l.negative),
      refl,
    ),
  )
