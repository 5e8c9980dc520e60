-- The steps that are written so far lead to a run of all cases with whatever steps follow from the next case on.
use Rattle.std.proofs.Common.{◌≡◌, ℕ, suc, Bool, false, List, [], ◌∷◌, ◌++◌, length, reverse, Option, Some, None, refl, sym, ◌∙◌, ap, subst, append_assoc, arith}
use Rattle.std.specs.Option.{unwrap_or}
use Rattle.std.proofs.lemmas.List.{append-nil}
use Rattle.soqe_term.specs.declared.term.Var.{Var}
use Rattle.soqe_form.specs.declared.form.PVar.{PVar}
use Rattle.soqe_form.specs.declared.form.Form.{Form}
use Rattle.soqe_norm.specs.declared.case_list.Case.{Case}
use Rattle.soqe_form.specs.declared.form.Pred.TheVariants.{Bound}
use Rattle.soqe_form.specs.Constants.{constant}
use Rattle.soqe_tidy.specs.Tidy.{tidy}
use Rattle.soqe_norm.specs.Folds.{case_form}
use Rattle.soqe_norm.specs.Joins.{with_or, or_onto}
use Rattle.soqe_norm.proofs.Joins.{or_onto-push, joined_any}
use Rattle.soqe_ack.specs.declared.steps.DlsStep.{DlsStep}
use Rattle.soqe_ack.specs.declared.steps.DlsStep.TheVariants as step
use Rattle.soqe_ack.specs.GuardLaws.{AreDistinct}
use Rattle.soqe_ack.specs.Tries.{IsTried}
use Rattle.soqe_ack.proofs.Applies.{acked-of}
use Rattle.soqe_ack.proofs.ParameterNumbers.{parameters-distinct}
use Rattle.soqe_dls.specs.Parts.{WritesReached, WritesLost}
use Rattle.soqe_dls.specs.Runs.{Outcome, Reached, NotReached, after, IsRun, no_more, reached, stops, IsDone}

-- the outcome with formulas in front
abbrev pub after_all : List Form → Outcome → Outcome
after_all [] o = o
after_all (f ∷ fs) o = after f (after_all fs o)

after_all-push : (fs : List Form) (f : Form) (o : Outcome) → after_all (fs ++ f ∷ []) o ≡ after_all fs (after f o)
after_all-push [] f o = refl
after_all-push (g ∷ fs) f o = ap (after g) (after_all-push fs f o)

after_all-reached : (fs : List Form) → after_all fs (Reached []) ≡ Reached fs
after_all-reached [] = refl
after_all-reached (f ∷ fs) = ap (after f) (after_all-reached fs)

after_all-not : (fs : List Form) (n : ℕ) → after_all fs (NotReached n) ≡ NotReached n
after_all-not [] n = refl
after_all-not (f ∷ fs) n = ap (after f) (after_all-not fs n)

-- the cases in front of those that are left have these formulas, which are joined so far
pub record Leads (keep : List ℕ) (p : PVar) (cs left : List Case) (number : ℕ) (steps : List DlsStep) (so_far : Option Form) : Type 0 where
  pub forms : List Form
  pub leads : (more : List DlsStep) (o : Outcome) → IsRun keep p number left more o → IsRun keep p 0 cs (steps ++ more) (after_all forms o)
  pub joins : so_far ≡ or_onto None forms

pub leads-none : (keep : List ℕ) (p : PVar) (cs left : List Case) (number : ℕ) (steps : List DlsStep) → left ≡ cs → number ≡ 0 → steps ≡ [] → Leads keep p cs left number steps None
leads-none keep p cs left number steps l n s = record {
  forms = [];
  leads = λ more o r.
      subst (λ (ss : List DlsStep). IsRun keep p 0 cs (ss ++ more) o) (sym s)
      (subst (λ (m : ℕ). IsRun keep p m cs more o) n (subst (λ (ds : List Case). IsRun keep p number ds more o) l r));
  joins = refl;
}

pub none-left : {A : Type 0} (xs : List A) → length xs ≡ 0 → reverse xs ≡ []
none-left [] h = refl
none-left (x ∷ xs) h = absurd (omega (arith, h))

run-as : (keep : List ℕ) (p : PVar) (n : ℕ) (cs : List Case) (a b : List DlsStep) (o u : Outcome) → a ≡ b → o ≡ u → IsRun keep p n cs a o → IsRun keep p n cs b u
run-as keep p n cs a b o u e h r = subst (λ (s : List DlsStep). IsRun keep p n cs s u) e (subst (λ (x : Outcome). IsRun keep p n cs a x) h r)

module _ (keep : List ℕ) (p : PVar) (cs left : List Case) (number : ℕ) (old : List DlsStep) (so_far : Option Form) (lead : Leads keep p cs left number old so_far) where
  pub leads-done : left ≡ [] → IsDone keep p cs old (unwrap_or so_far (constant false))
  leads-done l =
      let rest : IsRun keep p number left [] (Reached []) = subst (λ (ds : List Case). IsRun keep p number ds [] (Reached [])) (sym l) no_more in
      record {
        forms = lead.forms;
        run = run-as keep p 0 cs (old ++ []) old (after_all lead.forms (Reached [])) (Reached lead.forms) (append-nil old) (after_all-reached lead.forms) (lead.leads [] (Reached []) rest);
        is = joined_any lead.forms so_far lead.joins;
      }

  module _ (c : Case) (rest : List Case) (at : left ≡ c ∷ rest) (new : List DlsStep) (num : ℕ) (num_is : num ≡ suc number) where
    pub leads-reached : (form : Form) → WritesReached keep p num c old new form → Leads keep p cs rest num new (Some (with_or so_far form))
    leads-reached form w = record {
      forms = lead.forms ++ form ∷ [];
      leads = λ more o r.
          let f : Form = case_form w.vars w.conj in
          let ack : DlsStep = step.Ack w.sign (Bound p.num) w.new_params w.new_value in
          let g : Form = tidy keep w.result in
          let behind : IsRun keep p (suc number) rest more o = subst (λ (n : ℕ). IsRun keep p n rest more o) num_is r in
          let run : IsRun keep p number (c ∷ rest) (step.Case (suc number) f ∷ ack ∷ step.Gives g ∷ more) (after g o) = reached w.sign w.tidied w.tried w.shown behind in
          let from : IsRun keep p number left (step.Case (suc number) f ∷ ack ∷ step.Gives g ∷ more) (after g o) =
          subst (λ (ds : List Case). IsRun keep p number ds (step.Case (suc number) f ∷ ack ∷ step.Gives g ∷ more) (after g o)) (sym at) run in
          run-as keep p 0 cs (old ++ step.Case (suc number) f ∷ ack ∷ step.Gives g ∷ more) (new ++ more) (after_all lead.forms (after g o)) (after_all (lead.forms ++ form ∷ []) o)
          ((λ i. old ++ step.Case (sym num_is i) f ∷ ack ∷ step.Gives (sym w.is i) ∷ more) ∙ sym (append_assoc old (step.Case num f ∷ ack ∷ step.Gives form ∷ []) more)
          ∙ ap (λ l. l ++ more) (sym w.steps))
          (ap (λ h. after_all lead.forms (after h o)) (sym w.is) ∙ sym (after_all-push lead.forms form o))
          (lead.leads (step.Case (suc number) f ∷ ack ∷ step.Gives g ∷ more) (after g o) from);
      joins = ap (λ o. Some (with_or o form)) lead.joins ∙ sym (or_onto-push None lead.forms form);
    }

    pub leads-lost : WritesLost keep p num c old new → IsRun keep p 0 cs new (NotReached num)
    leads-lost w =
        let f : Form = case_form w.vars w.conj in
        let run : IsRun keep p number (c ∷ rest) (step.Case (suc number) f ∷ []) (NotReached (suc number)) = stops w.tidied w.lost in
        let from : IsRun keep p number left (step.Case (suc number) f ∷ []) (NotReached (suc number)) =
        subst (λ (ds : List Case). IsRun keep p number ds (step.Case (suc number) f ∷ []) (NotReached (suc number))) (sym at) run in
        run-as keep p 0 cs (old ++ step.Case (suc number) f ∷ []) new (after_all lead.forms (NotReached (suc number))) (NotReached num)
        ((λ i. old ++ step.Case (sym num_is i) f ∷ []) ∙ sym w.steps)
        (after_all-not lead.forms (suc number) ∙ ap NotReached (sym num_is))
        (lead.leads (step.Case (suc number) f ∷ []) (NotReached (suc number)) from)

-- the parameters of a try are distinct
pub tried-distinct : {p : PVar} {keep : List ℕ} {vars : List Var} {fs : List Form} {s : Bool} {params : List Var} {value form : Form}
    → IsTried p keep vars fs s params value form → AreDistinct params
tried-distinct {p = p} {params = params} t = parameters-distinct _ p.args params (acked-of t).parameters
