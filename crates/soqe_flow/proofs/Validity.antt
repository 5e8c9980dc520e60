-- A derivation's document is valid.
--
-- Before each of its lines stands the state that the line's row asks for: the problem, what has been derived, and no open
-- block between the lines of two blocks. So by induction over the derivation its rows lead to an end, and the law of
-- valid documents gives the rest.
use Rattle.std.proofs.Common.{◌≡◌, ℕ, true, not, List, [], ◌∷◌, ◌++◌, map, Some, None, refl, sym, ◌∙◌, ap, subst, append_assoc}
use Rattle.soqe_term.specs.Sorting.{Sorting, over_bound}
use Rattle.soqe_signature.specs.Declarations.{sorting_of}
use Rattle.soqe_form.specs.declared.form.Form.{Form}
use Rattle.soqe_form.specs.declared.form.Pred.TheVariants.{Bound}
use Rattle.soqe_form.specs.declared.form.Block.{Block}
use Rattle.soqe_form.specs.Places.{first_block, scope_at}
use Rattle.soqe_form.specs.Sorted.{sorted}
use Rattle.soqe_form.proofs.FirstBlocks.{sorted-block}
use Rattle.soqe_form.proofs.SameOrder.{same-self, same-equal}
use Rattle.soqe_form.proofs.SameSorted.{sorted-same}
use Rattle.soqe_tidy.proofs.Tidied.{same-tidy}
use Rattle.soqe_norm.specs.declared.case_list.Case.{Case}
use Rattle.soqe_norm.specs.CasesLaws.{AreCases}
use Rattle.soqe_norm.specs.Nnf.{nnf}
use Rattle.soqe_norm.specs.Valued.{valued}
use Rattle.soqe_norm.proofs.CaseSorts.{sorted-cases}
use Rattle.soqe_norm.proofs.Nnfs.{sorted-nnf}
use Rattle.soqe_ack.specs.declared.steps.DlsStep.{DlsStep}
use Rattle.soqe_dls.specs.declared.elimination.DlsEnd.TheVariants as end
use Rattle.soqe_dls.specs.Runs.{Outcome, Reached, NotReached, IsRun, IsAnswer}
use Rattle.soqe_text.specs.declared.problem.Problem.{Problem}
use Rattle.soqe_deriv.specs.declared.document.Method.TheVariants as method
use Rattle.soqe_deriv.specs.declared.document.Stop.TheVariants as stop
use Rattle.soqe_deriv.specs.declared.document.Line.{Line}
use Rattle.soqe_deriv.specs.declared.document.Line.TheVariants as line
use Rattle.soqe_deriv.specs.declared.document.Document.{Document}
use Rattle.soqe_text.specs.Sorted.{IsSorted}
use Rattle.soqe_deriv.specs.Valid.{Row, First, Posed, Further, Running, Halted, Accepted, Ended, State, start_state, kept, simplified, first, posed, start, block, replace, dls, close, result, mixed, end_answered, end_halted, Reach, none, more, further, rows_of}
use Rattle.soqe_deriv.specs.Cased.{normal as to_normal, any_for}
use Rattle.soqe_deriv.specs.Text.{declared_of}
use Rattle.soqe_deriv.proofs.Sound.{accepted_sound, reached-sorted}
use Rattle.soqe_flow.specs.declared.derivation.Wanted.{Wanted}
use Rattle.soqe_flow.specs.Ordered.{Ending, Result, Stops, Follows, replaced, closed, after_sign, normal, closed_by, after_block, cases_lines, started, IsOrdered, EndsAsOrdered, EndsAsSound}
use Rattle.soqe_flow.specs.Ordered.{result as ends, sign as by_sign, mixed as has_both, dls as by_cases, not_reached as has_lost}
use Rattle.soqe_flow.specs.declared.derivation.FlowEnd.{FlowEnd}
use Rattle.soqe_flow.specs.declared.derivation.FlowEnd.TheVariants as flow
use Rattle.soqe_flow.specs.Laws.{DoneIsValid, StopIsValid, DoneIsSound}
use Rattle.soqe_flow.proofs.CasesValid.{Through, run-valid}

-- the state between two blocks
abbrev stands : Problem → Form → State
stands p f = record { phase = Running; problem = Some p; formula = Some f; block = None }

-- the rows lead to a result, or to a stop
abbrev Ends : List Row → Ending → Type 0
Ends rs (Result f) = (t : State) × (Reach start_state rs t × ((t.phase ≡ Accepted) × (t.formula ≡ Some f)))
Ends rs (Stops s) = (t : State) × (Reach start_state rs t × (t.phase ≡ Ended))

two : (rs : List Row) (a b : Row) → (rs ++ a ∷ []) ++ b ∷ [] ≡ rs ++ a ∷ b ∷ []
two rs a b = simp append_assoc

three : (rs : List Row) (a b c : Row) → ((rs ++ a ∷ []) ++ b ∷ []) ++ c ∷ [] ≡ rs ++ a ∷ b ∷ c ∷ []
three rs a b c = simp append_assoc

more-three : (rs qs : List Row) (a b c : Row) → (((rs ++ a ∷ []) ++ b ∷ []) ++ c ∷ []) ++ qs ≡ rs ++ a ∷ b ∷ c ∷ qs
more-three rs qs a b c = simp append_assoc

-- ---- a block by cases

further-append : (ls ms : List Line) → further (ls ++ ms) ≡ further ls ++ further ms
further-append [] ms = refl
further-append (l ∷ ls) ms = ap (λ rs. Further l ∷ rs) (further-append ls ms)

around : (rs qs ms : List Row) (a b c : Row) → ((((rs ++ a ∷ []) ++ b ∷ []) ++ qs) ++ c ∷ []) ++ ms ≡ rs ++ a ∷ b ∷ (qs ++ c ∷ ms)
around rs qs ms a b c = simp append_assoc

-- the rows of a block by cases, with one behind its steps, and further ones
cases-rows : (rs : List Row) (b : Block) (f : Form) (steps : List DlsStep) (l : Line) (ls : List Line)
    → ((((rs ++ Further (line.Block method.Dls (Bound b.pred.num)) ∷ []) ++ Further (line.Nnf f) ∷ []) ++ further (map line.Dls steps)) ++ Further l ∷ []) ++ further ls
    ≡ rs ++ further (cases_lines b f steps ++ l ∷ ls)
cases-rows rs b f steps l ls =
    around rs (further (map line.Dls steps)) (further ls) (Further (line.Block method.Dls (Bound b.pred.num))) (Further (line.Nnf f)) (Further l)
    ∙ ap (λ qs. rs ++ Further (line.Block method.Dls (Bound b.pred.num)) ∷ Further (line.Nnf f) ∷ qs) (sym (further-append (map line.Dls steps) (l ∷ ls)))

-- a block's normal form is well sorted where its body is
normal-sorted : (keep : List ℕ) (b : Block) (e : Sorting) → sorted e b.body ≡ true → sorted e (normal keep b) ≡ true
normal-sorted keep b e o =
    sorted-same (normal keep b) (nnf (not b.exists) b.body) (same-tidy keep (nnf (not b.exists) b.body)) e ∙ sorted-nnf (not b.exists) e b.body ∙ o

module _ (p : Problem) (f : Form) (b : Block) (rs : List Row) (r : Reach start_state rs (stands p f)) (h : first_block f ≡ Some b) where
  abbrev scope : Sorting
  scope = scope_at b.place f (sorting_of (declared_of p))

  body-sorted : sorted (over_bound scope b.pred.num b.pred.args) b.body ≡ true
  body-sorted = sorted-block f b h (sorting_of (declared_of p)) (reached-sorted r refl refl)

  abbrev begun : List Row
  begun = (rs ++ Further (line.Block method.Dls (Bound b.pred.num)) ∷ []) ++ Further (line.Nnf (normal (kept p) b)) ∷ []

  -- the lines of the block up to the end of its steps
  cases-through : (cs : List Case) (steps : List DlsStep) (o : Outcome) → AreCases (kept p) (Bound b.pred.num) (normal (kept p) b) cs → IsRun (kept p) b.pred 0 cs steps o
      → Through p f b (normal (kept p) b) scope (begun ++ further (map line.Dls steps)) [] o
  cases-through cs steps o a k =
      run-valid p f b (normal (kept p) b) scope begun []
      (sorted-cases (kept p) (normal (kept p) b) a.apart a.distinct (Bound b.pred.num) (over_bound scope b.pred.num b.pred.args)
      (normal-sorted (kept p) b (over_bound scope b.pred.num b.pred.args) body-sorted))
      (more (more r (block refl refl refl h)) (dls refl refl refl (to_normal refl (same-tidy (kept p) (nnf (not b.exists) b.body)) a.distinct)))
      (subst (λ ds. IsRun (kept p) b.pred 0 ds steps o) a.are k)

  -- and up to its last line
  closed-valid : (form : Form) (steps : List DlsStep) → IsAnswer (kept p) b.pred (normal (kept p) b) (end.Done steps form)
      → Reach start_state ((begun ++ further (map line.Dls steps)) ++ Further (line.Close (closed_by (kept p) b form)) ∷ []) (stands p (after_block (kept p) f b (closed_by (kept p) b form)))
  closed-valid form steps a =
      let t = cases-through a.cases steps (Reached a.ends.forms) a.are a.ends.run in
      more t.1 (close refl refl refl refl refl
      (same-equal (closed_by (kept p) b form) (simplified (kept p) (any_for b.exists a.ends.forms)) (ap (closed_by (kept p) b) a.ends.is)))

  lost-valid : (n : ℕ) (steps : List DlsStep) → IsAnswer (kept p) b.pred (normal (kept p) b) (end.NotReached steps n)
      → (t : State) × (Reach start_state ((begun ++ further (map line.Dls steps)) ++ Further (line.Stopped (stop.NotReached n)) ∷ []) t × (t.phase ≡ Halted))
  lost-valid n steps a = cases-through a.cases steps (NotReached n) a.are a.ends

-- ---- all blocks

follows-valid : (p : Problem) (w : Wanted) (f : Form) (rs : List Row) (ls : List Line) (e : Ending)
    → Reach start_state rs (stands p f) → Follows (kept p) w f ls e → Ends (rs ++ further ls) e
follows-valid p w f rs _ _ r (ends h) =
    subst (λ qs. Ends qs (Result f)) (two rs (Further (line.Result f)) (Further line.End))
    (_, (more (more r (result refl refl refl h (same-self f))) (end_answered refl), (refl, refl)))
follows-valid p _ f rs _ e r (by_sign {b = b} {v = v} {ls = ls} h q k) =
    subst (λ qs. Ends qs e) (more-three rs (further ls) (Further (line.Block method.Sign (Bound b.pred.num))) (Further (line.Replace v (replaced (kept p) b v))) (Further (line.Close (closed (kept p) b v))))
    (follows-valid p _ (after_sign (kept p) f b v) _ ls e
    (more (more (more r (block refl refl refl h)) (replace refl refl q (same-tidy (kept p) (valued b.pred.num v b.body)))) (close refl refl refl refl refl (same-self (closed (kept p) b v)))) k)
follows-valid p _ f rs _ _ r (has_both {b = b} {i = i} {j = j} h q k) =
    subst (λ qs. Ends qs (Stops (stop.Mixed i j))) (three rs (Further (line.Block method.Sign (Bound b.pred.num))) (Further (line.Stopped (stop.Mixed i j))) (Further line.End))
    (_, (more (more (more r (block refl refl refl h)) (mixed refl refl q k)) (end_halted refl), refl))
follows-valid p _ f rs _ e r (by_cases {form = form} {b = b} {steps = steps} {ls = ls} h a k) =
    subst (λ qs. Ends qs e) (cases-rows rs b (normal (kept p) b) steps (line.Close (closed_by (kept p) b form)) ls)
    (follows-valid p _ (after_block (kept p) f b (closed_by (kept p) b form)) _ ls e (closed-valid p f b rs r h form steps a) k)
follows-valid p _ f rs _ _ r (has_lost {b = b} {steps = steps} {n = n} h a) =
    let t = lost-valid p f b rs r h n steps a in
    subst (λ qs. Ends qs (Stops (stop.NotReached n))) (cases-rows rs b (normal (kept p) b) steps (line.Stopped (stop.NotReached n)) (line.End ∷ []))
    (_, (more t.1.0 (end_halted t.1.1), refl))

ordered-ends : (w : Wanted) (d : Document) (e : Ending) → IsSorted d.problem → IsOrdered w d e → Ends (rows_of d) e
ordered-ends w d e k o =
    let g = started d.problem in
    let begun : Reach start_state (First ∷ Posed d.problem ∷ Further (line.Start g) ∷ []) (stands d.problem g) =
    more (more (more none (first refl)) (posed refl refl k)) (start refl refl refl (same-self g)) in
    subst (λ ls. Ends (First ∷ Posed d.problem ∷ further ls) e) (sym o.are) (follows-valid d.problem w g (First ∷ Posed d.problem ∷ Further (line.Start g) ∷ []) o.lines e begun o.follow)

pub done-valid : DoneIsValid
done-valid w d f k o = let t = ordered-ends w d (Result f) k o in record { last = t.0; reach = t.1.0; accepted = t.1.1.0; formula = t.1.1.1 }

pub stop-valid : StopIsValid
stop-valid w d s k o = let t = ordered-ends w d (Stops s) k o in record { last = t.0; reach = t.1.0; halted = t.1.1 }

pub done-sound : DoneIsSound
done-sound w d f k o = accepted_sound d f (done-valid w d f k o)

-- what a derivation that ends as it is due promises
pub ends-sound : (w u : Wanted) (p : Problem) (end : FlowEnd) → IsSorted p → EndsAsOrdered u p end → EndsAsSound w end
ends-sound w u p (flow.Done d) k o = λ f r. let h = subst IsSorted (sym o.0) k in (done-valid w d f h r, done-sound w d f h r)
ends-sound w u p (flow.Stopped d s) k o = stop-valid u d s (subst IsSorted (sym o.0) k) o.1
