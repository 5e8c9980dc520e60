-- The formula of an answer has the truth of the block, and is well sorted.
--
-- Some case is true with some table exactly where for some case some table makes it true: `some` over tables passes through
-- `|`. Each case is then alike to the formula that its try gave, by Ackermann's lemma.
use Rattle.std.proofs.Common.{◌≡◌, ℕ, zero, suc, Bool, true, false, ◌||◌, List, [], ◌∷◌, map, refl, sym, ◌∙◌, ap, subst}
use Rattle.std.specs.List.{AllByRecursion}
use Rattle.std.proofs.lemmas.Bool.{and_from}
use Rattle.soqe_term.specs.declared.term.Var.{Var}
use Rattle.soqe_term.specs.Fits.{Fits}
use Rattle.soqe_number.specs.Finite.{some_list, product, entry}
use Rattle.soqe_term.specs.Sorting.{Sorting, over_bound}
use Rattle.soqe_term.specs.World.{World, with_bound}
use Rattle.soqe_term.proofs.Values.{fits-bound}
use Rattle.soqe_form.specs.declared.form.Pred.TheVariants.{Bound}
use Rattle.soqe_form.specs.declared.form.PVar.{PVar}
use Rattle.soqe_form.specs.declared.form.Form.{Form, Ex2}
use Rattle.soqe_form.specs.Alike.{AlikeIn}
use Rattle.soqe_form.specs.Boxes.{boxes}
use Rattle.soqe_form.specs.Sorted.{sorted}
use Rattle.soqe_tidy.specs.Tidy.{tidy}
use Rattle.soqe_form.specs.Truth.{truth}
use Rattle.soqe_form.proofs.SameSorted.{sorted-same}
use Rattle.soqe_form.proofs.SameTruth.{truth-same}
use Rattle.soqe_tidy.proofs.Tidied.{same-tidy}
use Rattle.soqe_norm.specs.declared.case_list.Case.{Case}
use Rattle.soqe_norm.specs.Cases.{form_of, some_case}
use Rattle.soqe_norm.specs.Folds.{any_of, case_form}
use Rattle.soqe_norm.proofs.CaseSorts.{sorted-cases}
use Rattle.soqe_norm.proofs.CaseTruth.{alike-are}
use Rattle.soqe_norm.proofs.Folded.{any_passes, all_pass, truth-any, sorted-any}
use Rattle.soqe_ack.specs.declared.steps.DlsStep.{DlsStep}
use Rattle.soqe_ack.specs.Signs.{is_pos}
use Rattle.soqe_ack.specs.Tries.{IsTried}
use Rattle.soqe_dls.specs.ShownCases.{IsTidyCase}
use Rattle.soqe_ack.proofs.AckermannCases.{ackermann}
use Rattle.soqe_ack.proofs.AckedSorts.{form-is-sorted}
use Rattle.soqe_ack.proofs.Applies.{acked-of}
use Rattle.soqe_dls.specs.declared.elimination.DlsEnd.{DlsEnd}
use Rattle.soqe_dls.specs.declared.elimination.DlsEnd.TheVariants as end
use Rattle.soqe_dls.specs.RunLaws.{EndsTrue}
use Rattle.soqe_dls.specs.Runs.{Outcome, Reached, NotReached, after, IsRun, no_more, reached, stops, IsAnswer}

-- ---- some table, through `|`

or_four : (a b c d : Bool) → ((a || b) || (c || d)) ≡ ((a || c) || (b || d))
or_four true b true d = refl
or_four true b false d = refl
or_four false true true d = refl
or_four false true false d = refl
or_four false false c d = refl

some_list-false : (n : ℕ) → some_list n (λ t. false) ≡ false
some_list-false zero = refl
some_list-false (suc n) = λ i. some_list-false n i || some_list-false n i

some_list-or : (n : ℕ) (p q : List Bool → Bool) → some_list n (λ t. p t || q t) ≡ (some_list n p || some_list n q)
some_list-or zero p q = refl
some_list-or (suc n) p q =
    (λ i. some_list-or n (λ t. p (true ∷ t)) (λ t. q (true ∷ t)) i || some_list-or n (λ t. p (false ∷ t)) (λ t. q (false ∷ t)) i)
    ∙ or_four (some_list n (λ t. p (true ∷ t))) (some_list n (λ t. q (true ∷ t))) (some_list n (λ t. p (false ∷ t))) (some_list n (λ t. q (false ∷ t)))

some_list-any : (n : ℕ) (h : List Bool → Form → Bool) (fs : List Form) → some_list n (λ t. any_passes (h t) fs) ≡ any_passes (λ f. some_list n (λ t. h t f)) fs
some_list-any n h [] = some_list-false n
some_list-any n h (f ∷ fs) = some_list-or n (λ t. h t f) (λ t. any_passes (h t) fs) ∙ ap (λ b. some_list n (λ t. h t f) || b) (some_list-any n h fs)

-- a block over alternatives
truth-alternatives : (w : World) (p : PVar) (fs : List Form) → truth w (Ex2 p (any_of fs)) ≡ any_passes (λ f. truth w (Ex2 p f)) fs
unfolding boxes
truth-alternatives w p fs =
    let table : List Bool → World = λ t. with_bound w p.num (entry (map w.size p.args) t) in
    (λ i. some_list (product (map w.size p.args)) (λ t. truth-any (table t) fs i))
    ∙ some_list-any (product (map w.size p.args)) (λ t f. truth (table t) f) fs

-- blocks over formulas of one truth
alike-below : (e : Sorting) (p : PVar) (f g : Form) → AlikeIn (over_bound e p.num p.args) f g → AlikeIn e (Ex2 p f) (Ex2 p g)
unfolding boxes
alike-below e p f g h w k = λ i.
    some_list (product (map w.size p.args)) (λ t. h (with_bound w p.num (entry (map w.size p.args) t)) (fits-bound w e p.num p.args (entry (map w.size p.args) t) k) i)

below-sorted : (e : Sorting) (p : PVar) (f : Form) → sorted e (Ex2 p f) ≡ sorted (over_bound e p.num p.args) f
unfolding boxes
below-sorted e p f = refl

-- ---- one case

module _ (e : Sorting) (p : PVar) (keep : List ℕ) (c : Case) (vars : List Var) (fs : List Form) (s : Bool) (params : List Var) (value form : Form)
    (t : IsTidyCase keep c.vars c.conj vars fs) (a : IsTried p keep vars fs s params value form) (o : sorted (over_bound e p.num p.args) (form_of c) ≡ true) where
  same_case : (w : World) → truth w (case_form vars fs) ≡ truth w (form_of c)
  same_case w = ap (truth w) t.tidied ∙ truth-same (tidy keep (form_of c)) (form_of c) (same-tidy keep (form_of c)) w

  case-sorted : sorted e (Ex2 p (case_form vars fs)) ≡ true
  case-sorted =
      below-sorted e p (case_form vars fs) ∙ ap (sorted (over_bound e p.num p.args)) t.tidied
      ∙ sorted-same (tidy keep (form_of c)) (form_of c) (same-tidy keep (form_of c)) (over_bound e p.num p.args) ∙ o

  case-alike : AlikeIn e (tidy keep form) (Ex2 p (form_of c))
  case-alike w k =
      truth-same (tidy keep form) form (same-tidy keep form) w
      ∙ ackermann s p keep vars fs params value form (acked-of a) e case-sorted w k
      ∙ alike-below e p (case_form vars fs) (form_of c) (λ v l. same_case v) w k

  form-sorted : sorted e (tidy keep form) ≡ true
  form-sorted = sorted-same (tidy keep form) form (same-tidy keep form) e ∙ form-is-sorted s p keep vars fs params value form (acked-of a) e case-sorted

-- ---- all cases

abbrev HasSorts : Sorting → PVar → Case → Type 0
HasSorts e p c = sorted (over_bound e p.num p.args) (form_of c) ≡ true

-- the formulas are well sorted, and some is true where some case is with some table
record AreRight (e : Sorting) (p : PVar) (cs : List Case) (fs : List Form) : Type 0 where
  alike : (w : World) → Fits w e → any_passes (truth w) fs ≡ any_passes (λ f. truth w (Ex2 p f)) (map form_of cs)
  sorts : all_pass (sorted e) fs ≡ true

abbrev Right : Sorting → PVar → List Case → Outcome → Type 0
Right e p cs (Reached fs) = AreRight e p cs fs
Right e p cs (NotReached n) = Unit {0}

right-more : (e : Sorting) (p : PVar) (c : Case) (cs : List Case) (f : Form) (o : Outcome) → AlikeIn e f (Ex2 p (form_of c)) → sorted e f ≡ true → Right e p cs o
    → Right e p (c ∷ cs) (after f o)
right-more e p c cs f (Reached fs) h s r = record {
  alike = λ w k. λ i. h w k i || r.alike w k i;
  sorts = and_from (sorted e f) (all_pass (sorted e) fs) s r.sorts;
}
right-more e p c cs f (NotReached n) h s r = tt

run-right : (e : Sorting) (p : PVar) (keep : List ℕ) {n : ℕ} {cs : List Case} {steps : List DlsStep} {o : Outcome} → IsRun keep p n cs steps o → AllByRecursion (HasSorts e p) cs → Right e p cs o
run-right e p keep no_more s = record { alike = λ w k. refl; sorts = refl }
run-right e p keep (reached {c = c} {cs = cs} {vars = vars} {fs = fs} sign {params = params} {value = value} {form = form} {o = o} t a _ r) s =
    right-more e p c cs (tidy keep form) o (case-alike e p keep c vars fs (is_pos sign) params value form t a s.0) (form-sorted e p keep c vars fs (is_pos sign) params value form t a s.0)
    (run-right e p keep r s.1)
run-right e p keep (stops _ _) s = tt

-- ---- the answer

pub ends-true : (keep : List ℕ) (p : PVar) (f : Form) (r : DlsEnd) → IsAnswer keep p f r → EndsTrue p f r
ends-true keep p f (end.NotReached steps n) a = tt
ends-true keep p f (end.Done steps form) a = λ e s.
    let inner : Sorting = over_bound e p.num p.args in
    let sorts : AllByRecursion (HasSorts e p) a.cases =
    subst (λ (cs : List Case). AllByRecursion (HasSorts e p) cs) (sym a.are.are) (sorted-cases keep f a.are.apart a.are.distinct (Bound p.num) inner (sym (below-sorted e p f) ∙ s)) in
    let right : AreRight e p a.cases a.ends.forms = run-right e p keep a.ends.run sorts in
    record {
      alike = λ w k.
          ap (truth w) a.ends.is ∙ truth-any w a.ends.forms ∙ right.alike w k ∙ sym (truth-alternatives w p (map form_of a.cases))
          ∙ alike-below e p (some_case a.cases) f (alike-are keep (Bound p.num) f a.cases a.are inner) w k;
      sorts = ap (sorted e) a.ends.is ∙ sorted-any e a.ends.forms ∙ right.sorts;
    }
