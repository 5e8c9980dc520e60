-- A block has one answer: its formula has one list of cases, a case one tidy case, that one try, and that one value to show.
use Rattle.std.proofs.Common.{◌≡◌, ℕ, suc, Bool, true, false, eqb, not, ◌||◌, List, [], ◌∷◌, refl, sym, ◌∙◌, ap, subst}
use Rattle.std.specs.Bool.{MatchBool}
use Rattle.soqe_term.specs.declared.term.Var.{Var}
use Rattle.soqe_number.specs.Unused.{member}
use Rattle.soqe_form.specs.declared.form.Pred.{Pred}
use Rattle.soqe_form.specs.declared.form.Pred.TheVariants.{Bound}
use Rattle.soqe_form.specs.declared.form.PVar.{PVar}
use Rattle.soqe_form.specs.declared.form.Form.{Form}
use Rattle.soqe_tidy.specs.Tidy.{tidy}
use Rattle.soqe_norm.specs.declared.case_list.Case.{Case}
use Rattle.soqe_norm.specs.Apart.{IsLeast, IsChoice, AreChoices, IsApart, binders, renumbered, taken_first}
use Rattle.soqe_norm.specs.Cases.{cases_of}
use Rattle.soqe_norm.specs.CasesLaws.{AreCases}
use Rattle.soqe_norm.specs.Folds.{any_of, case_form}
use Rattle.soqe_norm.proofs.Choosing.{one-least}
use Rattle.soqe_norm.proofs.FoldedParts.{case-parts}
use Rattle.soqe_ack.specs.declared.steps.DlsStep.{DlsStep}
use Rattle.soqe_ack.specs.declared.steps.DlsStep.TheVariants as step
use Rattle.soqe_ack.specs.declared.steps.Sign.{Sign}
use Rattle.soqe_ack.specs.declared.steps.Sign.TheVariants.{Pos, Neg}
use Rattle.soqe_ack.specs.Signs.{is_pos}
use Rattle.soqe_ack.specs.Tries.{IsTried, positive, negative, IsNotReached}
use Rattle.soqe_dls.specs.ShownCases.{IsTidyCase, IsShown}
use Rattle.soqe_ack.proofs.AckedDecided.{acked-one, not-both}
use Rattle.soqe_dls.proofs.Shown.{one-shown}
use Rattle.soqe_dls.specs.declared.elimination.DlsEnd.{DlsEnd}
use Rattle.soqe_dls.specs.declared.elimination.DlsEnd.TheVariants as end
use Rattle.soqe_dls.specs.Runs.{Outcome, Reached, NotReached, after, IsRun, no_more, reached, stops, EndsRun, IsAnswer}

-- ---- one list of cases

one-choice : (standing : ℕ → Bool) (taken : ℕ → Bool) (b m n : ℕ) → IsChoice taken standing b m → IsChoice taken standing b n → m ≡ n
one-choice standing taken b m n c d = choose (taken b) c d
  where
    choose : (t : Bool) → MatchBool t (IsLeast (λ k. not (taken k || standing k)) m) (m ≡ b) → MatchBool t (IsLeast (λ k. not (taken k || standing k)) n) (n ≡ b) → m ≡ n
    choose true c d = one-least (λ k. not (taken k || standing k)) m n c d
    choose false c d = c ∙ sym d

one-choices : (standing : ℕ → Bool) (taken : ℕ → Bool) (bs ms ns : List ℕ) → AreChoices taken standing bs ms → AreChoices taken standing bs ns → ms ≡ ns
one-choices standing taken [] [] [] c d = refl
one-choices standing taken [] [] (n ∷ ns) c d = absurd d
one-choices standing taken [] (m ∷ ms) ns c d = absurd c
one-choices standing taken (b ∷ bs) [] ns c d = absurd c
one-choices standing taken (b ∷ bs) (m ∷ ms) [] c d = absurd d
one-choices standing taken (b ∷ bs) (m ∷ ms) (n ∷ ns) c d =
    let e : m ≡ n = one-choice standing taken b m n c.0 d.0 in
    let more : ms ≡ ns = one-choices standing (λ k. eqb k m || taken k) bs ms ns c.1 (subst (λ (a : ℕ). AreChoices (λ k. eqb k a || taken k) standing bs ns) (sym e) d.1) in
    λ i. e i ∷ more i

one-apart : (keep : List ℕ) (f g h : Form) → IsApart keep f g → IsApart keep f h → g ≡ h
one-apart keep f g h a b =
    a.is ∙ ap (λ ns. renumbered ns (λ n. n) 0 f) (one-choices (λ n. member n (binders f)) (taken_first keep f) (binders f) a.numbers b.numbers a.chosen b.chosen) ∙ sym b.is

pub one-cases : (keep : List ℕ) (q : Pred) (f : Form) (cs ds : List Case) → AreCases keep q f cs → AreCases keep q f ds → cs ≡ ds
one-cases keep q f cs ds a b = a.are ∙ ap (cases_of q) (one-apart keep f a.apart b.apart a.distinct b.distinct) ∙ sym b.are

-- ---- one way to go on with a case

module _ (keep : List ℕ) (c : Case) (xs ys : List Var) (fs gs : List Form) (a : IsTidyCase keep c.vars c.conj xs fs) (b : IsTidyCase keep c.vars c.conj ys gs) where
  pub one-tidy : (xs ≡ ys) × (fs ≡ gs)
  one-tidy = case-parts xs ys fs gs (a.tidied ∙ sym b.tidied) (a.as_many_vars ∙ sym b.as_many_vars) (a.as_many ∙ sym b.as_many)

sign-one : (s t : Sign) → is_pos s ≡ is_pos t → s ≡ t
sign-one Pos Pos e = refl
sign-one Pos Neg e = cc
sign-one Neg Pos e = cc
sign-one Neg Neg e = refl

module _ (p : PVar) (keep : List ℕ) (vars : List Var) (fs : List Form) where
  one-try : {s t : Bool} {xs ys : List Var} {v w f g : Form} → IsTried p keep vars fs s xs v f → IsTried p keep vars fs t ys w g → (s ≡ t) × (xs ≡ ys) × (v ≡ w) × (f ≡ g)
  one-try {xs = xs} {ys = ys} {v = v} {w = w} {f = f} {g = g} (positive a) (positive b) =
      let e = acked-one true p keep vars fs xs ys v w f g a b in (refl, e.0, e.1, e.2)
  one-try {xs = xs} {v = v} {f = f} (positive a) (negative t b) = absurd (not-both true p keep vars fs xs v f a t)
  one-try {ys = ys} {w = w} {g = g} (negative t a) (positive b) = absurd (not-both true p keep vars fs ys w g b t)
  one-try {xs = xs} {ys = ys} {v = v} {w = w} {f = f} {g = g} (negative _ a) (negative _ b) =
      let e = acked-one false p keep vars fs xs ys v w f g a b in (refl, e.0, e.1, e.2)

  pub tried-not-lost : {s : Bool} {xs : List Var} {v f : Form} → IsTried p keep vars fs s xs v f → IsNotReached p fs → ⊥
  tried-not-lost {xs = xs} {v = v} {f = f} (positive a) n = not-both true p keep vars fs xs v f a n.positive
  tried-not-lost {xs = xs} {v = v} {f = f} (negative _ a) n = not-both false p keep vars fs xs v f a n.negative

-- ---- one run

module _ (keep : List ℕ) (p : PVar) where
  pub one-run : {n : ℕ} {cs : List Case} {steps others : List DlsStep} {o u : Outcome} → IsRun keep p n cs steps o → IsRun keep p n cs others u → (steps ≡ others) × (o ≡ u)
  one-run no_more no_more = (refl, refl)
  one-run (reached {n = n} {c = c} {vars = xs} {fs = fs} sign {params = ps} {value = v} {form = f} {ys = ys} {shown = s} t a h r) (reached {vars = ys'} {fs = gs} sign' {params = qs} {value = w} {form = g} {ys = zs} {shown = s'} t' a' h' r') =
      let tidy_case = one-tidy keep c xs ys' fs gs t t' in
      let tried : IsTried p keep xs fs (is_pos sign') qs w g =
      subst (λ (l : List Var). IsTried p keep l fs (is_pos sign') qs w g) (sym tidy_case.0) (subst (λ (l : List Form). IsTried p keep ys' l (is_pos sign') qs w g) (sym tidy_case.1) a') in
      let try_is = one-try p keep xs fs a tried in
      let signs : sign ≡ sign' = sign-one sign sign' try_is.0 in
      let shown' : IsShown keep ps v zs s' = subst (λ (l : List Var). IsShown keep l v zs s') (sym try_is.1) (subst (λ (x : Form). IsShown keep qs x zs s') (sym try_is.2) h') in
      let shown_is = one-shown keep ps v ys zs s s' h shown' in
      let rest = one-run r r' in (
        λ i. step.Case (suc n) (case_form (tidy_case.0 i) (tidy_case.1 i)) ∷ step.Ack (signs i) (Bound p.num) (shown_is.0 i) (shown_is.1 i) ∷ step.Gives (tidy keep (try_is.3 i)) ∷ rest.0 i,
        λ i. after (tidy keep (try_is.3 i)) (rest.1 i),
      )
  one-run (reached {c = c} {vars = xs} {fs = fs} sign t a _ _) (stops {vars = ys} {fs = gs} t' l) =
      absurd (tried-not-lost p keep xs fs a (subst (λ (hs : List Form). IsNotReached p hs) (sym (one-tidy keep c xs ys fs gs t t').1) l))
  one-run (stops {c = c} {vars = ys} {fs = gs} t' l) (reached {vars = xs} {fs = fs} sign t a _ _) =
      absurd (tried-not-lost p keep xs fs a (subst (λ (hs : List Form). IsNotReached p hs) (sym (one-tidy keep c xs ys fs gs t t').1) l))
  one-run (stops {n = n} {c = c} {vars = xs} {fs = fs} t l) (stops {vars = ys} {fs = gs} t' l') =
      let e = one-tidy keep c xs ys fs gs t t' in (λ i. step.Case (suc n) (case_form (e.0 i) (e.1 i)) ∷ [], refl)

-- ---- one answer

no_path : true ≡ false → ⊥
no_path e = cc

abbrev forms_in : Outcome → List Form
forms_in (Reached fs) = fs
forms_in (NotReached n) = []

abbrev number_in : Outcome → ℕ
number_in (Reached fs) = 0
number_in (NotReached n) = n

abbrev is_reached : Outcome → Bool
is_reached (Reached fs) = true
is_reached (NotReached n) = false

pub one-answer : (keep : List ℕ) (p : PVar) (f : Form) (r s : DlsEnd) → IsAnswer keep p f r → IsAnswer keep p f s → r ≡ s
one-answer keep p f r s a b = ends r s a.ends (subst (λ (cs : List Case). EndsRun keep p cs s) (one-cases keep (Bound p.num) f b.cases a.cases b.are a.are) b.ends)
  where
    ends : (r s : DlsEnd) → EndsRun keep p a.cases r → EndsRun keep p a.cases s → r ≡ s
    ends (end.Done steps form) (end.Done steps' form') h k =
        let e = one-run keep p h.run k.run in
        let forms : h.forms ≡ k.forms = ap forms_in e.1 in
        λ i. end.Done (e.0 i) ((h.is ∙ ap any_of forms ∙ sym k.is) i)
    ends (end.Done steps form) (end.NotReached steps' n) h k = absurd (no_path (ap is_reached (one-run keep p h.run k).1))
    ends (end.NotReached steps n) (end.Done steps' form) h k = absurd (no_path (sym (ap is_reached (one-run keep p h k.run).1)))
    ends (end.NotReached steps n) (end.NotReached steps' m) h k = let e = one-run keep p h k in λ i. end.NotReached (e.0 i) (ap number_in e.1 i)
