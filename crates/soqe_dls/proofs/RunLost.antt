-- An answer names a case exactly where that one is the first that no try reaches.
use Rattle.std.proofs.Common.{◌≡◌, ℕ, suc, ◌+◌, List, [], ◌∷◌, ◌++◌, length, refl, sym, ◌∙◌, ap, subst, arith}
use Rattle.std.specs.Prelude.{◌↔◌}
use Rattle.std.specs.List.{AllByRecursion}
use Rattle.std.proofs.lemmas.List.Elements.{All-from_recursion, recursion_from_All}
use Rattle.soqe_form.specs.declared.form.Pred.TheVariants.{Bound}
use Rattle.soqe_form.specs.declared.form.PVar.{PVar}
use Rattle.soqe_form.specs.declared.form.Form.{Form}
use Rattle.soqe_tidy.specs.Tidy.{tidy}
use Rattle.soqe_norm.specs.declared.case_list.Case.{Case}
use Rattle.soqe_norm.specs.CasesLaws.{AreCases}
use Rattle.soqe_ack.specs.declared.steps.DlsStep.{DlsStep}
use Rattle.soqe_ack.specs.Tries.{IsNotReached}
use Rattle.soqe_dls.specs.declared.elimination.DlsEnd.{DlsEnd}
use Rattle.soqe_dls.specs.declared.elimination.DlsEnd.TheVariants as end
use Rattle.soqe_dls.specs.RunLaws.{IsLost, IsFirstLost, NamesCase}
use Rattle.soqe_dls.specs.Runs.{Outcome, Reached, NotReached, after, IsRun, no_more, reached, stops, EndsRun, IsAnswer}
use Rattle.soqe_dls.proofs.RunUnique.{one-cases, one-tidy, tried-not-lost}

module _ (keep : List ℕ) (p : PVar) where
  abbrev Won : Case → Type 0
  Won c = IsLost keep p c → ⊥

  -- from the case after the number n on, the m-th case is the first lost one
  record FirstFrom (n : ℕ) (cs : List Case) (m : ℕ) : Type 0 where
    before : List Case
    case : Case
    behind : List Case
    split : cs ≡ before ++ case ∷ behind
    number : m ≡ suc (n + length before)
    lost : IsLost keep p case
    earlier : AllByRecursion Won before

  abbrev Told : ℕ → List Case → Outcome → Type 0
  Told n cs (Reached fs) = AllByRecursion Won cs
  Told n cs (NotReached m) = FirstFrom n cs m

  told-more : (n : ℕ) (c : Case) (cs : List Case) (f : Form) (o : Outcome) → Won c → Told (suc n) cs o → Told n (c ∷ cs) (after f o)
  told-more n c cs f (Reached fs) w t = (w, t)
  told-more n c cs f (NotReached m) w t = record {
    before = c ∷ t.before;
    case = t.case;
    behind = t.behind;
    split = ap (λ l. c ∷ l) t.split;
    number = omega (arith, t.number);
    lost = t.lost;
    earlier = (w, t.earlier);
  }

  told : {n : ℕ} {cs : List Case} {steps : List DlsStep} {o : Outcome} → IsRun keep p n cs steps o → Told n cs o
  told no_more = tt
  told (reached {n = n} {c = c} {cs = cs} {vars = xs} {fs = fs} sign {form = f} {o = o} t a _ r) =
      told-more n c cs (tidy keep f) o (λ l. tried-not-lost p keep xs fs a (subst (λ (hs : List Form). IsNotReached p hs) (sym (one-tidy keep c xs l.vars fs l.conj t l.tidied).1) l.lost)) (told r)
  told (stops {n = n} {c = c} {cs = cs} {vars = xs} {fs = fs} t l) = record {
    before = [];
    case = c;
    behind = cs;
    split = refl;
    number = omega arith;
    lost = record { vars = xs; conj = fs; tidied = t; lost = l };
    earlier = tt;
  }

  won-at : (before : List Case) (c : Case) (behind : List Case) → AllByRecursion Won (before ++ c ∷ behind) → Won c
  won-at [] c behind a = a.0
  won-at (b ∷ before) c behind a = won-at before c behind a.1

  -- two first lost cases stand behind as many cases
  one-first : (ws vs : List Case) (a b : Case) (cs ds : List Case) → ws ++ a ∷ cs ≡ vs ++ b ∷ ds → IsLost keep p a → IsLost keep p b
      → AllByRecursion Won ws → AllByRecursion Won vs → length ws ≡ length vs
  one-first [] [] a b cs ds e l k u v = refl
  one-first [] (x ∷ vs) a b cs ds e l k u v = let h : a ≡ x = cc in absurd (v.0 (subst (λ (c : Case). IsLost keep p c) h l))
  one-first (x ∷ ws) [] a b cs ds e l k u v = let h : b ≡ x = cc in absurd (u.0 (subst (λ (c : Case). IsLost keep p c) h k))
  one-first (x ∷ ws) (y ∷ vs) a b cs ds e l k u v = let h : ws ++ a ∷ cs ≡ vs ++ b ∷ ds = cc in ap suc (one-first ws vs a b cs ds h l k u.1 v.1)

  module _ (cs : List Case) where
    to-first : (n : ℕ) (r : DlsEnd) → EndsRun keep p cs r → NamesCase n r → IsFirstLost keep p cs n
    to-first n (end.Done steps form) h k = absurd k
    to-first n (end.NotReached steps m) h k =
        let t : FirstFrom 0 cs m = told h in
        record {
          before = t.before;
          case = t.case;
          behind = t.behind;
          split = t.split;
          number = omega (arith, k, t.number);
          lost = t.lost;
          earlier = All-from_recursion Won t.before t.earlier;
        }

    from-first : (n : ℕ) (r : DlsEnd) → EndsRun keep p cs r → IsFirstLost keep p cs n → NamesCase n r
    from-first n (end.Done steps form) h k = won-at k.before k.case k.behind (subst (λ (ds : List Case). AllByRecursion Won ds) k.split (told h.run)) k.lost
    from-first n (end.NotReached steps m) h k =
        let t : FirstFrom 0 cs m = told h in
        let l : length t.before ≡ length k.before =
        one-first t.before k.before t.case k.case t.behind k.behind (sym t.split ∙ k.split) t.lost k.lost t.earlier (recursion_from_All Won k.before k.earlier) in
        omega (arith, l, t.number, k.number)

pub names-first : (keep : List ℕ) (p : PVar) (f : Form) (r : DlsEnd) → IsAnswer keep p f r → (cs : List Case) → AreCases keep (Bound p.num) f cs → (n : ℕ)
    → NamesCase n r ↔ IsFirstLost keep p cs n
names-first keep p f r a cs are n =
    let ends : EndsRun keep p cs r = subst (λ (ds : List Case). EndsRun keep p ds r) (one-cases keep (Bound p.num) f a.cases cs a.are are) a.ends in
    (to-first keep p cs n r ends, from-first keep p cs n r ends)
