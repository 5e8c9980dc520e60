-- Tidy formulas. Below a binder of x, r reads x as the binder's new number, which is that of no other free variable of the body.
-- So no variable is caught: the tidied formula is the same as the formula, and its free occurrences are the same ones.
use Rattle.std.proofs.Common.{◌≡◌, ◌≢◌, ℕ, Bool, true, false, cond, eqb, not, ◌||◌, ◌&&◌, map, List, [], ◌∷◌, ◌++◌, refl, sym, ◌∙◌, ap}
use Rattle.std.proofs.lemmas.List.{map-append}
use Rattle.std.proofs.lemmas.Bool.{eqb-false, or_left, or_right, and_from}
use Rattle.soqe_term.specs.declared.term.Var.{Var}
use Rattle.soqe_term.specs.declared.term.Term.{Term, Var as var, App}
use Rattle.soqe_term.specs.declared.term.Terms.{Terms, Nil, Cons', end_of-Term as end-t, more_of-Term as one-t, end_of-Terms as ends-t, more_of-Terms as ones-t}
use Rattle.soqe_term.specs.Boxes.{boxes as term_boxes}
use Rattle.soqe_number.specs.Updates.{changed}
use Rattle.soqe_term.specs.Occurs.{occurs}
use Rattle.soqe_term.specs.Renumber.{numbered, renumbered, all_renumbered}
use Rattle.soqe_term.proofs.Worlds.{eqb-self}
use Rattle.soqe_form.specs.declared.form.Form.{Form, True, False, Equal, Atom, Not', And', Or', Imp', Iff', All', Ex', All2', Ex2', end_of-Form as end, more_of-Form as one}
use Rattle.soqe_form.specs.Boxes.{boxes}
use Rattle.soqe_form.specs.Free.{free}
use Rattle.soqe_form.specs.FreeVars.{occurrences, all_occurrences, others, free_occurrences, is_among}
use Rattle.soqe_form.specs.Same.{same_term, same_terms, same_pred, same_sorts, same_in, same}
use Rattle.soqe_tidy.specs.Tidy.{tidy_number, tidied, tidy}
use Rattle.soqe_form.proofs.FreeVariables.{is_among-free_occurrences}
use Rattle.soqe_form.proofs.SameNumbers.{Named, named-left, named-right, named-under, same_term-renumbered, same_terms-renumbered}
use Rattle.soqe_form.proofs.SameOrder.{IsDiagonal, diagonal-under, same_pred-self, same_sorts-from}
use Rattle.soqe_tidy.proofs.TidyNumbers.{tidy_number-apart}

-- ---- free variables

-- a variable with the number that r gives
abbrev pub moved : (ℕ → ℕ) → Var → Var
moved r y = numbered y (r y.num)

mutual
  unfolding term_boxes

  occurrences-renumbered : (r : ℕ → ℕ) (t : Term) → occurrences (renumbered r t) ≡ map (moved r) (occurrences t)
  occurrences-renumbered r (var x) = refl
  occurrences-renumbered r (App f s ts) = all_occurrences-renumbered r ts

  all_occurrences-renumbered : (r : ℕ → ℕ) (ts : Terms) → all_occurrences (all_renumbered r ts) ≡ map (moved r) (all_occurrences ts)
  all_occurrences-renumbered r Nil = refl
  all_occurrences-renumbered r (Cons' _ (one-t t end-t) _ (ones-t ts ends-t)) =
      (λ i. occurrences-renumbered r t i ++ all_occurrences-renumbered r ts i) ∙ sym (map-append (moved r) (occurrences t) (all_occurrences ts))

others_step : (r : ℕ → ℕ) (n : ℕ) (y : Var) (us vs : List Var) (b : Bool) → us ≡ map (moved r) vs → (b ≡ false → eqb (r y.num) n ≡ false)
    → cond (not (eqb (cond b n (r y.num)) n)) (numbered y (cond b n (r y.num)) ∷ us) us ≡ map (moved r) (cond (not b) (y ∷ vs) vs)
others_step r n y us vs true h off = ap (λ q. cond (not q) (numbered y n ∷ us) us) (eqb-self n) ∙ h
others_step r n y us vs false h off = ap (λ q. cond (not q) (moved r y ∷ us) us) (off refl) ∙ ap (λ l. moved r y ∷ l) h

others-moved : (r : ℕ → ℕ) (x n : ℕ) (ys : List Var) → ((m : ℕ) → is_among ys m ≡ true → eqb m x ≡ false → eqb (r m) n ≡ false)
    → others n (map (moved (changed r x n)) ys) ≡ map (moved r) (others x ys)
others-moved r x n [] h = refl
others-moved r x n (y ∷ ys) h =
    others_step r n y (others n (map (moved (changed r x n)) ys)) (others x ys) (eqb y.num x)
    (others-moved r x n ys (λ m o e. h m (or_right (eqb m y.num) (is_among ys m) o) e))
    (h y.num (or_left (eqb y.num y.num) (is_among ys y.num) (eqb-self y.num)))

-- the occurrences below a binder of x, which gets its tidy number
pub others-tidied : (keep : List ℕ) (r : ℕ → ℕ) (x : ℕ) (f : Form)
    → others (tidy_number keep r x f) (map (moved (changed r x (tidy_number keep r x f))) (free_occurrences f)) ≡ map (moved r) (others x (free_occurrences f))
others-tidied keep r x f =
    others-moved r x (tidy_number keep r x f) (free_occurrences f) (λ m o e. tidy_number-apart keep r x f m (sym (is_among-free_occurrences m f) ∙ o) e)

both_moved : (r : ℕ → ℕ) (us vs xs ys : List Var) → us ≡ map (moved r) xs → vs ≡ map (moved r) ys → us ++ vs ≡ map (moved r) (xs ++ ys)
both_moved r us vs xs ys h k = (λ i. h i ++ k i) ∙ sym (map-append (moved r) xs ys)

-- the free occurrences of variables are the same ones under their new numbers
pub free_occurrences-tidied : (keep : List ℕ) (r : ℕ → ℕ) (f : Form) → free_occurrences (tidied keep r f) ≡ map (moved r) (free_occurrences f)
unfolding boxes
free_occurrences-tidied keep r True = refl
free_occurrences-tidied keep r False = refl
free_occurrences-tidied keep r (Equal s t) =
    both_moved r (occurrences (renumbered r s)) (occurrences (renumbered r t)) (occurrences s) (occurrences t) (occurrences-renumbered r s) (occurrences-renumbered r t)
free_occurrences-tidied keep r (Atom p ts) = all_occurrences-renumbered r ts
free_occurrences-tidied keep r (Not' _ (one f end)) = free_occurrences-tidied keep r f
free_occurrences-tidied keep r (And' _ (one f end) _ (one g end)) =
    both_moved r (free_occurrences (tidied keep r f)) (free_occurrences (tidied keep r g)) (free_occurrences f) (free_occurrences g) (free_occurrences-tidied keep r f) (free_occurrences-tidied keep r g)
free_occurrences-tidied keep r (Or' _ (one f end) _ (one g end)) =
    both_moved r (free_occurrences (tidied keep r f)) (free_occurrences (tidied keep r g)) (free_occurrences f) (free_occurrences g) (free_occurrences-tidied keep r f) (free_occurrences-tidied keep r g)
free_occurrences-tidied keep r (Imp' _ (one f end) _ (one g end)) =
    both_moved r (free_occurrences (tidied keep r f)) (free_occurrences (tidied keep r g)) (free_occurrences f) (free_occurrences g) (free_occurrences-tidied keep r f) (free_occurrences-tidied keep r g)
free_occurrences-tidied keep r (Iff' _ (one f end) _ (one g end)) =
    both_moved r (free_occurrences (tidied keep r f)) (free_occurrences (tidied keep r g)) (free_occurrences f) (free_occurrences g) (free_occurrences-tidied keep r f) (free_occurrences-tidied keep r g)
free_occurrences-tidied keep r (All' x _ (one f end)) =
    ap (others (tidy_number keep r x.num f)) (free_occurrences-tidied keep (changed r x.num (tidy_number keep r x.num f)) f) ∙ others-tidied keep r x.num f
free_occurrences-tidied keep r (Ex' x _ (one f end)) =
    ap (others (tidy_number keep r x.num f)) (free_occurrences-tidied keep (changed r x.num (tidy_number keep r x.num f)) f) ∙ others-tidied keep r x.num f
free_occurrences-tidied keep r (All2' p _ (one f end)) = free_occurrences-tidied keep r f
free_occurrences-tidied keep r (Ex2' p _ (one f end)) = free_occurrences-tidied keep r f

unmoved : (ys : List Var) → map (moved (λ n. n)) ys ≡ ys
unmoved [] = refl
unmoved (y ∷ ys) = ap (λ l. y ∷ l) (unmoved ys)

pub free_occurrences-tidy : (keep : List ℕ) (f : Form) → free_occurrences (tidy keep f) ≡ free_occurrences f
free_occurrences-tidy keep f = free_occurrences-tidied keep (λ n. n) f ∙ unmoved (free_occurrences f)

-- ---- the same formula

-- the new number of another free variable is not that of the binder
apart : (keep : List ℕ) (r : ℕ → ℕ) (x : ℕ) (f : Form) (m : ℕ) → cond (eqb m x) false (free m f) ≡ true → r m ≢ tidy_number keep r x f
apart keep r x f m h = choose (eqb m x) refl h
  where
    choose : (b : Bool) → eqb m x ≡ b → cond b false (free m f) ≡ true → r m ≢ tidy_number keep r x f
    choose true e h = let h : false ≡ true = h in cc
    choose false e h = eqb-false (r m) (tidy_number keep r x f) (tidy_number-apart keep r x f m h e)

abbrev Pairs : Type 0
Pairs = List (ℕ × ℕ)

-- the tidied formula is the same as f, where the free variables of f are named the same as their new numbers
abbrev BecomesSame : Pairs → Pairs → List ℕ → (ℕ → ℕ) → Form → Type 0
BecomesSame vs ps keep r f = Named vs r (λ m. free m f) → same_in vs ps (tidied keep r f) f ≡ true

both_same : (vs ps : Pairs) (keep : List ℕ) (r : ℕ → ℕ) (f g : Form) → Named vs r (λ m. free m f || free m g) → BecomesSame vs ps keep r f → BecomesSame vs ps keep r g
    → (same_in vs ps (tidied keep r f) f && same_in vs ps (tidied keep r g) g) ≡ true
both_same vs ps keep r f g h a b =
    and_from (same_in vs ps (tidied keep r f) f) (same_in vs ps (tidied keep r g) g)
    (a (named-left vs r (λ m. free m f) (λ m. free m g) h)) (b (named-right vs r (λ m. free m f) (λ m. free m g) h))

pub same-tidied : (vs ps : Pairs) (keep : List ℕ) (r : ℕ → ℕ) (f : Form) → Named vs r (λ m. free m f) → IsDiagonal ps → same_in vs ps (tidied keep r f) f ≡ true
unfolding boxes
same-tidied vs ps keep r True h k = refl
same-tidied vs ps keep r False h k = refl
same-tidied vs ps keep r (Equal s t) h k =
    and_from (same_term vs (renumbered r s) s) (same_term vs (renumbered r t) t)
    (same_term-renumbered vs r s (named-left vs r (λ m. occurs m s) (λ m. occurs m t) h)) (same_term-renumbered vs r t (named-right vs r (λ m. occurs m s) (λ m. occurs m t) h))
same-tidied vs ps keep r (Atom p ts) h k = and_from (same_pred ps p p) (same_terms vs (all_renumbered r ts) ts) (same_pred-self ps p k) (same_terms-renumbered vs r ts h)
same-tidied vs ps keep r (Not' _ (one f end)) h k = same-tidied vs ps keep r f h k
same-tidied vs ps keep r (And' _ (one f end) _ (one g end)) h k = both_same vs ps keep r f g h (λ h. same-tidied vs ps keep r f h k) (λ h. same-tidied vs ps keep r g h k)
same-tidied vs ps keep r (Or' _ (one f end) _ (one g end)) h k = both_same vs ps keep r f g h (λ h. same-tidied vs ps keep r f h k) (λ h. same-tidied vs ps keep r g h k)
same-tidied vs ps keep r (Imp' _ (one f end) _ (one g end)) h k = both_same vs ps keep r f g h (λ h. same-tidied vs ps keep r f h k) (λ h. same-tidied vs ps keep r g h k)
same-tidied vs ps keep r (Iff' _ (one f end) _ (one g end)) h k = both_same vs ps keep r f g h (λ h. same-tidied vs ps keep r f h k) (λ h. same-tidied vs ps keep r g h k)
same-tidied vs ps keep r (All' x _ (one f end)) h k =
    let n : ℕ = tidy_number keep r x.num f in
    and_from (eqb x.sort x.sort) (same_in ((n, x.num) ∷ vs) ps (tidied keep (changed r x.num n) f) f) (eqb-self x.sort)
    (same-tidied ((n, x.num) ∷ vs) ps keep (changed r x.num n) f (named-under vs r x.num n (λ m. free m f) h (apart keep r x.num f)) k)
same-tidied vs ps keep r (Ex' x _ (one f end)) h k =
    let n : ℕ = tidy_number keep r x.num f in
    and_from (eqb x.sort x.sort) (same_in ((n, x.num) ∷ vs) ps (tidied keep (changed r x.num n) f) f) (eqb-self x.sort)
    (same-tidied ((n, x.num) ∷ vs) ps keep (changed r x.num n) f (named-under vs r x.num n (λ m. free m f) h (apart keep r x.num f)) k)
same-tidied vs ps keep r (All2' p _ (one f end)) h k =
    and_from (same_sorts p p) (same_in vs ((p.num, p.num) ∷ ps) (tidied keep r f) f) (same_sorts-from p p refl)
    (same-tidied vs ((p.num, p.num) ∷ ps) keep r f h (diagonal-under ps p.num k))
same-tidied vs ps keep r (Ex2' p _ (one f end)) h k =
    and_from (same_sorts p p) (same_in vs ((p.num, p.num) ∷ ps) (tidied keep r f) f) (same_sorts-from p p refl)
    (same-tidied vs ((p.num, p.num) ∷ ps) keep r f h (diagonal-under ps p.num k))

-- a tidy formula is the same as the formula; the laws of the same formulas say the rest
pub same-tidy : (keep : List ℕ) (f : Form) → same (tidy keep f) f ≡ true
same-tidy keep f = same-tidied [] [] keep (λ n. n) f (λ m o. eqb-self m) eqb-self
