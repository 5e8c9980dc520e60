-- Binders under new numbers: where the numbers are distinct, and none is that of a free variable, no variable is caught.
-- So the renumbered formula is the same as the formula, up to the numbers of bound variables.
use Rattle.std.proofs.Common.{◌≡◌, ◌≢◌, ℕ, zero, suc, ◌+◌, ◌<◌, ◌≤◌, Bool, true, false, cond, eqb, ◌||◌, ◌&&◌, List, [], ◌∷◌, ◌++◌, length, refl, sym, ◌∙◌, ap, arith, length-append}
use Rattle.std.specs.Prelude.{slice_index}
use Rattle.std.proofs.lemmas.Bool.{ne_eqb, or_left, or_right, and_from, both_ways}
use Rattle.soqe_term.specs.declared.term.Term.{Term, Var as var, App}
use Rattle.soqe_term.specs.declared.term.Terms.{Terms, Nil, Cons', end_of-Term as end-t, more_of-Term as one-t, end_of-Terms as ends-t, more_of-Terms as ones-t}
use Rattle.soqe_term.specs.Boxes.{boxes as term_boxes}
use Rattle.soqe_number.specs.Updates.{changed}
use Rattle.soqe_term.specs.Occurs.{occurs, occurs_any}
use Rattle.soqe_term.specs.Renumber.{renumbered as renumbered_term, all_renumbered}
use Rattle.soqe_term.specs.Equal.{equal_symbols}
use Rattle.soqe_term.proofs.EqualTerms.{equal_symbols-refl}
use Rattle.soqe_term.proofs.Worlds.{eqb-self}
use Rattle.soqe_form.specs.declared.form.Form.{Form, True, False, Equal, Atom, Not', And', Or', Imp', Iff', All', Ex', All2', Ex2', end_of-Form as end, more_of-Form as one}
use Rattle.soqe_form.specs.Boxes.{boxes}
use Rattle.soqe_form.specs.Free.{free}
use Rattle.soqe_form.specs.Same.{related, same_term, same_terms, same_pred, same_sorts, same_in}
use Rattle.soqe_form.proofs.SameNumbers.{Named}
use Rattle.soqe_form.proofs.SameOrder.{IsDiagonal, diagonal-under, same_pred-self, same_sorts-from}
use Rattle.soqe_norm.specs.Nnf.{is_atomic, is_nnf}
use Rattle.soqe_norm.specs.Apart.{binders, renumbered}

mutual
  unfolding term_boxes

  same_term-renumbered : (vs : List (ℕ × ℕ)) (r : ℕ → ℕ) (t : Term) → Named vs r (λ m. occurs m t) → same_term vs (renumbered_term r t) t ≡ true
  same_term-renumbered vs r (var x) h = and_from (eqb x.sort x.sort) (related vs (r x.num) x.num) (eqb-self x.sort) (h x.num (eqb-self x.num))
  same_term-renumbered vs r (App f s ts) h =
      and_from (equal_symbols f f) (eqb s s && same_terms vs (all_renumbered r ts) ts) (equal_symbols-refl f)
      (and_from (eqb s s) (same_terms vs (all_renumbered r ts) ts) (eqb-self s) (same_terms-renumbered vs r ts h))

  same_terms-renumbered : (vs : List (ℕ × ℕ)) (r : ℕ → ℕ) (ts : Terms) → Named vs r (λ m. occurs_any m ts) → same_terms vs (all_renumbered r ts) ts ≡ true
  same_terms-renumbered vs r Nil h = refl
  same_terms-renumbered vs r (Cons' _ (one-t t end-t) _ (ones-t ts ends-t)) h =
      and_from (same_term vs (renumbered_term r t) t) (same_terms vs (all_renumbered r ts) ts)
      (same_term-renumbered vs r t (λ m o. h m (or_left (occurs m t) (occurs_any m ts) o))) (same_terms-renumbered vs r ts (λ m o. h m (or_right (occurs m t) (occurs_any m ts) o)))

named_step : (p q s : Bool) → p ≡ q → (q ≡ false → s ≡ true) → cond (p || q) (p && q) s ≡ true
named_step true true s e h = refl
named_step true false s e h = let e : true ≡ false = e in cc
named_step false true s e h = let e : false ≡ true = e in cc
named_step false false s e h = h refl

-- below a binder of x that gets the number n, which is that of no other variable
named-under : (vs : List (ℕ × ℕ)) (r : ℕ → ℕ) (x n : ℕ) (p : ℕ → Bool) → Named vs r (λ m. cond (eqb m x) false (p m)) → ((m : ℕ) → cond (eqb m x) false (p m) ≡ true → r m ≢ n)
    → Named ((n, x) ∷ vs) (changed r x n) p
named-under vs r x n p h c m o = choose (eqb m x) refl
  where
    choose : (b : Bool) → eqb m x ≡ b → related ((n, x) ∷ vs) (cond b n (r m)) m ≡ true
    choose true e = named_step (eqb n n) (eqb m x) (related vs n m) (eqb-self n ∙ sym e) (λ d. absurd (both_ways (eqb m x) d e))
    choose false e =
        let q : cond (eqb m x) false (p m) ≡ true = ap (λ b. cond b false (p m)) e ∙ o in
        named_step (eqb (r m) n) (eqb m x) (related vs (r m) m) (ne_eqb (r m) n (c m q) ∙ sym e) (λ d. h m q)

module _ (ns : List ℕ) where
  abbrev number : ℕ → ℕ
  number k = slice_index ns k

  -- no free variable has one of the numbers for the binders, which are the `count` ones from `at` on
  abbrev pub Clear : (ℕ → ℕ) → ℕ → ℕ → (ℕ → Bool) → Type 0
  Clear r at count p = (m k : ℕ) → p m ≡ true → at ≤ k → k < at + count → r m ≢ number k

  -- the numbers are distinct
  abbrev pub Distinct : Type 0
  Distinct = (i j : ℕ) → i < j → j < length ns → number i ≢ number j

  clear-left : (r : ℕ → ℕ) (at : ℕ) (bs cs : List ℕ) (p q : ℕ → Bool) → Clear r at (length (bs ++ cs)) (λ m. p m || q m) → Clear r at (length bs) p
  clear-left r at bs cs p q c m k h l u =
      let e : length (bs ++ cs) ≡ length bs + length cs = length-append bs cs in c m k (or_left (p m) (q m) h) l (omega (arith, u, e))

  clear-right : (r : ℕ → ℕ) (at : ℕ) (bs cs : List ℕ) (p q : ℕ → Bool) → Clear r at (length (bs ++ cs)) (λ m. p m || q m) → Clear r (at + length bs) (length cs) q
  clear-right r at bs cs p q c m k h l u =
      let e : length (bs ++ cs) ≡ length bs + length cs = length-append bs cs in c m k (or_right (p m) (q m) h) (omega (arith, l)) (omega (arith, u, e))

  clear-under : (r : ℕ → ℕ) (at count x : ℕ) (p : ℕ → Bool) → Distinct → at + suc count ≤ length ns → Clear r at (suc count) (λ m. cond (eqb m x) false (p m)) → Clear (changed r x (number at)) (suc at) count p
  clear-under r at count x p d f c m k h l u = choose (eqb m x) refl
    where
      choose : (b : Bool) → eqb m x ≡ b → cond b (number at) (r m) ≢ number k
      choose true e = d at k (omega (arith, l)) (omega (arith, u, f))
      choose false e = c m k (ap (λ b. cond b false (p m)) e ∙ h) (omega (arith, l)) (omega (arith, u))

  fits-left : (at : ℕ) (bs cs : List ℕ) → at + length (bs ++ cs) ≤ length ns → at + length bs ≤ length ns
  fits-left at bs cs f = let e : length (bs ++ cs) ≡ length bs + length cs = length-append bs cs in omega (arith, f, e)

  fits-right : (at : ℕ) (bs cs : List ℕ) → at + length (bs ++ cs) ≤ length ns → at + length bs + length cs ≤ length ns
  fits-right at bs cs f = let e : length (bs ++ cs) ≡ length bs + length cs = length-append bs cs in omega (arith, f, e)

  fits-under : (at count : ℕ) → at + suc count ≤ length ns → suc at + count ≤ length ns
  fits-under at count f = omega (arith, f)

  -- no variable is caught
  abbrev pub Uncaught : ℕ → (ℕ → ℕ) → Form → Type 0
  Uncaught at r f = Clear r at (length (binders f)) (λ m. free m f)

  abbrev pub Room : ℕ → Form → Type 0
  Room at f = at + length (binders f) ≤ length ns

  -- the renumbered formula is the same as the formula, where its free variables are named the same as their new numbers
  abbrev BecomesSame : List (ℕ × ℕ) → List (ℕ × ℕ) → (ℕ → ℕ) → ℕ → Form → Type 0
  BecomesSame vs ps r at f = Room at f → Uncaught at r f → Named vs r (λ m. free m f) → same_in vs ps (renumbered ns r at f) f ≡ true

  same-parts : (vs ps : List (ℕ × ℕ)) (r : ℕ → ℕ) (at : ℕ) (f g : Form) → at + length (binders f ++ binders g) ≤ length ns → Clear r at (length (binders f ++ binders g)) (λ m. free m f || free m g)
      → Named vs r (λ m. free m f || free m g) → BecomesSame vs ps r at f → BecomesSame vs ps r (at + length (binders f)) g
      → (same_in vs ps (renumbered ns r at f) f && same_in vs ps (renumbered ns r (at + length (binders f)) g) g) ≡ true
  same-parts vs ps r at f g o c h first second =
      and_from (same_in vs ps (renumbered ns r at f) f) (same_in vs ps (renumbered ns r (at + length (binders f)) g) g)
      (first (fits-left at (binders f) (binders g) o) (clear-left r at (binders f) (binders g) (λ m. free m f) (λ m. free m g) c) (λ m q. h m (or_left (free m f) (free m g) q)))
      (second (fits-right at (binders f) (binders g) o) (clear-right r at (binders f) (binders g) (λ m. free m f) (λ m. free m g) c) (λ m q. h m (or_right (free m f) (free m g) q)))

  pub same-renumbered : (vs ps : List (ℕ × ℕ)) (r : ℕ → ℕ) (at : ℕ) (f : Form) → Distinct → Room at f → Uncaught at r f → Named vs r (λ m. free m f) → IsDiagonal ps → same_in vs ps (renumbered ns r at f) f ≡ true
  unfolding boxes
  same-renumbered vs ps r at True d o c h k = refl
  same-renumbered vs ps r at False d o c h k = refl
  same-renumbered vs ps r at (Equal s t) d o c h k =
      and_from (same_term vs (renumbered_term r s) s) (same_term vs (renumbered_term r t) t)
      (same_term-renumbered vs r s (λ m q. h m (or_left (occurs m s) (occurs m t) q))) (same_term-renumbered vs r t (λ m q. h m (or_right (occurs m s) (occurs m t) q)))
  same-renumbered vs ps r at (Atom p ts) d o c h k = and_from (same_pred ps p p) (same_terms vs (all_renumbered r ts) ts) (same_pred-self ps p k) (same_terms-renumbered vs r ts h)
  same-renumbered vs ps r at (Not' _ (one f end)) d o c h k = same-renumbered vs ps r at f d o c h k
  same-renumbered vs ps r at (And' _ (one f end) _ (one g end)) d o c h k =
      same-parts vs ps r at f g o c h (λ o c h. same-renumbered vs ps r at f d o c h k) (λ o c h. same-renumbered vs ps r (at + length (binders f)) g d o c h k)
  same-renumbered vs ps r at (Or' _ (one f end) _ (one g end)) d o c h k =
      same-parts vs ps r at f g o c h (λ o c h. same-renumbered vs ps r at f d o c h k) (λ o c h. same-renumbered vs ps r (at + length (binders f)) g d o c h k)
  same-renumbered vs ps r at (Imp' _ (one f end) _ (one g end)) d o c h k =
      same-parts vs ps r at f g o c h (λ o c h. same-renumbered vs ps r at f d o c h k) (λ o c h. same-renumbered vs ps r (at + length (binders f)) g d o c h k)
  same-renumbered vs ps r at (Iff' _ (one f end) _ (one g end)) d o c h k =
      same-parts vs ps r at f g o c h (λ o c h. same-renumbered vs ps r at f d o c h k) (λ o c h. same-renumbered vs ps r (at + length (binders f)) g d o c h k)
  same-renumbered vs ps r at (All' x _ (one f end)) d o c h k =
      and_from (eqb x.sort x.sort) (same_in ((number at, x.num) ∷ vs) ps (renumbered ns (changed r x.num (number at)) (suc at) f) f) (eqb-self x.sort)
      (same-renumbered ((number at, x.num) ∷ vs) ps (changed r x.num (number at)) (suc at) f d (fits-under at (length (binders f)) o) (clear-under r at (length (binders f)) x.num (λ m. free m f) d o c)
      (named-under vs r x.num (number at) (λ m. free m f) h (λ m q. c m at q (omega arith) (omega arith))) k)
  same-renumbered vs ps r at (Ex' x _ (one f end)) d o c h k =
      and_from (eqb x.sort x.sort) (same_in ((number at, x.num) ∷ vs) ps (renumbered ns (changed r x.num (number at)) (suc at) f) f) (eqb-self x.sort)
      (same-renumbered ((number at, x.num) ∷ vs) ps (changed r x.num (number at)) (suc at) f d (fits-under at (length (binders f)) o) (clear-under r at (length (binders f)) x.num (λ m. free m f) d o c)
      (named-under vs r x.num (number at) (λ m. free m f) h (λ m q. c m at q (omega arith) (omega arith))) k)
  same-renumbered vs ps r at (All2' p _ (one f end)) d o c h k =
      and_from (same_sorts p p) (same_in vs ((p.num, p.num) ∷ ps) (renumbered ns r at f) f) (same_sorts-from p p refl) (same-renumbered vs ((p.num, p.num) ∷ ps) r at f d o c h (diagonal-under ps p.num k))
  same-renumbered vs ps r at (Ex2' p _ (one f end)) d o c h k =
      and_from (same_sorts p p) (same_in vs ((p.num, p.num) ∷ ps) (renumbered ns r at f) f) (same_sorts-from p p refl) (same-renumbered vs ((p.num, p.num) ∷ ps) r at f d o c h (diagonal-under ps p.num k))

  -- the `count` numbers from `at` on
  abbrev pub span : ℕ → ℕ → List ℕ
  span at zero = []
  span at (suc count) = number at ∷ span (suc at) count

  span-append : (at m n : ℕ) → span at (m + n) ≡ span at m ++ span (at + m) n
  span-append at zero n = let e : at ≡ at + zero = omega arith in let d : zero + n ≡ n = omega arith in ap (span at) d ∙ ap (λ k. span k n) e
  span-append at (suc m) n =
      let e : suc at + m ≡ at + suc m = omega arith in let d : suc m + n ≡ suc (m + n) = omega arith in
      ap (span at) d ∙ ap (λ l. number at ∷ l) (span-append (suc at) m n ∙ ap (λ k. span (suc at) m ++ span k n) e)

  two-spans : (at : ℕ) (bs cs ds es : List ℕ) → ds ≡ span at (length bs) → es ≡ span (at + length bs) (length cs) → ds ++ es ≡ span at (length (bs ++ cs))
  two-spans at bs cs ds es h k = (λ i. h i ++ k i) ∙ sym (span-append at (length bs) (length cs)) ∙ ap (span at) (sym (length-append bs cs))

  pub binders-renumbered : (r : ℕ → ℕ) (at : ℕ) (f : Form) → binders (renumbered ns r at f) ≡ span at (length (binders f))
  unfolding boxes
  binders-renumbered r at True = refl
  binders-renumbered r at False = refl
  binders-renumbered r at (Equal s t) = refl
  binders-renumbered r at (Atom p ts) = refl
  binders-renumbered r at (Not' _ (one f end)) = binders-renumbered r at f
  binders-renumbered r at (And' _ (one f end) _ (one g end)) =
      two-spans at (binders f) (binders g) (binders (renumbered ns r at f)) (binders (renumbered ns r (at + length (binders f)) g)) (binders-renumbered r at f) (binders-renumbered r (at + length (binders f)) g)
  binders-renumbered r at (Or' _ (one f end) _ (one g end)) =
      two-spans at (binders f) (binders g) (binders (renumbered ns r at f)) (binders (renumbered ns r (at + length (binders f)) g)) (binders-renumbered r at f) (binders-renumbered r (at + length (binders f)) g)
  binders-renumbered r at (Imp' _ (one f end) _ (one g end)) =
      two-spans at (binders f) (binders g) (binders (renumbered ns r at f)) (binders (renumbered ns r (at + length (binders f)) g)) (binders-renumbered r at f) (binders-renumbered r (at + length (binders f)) g)
  binders-renumbered r at (Iff' _ (one f end) _ (one g end)) =
      two-spans at (binders f) (binders g) (binders (renumbered ns r at f)) (binders (renumbered ns r (at + length (binders f)) g)) (binders-renumbered r at f) (binders-renumbered r (at + length (binders f)) g)
  binders-renumbered r at (All' x _ (one f end)) = ap (λ l. number at ∷ l) (binders-renumbered (changed r x.num (number at)) (suc at) f)
  binders-renumbered r at (Ex' x _ (one f end)) = ap (λ l. number at ∷ l) (binders-renumbered (changed r x.num (number at)) (suc at) f)
  binders-renumbered r at (All2' p _ (one f end)) = binders-renumbered r at f
  binders-renumbered r at (Ex2' p _ (one f end)) = binders-renumbered r at f

  is_atomic-renumbered : (r : ℕ → ℕ) (at : ℕ) (f : Form) → is_atomic (renumbered ns r at f) ≡ is_atomic f
  unfolding boxes
  is_atomic-renumbered r at True = refl
  is_atomic-renumbered r at False = refl
  is_atomic-renumbered r at (Equal s t) = refl
  is_atomic-renumbered r at (Atom p ts) = refl
  is_atomic-renumbered r at (Not' _ (one f end)) = refl
  is_atomic-renumbered r at (And' _ (one f end) _ (one g end)) = refl
  is_atomic-renumbered r at (Or' _ (one f end) _ (one g end)) = refl
  is_atomic-renumbered r at (Imp' _ (one f end) _ (one g end)) = refl
  is_atomic-renumbered r at (Iff' _ (one f end) _ (one g end)) = refl
  is_atomic-renumbered r at (All' x _ (one f end)) = refl
  is_atomic-renumbered r at (Ex' x _ (one f end)) = refl
  is_atomic-renumbered r at (All2' x _ (one f end)) = refl
  is_atomic-renumbered r at (Ex2' x _ (one f end)) = refl

  pub is_nnf-renumbered : (r : ℕ → ℕ) (at : ℕ) (f : Form) → is_nnf (renumbered ns r at f) ≡ is_nnf f
  unfolding boxes
  is_nnf-renumbered r at True = refl
  is_nnf-renumbered r at False = refl
  is_nnf-renumbered r at (Equal s t) = refl
  is_nnf-renumbered r at (Atom p ts) = refl
  is_nnf-renumbered r at (Not' _ (one f end)) = is_atomic-renumbered r at f
  is_nnf-renumbered r at (And' _ (one f end) _ (one g end)) = λ i. is_nnf-renumbered r at f i && is_nnf-renumbered r (at + length (binders f)) g i
  is_nnf-renumbered r at (Or' _ (one f end) _ (one g end)) = λ i. is_nnf-renumbered r at f i && is_nnf-renumbered r (at + length (binders f)) g i
  is_nnf-renumbered r at (Imp' _ (one f end) _ (one g end)) = refl
  is_nnf-renumbered r at (Iff' _ (one f end) _ (one g end)) = refl
  is_nnf-renumbered r at (All' x _ (one f end)) = is_nnf-renumbered (changed r x.num (number at)) (suc at) f
  is_nnf-renumbered r at (Ex' x _ (one f end)) = is_nnf-renumbered (changed r x.num (number at)) (suc at) f
  is_nnf-renumbered r at (All2' p _ (one f end)) = is_nnf-renumbered r at f
  is_nnf-renumbered r at (Ex2' p _ (one f end)) = is_nnf-renumbered r at f
