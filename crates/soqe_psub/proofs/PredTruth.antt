-- What a formula says after a predicate was replaced: it has the truth of the formula under the table that the body defines.
--
-- An atom of the predicate says what the table says, by the law of substitution. Below a binder the table is as before: a binder
-- that would change it is renamed where an atom stands below it, and where none does the table doesn't matter.
use Rattle.std.proofs.Common.{◌≡◌, ℕ, zero, suc, ◌<◌, ◌≤◌, Bool, true, false, cond, eqb, not, ◌||◌, ◌&&◌, map, List, [], ◌∷◌, length, refl, sym, ◌∙◌, ap, arith}
use Rattle.std.proofs.lemmas.Bool.{eqb-true, ne_eqb, or_from, both_ways}
use Rattle.soqe_term.specs.declared.term.Var.{Var}
use Rattle.soqe_term.specs.declared.term.Terms.{Terms, Nil, Cons', end_of-Term as end-t, more_of-Term as one-t, end_of-Terms as ends-t, more_of-Terms as ones-t}
use Rattle.soqe_term.specs.World.{World, with_var, with_bound}
use Rattle.soqe_number.specs.Updates.{changed}
use Rattle.soqe_term.specs.Value.{value, values}
use Rattle.soqe_number.specs.Finite.{every, some, every_list, some_list, product, entry}
use Rattle.soqe_term.specs.Bindings.{assigned}
use Rattle.soqe_number.proofs.Choices.{by_cases, bool_cases, and_first, and_second, and_fails}
use Rattle.soqe_term.proofs.Worlds.{reading, changed-at, changed-off, agree_changed}
use Rattle.soqe_form.specs.declared.form.PVar.{PVar}
use Rattle.soqe_form.specs.declared.form.Pred.{Pred}
use Rattle.soqe_form.specs.declared.form.Pred.TheVariants.{Decl, Bound}
use Rattle.soqe_form.specs.declared.form.Form.{Form, True, False, Equal, Atom, Not', And', Or', Imp', Iff', All', Ex', All2, All2', Ex2, Ex2', end_of-Form as end, more_of-Form as one}
use Rattle.soqe_form.specs.Boxes.{boxes}
use Rattle.soqe_form.specs.Truth.{truth, holds, alike}
use Rattle.soqe_form.specs.Free.{free, free_pred}
use Rattle.soqe_form.specs.FreeVars.{is_among}
use Rattle.soqe_form.specs.FreePreds.{count, same_pred, hides, has_free, with_pred}
use Rattle.soqe_form.specs.Mentions.{depth}
use Rattle.soqe_subst.specs.PredRenaming.{renamed_pred, renumbered}
use Rattle.soqe_subst.specs.Substitution.{renamed, sub}
use Rattle.soqe_term.specs.Renumber.{numbered}
use Rattle.soqe_form.proofs.Agree.{truth-agree}
use Rattle.soqe_subst.proofs.Binders.{assigned-without}
use Rattle.soqe_form.proofs.FreePreds.{same_pred-true, holds-with_pred, holds-other, holds-beside, with_pred-commutes, values-with_pred, value-with_pred, truth-unchanged, truth-same_table}
use Rattle.soqe_subst.proofs.PredRenamings.{truth-other_number, depth-renamed_pred, free_pred-mentions, hides-none}
use Rattle.soqe_subst.proofs.Renamings.{truth-renamed, depth-renamed, depth-positive, free-mentions}
use Rattle.soqe_subst.proofs.Substitutions.{truth-sub, same_sort_of}
use Rattle.soqe_psub.specs.PredSubst.{arguments, catches_var, fresh_var, new_binder, new_body, catches_pred, fresh_pred, new_pred_binder, new_pred_body, atom_sub, pred_sub}
use Rattle.soqe_psub.specs.PredSubstLaws.{with_args, table}
use Rattle.soqe_psub.proofs.NewNumbers.{IsNew, fresh_var-is, IsNewPred, fresh_pred-is}

-- ---- arguments

pub length-values : (w : World) (ts : Terms) → length (values w ts) ≡ count ts
length-values w Nil = refl
length-values w (Cons' _ (one-t t end-t) _ (ones-t ts ends-t)) = ap suc (length-values w ts)

-- the binding of the arguments gives the parameters the values of the arguments
pub assigned-arguments : (w : World) (xs : List Var) (ts : Terms) → assigned w (arguments xs ts) ≡ with_args w.element xs (values w ts)
assigned-arguments w [] ts = refl
assigned-arguments w (x ∷ xs) Nil = refl
assigned-arguments w (x ∷ xs) (Cons' _ (one-t t end-t) _ (ones-t ts ends-t)) =
    assigned-without w x.num (value w t) (arguments xs ts) ∙ ap (λ e. changed e x.num (value w t)) (assigned-arguments w xs ts)

-- elements that agree off the parameters agree with the arguments set
args-agree : (xs : List Var) (args : List ℕ) (e d : ℕ → ℕ) (n : ℕ) → length args ≡ length xs → (is_among xs n ≡ false → e n ≡ d n) → with_args e xs args n ≡ with_args d xs args n
args-agree [] args e d n l h = h refl
args-agree (x ∷ xs) [] e d n l h = absurd (omega (arith, l))
args-agree (x ∷ xs) (a ∷ more) e d n l h =
    bool_cases (λ q. eqb n x.num ≡ q → cond q a (with_args e xs more n) ≡ cond q a (with_args d xs more n)) (eqb n x.num)
    (λ _ q. refl) (λ _ q. args-agree xs more e d n (omega (arith, l)) (λ o. h (or_from (eqb n x.num) (is_among xs n) q o))) refl

-- a conjunction that fails though its second part holds
pub first_fails : (b c : Bool) → c ≡ true → (b && c) ≡ false → b ≡ false
first_fails true c e h = absurd (both_ways c h e)
first_fails false c e h = refl

none_with : (c d : Bool) → c ≡ false → (c && d) ≡ false
none_with true d e = let e : true ≡ false = e in cc
none_with false d e = refl

pub same_args_of : (q : Bool) (p : PVar) (n : ℕ) → (cond q (renumbered p n) p).args ≡ p.args
same_args_of true p n = refl
same_args_of false p n = refl

-- ---- the table

holds-element : (w : World) (e : ℕ → ℕ) (q : Pred) → holds (record w { element = e }) q ≡ holds w q
holds-element w e (Decl n) = refl
holds-element w e (Bound n) = refl

module _ (q : Pred) (xs : List Var) (b : Form) where
  -- the table doesn't depend on a variable that is a parameter, or not free in the body
  table-var : (w : World) (y a : ℕ) → (free y b && not (is_among xs y)) ≡ false → table (with_var w y a) q xs b ≡ table w q xs b
  table-var w y a h = λ i args. each args i
    where
      off : (f p : Bool) → (f && not p) ≡ false → p ≡ false → f ≡ false
      off f true h e = let e : true ≡ false = e in cc
      off true false h e = h
      off false false h e = refl

      point : (args : List ℕ) → length args ≡ length xs → (n : ℕ) → free n b ≡ true → with_args (changed w.element y a) xs args n ≡ with_args w.element xs args n
      point args l n o = args-agree xs args (changed w.element y a) w.element n l
          (λ p. changed-off w.element y n a (ne_eqb n y (λ e. both_ways (free n b) (ap (λ k. free k b) e ∙ off (free y b) (is_among xs y) h (ap (is_among xs) (sym e) ∙ p)) o)))

      each : (args : List ℕ) → table (with_var w y a) q xs b args ≡ table w q xs b args
      each args =
          bool_cases (λ r. eqb (length args) (length xs) ≡ r → cond r (truth (reading w (with_args (changed w.element y a) xs args) w.bound) b) (holds (with_var w y a) q args) ≡ cond r (truth (reading w (with_args w.element xs args) w.bound) b) (holds w q args)) (eqb (length args) (length xs))
          (λ _ r. truth-agree w (with_args (changed w.element y a) xs args) (with_args w.element xs args) w.bound w.bound b (point args (eqb-true (length args) (length xs) r)) (λ n o. refl))
          (λ _ r. (λ i. holds-element w (changed w.element y a) q i args)) refl

  -- nor on another bound predicate that is not free in the body
  table-bound : (w : World) (p : ℕ) (t : List ℕ → Bool) → free_pred p b ≡ false → hides p q ≡ false → table (with_bound w p t) q xs b ≡ table w q xs b
  table-bound w p t h e = λ i args.
      cond (eqb (length args) (length xs))
      (truth-agree w (with_args w.element xs args) (with_args w.element xs args) (changed w.bound p t) w.bound b (λ n o. refl) (agree_changed (λ n. free_pred n b) w.bound p t h) i)
      (holds-beside w q p t e i args)

  -- the world in which the predicate has the table
  abbrev pub defined : World → World
  defined w = with_pred w q (table w q xs b)

  abbrev Keeps : ℕ → Type 0
  Keeps k = (w : World) (f : Form) → depth f ≤ k → truth w (pred_sub k q xs b f) ≡ truth (defined w) f

  -- ---- below a binder of a variable

  renamed_below : (k : ℕ) (w : World) (y : Var) (f : Form) (z a : ℕ) → Keeps k → depth f ≤ k → IsNew b f z
      → truth (with_var w z a) (pred_sub k q xs b (renamed y.num (numbered y z) f)) ≡ truth (with_var (defined w) y.num a) f
  renamed_below k w y f z a h d new =
      let d2 : depth (renamed y.num (numbered y z) f) ≤ k = omega (arith, depth-renamed y.num (numbered y z) f) in
      h (with_var w z a) (renamed y.num (numbered y z) f) d2
      ∙ ap (λ t. truth (with_pred (with_var w z a) q t) (renamed y.num (numbered y z) f)) (table-var w z a (none_with (free z b) (not (is_among xs z)) (free-mentions z b new.not_b)))
      ∙ truth-renamed (with_var (defined w) z a) y.num (numbered y z) f new.not_f
      ∙ ap (λ u. truth (with_var (with_var (defined w) z a) y.num u) f) (changed-at w.element z a)
      ∙ truth-agree (defined w) (changed (changed w.element z a) y.num a) (changed w.element y.num a) (defined w).bound (defined w).bound f
      (λ n o. ap (λ v. cond (eqb n y.num) a v) (agree_changed (λ n. free n f) w.element z a (free-mentions z f new.not_f) n o)) (λ n o. refl)

  kept_below : (k : ℕ) (w : World) (y : Var) (f : Form) (a : ℕ) → Keeps k → depth f ≤ k → catches_var q xs b y f ≡ false
      → truth (with_var w y.num a) (pred_sub k q xs b f) ≡ truth (with_var (defined w) y.num a) f
  kept_below k w y f a h d c =
      h (with_var w y.num a) f d
      ∙ truth-same_table (with_var w y.num a) q (table (with_var w y.num a) q xs b) (table w q xs b) f
      (λ o. table-var w y.num a (first_fails (free y.num b && not (is_among xs y.num)) (has_free q f) o c))

  below_var : (k : ℕ) (w : World) (y : Var) (f : Form) → Keeps k → depth f ≤ k → (a : ℕ)
      → truth (with_var w (new_binder q xs b y f).num a) (pred_sub k q xs b (new_body q xs b y f)) ≡ truth (with_var (defined w) y.num a) f
  below_var k w y f h d a =
      let z : ℕ = fresh_var xs b y f in
      bool_cases (λ c. truth (with_var w (cond c (numbered y z) y).num a) (pred_sub k q xs b (cond c (renamed y.num (numbered y z) f) f)) ≡ truth (with_var (defined w) y.num a) f) (catches_var q xs b y f)
      (λ c. renamed_below k w y f z a h d (fresh_var-is xs b y f))
      (λ c. kept_below k w y f a h d c)

  -- ---- below a binder of a predicate

  renamed_below_pred : (k : ℕ) (w : World) (p n : ℕ) (t : List ℕ → Bool) (f : Form) → Keeps k → depth f ≤ k → has_free q f ≡ true → IsNewPred b f n
      → truth (with_bound w n t) (pred_sub k q xs b (renamed_pred p n f)) ≡ truth (with_bound (defined w) p t) f
  renamed_below_pred k w p n t f h d o new =
      let d2 : depth (renamed_pred p n f) ≤ k = omega (arith, depth-renamed_pred p n f) in
      let beside : hides n q ≡ false = hides-none q n f new.not_f o in
      h (with_bound w n t) (renamed_pred p n f) d2
      ∙ ap (λ u. truth (with_pred (with_bound w n t) q u) (renamed_pred p n f)) (table-bound w n t (free_pred-mentions n b new.not_b) beside)
      ∙ ap (λ v. truth v (renamed_pred p n f)) (sym (with_pred-commutes w q (table w q xs b) n t beside))
      ∙ truth-other_number (defined w) p n t f new.not_f

  kept_below_pred : (k : ℕ) (w : World) (p : PVar) (t : List ℕ → Bool) (f : Form) → Keeps k → depth f ≤ k → hides p.num q ≡ false → catches_pred q b p f ≡ false
      → truth (with_bound w p.num t) (pred_sub k q xs b f) ≡ truth (with_bound (defined w) p.num t) f
  kept_below_pred k w p t f h d beside c =
      h (with_bound w p.num t) f d
      ∙ truth-same_table (with_bound w p.num t) q (table (with_bound w p.num t) q xs b) (table w q xs b) f
      (λ o. table-bound w p.num t (first_fails (free_pred p.num b) (has_free q f) o c) beside)
      ∙ ap (λ v. truth v f) (sym (with_pred-commutes w q (table w q xs b) p.num t beside))

  below_pred : (k : ℕ) (w : World) (p : PVar) (f : Form) → Keeps k → depth f ≤ k → hides p.num q ≡ false → (t : List ℕ → Bool)
      → truth (with_bound w (new_pred_binder q b p f).num t) (pred_sub k q xs b (new_pred_body q b p f)) ≡ truth (with_bound (defined w) p.num t) f
  below_pred k w p f h d beside t =
      let n : ℕ = fresh_pred b p f in
      bool_cases (λ c. truth (with_bound w (cond c (renumbered p n) p).num t) (pred_sub k q xs b (cond c (renamed_pred p.num n f) f)) ≡ truth (with_bound (defined w) p.num t) f) (catches_pred q b p f)
      (λ c. renamed_below_pred k w p.num n t f h d (and_second (free_pred p.num b) (has_free q f) c) (fresh_pred-is b p f))
      (λ c. kept_below_pred k w p t f h d beside c)

  -- ---- atoms

  at_table : (w : World) (args : List ℕ) (r : Bool) → eqb (length args) (length xs) ≡ r → table w q xs b args ≡ cond r (truth (reading w (with_args w.element xs args) w.bound) b) (holds w q args)
  at_table w args r e = ap (λ c. cond c (truth (reading w (with_args w.element xs args) w.bound) b) (holds w q args)) e

  replaced_atom : (w : World) (p : Pred) (ts : Terms) → (same_pred q p && eqb (count ts) (length xs)) ≡ true → truth w (sub (depth b) (arguments xs ts) b) ≡ holds (defined w) p (values w ts)
  replaced_atom w p ts e =
      let long : eqb (length (values w ts)) (length xs) ≡ true = ap (λ l. eqb l (length xs)) (length-values w ts) ∙ and_second (same_pred q p) (eqb (count ts) (length xs)) e in
      truth-sub (depth b) w (arguments xs ts) b (omega arith)
      ∙ ap (λ d. truth (reading w d w.bound) b) (assigned-arguments w xs ts)
      ∙ sym (at_table w (values w ts) true long)
      ∙ ap (λ u. u (values w ts)) (sym (holds-with_pred w q (table w q xs b)))
      ∙ ap (λ p. holds (defined w) p (values w ts)) (same_pred-true q p (and_first (same_pred q p) (eqb (count ts) (length xs)) e))

  kept_atom : (w : World) (p : Pred) (ts : Terms) → (same_pred q p && eqb (count ts) (length xs)) ≡ false → holds w p (values w ts) ≡ holds (defined w) p (values w ts)
  kept_atom w p ts e =
      bool_cases (λ c. same_pred q p ≡ c → holds w p (values w ts) ≡ holds (defined w) p (values w ts)) (same_pred q p)
      (λ _ c.
      let short : eqb (length (values w ts)) (length xs) ≡ false = ap (λ l. eqb l (length xs)) (length-values w ts) ∙ and_fails (same_pred q p) (eqb (count ts) (length xs)) c e in
      let same : q ≡ p = same_pred-true q p c in
      ap (λ p. holds w p (values w ts)) (sym same)
      ∙ sym (at_table w (values w ts) false short)
      ∙ ap (λ u. u (values w ts)) (sym (holds-with_pred w q (table w q xs b)))
      ∙ ap (λ p. holds (defined w) p (values w ts)) same)
      (λ _ c. ap (λ u. u (values w ts)) (sym (holds-other w q p (table w q xs b) c)))
      refl

  truth_atom : (w : World) (p : Pred) (ts : Terms) → truth w (atom_sub q xs b p ts) ≡ holds (defined w) p (values (defined w) ts)
  truth_atom w p ts =
      by_cases (λ r. truth w r ≡ holds (defined w) p (values w ts)) (same_pred q p && eqb (count ts) (length xs)) (sub (depth b) (arguments xs ts) b) (Atom p ts)
      (λ e. replaced_atom w p ts e)
      (λ e. kept_atom w p ts e)
      ∙ ap (holds (defined w) p) (sym (values-with_pred w q (table w q xs b) ts))

  -- ---- quantifiers of predicates

  truth_all2 : (k : ℕ) (w : World) (p : PVar) (f : Form) → Keeps k → depth f ≤ k
      → truth w (cond (hides p.num q) (All2 p f) (All2 (new_pred_binder q b p f) (pred_sub k q xs b (new_pred_body q b p f)))) ≡ truth (defined w) (All2 p f)
  unfolding boxes
  truth_all2 k w p f h d =
      let r : PVar = new_pred_binder q b p f in
      let g : Form = pred_sub k q xs b (new_pred_body q b p f) in
      by_cases (λ r. truth w r ≡ truth (defined w) (All2 p f)) (hides p.num q) (All2 p f) (All2 r g)
      (λ e. sym (truth-unchanged w q (table w q xs b) (All2 p f) (ap (λ c. cond c false (has_free q f)) e)))
      (λ e. ap (λ sorts. every_list (product (map w.size sorts)) (λ t. truth (with_bound w r.num (entry (map w.size sorts) t)) g)) (same_args_of (catches_pred q b p f) p (fresh_pred b p f))
      ∙ (λ i. every_list (product (map w.size p.args)) (λ t. below_pred k w p f h d e (entry (map w.size p.args) t) i)))

  truth_ex2 : (k : ℕ) (w : World) (p : PVar) (f : Form) → Keeps k → depth f ≤ k
      → truth w (cond (hides p.num q) (Ex2 p f) (Ex2 (new_pred_binder q b p f) (pred_sub k q xs b (new_pred_body q b p f)))) ≡ truth (defined w) (Ex2 p f)
  unfolding boxes
  truth_ex2 k w p f h d =
      let r : PVar = new_pred_binder q b p f in
      let g : Form = pred_sub k q xs b (new_pred_body q b p f) in
      by_cases (λ r. truth w r ≡ truth (defined w) (Ex2 p f)) (hides p.num q) (Ex2 p f) (Ex2 r g)
      (λ e. sym (truth-unchanged w q (table w q xs b) (Ex2 p f) (ap (λ c. cond c false (has_free q f)) e)))
      (λ e. ap (λ sorts. some_list (product (map w.size sorts)) (λ t. truth (with_bound w r.num (entry (map w.size sorts) t)) g)) (same_args_of (catches_pred q b p f) p (fresh_pred b p f))
      ∙ (λ i. some_list (product (map w.size p.args)) (λ t. below_pred k w p f h d e (entry (map w.size p.args) t) i)))

  -- the truth after a predicate was replaced is that under the table which the body defines
  pub truth-pred_sub : (k : ℕ) → Keeps k
  unfolding boxes
  truth-pred_sub zero w f h = let p : 0 < depth f = depth-positive f in absurd (omega arith)
  truth-pred_sub (suc k) w True h = refl
  truth-pred_sub (suc k) w False h = refl
  truth-pred_sub (suc k) w (Equal s t) h = λ i. eqb (sym (value-with_pred w q (table w q xs b) s) i) (sym (value-with_pred w q (table w q xs b) t) i)
  truth-pred_sub (suc k) w (Atom p ts) h = truth_atom w p ts
  truth-pred_sub (suc k) w (Not' _ (one f end)) h = ap not (truth-pred_sub k w f (omega arith))
  truth-pred_sub (suc k) w (And' _ (one f end) _ (one g end)) h = λ i. truth-pred_sub k w f (omega arith) i && truth-pred_sub k w g (omega arith) i
  truth-pred_sub (suc k) w (Or' _ (one f end) _ (one g end)) h = λ i. truth-pred_sub k w f (omega arith) i || truth-pred_sub k w g (omega arith) i
  truth-pred_sub (suc k) w (Imp' _ (one f end) _ (one g end)) h = λ i. not (truth-pred_sub k w f (omega arith) i) || truth-pred_sub k w g (omega arith) i
  truth-pred_sub (suc k) w (Iff' _ (one f end) _ (one g end)) h = λ i. alike (truth-pred_sub k w f (omega arith) i) (truth-pred_sub k w g (omega arith) i)
  truth-pred_sub (suc k) w (All' y _ (one f end)) h =
      λ i. every (w.size (same_sort_of (catches_var q xs b y f) y (fresh_var xs b y f) i)) (λ a. below_var k w y f (truth-pred_sub k) (omega arith) a i)
  truth-pred_sub (suc k) w (Ex' y _ (one f end)) h =
      λ i. some (w.size (same_sort_of (catches_var q xs b y f) y (fresh_var xs b y f) i)) (λ a. below_var k w y f (truth-pred_sub k) (omega arith) a i)
  truth-pred_sub (suc k) w (All2' p _ (one f end)) h = truth_all2 k w p f (truth-pred_sub k) (omega arith)
  truth-pred_sub (suc k) w (Ex2' p _ (one f end)) h = truth_ex2 k w p f (truth-pred_sub k) (omega arith)
