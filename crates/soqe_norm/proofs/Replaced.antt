-- A predicate replaced by a truth value: the truth of the result, and its free names.
use Rattle.std.proofs.Common.{◌≡◌, ℕ, Bool, true, false, cond, eqb, not, ◌||◌, ◌&&◌, map, List, Option, Some, None, refl, sym, ◌∙◌, ap, ⊎_elim}
use Rattle.std.proofs.lemmas.Bool.{eqb-true, or_cases, or_left, or_right}
use Rattle.soqe_term.specs.World.{World, with_var, with_bound}
use Rattle.soqe_term.specs.Value.{values}
use Rattle.soqe_number.specs.Finite.{every, some, every_list, some_list, product, entry}
use Rattle.soqe_term.specs.Occurs.{occurs_any}
use Rattle.soqe_term.proofs.Worlds.{eqb-self, changed-again, changed-commutes, value-bound, values-bound}
use Rattle.soqe_form.specs.declared.form.Pred.{Pred}
use Rattle.soqe_form.specs.declared.form.Pred.TheVariants.{Decl, Bound}
use Rattle.soqe_form.specs.declared.form.Block.{Block}
use Rattle.soqe_form.specs.declared.form.Form.{Form, True, False, Equal, Atom, Not', And', Or', Imp', Iff', All', Ex', All2', Ex2', end_of-Form as end, more_of-Form as one}
use Rattle.soqe_form.specs.Boxes.{boxes}
use Rattle.soqe_form.specs.Truth.{truth, holds, alike}
use Rattle.soqe_form.specs.Free.{free, free_pred, is_bound}
use Rattle.soqe_form.specs.Places.{first_block, within, leftmost, innermost}
use Rattle.soqe_form.specs.Constants.{constant}
use Rattle.soqe_form.proofs.Numbers.{eqb-swap}
use Rattle.soqe_norm.specs.Valued.{valued}

module _ (m : ℕ) (v : Bool) where
  abbrev table : List ℕ → Bool
  table args = v

  constant-true : (w : World) → truth w (constant v) ≡ v
  constant-true w = shown v
    where
      shown : (v : Bool) → truth w (constant v) ≡ v
      shown true = refl
      shown false = refl

  atom-value : (w : World) (q : Pred) (ts : _) → truth w (cond (is_bound m q) (constant v) (Atom q ts)) ≡ holds (with_bound w m table) q (values w ts)
  atom-value w (Decl n) ts = refl
  atom-value w (Bound n) ts = choose (eqb m n) refl
    where
      choose : (b : Bool) → eqb m n ≡ b → truth w (cond b (constant v) (Atom (Bound n) ts)) ≡ cond (eqb n m) table (w.bound n) (values w ts)
      choose true e = constant-true w ∙ (λ i. cond (sym (eqb-swap m n e) i) table (w.bound n) (values w ts))
      choose false e = λ i. cond (sym (eqb-swap m n e) i) table (w.bound n) (values w ts)

  abbrev pub Replaced : World → Form → Type 0
  Replaced w f = truth w (valued m v f) ≡ truth (with_bound w m table) f

  -- below a binder of a predicate: of the same number, it hides the atoms; of another one, it goes before the table
  below-binder : (w : World) (p : ℕ) (t : List ℕ → Bool) (f : Form) → Replaced (with_bound w p t) f
      → truth (with_bound w p t) (cond (eqb m p) f (valued m v f)) ≡ truth (with_bound (with_bound w m table) p t) f
  below-binder w p t f h = choose (eqb m p) refl
    where
      choose : (b : Bool) → eqb m p ≡ b → truth (with_bound w p t) (cond b f (valued m v f)) ≡ truth (with_bound (with_bound w m table) p t) f
      choose true e = sym (ap (λ n. truth (with_bound (with_bound w n table) p t) f) (eqb-true m p e) ∙ (λ i. truth (record w { bound = changed-again w.bound p table t i }) f))
      choose false e = h ∙ sym (λ i. truth (record w { bound = changed-commutes w.bound m p table t e i }) f)

  pub truth-valued : (w : World) (f : Form) → Replaced w f
  unfolding boxes
  truth-valued w True = refl
  truth-valued w False = refl
  truth-valued w (Equal s t) = λ i. eqb (sym (value-bound w m table s) i) (sym (value-bound w m table t) i)
  truth-valued w (Atom q ts) = atom-value w q ts ∙ ap (holds (with_bound w m table) q) (sym (values-bound w m table ts))
  truth-valued w (Not' _ (one f end)) = ap not (truth-valued w f)
  truth-valued w (And' _ (one f end) _ (one g end)) = λ i. truth-valued w f i && truth-valued w g i
  truth-valued w (Or' _ (one f end) _ (one g end)) = λ i. truth-valued w f i || truth-valued w g i
  truth-valued w (Imp' _ (one f end) _ (one g end)) = λ i. not (truth-valued w f i) || truth-valued w g i
  truth-valued w (Iff' _ (one f end) _ (one g end)) = λ i. alike (truth-valued w f i) (truth-valued w g i)
  truth-valued w (All' x _ (one f end)) = λ i. every (w.size x.sort) (λ a. truth-valued (with_var w x.num a) f i)
  truth-valued w (Ex' x _ (one f end)) = λ i. some (w.size x.sort) (λ a. truth-valued (with_var w x.num a) f i)
  truth-valued w (All2' p _ (one f end)) = λ i. every_list (product (map w.size p.args))
      (λ t. below-binder w p.num (entry (map w.size p.args) t) f (truth-valued (with_bound w p.num (entry (map w.size p.args) t)) f) i)
  truth-valued w (Ex2' p _ (one f end)) = λ i. some_list (product (map w.size p.args))
      (λ t. below-binder w p.num (entry (map w.size p.args) t) f (truth-valued (with_bound w p.num (entry (map w.size p.args) t)) f) i)

  -- the free bound predicates stay, but for the replaced one
  abbrev pub Loses : ℕ → Form → Type 0
  Loses n f = free_pred n (valued m v f) ≡ cond (eqb n m) false (free_pred n f)

  hidden_or : (b a c : Bool) → (cond b false a || cond b false c) ≡ cond b false (a || c)
  hidden_or true a c = refl
  hidden_or false a c = refl

  none_hidden : (b : Bool) → false ≡ cond b false false
  none_hidden true = refl
  none_hidden false = refl

  constant-free : (n : ℕ) (v : Bool) → free_pred n (constant v) ≡ false
  constant-free n true = refl
  constant-free n false = refl

  loses-atom : (n : ℕ) (q : Pred) (ts : _) → free_pred n (cond (is_bound m q) (constant v) (Atom q ts)) ≡ cond (eqb n m) false (is_bound n q)
  loses-atom n (Decl k) ts = none_hidden (eqb n m)
  loses-atom n (Bound k) ts = choose (eqb m k) refl
    where
      same : (b : Bool) → b ≡ eqb n m → false ≡ cond (eqb n m) false b
      same true e = λ i. cond (e i) false true
      same false e = none_hidden (eqb n m)

      other : (b : Bool) → eqb n m ≡ b → eqb m k ≡ false → eqb n k ≡ cond b false (eqb n k)
      other true d e = ap (λ n. eqb n k) (eqb-true n m d) ∙ e
      other false d e = refl

      choose : (b : Bool) → eqb m k ≡ b → free_pred n (cond b (constant v) (Atom (Bound k) ts)) ≡ cond (eqb n m) false (eqb n k)
      choose true e = constant-free n v ∙ same (eqb n k) (ap (eqb n) (sym (eqb-true m k e)))
      choose false e = other (eqb n m) refl e

  loses-below : (n p : ℕ) (f : Form) → Loses n f → cond (eqb n p) false (free_pred n (cond (eqb m p) f (valued m v f))) ≡ cond (eqb n m) false (cond (eqb n p) false (free_pred n f))
  loses-below n p f h = choose (eqb n p) refl
    where
      same : (b : Bool) → eqb m p ≡ b → eqb n p ≡ false → free_pred n (cond b f (valued m v f)) ≡ cond (eqb n m) false (free_pred n f)
      same true d e = let k : eqb n m ≡ false = ap (eqb n) (eqb-true m p d) ∙ e in λ i. cond (sym k i) false (free_pred n f)
      same false d e = h

      choose : (b : Bool) → eqb n p ≡ b → cond b false (free_pred n (cond (eqb m p) f (valued m v f))) ≡ cond (eqb n m) false (cond b false (free_pred n f))
      choose true e = none_hidden (eqb n m)
      choose false e = same (eqb m p) refl e

  pub loses-predicate : (n : ℕ) (f : Form) → Loses n f
  unfolding boxes
  loses-predicate n True = none_hidden (eqb n m)
  loses-predicate n False = none_hidden (eqb n m)
  loses-predicate n (Equal s t) = none_hidden (eqb n m)
  loses-predicate n (Atom q ts) = loses-atom n q ts
  loses-predicate n (Not' _ (one f end)) = loses-predicate n f
  loses-predicate n (And' _ (one f end) _ (one g end)) = (λ i. loses-predicate n f i || loses-predicate n g i) ∙ hidden_or (eqb n m) (free_pred n f) (free_pred n g)
  loses-predicate n (Or' _ (one f end) _ (one g end)) = (λ i. loses-predicate n f i || loses-predicate n g i) ∙ hidden_or (eqb n m) (free_pred n f) (free_pred n g)
  loses-predicate n (Imp' _ (one f end) _ (one g end)) = (λ i. loses-predicate n f i || loses-predicate n g i) ∙ hidden_or (eqb n m) (free_pred n f) (free_pred n g)
  loses-predicate n (Iff' _ (one f end) _ (one g end)) = (λ i. loses-predicate n f i || loses-predicate n g i) ∙ hidden_or (eqb n m) (free_pred n f) (free_pred n g)
  loses-predicate n (All' x _ (one f end)) = loses-predicate n f
  loses-predicate n (Ex' x _ (one f end)) = loses-predicate n f
  loses-predicate n (All2' p _ (one f end)) = loses-below n p.num f (loses-predicate n f)
  loses-predicate n (Ex2' p _ (one f end)) = loses-below n p.num f (loses-predicate n f)

  pub predicate-gone : (f : Form) → free_pred m (valued m v f) ≡ false
  predicate-gone f = loses-predicate m f ∙ (λ i. cond (eqb-self m i) false (free_pred m f))

  -- no free variable is new
  abbrev pub Kept : ℕ → Form → Type 0
  Kept n f = free n (valued m v f) ≡ true → free n f ≡ true

  constant-closed : (n : ℕ) (v c : Bool) → free n (constant v) ≡ true → c ≡ true
  constant-closed n true c h = let h : false ≡ true = h in cc
  constant-closed n false c h = let h : false ≡ true = h in cc

  kept-choice : (n : ℕ) (b : Bool) (g f : Form) → (free n g ≡ true → free n f ≡ true) → free n (cond b f g) ≡ true → free n f ≡ true
  kept-choice n true g f k h = h
  kept-choice n false g f k h = k h

  kept-atom : (n : ℕ) (b : Bool) (q : Pred) (ts : _) → free n (cond b (constant v) (Atom q ts)) ≡ true → occurs_any n ts ≡ true
  kept-atom n true q ts h = constant-closed n v (occurs_any n ts) h
  kept-atom n false q ts h = h

  kept-or : (a b c d : Bool) → (a ≡ true → c ≡ true) → (b ≡ true → d ≡ true) → (a || b) ≡ true → (c || d) ≡ true
  kept-or a b c d f g h = ⊎_elim (λ e. or_left c d (f e)) (λ e. or_right c d (g e)) (or_cases a b h)

  kept-below : (b a c : Bool) → (a ≡ true → c ≡ true) → cond b false a ≡ true → cond b false c ≡ true
  kept-below true a c f h = h
  kept-below false a c f h = f h

  pub gains-no-variable : (n : ℕ) (f : Form) → Kept n f
  unfolding boxes
  gains-no-variable n True h = h
  gains-no-variable n False h = h
  gains-no-variable n (Equal s t) h = h
  gains-no-variable n (Atom q ts) h = kept-atom n (is_bound m q) q ts h
  gains-no-variable n (Not' _ (one f end)) h = gains-no-variable n f h
  gains-no-variable n (And' _ (one f end) _ (one g end)) h = kept-or (free n (valued m v f)) (free n (valued m v g)) (free n f) (free n g) (gains-no-variable n f) (gains-no-variable n g) h
  gains-no-variable n (Or' _ (one f end) _ (one g end)) h = kept-or (free n (valued m v f)) (free n (valued m v g)) (free n f) (free n g) (gains-no-variable n f) (gains-no-variable n g) h
  gains-no-variable n (Imp' _ (one f end) _ (one g end)) h = kept-or (free n (valued m v f)) (free n (valued m v g)) (free n f) (free n g) (gains-no-variable n f) (gains-no-variable n g) h
  gains-no-variable n (Iff' _ (one f end) _ (one g end)) h = kept-or (free n (valued m v f)) (free n (valued m v g)) (free n f) (free n g) (gains-no-variable n f) (gains-no-variable n g) h
  gains-no-variable n (All' x _ (one f end)) h = kept-below (eqb n x.num) (free n (valued m v f)) (free n f) (gains-no-variable n f) h
  gains-no-variable n (Ex' x _ (one f end)) h = kept-below (eqb n x.num) (free n (valued m v f)) (free n f) (gains-no-variable n f) h
  gains-no-variable n (All2' p _ (one f end)) h = kept-choice n (eqb m p.num) (valued m v f) f (gains-no-variable n f) h
  gains-no-variable n (Ex2' p _ (one f end)) h = kept-choice n (eqb m p.num) (valued m v f) f (gains-no-variable n f) h

  -- no quantifier of a predicate is new
  abbrev pub Blockless : Form → Type 0
  Blockless f = first_block f ≡ None → first_block (valued m v f) ≡ None

  within-none : (n : ℕ) (o p : Option Block) → (o ≡ None → p ≡ None) → within n o ≡ None → within n p ≡ None
  within-none n None p k h = ap (within n) (k refl)
  within-none n (Some b) p k h = cc

  leftmost-none : (a b c d : Option Block) → (a ≡ None → c ≡ None) → (b ≡ None → d ≡ None) → leftmost a b ≡ None → leftmost c d ≡ None
  leftmost-none None b c d f g h = ap (λ c. leftmost c d) (f refl) ∙ g h
  leftmost-none (Some a) b c d f g h = cc

  two-blockless : (f g : Form) → Blockless f → Blockless g → leftmost (within 0 (first_block f)) (within 1 (first_block g)) ≡ None
      → leftmost (within 0 (first_block (valued m v f))) (within 1 (first_block (valued m v g))) ≡ None
  two-blockless f g a b h = leftmost-none (within 0 (first_block f)) (within 1 (first_block g)) (within 0 (first_block (valued m v f))) (within 1 (first_block (valued m v g)))
      (within-none 0 (first_block f) (first_block (valued m v f)) a) (within-none 1 (first_block g) (first_block (valued m v g)) b) h

  never-none : {A : Type 0} (o : Option Block) (b : Block) → innermost o b ≡ None → A
  never-none None b h = cc
  never-none (Some c) b h = cc

  constant-blockless : (b : Bool) (q : Pred) (ts : _) → first_block (cond b (constant v) (Atom q ts)) ≡ None
  constant-blockless b q ts = shown b v
    where
      shown : (b v : Bool) → first_block (cond b (constant v) (Atom q ts)) ≡ None
      shown true true = refl
      shown true false = refl
      shown false v = refl

  pub gains-no-block : (f : Form) → Blockless f
  unfolding boxes
  gains-no-block True h = h
  gains-no-block False h = h
  gains-no-block (Equal s t) h = h
  gains-no-block (Atom q ts) h = constant-blockless (is_bound m q) q ts
  gains-no-block (Not' _ (one f end)) h = within-none 0 (first_block f) (first_block (valued m v f)) (gains-no-block f) h
  gains-no-block (And' _ (one f end) _ (one g end)) h = two-blockless f g (gains-no-block f) (gains-no-block g) h
  gains-no-block (Or' _ (one f end) _ (one g end)) h = two-blockless f g (gains-no-block f) (gains-no-block g) h
  gains-no-block (Imp' _ (one f end) _ (one g end)) h = two-blockless f g (gains-no-block f) (gains-no-block g) h
  gains-no-block (Iff' _ (one f end) _ (one g end)) h = two-blockless f g (gains-no-block f) (gains-no-block g) h
  gains-no-block (All' x _ (one f end)) h = within-none 0 (first_block f) (first_block (valued m v f)) (gains-no-block f) h
  gains-no-block (Ex' x _ (one f end)) h = within-none 0 (first_block f) (first_block (valued m v f)) (gains-no-block f) h
  gains-no-block (All2' p _ (one f end)) h = never-none (first_block f) _ h
  gains-no-block (Ex2' p _ (one f end)) h = never-none (first_block f) _ h
