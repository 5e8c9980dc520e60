-- The first block stands at its place, and no quantifier of a predicate stands in its body.
use Rattle.std.proofs.Common.{◌≡◌, ℕ, true, false, cond, ◌||◌, List, [], ◌∷◌, Option, Some, None, refl, sym, ◌∙◌, ap}
use Rattle.std.specs.Prelude.{is_some}
use Rattle.soqe_term.specs.Sorting.{Sorting, over_bound}
use Rattle.soqe_form.specs.declared.form.Form.{Form, True, False, Equal, Atom, Not, Not', And, And', Or, Or', Imp, Imp', Iff, Iff', All, All', Ex, Ex', All2, All2', Ex2, Ex2', end_of-Form as end, more_of-Form as one}
use Rattle.soqe_form.specs.declared.form.Block.{Block}
use Rattle.soqe_form.specs.Boxes.{boxes}
use Rattle.soqe_form.specs.Places.{part_at, within, leftmost, innermost, first_block, quantified, has_blocks, scope_at}
use Rattle.soqe_form.specs.Sorted.{sorted}
use Rattle.soqe_form.proofs.Places.{sorted-part}

Some-is : {A : Type 0} {a b : A} → Some a ≡ Some b → a ≡ b
Some-is e = cc

-- the block stands in the formula
abbrev pub Stands : Form → Option Block → Type 0
Stands f o = (b : Block) → o ≡ Some b → part_at b.place f ≡ Some (quantified b)

none_of : {A : Type 0} {b : Block} → None ≡ Some b → A
none_of e = cc

-- a block of a child, one place further down
down : (n : ℕ) (f whole : Form) (o : Option Block) → ((p : List ℕ) → part_at (n ∷ p) whole ≡ part_at p f) → Stands f o → Stands whole (within n o)
down n f whole None at h b e = none_of e
down n f whole (Some c) at h b e =
    ap (λ b. part_at b.place whole) (sym (Some-is e)) ∙ at c.place ∙ h c refl ∙ ap (λ b. Some (quantified b)) (Some-is e)

both : (whole : Form) (o q : Option Block) → Stands whole o → Stands whole q → Stands whole (leftmost o q)
both whole None q h k = k
both whole (Some c) q h k = h

itself : (whole f : Form) (o : Option Block) (d : Block) → ((p : List ℕ) → part_at (0 ∷ p) whole ≡ part_at p f) → Stands f o
    → part_at d.place whole ≡ Some (quantified d) → Stands whole (innermost o d)
itself whole f None d at h k = λ b e. ap (λ b. part_at b.place whole) (sym (Some-is e)) ∙ k ∙ ap (λ b. Some (quantified b)) (Some-is e)
itself whole f (Some c) d at h k = down 0 f whole (Some c) at h

pub block-stands : (f : Form) → Stands f (first_block f)
unfolding boxes
block-stands True = λ b e. none_of e
block-stands False = λ b e. none_of e
block-stands (Equal s t) = λ b e. none_of e
block-stands (Atom q ts) = λ b e. none_of e
block-stands (Not' _ (one f end)) = down 0 f (Not f) (first_block f) (λ p. refl) (block-stands f)
block-stands (And' _ (one f end) _ (one g end)) = both (And f g) (within 0 (first_block f)) (within 1 (first_block g))
    (down 0 f (And f g) (first_block f) (λ p. refl) (block-stands f)) (down 1 g (And f g) (first_block g) (λ p. refl) (block-stands g))
block-stands (Or' _ (one f end) _ (one g end)) = both (Or f g) (within 0 (first_block f)) (within 1 (first_block g))
    (down 0 f (Or f g) (first_block f) (λ p. refl) (block-stands f)) (down 1 g (Or f g) (first_block g) (λ p. refl) (block-stands g))
block-stands (Imp' _ (one f end) _ (one g end)) = both (Imp f g) (within 0 (first_block f)) (within 1 (first_block g))
    (down 0 f (Imp f g) (first_block f) (λ p. refl) (block-stands f)) (down 1 g (Imp f g) (first_block g) (λ p. refl) (block-stands g))
block-stands (Iff' _ (one f end) _ (one g end)) = both (Iff f g) (within 0 (first_block f)) (within 1 (first_block g))
    (down 0 f (Iff f g) (first_block f) (λ p. refl) (block-stands f)) (down 1 g (Iff f g) (first_block g) (λ p. refl) (block-stands g))
block-stands (All' x _ (one f end)) = down 0 f (All x f) (first_block f) (λ p. refl) (block-stands f)
block-stands (Ex' x _ (one f end)) = down 0 f (Ex x f) (first_block f) (λ p. refl) (block-stands f)
block-stands (All2' q _ (one f end)) = itself (All2 q f) f (first_block f) (record { exists = false; pred = q; body = f; place = [] }) (λ p. refl) (block-stands f) refl
block-stands (Ex2' q _ (one f end)) = itself (Ex2 q f) f (first_block f) (record { exists = true; pred = q; body = f; place = [] }) (λ p. refl) (block-stands f) refl

some-within : (n : ℕ) (o : Option Block) → is_some (within n o) ≡ is_some o
some-within n None = refl
some-within n (Some b) = refl

some-leftmost : (o q : Option Block) → is_some (leftmost o q) ≡ (is_some o || is_some q)
some-leftmost None q = refl
some-leftmost (Some b) q = refl

some-innermost : (o : Option Block) (d : Block) → is_some (innermost o d) ≡ true
some-innermost None d = refl
some-innermost (Some c) d = refl

two-children : (f g : Form) → is_some (first_block f) ≡ has_blocks f → is_some (first_block g) ≡ has_blocks g
    → is_some (leftmost (within 0 (first_block f)) (within 1 (first_block g))) ≡ (has_blocks f || has_blocks g)
two-children f g h k =
    some-leftmost (within 0 (first_block f)) (within 1 (first_block g))
    ∙ (λ i. (some-within 0 (first_block f) ∙ h) i || (some-within 1 (first_block g) ∙ k) i)

-- a first block is found exactly where the formula has a quantifier of a predicate
pub some-first_block : (f : Form) → is_some (first_block f) ≡ has_blocks f
some-first_block True = refl
some-first_block False = refl
some-first_block (Equal s t) = refl
some-first_block (Atom q ts) = refl
some-first_block (Not' _ (one f end)) = some-within 0 (first_block f) ∙ some-first_block f
some-first_block (And' _ (one f end) _ (one g end)) = two-children f g (some-first_block f) (some-first_block g)
some-first_block (Or' _ (one f end) _ (one g end)) = two-children f g (some-first_block f) (some-first_block g)
some-first_block (Imp' _ (one f end) _ (one g end)) = two-children f g (some-first_block f) (some-first_block g)
some-first_block (Iff' _ (one f end) _ (one g end)) = two-children f g (some-first_block f) (some-first_block g)
some-first_block (All' x _ (one f end)) = some-within 0 (first_block f) ∙ some-first_block f
some-first_block (Ex' x _ (one f end)) = some-within 0 (first_block f) ∙ some-first_block f
some-first_block (All2' q _ (one f end)) = some-innermost (first_block f) (record { exists = false; pred = q; body = f; place = [] })
some-first_block (Ex2' q _ (one f end)) = some-innermost (first_block f) (record { exists = true; pred = q; body = f; place = [] })

-- the body of the block, if there is one, has no quantifier of a predicate
abbrev pub Bare : Option Block → Type 0
Bare o = (b : Block) → o ≡ Some b → has_blocks b.body ≡ false

bare-within : (n : ℕ) (o : Option Block) → Bare o → Bare (within n o)
bare-within n None h b e = none_of e
bare-within n (Some c) h b e = ap (λ b. has_blocks b.body) (sym (Some-is e)) ∙ h c refl

bare-leftmost : (o q : Option Block) → Bare o → Bare q → Bare (leftmost o q)
bare-leftmost None q h k = k
bare-leftmost (Some c) q h k = h

bare-innermost : (o : Option Block) (d : Block) → Bare o → is_some o ≡ has_blocks d.body → Bare (innermost o d)
bare-innermost None d h k b e = ap (λ b. has_blocks b.body) (sym (Some-is e)) ∙ sym k
bare-innermost (Some c) d h k b e = bare-within 0 (Some c) h b e

pub block-bare : (f : Form) → Bare (first_block f)
block-bare True b e = none_of e
block-bare False b e = none_of e
block-bare (Equal s t) b e = none_of e
block-bare (Atom q ts) b e = none_of e
block-bare (Not' _ (one f end)) b e = bare-within 0 (first_block f) (block-bare f) b e
block-bare (And' _ (one f end) _ (one g end)) b e =
    bare-leftmost (within 0 (first_block f)) (within 1 (first_block g)) (bare-within 0 (first_block f) (block-bare f)) (bare-within 1 (first_block g) (block-bare g)) b e
block-bare (Or' _ (one f end) _ (one g end)) b e =
    bare-leftmost (within 0 (first_block f)) (within 1 (first_block g)) (bare-within 0 (first_block f) (block-bare f)) (bare-within 1 (first_block g) (block-bare g)) b e
block-bare (Imp' _ (one f end) _ (one g end)) b e =
    bare-leftmost (within 0 (first_block f)) (within 1 (first_block g)) (bare-within 0 (first_block f) (block-bare f)) (bare-within 1 (first_block g) (block-bare g)) b e
block-bare (Iff' _ (one f end) _ (one g end)) b e =
    bare-leftmost (within 0 (first_block f)) (within 1 (first_block g)) (bare-within 0 (first_block f) (block-bare f)) (bare-within 1 (first_block g) (block-bare g)) b e
block-bare (All' x _ (one f end)) b e = bare-within 0 (first_block f) (block-bare f) b e
block-bare (Ex' x _ (one f end)) b e = bare-within 0 (first_block f) (block-bare f) b e
block-bare (All2' q _ (one f end)) b e =
    bare-innermost (first_block f) (record { exists = false; pred = q; body = f; place = [] }) (block-bare f) (some-first_block f) b e
block-bare (Ex2' q _ (one f end)) b e =
    bare-innermost (first_block f) (record { exists = true; pred = q; body = f; place = [] }) (block-bare f) (some-first_block f) b e

quantified-body : (e : Sorting) (b : Block) → sorted e (quantified b) ≡ true → sorted (over_bound e b.pred.num b.pred.args) b.body ≡ true
unfolding boxes
quantified-body e b h = elim b.exists as (λ q. sorted e (cond q (Ex2 b.pred b.body) (All2 b.pred b.body)) ≡ true → sorted (over_bound e b.pred.num b.pred.args) b.body ≡ true) [ true ↦ λ h. h | false ↦ λ h. h ] h

-- the body of the first block of a well-sorted formula is well sorted where the block stands, its predicate known
pub sorted-block : (f : Form) (b : Block) → first_block f ≡ Some b → (e : Sorting) → sorted e f ≡ true
    → sorted (over_bound (scope_at b.place f e) b.pred.num b.pred.args) b.body ≡ true
sorted-block f b h e o = quantified-body (scope_at b.place f e) b (sorted-part b.place f (quantified b) (block-stands f b h) e o)
