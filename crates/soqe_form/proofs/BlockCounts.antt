-- How many quantifiers of predicates stand in a formula: none exactly where it has none, and one fewer where the first block is
-- replaced by a formula without any.
use Rattle.std.proofs.Common.{◌≡◌, ℕ, suc, ◌+◌, ◌<◌, ◌≤◌, Bool, true, false, cond, eqb, ◌||◌, List, [], ◌∷◌, Option, Some, None, refl, ap, arith}
use Rattle.soqe_number.proofs.Choices.{bool_cases, same_test}
use Rattle.soqe_form.specs.declared.form.Form.{Form, True, False, Equal, Atom, Not', And, And', Or, Or', Imp, Imp', Iff, Iff', All', Ex', All2, All2', Ex2, Ex2', end_of-Form as end, more_of-Form as one}
use Rattle.soqe_form.specs.declared.form.Block.{Block}
use Rattle.soqe_form.specs.Boxes.{boxes}
use Rattle.soqe_form.specs.Places.{part_at, put_at, first_child, child, first_block, quantified, has_blocks, count_blocks}
use Rattle.soqe_form.proofs.FirstBlocks.{block-stands, block-bare}

-- ---- none exactly where there is none

-- the number is 0 where the test fails and above 0 where it holds
abbrev Counted : Bool → ℕ → Type 0
Counted b n = (b ≡ false → n ≡ 0) × (b ≡ true → 0 < n)

none-there : Counted false 0
none-there = (λ _. refl, λ e. let e : false ≡ true = e in cc)

some-there : (n : ℕ) → Counted true (suc n)
some-there n = (λ e. let e : true ≡ false = e in cc, λ _. omega arith)

both-counted : (b c : Bool) (m n : ℕ) → Counted b m → Counted c n → Counted (b || c) (m + n)
both-counted true c m n h k = (λ e. let e : true ≡ false = e in cc, λ _. let p : 0 < m = h.1 refl in omega arith)
both-counted false c m n h k = (λ e. let p : m ≡ 0 = h.0 refl in let q : n ≡ 0 = k.0 e in omega arith, λ e. let p : 0 < n = k.1 e in omega arith)

-- a formula has a quantifier of a predicate exactly where their number is not 0
pub blocks-counted : (f : Form) → Counted (has_blocks f) (count_blocks f)
unfolding boxes
blocks-counted True = none-there
blocks-counted False = none-there
blocks-counted (Equal s t) = none-there
blocks-counted (Atom p ts) = none-there
blocks-counted (Not' _ (one f end)) = blocks-counted f
blocks-counted (And' _ (one f end) _ (one g end)) = both-counted (has_blocks f) (has_blocks g) (count_blocks f) (count_blocks g) (blocks-counted f) (blocks-counted g)
blocks-counted (Or' _ (one f end) _ (one g end)) = both-counted (has_blocks f) (has_blocks g) (count_blocks f) (count_blocks g) (blocks-counted f) (blocks-counted g)
blocks-counted (Imp' _ (one f end) _ (one g end)) = both-counted (has_blocks f) (has_blocks g) (count_blocks f) (count_blocks g) (blocks-counted f) (blocks-counted g)
blocks-counted (Iff' _ (one f end) _ (one g end)) = both-counted (has_blocks f) (has_blocks g) (count_blocks f) (count_blocks g) (blocks-counted f) (blocks-counted g)
blocks-counted (All' x _ (one f end)) = blocks-counted f
blocks-counted (Ex' x _ (one f end)) = blocks-counted f
blocks-counted (All2' q _ (one f end)) = some-there (count_blocks f)
blocks-counted (Ex2' q _ (one f end)) = some-there (count_blocks f)

pub count-none : (f : Form) → has_blocks f ≡ false → count_blocks f ≡ 0
count-none f = (blocks-counted f).0

pub count-some : (f : Form) → has_blocks f ≡ true → 0 < count_blocks f
count-some f = (blocks-counted f).1

pub none-counted : (f : Form) → count_blocks f ≡ 0 → has_blocks f ≡ false
none-counted f h = bool_cases (λ b. has_blocks f ≡ b → b ≡ false) (has_blocks f) (λ e _. let p : 0 < count_blocks f = count-some f e in absurd (omega arith)) (λ _ _. refl) refl

-- a formula with no more of them has one only where the other has one
pub blocks-from_count : (f g : Form) → count_blocks g ≤ count_blocks f → has_blocks g ≡ true → has_blocks f ≡ true
blocks-from_count f g h k =
    let p : 0 < count_blocks g = count-some g k in
    bool_cases (λ b. has_blocks f ≡ b → b ≡ true) (has_blocks f) (λ _ _. refl) (λ e _. let z : count_blocks f ≡ 0 = count-none f e in absurd (omega arith)) refl

-- formulas with as many of them have one together
pub blocks-by_count : (f g : Form) → count_blocks g ≡ count_blocks f → has_blocks g ≡ has_blocks f
blocks-by_count f g h = same_test (has_blocks g) (has_blocks f) (blocks-from_count f g (omega arith)) (blocks-from_count g f (omega arith))

-- ---- a part replaced

no_part : {A : Type 0} {f : Form} → None ≡ Some f → A
no_part e = cc

Some-is : {f g : Form} → Some f ≡ Some g → f ≡ g
Some-is e = cc

only : (n : ℕ) (f : Option Form) (old : Form) → first_child n f ≡ Some old → f ≡ Some old
only n f old h = elim (eqb n 0) as (λ q. cond q f None ≡ Some old → f ≡ Some old) [ true ↦ λ h. h | false ↦ λ h. no_part h ] h

-- either child, with what is known of each
either : (n : ℕ) (f g : Option Form) (old : Form) (P : Form → Type 0) (u v : Form)
    → child n f g ≡ Some old → (f ≡ Some old → P u) → (g ≡ Some old → P v) → P (cond (eqb n 0) u v)
either n f g old P u v h p q = cases (eqb n 0) (eqb n 1) h
  where
    cases : (a b : Bool) → cond a f (cond b g None) ≡ Some old → P (cond a u v)
    cases true b h = p h
    cases false true h = q h
    cases false false h = no_part h

-- what m and n become when the part with a of them becomes one with b
abbrev Moves : ℕ → ℕ → ℕ → ℕ → Type 0
Moves a b m n = n + a ≡ m + b

moves-first : (a b m n o : ℕ) → Moves a b m n → Moves a b (m + o) (n + o)
moves-first a b m n o h = omega arith

moves-second : (a b m n o : ℕ) → Moves a b m n → Moves a b (o + m) (o + n)
moves-second a b m n o h = omega arith

moves-under : (a b m n : ℕ) → Moves a b m n → Moves a b (suc m) (suc n)
moves-under a b m n h = omega arith

-- the quantifiers of the part go, those of what takes its place come
pub count-put_at : (p : List ℕ) (f old by : Form) → part_at p f ≡ Some old → count_blocks (put_at p by f) + count_blocks old ≡ count_blocks f + count_blocks by
unfolding boxes
count-put_at [] f old by h = let e : count_blocks f ≡ count_blocks old = ap count_blocks (Some-is h) in omega arith
count-put_at (n ∷ p) True old by h = no_part h
count-put_at (n ∷ p) False old by h = no_part h
count-put_at (n ∷ p) (Equal s t) old by h = no_part h
count-put_at (n ∷ p) (Atom q ts) old by h = no_part h
count-put_at (n ∷ p) (Not' _ (one f end)) old by h = count-put_at p f old by (only n (part_at p f) old h)
count-put_at (n ∷ p) (And' _ (one f end) _ (one g end)) old by h =
    either n (part_at p f) (part_at p g) old (λ r. Moves (count_blocks old) (count_blocks by) (count_blocks f + count_blocks g) (count_blocks r)) (And (put_at p by f) g) (And f (put_at p by g)) h
    (λ o. moves-first (count_blocks old) (count_blocks by) (count_blocks f) (count_blocks (put_at p by f)) (count_blocks g) (count-put_at p f old by o))
    (λ o. moves-second (count_blocks old) (count_blocks by) (count_blocks g) (count_blocks (put_at p by g)) (count_blocks f) (count-put_at p g old by o))
count-put_at (n ∷ p) (Or' _ (one f end) _ (one g end)) old by h =
    either n (part_at p f) (part_at p g) old (λ r. Moves (count_blocks old) (count_blocks by) (count_blocks f + count_blocks g) (count_blocks r)) (Or (put_at p by f) g) (Or f (put_at p by g)) h
    (λ o. moves-first (count_blocks old) (count_blocks by) (count_blocks f) (count_blocks (put_at p by f)) (count_blocks g) (count-put_at p f old by o))
    (λ o. moves-second (count_blocks old) (count_blocks by) (count_blocks g) (count_blocks (put_at p by g)) (count_blocks f) (count-put_at p g old by o))
count-put_at (n ∷ p) (Imp' _ (one f end) _ (one g end)) old by h =
    either n (part_at p f) (part_at p g) old (λ r. Moves (count_blocks old) (count_blocks by) (count_blocks f + count_blocks g) (count_blocks r)) (Imp (put_at p by f) g) (Imp f (put_at p by g)) h
    (λ o. moves-first (count_blocks old) (count_blocks by) (count_blocks f) (count_blocks (put_at p by f)) (count_blocks g) (count-put_at p f old by o))
    (λ o. moves-second (count_blocks old) (count_blocks by) (count_blocks g) (count_blocks (put_at p by g)) (count_blocks f) (count-put_at p g old by o))
count-put_at (n ∷ p) (Iff' _ (one f end) _ (one g end)) old by h =
    either n (part_at p f) (part_at p g) old (λ r. Moves (count_blocks old) (count_blocks by) (count_blocks f + count_blocks g) (count_blocks r)) (Iff (put_at p by f) g) (Iff f (put_at p by g)) h
    (λ o. moves-first (count_blocks old) (count_blocks by) (count_blocks f) (count_blocks (put_at p by f)) (count_blocks g) (count-put_at p f old by o))
    (λ o. moves-second (count_blocks old) (count_blocks by) (count_blocks g) (count_blocks (put_at p by g)) (count_blocks f) (count-put_at p g old by o))
count-put_at (n ∷ p) (All' x _ (one f end)) old by h = count-put_at p f old by (only n (part_at p f) old h)
count-put_at (n ∷ p) (Ex' x _ (one f end)) old by h = count-put_at p f old by (only n (part_at p f) old h)
count-put_at (n ∷ p) (All2' q _ (one f end)) old by h =
    moves-under (count_blocks old) (count_blocks by) (count_blocks f) (count_blocks (put_at p by f)) (count-put_at p f old by (only n (part_at p f) old h))
count-put_at (n ∷ p) (Ex2' q _ (one f end)) old by h =
    moves-under (count_blocks old) (count_blocks by) (count_blocks f) (count_blocks (put_at p by f)) (count-put_at p f old by (only n (part_at p f) old h))

count-quantified : (b : Block) → count_blocks (quantified b) ≡ suc (count_blocks b.body)
unfolding boxes
count-quantified b = elim b.exists as (λ q. count_blocks (cond q (Ex2 b.pred b.body) (All2 b.pred b.body)) ≡ suc (count_blocks b.body)) [ true ↦ refl | false ↦ refl ]

-- one quantifier goes with the first block, and those of what takes its place come
pub count-first_block : (f : Form) (b : Block) → first_block f ≡ Some b → (by : Form) → suc (count_blocks (put_at b.place by f)) ≡ count_blocks f + count_blocks by
count-first_block f b h by =
    let moved : count_blocks (put_at b.place by f) + count_blocks (quantified b) ≡ count_blocks f + count_blocks by = count-put_at b.place f (quantified b) by (block-stands f b h) in
    let body : count_blocks b.body ≡ 0 = count-none b.body (block-bare f b h) in
    let whole : count_blocks (quantified b) ≡ suc (count_blocks b.body) = count-quantified b in
    omega arith

-- a first block that is replaced by a formula without quantifiers of predicates leaves one fewer
pub fewer-blocks : (f : Form) (b : Block) → first_block f ≡ Some b → (by : Form) → has_blocks by ≡ false → count_blocks (put_at b.place by f) < count_blocks f
fewer-blocks f b h by bare =
    let moved : suc (count_blocks (put_at b.place by f)) ≡ count_blocks f + count_blocks by = count-first_block f b h by in
    let none : count_blocks by ≡ 0 = count-none by bare in
    omega arith
