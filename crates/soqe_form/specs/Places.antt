-- The part of a formula at a place, what is in scope there, and the first block.
-- A place is the list of the children that lead to it from the root, 0 the first and 1 the second.
use Rattle.std.specs.Prelude.{ℕ, suc, ◌+◌, Bool, true, false, cond, eqb, List, [], ◌∷◌, Option, Some, None, ◌||◌}
use Rattle.soqe_term.specs.Sorting.{Sorting, over_var, over_bound}
use Rattle.soqe_form.specs.declared.form.Form.{Form, True, False, Equal, Atom, Not, Not', And, And', Or, Or', Imp, Imp', Iff, Iff', All, All', Ex, Ex', All2, All2', Ex2, Ex2', end_of-Form as end, more_of-Form as one}
use Rattle.soqe_form.specs.declared.form.Block.{Block}

-- the only child has the number 0
abbrev pub first_child : ℕ → Option Form → Option Form
first_child n f = cond (eqb n 0) f None

-- of two children the first has the number 0, the second 1
abbrev pub child : ℕ → Option Form → Option Form → Option Form
child n f g = cond (eqb n 0) f (cond (eqb n 1) g None)

-- the part at a place, none where the formula has no such place
abbrev pub part_at : List ℕ → Form → Option Form
part_at [] f = Some f
part_at (n ∷ p) True = None
part_at (n ∷ p) False = None
part_at (n ∷ p) (Equal s t) = None
part_at (n ∷ p) (Atom q ts) = None
part_at (n ∷ p) (Not' _ (one f end)) = first_child n (part_at p f)
part_at (n ∷ p) (And' _ (one f end) _ (one g end)) = child n (part_at p f) (part_at p g)
part_at (n ∷ p) (Or' _ (one f end) _ (one g end)) = child n (part_at p f) (part_at p g)
part_at (n ∷ p) (Imp' _ (one f end) _ (one g end)) = child n (part_at p f) (part_at p g)
part_at (n ∷ p) (Iff' _ (one f end) _ (one g end)) = child n (part_at p f) (part_at p g)
part_at (n ∷ p) (All' x _ (one f end)) = first_child n (part_at p f)
part_at (n ∷ p) (Ex' x _ (one f end)) = first_child n (part_at p f)
part_at (n ∷ p) (All2' q _ (one f end)) = first_child n (part_at p f)
part_at (n ∷ p) (Ex2' q _ (one f end)) = first_child n (part_at p f)

-- the formula with `by` at the place
abbrev pub put_at : List ℕ → Form → Form → Form
put_at [] by f = by
put_at (n ∷ p) by True = True
put_at (n ∷ p) by False = False
put_at (n ∷ p) by (Equal s t) = Equal s t
put_at (n ∷ p) by (Atom q ts) = Atom q ts
put_at (n ∷ p) by (Not' _ (one f end)) = Not (put_at p by f)
put_at (n ∷ p) by (And' _ (one f end) _ (one g end)) = cond (eqb n 0) (And (put_at p by f) g) (And f (put_at p by g))
put_at (n ∷ p) by (Or' _ (one f end) _ (one g end)) = cond (eqb n 0) (Or (put_at p by f) g) (Or f (put_at p by g))
put_at (n ∷ p) by (Imp' _ (one f end) _ (one g end)) = cond (eqb n 0) (Imp (put_at p by f) g) (Imp f (put_at p by g))
put_at (n ∷ p) by (Iff' _ (one f end) _ (one g end)) = cond (eqb n 0) (Iff (put_at p by f) g) (Iff f (put_at p by g))
put_at (n ∷ p) by (All' x _ (one f end)) = All x (put_at p by f)
put_at (n ∷ p) by (Ex' x _ (one f end)) = Ex x (put_at p by f)
put_at (n ∷ p) by (All2' q _ (one f end)) = All2 q (put_at p by f)
put_at (n ∷ p) by (Ex2' q _ (one f end)) = Ex2 q (put_at p by f)

-- the block, one place further down
abbrev pub within : ℕ → Option Block → Option Block
within n None = None
within n (Some b) = Some (record b { place = n ∷ b.place })

-- the first block of two children
abbrev pub leftmost : Option Block → Option Block → Option Block
leftmost None c = c
leftmost (Some b) c = Some b

-- the block below a quantifier, or the quantifier itself where there is none
abbrev pub innermost : Option Block → Block → Option Block
innermost None b = Some b
innermost (Some c) b = within 0 (Some c)

-- the leftmost quantifier of a predicate whose body has none
abbrev pub first_block : Form → Option Block
first_block True = None
first_block False = None
first_block (Equal s t) = None
first_block (Atom q ts) = None
first_block (Not' _ (one f end)) = within 0 (first_block f)
first_block (And' _ (one f end) _ (one g end)) = leftmost (within 0 (first_block f)) (within 1 (first_block g))
first_block (Or' _ (one f end) _ (one g end)) = leftmost (within 0 (first_block f)) (within 1 (first_block g))
first_block (Imp' _ (one f end) _ (one g end)) = leftmost (within 0 (first_block f)) (within 1 (first_block g))
first_block (Iff' _ (one f end) _ (one g end)) = leftmost (within 0 (first_block f)) (within 1 (first_block g))
first_block (All' x _ (one f end)) = within 0 (first_block f)
first_block (Ex' x _ (one f end)) = within 0 (first_block f)
first_block (All2' q _ (one f end)) = innermost (first_block f) (record { exists = false; pred = q; body = f; place = [] })
first_block (Ex2' q _ (one f end)) = innermost (first_block f) (record { exists = true; pred = q; body = f; place = [] })

-- the block's quantifier with its body
abbrev pub quantified : Block → Form
quantified b = cond b.exists (Ex2 b.pred b.body) (All2 b.pred b.body)

-- the second formula, where there is a first one
abbrev pub where_some : Option Form → Form → Option Form
where_some None f = None
where_some (Some old) f = Some f

-- the formula with `by` at the place, none where the formula has no such place
abbrev pub replaced : List ℕ → Form → Form → Option Form
replaced p by f = where_some (part_at p f) (put_at p by f)

-- what is known at a place: the names known outside, and those that the binders on the way bind
abbrev pub scope_at : List ℕ → Form → Sorting → Sorting
scope_at [] f e = e
scope_at (n ∷ p) True e = e
scope_at (n ∷ p) False e = e
scope_at (n ∷ p) (Equal s t) e = e
scope_at (n ∷ p) (Atom q ts) e = e
scope_at (n ∷ p) (Not' _ (one f end)) e = scope_at p f e
scope_at (n ∷ p) (And' _ (one f end) _ (one g end)) e = cond (eqb n 0) (scope_at p f e) (scope_at p g e)
scope_at (n ∷ p) (Or' _ (one f end) _ (one g end)) e = cond (eqb n 0) (scope_at p f e) (scope_at p g e)
scope_at (n ∷ p) (Imp' _ (one f end) _ (one g end)) e = cond (eqb n 0) (scope_at p f e) (scope_at p g e)
scope_at (n ∷ p) (Iff' _ (one f end) _ (one g end)) e = cond (eqb n 0) (scope_at p f e) (scope_at p g e)
scope_at (n ∷ p) (All' x _ (one f end)) e = scope_at p f (over_var e x.num x.sort)
scope_at (n ∷ p) (Ex' x _ (one f end)) e = scope_at p f (over_var e x.num x.sort)
scope_at (n ∷ p) (All2' q _ (one f end)) e = scope_at p f (over_bound e q.num q.args)
scope_at (n ∷ p) (Ex2' q _ (one f end)) e = scope_at p f (over_bound e q.num q.args)

-- the formula has a quantifier of a predicate
abbrev pub has_blocks : Form → Bool
has_blocks True = false
has_blocks False = false
has_blocks (Equal s t) = false
has_blocks (Atom q ts) = false
has_blocks (Not' _ (one f end)) = has_blocks f
has_blocks (And' _ (one f end) _ (one g end)) = has_blocks f || has_blocks g
has_blocks (Or' _ (one f end) _ (one g end)) = has_blocks f || has_blocks g
has_blocks (Imp' _ (one f end) _ (one g end)) = has_blocks f || has_blocks g
has_blocks (Iff' _ (one f end) _ (one g end)) = has_blocks f || has_blocks g
has_blocks (All' x _ (one f end)) = has_blocks f
has_blocks (Ex' x _ (one f end)) = has_blocks f
has_blocks (All2' q _ (one f end)) = true
has_blocks (Ex2' q _ (one f end)) = true

-- how many quantifiers of predicates stand in the formula
abbrev pub count_blocks : Form → ℕ
count_blocks True = 0
count_blocks False = 0
count_blocks (Equal s t) = 0
count_blocks (Atom q ts) = 0
count_blocks (Not' _ (one f end)) = count_blocks f
count_blocks (And' _ (one f end) _ (one g end)) = count_blocks f + count_blocks g
count_blocks (Or' _ (one f end) _ (one g end)) = count_blocks f + count_blocks g
count_blocks (Imp' _ (one f end) _ (one g end)) = count_blocks f + count_blocks g
count_blocks (Iff' _ (one f end) _ (one g end)) = count_blocks f + count_blocks g
count_blocks (All' x _ (one f end)) = count_blocks f
count_blocks (Ex' x _ (one f end)) = count_blocks f
count_blocks (All2' q _ (one f end)) = suc (count_blocks f)
count_blocks (Ex2' q _ (one f end)) = suc (count_blocks f)
