-- Predicates, declared or bound: where they are free, and how a world and a sorting read them.
use Rattle.std.specs.Prelude.{ℕ, suc, Bool, false, cond, eqb, ◌||◌, ◌&&◌, List, Some}
use Rattle.soqe_term.specs.declared.term.Terms.{Terms, Nil, Cons', end_of-Term as end-t, more_of-Term as one-t, end_of-Terms as ends-t, more_of-Terms as ones-t}
use Rattle.soqe_term.specs.World.{World}
use Rattle.soqe_number.specs.Updates.{changed}
use Rattle.soqe_term.specs.Sorting.{Sorting}
use Rattle.soqe_form.specs.declared.form.Pred.{Pred}
use Rattle.soqe_form.specs.declared.form.Pred.TheVariants.{Decl, Bound}
use Rattle.soqe_form.specs.declared.form.Form.{Form, True, False, Equal, Atom, Not', And', Or', Imp', Iff', All', Ex', All2', Ex2', end_of-Form as end, more_of-Form as one}

-- two predicates are one
abbrev pub same_pred : Pred → Pred → Bool
same_pred (Decl m) (Decl n) = eqb m n
same_pred (Bound m) (Bound n) = eqb m n
same_pred (Decl m) (Bound n) = false
same_pred (Bound m) (Decl n) = false

-- a binder of the predicate with the number n hides the predicate
abbrev pub hides : ℕ → Pred → Bool
hides n (Decl m) = false
hides n (Bound m) = eqb m n

-- the predicate has an occurrence that no binder in the formula binds
abbrev pub has_free : Pred → Form → Bool
has_free q True = false
has_free q False = false
has_free q (Equal s t) = false
has_free q (Atom p ts) = same_pred q p
has_free q (Not' _ (one f end)) = has_free q f
has_free q (And' _ (one f end) _ (one g end)) = has_free q f || has_free q g
has_free q (Or' _ (one f end) _ (one g end)) = has_free q f || has_free q g
has_free q (Imp' _ (one f end) _ (one g end)) = has_free q f || has_free q g
has_free q (Iff' _ (one f end) _ (one g end)) = has_free q f || has_free q g
has_free q (All' x _ (one f end)) = has_free q f
has_free q (Ex' x _ (one f end)) = has_free q f
has_free q (All2' p _ (one f end)) = cond (hides p.num q) false (has_free q f)
has_free q (Ex2' p _ (one f end)) = cond (hides p.num q) false (has_free q f)

-- how many terms there are
abbrev pub count : Terms → ℕ
count Nil = 0
count (Cons' _ (one-t t end-t) _ (ones-t ts ends-t)) = suc (count ts)

-- the predicate has a free atom whose number of arguments passes the test
abbrev pub has_atom : Pred → (ℕ → Bool) → Form → Bool
has_atom q c True = false
has_atom q c False = false
has_atom q c (Equal s t) = false
has_atom q c (Atom p ts) = same_pred q p && c (count ts)
has_atom q c (Not' _ (one f end)) = has_atom q c f
has_atom q c (And' _ (one f end) _ (one g end)) = has_atom q c f || has_atom q c g
has_atom q c (Or' _ (one f end) _ (one g end)) = has_atom q c f || has_atom q c g
has_atom q c (Imp' _ (one f end) _ (one g end)) = has_atom q c f || has_atom q c g
has_atom q c (Iff' _ (one f end) _ (one g end)) = has_atom q c f || has_atom q c g
has_atom q c (All' x _ (one f end)) = has_atom q c f
has_atom q c (Ex' x _ (one f end)) = has_atom q c f
has_atom q c (All2' p _ (one f end)) = cond (hides p.num q) false (has_atom q c f)
has_atom q c (Ex2' p _ (one f end)) = cond (hides p.num q) false (has_atom q c f)

-- tables of predicates with another one for a predicate: of the declared ones, and of the bound ones
abbrev pub declared_with : {A : Type 0} → Pred → A → (ℕ → A) → ℕ → A
declared_with (Decl n) t d = changed d n t
declared_with (Bound n) t d = d

abbrev pub bound_with : {A : Type 0} → Pred → A → (ℕ → A) → ℕ → A
bound_with (Decl n) t b = b
bound_with (Bound n) t b = changed b n t

-- the world with another table for one predicate
abbrev pub with_pred : World → Pred → (List ℕ → Bool) → World
with_pred w q t = record w { declared = declared_with q t w.declared; bound = bound_with q t w.bound }

-- the sorting with these argument sorts for one predicate
abbrev pub over_pred : Sorting → Pred → List ℕ → Sorting
over_pred e q sorts = record e { declared = declared_with q (Some sorts) e.declared; bound = bound_with q (Some sorts) e.bound }
