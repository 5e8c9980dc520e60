-- The equations among the conjuncts of a formula that may say what a variable of a chain of quantifiers is.
--
-- Where the quantifiers stand is known by places: the further in the quantifier of a number stands, the greater is its place, and
-- a number without a quantifier has the place 0. A quantifier inside the formula stands further in than the whole chain.
use Rattle.std.specs.Prelude.{ℕ, eqb, nat_lt, Bool, false, ◌&&◌, ◌||◌, not}
use Rattle.soqe_number.specs.Updates.{changed}
use Rattle.soqe_term.specs.declared.term.Term.{Term, Var as var, App}
use Rattle.soqe_term.specs.declared.term.Terms.{Terms, Nil, Cons', end_of-Term as end-t, more_of-Term as one-t, end_of-Terms as ends-t, more_of-Terms as ones-t}
use Rattle.soqe_form.specs.declared.form.Form.{Form, True, False, Equal, Atom, Not', And', Or', Imp', Iff', All', Ex', All2', Ex2', end_of-Form as end, more_of-Form as one}

-- m is n, or the quantifier of m stands further in than that of n
abbrev pub is_within : (ℕ → ℕ) → ℕ → ℕ → Bool
is_within place n m = eqb m n || nat_lt (place n) (place m)

abbrev mutual
  -- the number of a variable of the term passes the test
  pub has_number : (ℕ → Bool) → Term → Bool
  has_number p (var x) = p x.num
  has_number p (App f s ts) = has_number_in p ts

  -- that of a variable of one of the terms does
  pub has_number_in : (ℕ → Bool) → Terms → Bool
  has_number_in p Nil = false
  has_number_in p (Cons' _ (one-t t end-t) _ (ones-t ts ends-t)) = has_number p t || has_number_in p ts

-- s is the variable n, and t has neither n nor a variable whose quantifier stands further in than that of n
abbrev pub says : (ℕ → ℕ) → ℕ → Term → Term → Bool
says place n (var x) t = eqb n x.num && not (has_number (is_within place x.num) t)
says place n (App f s ts) t = false

-- the place of a quantifier inside the formula
abbrev pub innermost : ℕ
innermost = 18446744073709551615

-- an equation among the conjuncts of the formula says of the variable n what it is
abbrev pub has_side : (ℕ → ℕ) → ℕ → Form → Bool
has_side place n True = false
has_side place n False = false
has_side place n (Equal s t) = says place n s t || says place n t s
has_side place n (Atom p ts) = false
has_side place n (Not' _ (one f end)) = false
has_side place n (And' _ (one f end) _ (one g end)) = has_side place n f || has_side place n g
has_side place n (Or' _ (one f end) _ (one g end)) = false
has_side place n (Imp' _ (one f end) _ (one g end)) = false
has_side place n (Iff' _ (one f end) _ (one g end)) = false
has_side place n (All' y _ (one f end)) = false
has_side place n (Ex' y _ (one f end)) = has_side (changed place y.num innermost) n f
has_side place n (All2' p _ (one f end)) = false
has_side place n (Ex2' p _ (one f end)) = false

-- one among those of C does, where ~C or C -> D stands behind all binders `all y.` in front
abbrev pub has_condition : (ℕ → ℕ) → ℕ → Form → Bool
has_condition place n True = false
has_condition place n False = false
has_condition place n (Equal s t) = false
has_condition place n (Atom p ts) = false
has_condition place n (Not' _ (one f end)) = has_side place n f
has_condition place n (And' _ (one f end) _ (one g end)) = false
has_condition place n (Or' _ (one f end) _ (one g end)) = false
has_condition place n (Imp' _ (one f end) _ (one g end)) = has_side place n f
has_condition place n (Iff' _ (one f end) _ (one g end)) = false
has_condition place n (All' y _ (one f end)) = has_condition (changed place y.num innermost) n f
has_condition place n (Ex' y _ (one f end)) = false
has_condition place n (All2' p _ (one f end)) = false
has_condition place n (Ex2' p _ (one f end)) = false
