-- The rows of the simplifier. A, B, C, D are formulas; A, A are two that are equal up to the numbers of what is bound in them,
-- and the first of them is kept. Each row gives the formula that takes the place of one that it fits, and none for any other.
use Rattle.std.specs.Prelude.{not, List, [], ◌∷◌, Option, Some}
use Rattle.std.specs.Option.{option_map}
use Rattle.soqe_term.specs.declared.term.Var.{Var}
use Rattle.soqe_term.specs.Equal.{equal_terms}
use Rattle.soqe_form.specs.declared.form.Form.{Form, True, False, Not, And, Imp}
use Rattle.soqe_form.specs.Free.{free, free_pred}
use Rattle.soqe_subst.specs.IsSub.{single}
use Rattle.soqe_form.specs.Mentions.{depth}
use Rattle.soqe_form.specs.Same.{same, is_true, is_false, is_not}
use Rattle.soqe_subst.specs.Substitution.{sub}
use Rattle.soqe_simp.specs.declared.conjuncts.Solved.{Solved}
use Rattle.soqe_simp.specs.Shapes.{given, on_equal, on_not, on_and, on_or, on_imp, on_iff, on_all, on_ex, on_quantifier, on_block}
use Rattle.soqe_simp.specs.Conjuncts.{solved, below_alls, solved_not, solved_imp}

-- 1: ~true becomes false
abbrev pub not_true : Form → Option Form
not_true = on_not (λ a. given (is_true a) False)

-- 2: ~false becomes true
abbrev pub not_false : Form → Option Form
not_false = on_not (λ a. given (is_false a) True)

-- 3: ~~A becomes A
abbrev pub not_not : Form → Option Form
not_not = on_not (on_not Some)

-- 4: t = t becomes true
abbrev pub equal_itself : Form → Option Form
equal_itself = on_equal (λ s t. given (equal_terms s t) True)

-- 5: true & A becomes A
abbrev pub true_and : Form → Option Form
true_and = on_and (λ a b. given (is_true a) b)

-- 6: A & true becomes A
abbrev pub and_true : Form → Option Form
and_true = on_and (λ a b. given (is_true b) a)

-- 7: false & A becomes false
abbrev pub false_and : Form → Option Form
false_and = on_and (λ a b. given (is_false a) False)

-- 8: A & false becomes false
abbrev pub and_false : Form → Option Form
and_false = on_and (λ a b. given (is_false b) False)

-- 9: A & A becomes A
abbrev pub and_same : Form → Option Form
and_same = on_and (λ a b. given (same a b) a)

-- 10: A & ~A becomes false
abbrev pub and_opposite : Form → Option Form
and_opposite = on_and (λ a b. given (is_not (same a) b) False)

-- 11: ~A & A becomes false
abbrev pub opposite_and : Form → Option Form
opposite_and = on_and (λ a b. given (is_not (λ c. same c b) a) False)

-- 12: true | A becomes true
abbrev pub true_or : Form → Option Form
true_or = on_or (λ a b. given (is_true a) True)

-- 13: A | true becomes true
abbrev pub or_true : Form → Option Form
or_true = on_or (λ a b. given (is_true b) True)

-- 14: false | A becomes A
abbrev pub false_or : Form → Option Form
false_or = on_or (λ a b. given (is_false a) b)

-- 15: A | false becomes A
abbrev pub or_false : Form → Option Form
or_false = on_or (λ a b. given (is_false b) a)

-- 16: A | A becomes A
abbrev pub or_same : Form → Option Form
or_same = on_or (λ a b. given (same a b) a)

-- 17: A | ~A becomes true
abbrev pub or_opposite : Form → Option Form
or_opposite = on_or (λ a b. given (is_not (same a) b) True)

-- 18: ~A | A becomes true
abbrev pub opposite_or : Form → Option Form
opposite_or = on_or (λ a b. given (is_not (λ c. same c b) a) True)

-- 19: ~A | B becomes A -> B
abbrev pub not_or : Form → Option Form
not_or = on_or (λ a b. on_not (λ c. Some (Imp c b)) a)

-- 20: A | ~B becomes B -> A
abbrev pub or_not : Form → Option Form
or_not = on_or (λ a b. on_not (λ c. Some (Imp c a)) b)

-- 21: true -> A becomes A
abbrev pub true_implies : Form → Option Form
true_implies = on_imp (λ a b. given (is_true a) b)

-- 22: false -> A becomes true
abbrev pub false_implies : Form → Option Form
false_implies = on_imp (λ a b. given (is_false a) True)

-- 23: A -> true becomes true
abbrev pub implies_true : Form → Option Form
implies_true = on_imp (λ a b. given (is_true b) True)

-- 24: A -> false becomes ~A
abbrev pub implies_false : Form → Option Form
implies_false = on_imp (λ a b. given (is_false b) (Not a))

-- 25: A -> A becomes true
abbrev pub implies_itself : Form → Option Form
implies_itself = on_imp (λ a b. given (same a b) True)

-- 26: A -> (B -> C) becomes A & B -> C
abbrev pub implies_implication : Form → Option Form
implies_implication = on_imp (λ a b. on_imp (λ c d. Some (Imp (And a c) d)) b)

-- 27: A -> ~B becomes ~(A & B)
abbrev pub implies_negation : Form → Option Form
implies_negation = on_imp (λ a b. on_not (λ c. Some (Not (And a c))) b)

-- 28: true <-> A becomes A
abbrev pub true_iff : Form → Option Form
true_iff = on_iff (λ a b. given (is_true a) b)

-- 29: A <-> true becomes A
abbrev pub iff_true : Form → Option Form
iff_true = on_iff (λ a b. given (is_true b) a)

-- 30: false <-> A becomes ~A
abbrev pub false_iff : Form → Option Form
false_iff = on_iff (λ a b. given (is_false a) (Not b))

-- 31: A <-> false becomes ~A
abbrev pub iff_false : Form → Option Form
iff_false = on_iff (λ a b. given (is_false b) (Not a))

-- 32: A <-> A becomes true
abbrev pub iff_itself : Form → Option Form
iff_itself = on_iff (λ a b. given (same a b) True)

-- 33: all x. A and ex x. A become A, where x is not free in A
abbrev pub unused_variable : Form → Option Form
unused_variable = on_quantifier (λ x a. given (not (free x.num a)) a)

-- 34: all2 P. A and ex2 P. A become A, where P is not free in A
abbrev pub unused_predicate : Form → Option Form
unused_predicate = on_block (λ p a. given (not (free_pred p.num a)) a)

-- the rest, with the term for x
abbrev pub with_solution : Var → Solved → Form
with_solution x s = sub (depth s.rest) (single x s.term) s.rest

-- 35: ex x. C becomes C, where true takes the place of the first conjunct that says what x is, and that term the place of x
abbrev pub solved_some : Form → Option Form
solved_some = on_ex (λ x c. option_map (with_solution x) (solved [] x c))

-- 36: all x. ~C becomes ~C, where C loses its first conjunct that says what x is, and x becomes that term; any number of
-- further binders `all y.` may stand in front of ~C, and stay
abbrev pub solved_negation : Form → Option Form
solved_negation = on_all (λ x f. option_map (with_solution x) (below_alls (solved_not x) [] f))

-- 37: all x. C -> D becomes C -> D in the same way; x becomes the term in D too
abbrev pub solved_condition : Form → Option Form
solved_condition = on_all (λ x f. option_map (with_solution x) (below_alls (solved_imp x) [] f))

-- the table of the rows, from 1 to 37
abbrev pub rows : List (Form → Option Form)
rows = not_true ∷ not_false ∷ not_not ∷ equal_itself
    ∷ true_and ∷ and_true ∷ false_and ∷ and_false ∷ and_same ∷ and_opposite ∷ opposite_and
    ∷ true_or ∷ or_true ∷ false_or ∷ or_false ∷ or_same ∷ or_opposite ∷ opposite_or ∷ not_or ∷ or_not
    ∷ true_implies ∷ false_implies ∷ implies_true ∷ implies_false ∷ implies_itself ∷ implies_implication ∷ implies_negation
    ∷ true_iff ∷ iff_true ∷ false_iff ∷ iff_false ∷ iff_itself
    ∷ unused_variable ∷ unused_predicate ∷ solved_some ∷ solved_negation ∷ solved_condition ∷ []
