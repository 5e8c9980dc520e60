-- Quantifiers in front of formulas: their weight, what is free, and how they are made simple.
use Rattle.std.proofs.Common.{◌≡◌, ℕ, ◌+◌, ◌≤◌, Bool, true, false, cond, eqb, not, List, [], ◌∷◌, ◌++◌, Some, None, refl, sym, ◌∙◌, ap, subst, arith}
use Rattle.std.specs.Option.{option_map}
use Rattle.soqe_term.specs.declared.term.Var.{Var}
use Rattle.soqe_number.proofs.Choices.{by_cases}
use Rattle.soqe_form.specs.declared.form.Form.{Form, All, All', Ex, Ex', end_of-Form as end, more_of-Form as one}
use Rattle.soqe_form.specs.Boxes.{boxes}
use Rattle.soqe_form.specs.Free.{free}
use Rattle.soqe_form.specs.declared.quantifiers.Quantifier.{Quantifier}
use Rattle.soqe_simp.specs.Weight.{weight}
use Rattle.soqe_simp.specs.Shapes.{given, first_of}
use Rattle.soqe_simp.specs.Conjuncts.{solved, below_alls, solved_not, solved_imp}
use Rattle.soqe_simp.specs.Rows.{with_solution}
use Rattle.soqe_simp.specs.Step.{by_row, step}
use Rattle.soqe_simp.specs.Ready.{Children, IsSimple}
use Rattle.soqe_simp.specs.Simplified.{then_on, simplify}
use Rattle.soqe_simp.specs.Chains.{is_quantified}
use Rattle.soqe_form.specs.Quantifiers.{quantified, quantify}
use Rattle.soqe_simp.proofs.Simple.{simplify-simple, simple-stays}
use Rattle.soqe_simp.proofs.Simplifies.{simplify-keeps}
use Rattle.soqe_simp.proofs.Settled.{simplify-at_root, simplify-children}

-- one is at the root
pub quantified-default : (f : Form) → is_quantified f ≡ true → ((x : Var) (g : Form) → f ≡ All x g → ⊥) → ((x : Var) (g : Form) → f ≡ Ex x g → ⊥) → ⊥
unfolding boxes
quantified-default (All' x _ (one f end)) h a e = a x f refl
quantified-default (Ex' x _ (one f end)) h a e = e x f refl
quantified-default _ h a e = cc

pub quantify-push : (qs : List Quantifier) (q : Quantifier) (f : Form) → quantify (qs ++ q ∷ []) f ≡ quantify qs (quantified q f)
quantify-push [] q f = refl
quantify-push (p ∷ qs) q f = ap (quantified p) (quantify-push qs q f)

pub weight-quantified : (q : Quantifier) (f : Form) → weight (quantified q f) ≡ 1 + weight f
unfolding boxes
weight-quantified q f = by_cases (λ g. weight g ≡ 1 + weight f) q.universal (All q.variable f) (Ex q.variable f) (λ e. refl) (λ e. refl)

pub weight-quantify : (qs : List Quantifier) (f g : Form) → weight f ≤ weight g → weight (quantify qs f) ≤ weight (quantify qs g)
weight-quantify [] f g h = h
weight-quantify (q ∷ qs) f g h = omega (arith, weight-quantify qs f g h, weight-quantified q (quantify qs f), weight-quantified q (quantify qs g))

pub weight-inside : (qs : List Quantifier) (f : Form) → weight f ≤ weight (quantify qs f)
weight-inside [] f = omega (arith)
weight-inside (q ∷ qs) f = omega (arith, weight-inside qs f, weight-quantified q (quantify qs f))

pub children-quantified : (q : Quantifier) (f : Form) → IsSimple f → Children IsSimple (quantified q f)
unfolding boxes
children-quantified q f h = by_cases (Children IsSimple) q.universal (All q.variable f) (Ex q.variable f) (λ e. h) (λ e. h)

pub free-quantified : (q : Quantifier) (f : Form) (n : ℕ) → free n (quantified q f) ≡ cond (eqb n q.variable.num) false (free n f)
unfolding boxes
free-quantified q f n = by_cases (λ g. free n g ≡ cond (eqb n q.variable.num) false (free n f)) q.universal (All q.variable f) (Ex q.variable f) (λ e. refl) (λ e. refl)

-- ---- what stands behind a quantifier may be made simple before

simplify-all : (x : Var) (f : Form) → simplify (All x (simplify f)) ≡ simplify (All x f)
unfolding boxes
simplify-all x f = simplify-children (All x f)

simplify-ex : (x : Var) (f : Form) → simplify (Ex x (simplify f)) ≡ simplify (Ex x f)
unfolding boxes
simplify-ex x f = simplify-children (Ex x f)

both_cases : (b : Bool) (u v s t : Form) → simplify u ≡ simplify s → simplify v ≡ simplify t → simplify (cond b u v) ≡ simplify (cond b s t)
both_cases true u v s t h k = h
both_cases false u v s t h k = k

pub simplify-quantified : (q : Quantifier) (f : Form) → simplify (quantified q (simplify f)) ≡ simplify (quantified q f)
simplify-quantified q f =
    both_cases q.universal (All q.variable (simplify f)) (Ex q.variable (simplify f)) (All q.variable f) (Ex q.variable f)
    (simplify-all q.variable f) (simplify-ex q.variable f)

pub simplify-quantify : (qs : List Quantifier) (f g : Form) → simplify f ≡ simplify g → simplify (quantify qs f) ≡ simplify (quantify qs g)
simplify-quantify [] f g h = h
simplify-quantify (q ∷ qs) f g h =
    sym (simplify-quantified q (quantify qs f)) ∙ ap (λ a. simplify (quantified q a)) (simplify-quantify qs f g h) ∙ simplify-quantified q (quantify qs g)

-- one more quantifier was put in front
pub simplify-pushed : (qs : List Quantifier) (q : Quantifier) (f g : Form) → g ≡ simplify (quantified q f) → IsSimple g → simplify (quantify qs g) ≡ simplify (quantify (qs ++ q ∷ []) f)
simplify-pushed qs q f g e s =
    simplify-quantify qs g (quantified q f) (simple-stays g s ∙ e) ∙ ap simplify (sym (quantify-push qs q f))

pub weight-pushed : (qs : List Quantifier) (q : Quantifier) (f g : Form) → g ≡ simplify (quantified q f) → weight (quantify qs g) ≤ weight (quantify (qs ++ q ∷ []) f)
weight-pushed qs q f g e =
    let of_g : weight g ≡ weight (simplify (quantified q f)) = ap weight e in
    let whole : weight (quantify (qs ++ q ∷ []) f) ≡ weight (quantify qs (quantified q f)) = ap weight (quantify-push qs q f) in
    let inside : weight (quantify qs g) ≤ weight (quantify qs (quantified q f)) =
    weight-quantify qs g (quantified q f) (omega (arith, of_g, (simplify-keeps (quantified q f)).weight)) in
    omega (arith, whole, inside)

-- ---- a chain of quantifiers was walked down from q on, and the body was made of what stands behind it

pub chain-whole : (start pushed chain : List Quantifier) (q : Quantifier) (form inner : Form) → start ≡ [] → pushed ≡ start ++ q ∷ [] → quantify chain inner ≡ quantify pushed form
    → quantify chain inner ≡ quantified q form
chain-whole start pushed chain q form inner none single walked =
    walked ∙ ap (λ l. quantify l form) (single ∙ ap (λ l. l ++ q ∷ []) none)

pub chain-weighs : (chain : List Quantifier) (inner body whole : Form) → body ≡ simplify inner → quantify chain inner ≡ whole → weight (quantify chain body) ≤ weight whole
chain-weighs chain inner body whole made is =
    let lighter : weight (quantify chain body) ≤ weight (quantify chain inner) = weight-quantify chain body inner (omega (arith, ap weight made, (simplify-keeps inner).weight)) in
    omega (arith, lighter, ap weight is)

pub chain-simplified : (chain : List Quantifier) (inner body whole r : Form) → body ≡ simplify inner → quantify chain inner ≡ whole → r ≡ simplify (quantify chain body) → r ≡ simplify whole
chain-simplified chain inner body whole r made is e =
    e ∙ simplify-quantify chain body inner (ap simplify made ∙ simple-stays (simplify inner) (simplify-simple inner)) ∙ ap simplify is

-- the last quantifier of a chain
pub weight-popped : (chain qs : List Quantifier) (q : Quantifier) (f : Form) → chain ≡ qs ++ q ∷ [] → weight (quantified q f) ≤ weight (quantify chain f)
weight-popped chain qs q f e = omega (arith, weight-inside qs (quantified q f), ap weight (quantify-push qs q f), ap (λ c. weight (quantify c f)) e)

-- the last quantifier of a chain was put in front of f, which gave g
pub put_front-step : (chain qs : List Quantifier) (q : Quantifier) (f g whole : Form) → chain ≡ qs ++ q ∷ [] → g ≡ simplify (quantified q f)
    → simplify (quantify chain f) ≡ simplify whole → weight (quantify chain f) ≤ weight whole
    → IsSimple g × (simplify (quantify qs g) ≡ simplify whole) × (weight (quantify qs g) ≤ weight whole)
put_front-step chain qs q f g whole e made same lighter =
    let simple : IsSimple g = subst IsSimple (sym made) (simplify-simple (quantified q f)) in (
      simple,
      simplify-pushed qs q f g made simple ∙ ap (λ c. simplify (quantify c f)) (sym e) ∙ same,
      omega (arith, weight-pushed qs q f g made, ap (λ c. weight (quantify c f)) e, lighter),
    )

-- none is left
pub put_front-end : (chain : List Quantifier) (f whole : Form) → chain ≡ [] → IsSimple f → simplify (quantify chain f) ≡ simplify whole → f ≡ simplify whole
put_front-end chain f whole e s same = sym (simple-stays f s) ∙ ap (λ c. simplify (quantify c f)) (sym e) ∙ same

-- ---- the step at a quantifier

settled-all : (x : Var) (f : Form) → free x.num f ≡ true → below_alls (solved_not x) [] f ≡ None → below_alls (solved_imp x) [] f ≡ None → step (All x f) ≡ None
unfolding boxes
settled-all x f o n m = λ i. first_of (option_map (by_row 33) (given (not (o i)) f))
    (first_of (option_map (by_row 36) (option_map (with_solution x) (n i))) (first_of (option_map (by_row 37) (option_map (with_solution x) (m i))) None))

settled-ex : (x : Var) (f : Form) → free x.num f ≡ true → solved [] x f ≡ None → step (Ex x f) ≡ None
unfolding boxes
settled-ex x f o n = λ i. first_of (option_map (by_row 33) (given (not (o i)) f)) (first_of (option_map (by_row 35) (option_map (with_solution x) (n i))) None)

stays : (f : Form) → Children IsSimple f → step f ≡ None → f ≡ simplify f
stays f h e = sym (simplify-at_root f h ∙ ap (λ o. then_on simplify o f) e)

-- no row applies
pub quantified-stays : (q : Quantifier) (f : Form) → IsSimple f → free q.variable.num f ≡ true → (q.universal ≡ false → solved [] q.variable f ≡ None)
    → (q.universal ≡ true → (below_alls (solved_not q.variable) [] f ≡ None) × (below_alls (solved_imp q.variable) [] f ≡ None)) → quantified q f ≡ simplify (quantified q f)
unfolding boxes
quantified-stays q f s o ex all = by_cases (λ g. g ≡ simplify g) q.universal (All q.variable f) (Ex q.variable f)
    (λ e. stays (All q.variable f) s (settled-all q.variable f o (all e).0 (all e).1))
    (λ e. stays (Ex q.variable f) s (settled-ex q.variable f o (ex e)))

vacuous-all : (x : Var) (f : Form) → free x.num f ≡ false → step (All x f) ≡ Some (by_row 33 f)
unfolding boxes
vacuous-all x f o = grind (arith, o)

vacuous-ex : (x : Var) (f : Form) → free x.num f ≡ false → step (Ex x f) ≡ Some (by_row 33 f)
unfolding boxes
vacuous-ex x f o = grind (arith, o)

goes : (f g : Form) → Children IsSimple f → IsSimple g → step f ≡ Some (by_row 33 g) → g ≡ simplify f
goes f g h s e = sym (simplify-at_root f h ∙ ap (λ o. then_on simplify o f) e ∙ simple-stays g s)

-- the variable is not free
pub quantified-goes : (q : Quantifier) (f : Form) → IsSimple f → free q.variable.num f ≡ false → f ≡ simplify (quantified q f)
unfolding boxes
quantified-goes q f s o = by_cases (λ g. f ≡ simplify g) q.universal (All q.variable f) (Ex q.variable f)
    (λ e. goes (All q.variable f) f s s (vacuous-all q.variable f o))
    (λ e. goes (Ex q.variable f) f s s (vacuous-ex q.variable f o))
