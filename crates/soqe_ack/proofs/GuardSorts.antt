-- The condition and the rest of a well-sorted guard are well sorted, the condition where the parameters have their sorts.
use Rattle.std.proofs.Common.{◌≡◌, ℕ, Bool, true, false, cond, eqb, not, ◌&&◌, List, [], ◌∷◌, Option, Some, refl, sym, ◌∙◌, ap}
use Rattle.std.proofs.lemmas.Bool.{eqb-true, eq-eqb, ne_eqb, and_parts, and_from, or_left, or_right, both_ways}
use Rattle.soqe_term.specs.declared.term.Var.{Var}
use Rattle.soqe_term.specs.declared.term.Term.{Term, Var as var}
use Rattle.soqe_term.specs.declared.term.Terms.{Terms, Nil, Cons', end_of-Term as end-t, more_of-Term as one-t, end_of-Terms as ends-t, more_of-Terms as ones-t}
use Rattle.soqe_term.specs.Occurs.{AgreeOn}
use Rattle.soqe_term.specs.Sorting.{Sorting, over_var, with_sorts, is_sort, own_sort, sorted_term, sorted_terms}
use Rattle.soqe_number.specs.Updates.{changed}
use Rattle.soqe_number.proofs.Choices.{or_none_first, or_none_second}
use Rattle.soqe_term.proofs.Sortings.{known, sorted_terms-agree}
use Rattle.soqe_term.proofs.Worlds.{changed-off, eqb-self}
use Rattle.soqe_form.specs.declared.form.Pred.{Pred}
use Rattle.soqe_form.specs.declared.form.Form.{Form, Equal, Atom, And}
use Rattle.soqe_form.specs.Boxes.{boxes}
use Rattle.soqe_form.specs.FreeVars.{is_among}
use Rattle.soqe_form.specs.Mentions.{mentions}
use Rattle.soqe_form.specs.Sorted.{sorted, pred_sorts}
use Rattle.soqe_form.proofs.Sortings.{sorted-agree}
use Rattle.soqe_norm.specs.Nnf.{nnf}
use Rattle.soqe_norm.proofs.Nnfs.{sorted-nnf}
use Rattle.soqe_ack.specs.Guards.{literal, equations_after, equations, IsGuard, lacking, literally, conjoined, quantified, on_right, on_left}
use Rattle.soqe_ack.specs.GuardLaws.{sorts_of, StandNowhere}
use Rattle.soqe_ack.proofs.Parameters.{no_parameter}

-- each parameter has its sort
abbrev pub HaveSorts : (ℕ → Option ℕ) → List Var → Type 0
HaveSorts u [] = Unit {0}
HaveSorts u (x ∷ xs) = (u x.num ≡ Some x.sort) × HaveSorts u xs

-- the sorts agree off the parameters
abbrev pub SameOff : List Var → (ℕ → Option ℕ) → (ℕ → Option ℕ) → Type 0
SameOff xs u v = AgreeOn (λ n. not (is_among xs n)) u v

-- a variable that is no parameter
pub have-var : (u : ℕ → Option ℕ) (x s : ℕ) (xs : List Var) → (is_among xs x ≡ true → ⊥) → HaveSorts u xs → HaveSorts (changed u x (Some s)) xs
have-var u x s [] n h = tt
have-var u x s (y ∷ ys) n h = (
  changed-off u x y.num (Some s) (ne_eqb y.num x (λ e. n (or_left (eqb x y.num) (is_among ys x) (eq-eqb x y.num (sym e))))) ∙ h.0,
  have-var u x s ys (λ q. n (or_right (eqb x y.num) (is_among ys x) q)) h.1,
)

has_sort : (s : ℕ) (o : Option ℕ) → o ≡ Some s → is_sort s o ≡ true
has_sort s o h = ap (is_sort s) h ∙ eqb-self s

-- an equation of a parameter
equal-sorted : (k : Sorting) (x : Var) (t : Term) → k.variable x.num ≡ Some x.sort → sorted_term k t ≡ true → eqb (own_sort t) x.sort ≡ true → sorted k (Equal (var x) t) ≡ true
unfolding boxes
equal-sorted k x t h a b =
    and_from (is_sort x.sort (k.variable x.num)) (sorted_term k t && eqb x.sort (own_sort t)) (has_sort x.sort (k.variable x.num) h)
    (and_from (sorted_term k t) (eqb x.sort (own_sort t)) a (eq-eqb x.sort (own_sort t) (sym (eqb-true (own_sort t) x.sort b))))

after-sorted : (k : Sorting) (f : Form) (xs : List Var) (ts : Terms) → sorted k f ≡ true → HaveSorts k.variable xs → sorted_terms k ts (sorts_of xs) ≡ true → sorted k (equations_after f xs ts) ≡ true
unfolding boxes
after-sorted k f [] Nil o h q = o
after-sorted k f [] (Cons' _ (one-t t end-t) _ (ones-t ts ends-t)) o h q = refl
after-sorted k f (x ∷ xs) Nil o h q = refl
after-sorted k f (x ∷ xs) (Cons' _ (one-t t end-t) _ (ones-t ts ends-t)) o h q =
    let a = and_parts (sorted_term k t) (eqb (own_sort t) x.sort && sorted_terms k ts (sorts_of xs)) q in
    let b = and_parts (eqb (own_sort t) x.sort) (sorted_terms k ts (sorts_of xs)) a.1 in
    after-sorted k (And f (Equal (var x) t)) xs ts (and_from (sorted k f) (sorted k (Equal (var x) t)) o (equal-sorted k x t h.0 a.0 b.0)) h.1 b.1

equations-sorted : (k : Sorting) (xs : List Var) (ts : Terms) → HaveSorts k.variable xs → sorted_terms k ts (sorts_of xs) ≡ true → sorted k (equations xs ts) ≡ true
equations-sorted k [] Nil h q = refl
equations-sorted k [] (Cons' _ (one-t t end-t) _ (ones-t ts ends-t)) h q = refl
equations-sorted k (x ∷ xs) Nil h q = refl
equations-sorted k (x ∷ xs) (Cons' _ (one-t t end-t) _ (ones-t ts ends-t)) h q =
    let a = and_parts (sorted_term k t) (eqb (own_sort t) x.sort && sorted_terms k ts (sorts_of xs)) q in
    let b = and_parts (eqb (own_sort t) x.sort) (sorted_terms k ts (sorts_of xs)) a.1 in
    after-sorted k (Equal (var x) t) xs ts (equal-sorted k x t h.0 a.0 b.0) h.1 b.1

literal-sorts : (e : Sorting) (s : Bool) (q : Pred) (ts : Terms) → sorted e (literal s q ts) ≡ with_sorts (λ sorts. sorted_terms e ts sorts) (pred_sorts e q)
unfolding boxes
literal-sorts e true q ts = refl
literal-sorts e false q ts = refl

literal-nowhere : (s : Bool) (q : Pred) (xs : List Var) (ts : Terms) → StandNowhere xs (literal s q ts) → StandNowhere xs (Atom q ts)
unfolding boxes
literal-nowhere true q xs ts un = un
literal-nowhere false q xs ts un = un

module _ (s : Bool) (q : Pred) (xs : List Var) where
  -- a formula in which no parameter stands
  plain : (e : Sorting) (u : ℕ → Option ℕ) (f : Form) → sorted e f ≡ true → StandNowhere xs f → SameOff xs u e.variable → sorted (known e u e.bound) (nnf true f) ≡ true
  plain e u f o un same =
      sorted-nnf true (known e u e.bound) f ∙ sorted-agree e u e.variable e.bound e.bound f (λ n p. same n (no_parameter xs f n un p)) (λ n p. refl) ∙ o

  literal-sorted : (e : Sorting) (u : ℕ → Option ℕ) (ts : Terms) → sorted e (literal s q ts) ≡ true → pred_sorts e q ≡ Some (sorts_of xs) → StandNowhere xs (Atom q ts)
      → SameOff xs u e.variable → HaveSorts u xs → sorted (known e u e.bound) (equations xs ts) ≡ true
  literal-sorted e u ts o k un same have =
      equations-sorted (known e u e.bound) xs ts have
      (sorted_terms-agree e u e.variable e.bound e.bound ts (sorts_of xs) (λ n p. same n (no_parameter xs (Atom q ts) n un p))
      ∙ sym (ap (with_sorts (λ sorts. sorted_terms e ts sorts)) k) ∙ sym (literal-sorts e s q ts) ∙ o)

  pub condition-sorted : {f c r : Form} → IsGuard s q xs f c r → (e : Sorting) (u : ℕ → Option ℕ) → sorted e f ≡ true → pred_sorts e q ≡ Some (sorts_of xs)
      → StandNowhere xs f → SameOff xs u e.variable → HaveSorts u xs → sorted (known e u e.bound) c ≡ true
  unfolding boxes
  condition-sorted (lacking h) e u o k un same have = refl
  condition-sorted (literally ts) e u o k un same have = literal-sorted e u ts o k (literal-nowhere s q xs ts un) same have
  condition-sorted (conjoined {f = f} {g = g} {c = c} {d = d} _ a b) e u o k un same have =
      let os = and_parts (sorted e f) (sorted e g) o in
      and_from (sorted (known e u e.bound) c) (sorted (known e u e.bound) d)
      (condition-sorted a e u os.0 k (λ n p. or_none_first (mentions n f) (mentions n g) (un n p)) same have)
      (condition-sorted b e u os.1 k (λ n p. or_none_second (mentions n f) (mentions n g) (un n p)) same have)
  condition-sorted (quantified {x = x} {f = f} _ a) e u o k un same have =
      condition-sorted a (over_var e x.num x.sort) (changed u x.num (Some x.sort)) o k (λ n p. or_none_second (eqb n x.num) (mentions n f) (un n p))
      (λ n p. ap (λ t. cond (eqb n x.num) (Some x.sort) t) (same n p))
      (have-var u x.num x.sort xs (λ p. both_ways (eqb x.num x.num) (or_none_first (eqb x.num x.num) (mentions x.num f) (un x.num p)) (eqb-self x.num)) have)
  condition-sorted (on_right f {g = g} {d = d} _ _ b) e u o k un same have =
      let os = and_parts (sorted e f) (sorted e g) o in
      and_from (sorted (known e u e.bound) (nnf true f)) (sorted (known e u e.bound) d)
      (plain e u f os.0 (λ n p. or_none_first (mentions n f) (mentions n g) (un n p)) same)
      (condition-sorted b e u os.1 k (λ n p. or_none_second (mentions n f) (mentions n g) (un n p)) same have)
  condition-sorted (on_left {f = f} g {c = c} _ _ a) e u o k un same have =
      let os = and_parts (sorted e f) (sorted e g) o in
      and_from (sorted (known e u e.bound) (nnf true g)) (sorted (known e u e.bound) c)
      (plain e u g os.1 (λ n p. or_none_second (mentions n f) (mentions n g) (un n p)) same)
      (condition-sorted a e u os.0 k (λ n p. or_none_first (mentions n f) (mentions n g) (un n p)) same have)

  pub rest-sorted : {f c r : Form} → IsGuard s q xs f c r → (e : Sorting) → sorted e f ≡ true → sorted e r ≡ true
  unfolding boxes
  rest-sorted (lacking h) e o = o
  rest-sorted (literally ts) e o = refl
  rest-sorted (conjoined {f = f} {g = g} {r = r} {t = t} _ a b) e o =
      let os = and_parts (sorted e f) (sorted e g) o in and_from (sorted e r) (sorted e t) (rest-sorted a e os.0) (rest-sorted b e os.1)
  rest-sorted (quantified {x = x} _ a) e o = rest-sorted a (over_var e x.num x.sort) o
  rest-sorted (on_right f {g = g} {t = t} _ _ b) e o =
      let os = and_parts (sorted e f) (sorted e g) o in and_from (sorted e f) (sorted e t) os.0 (rest-sorted b e os.1)
  rest-sorted (on_left {f = f} g {r = r} _ _ a) e o =
      let os = and_parts (sorted e f) (sorted e g) o in and_from (sorted e r) (sorted e g) (rest-sorted a e os.0) os.1
