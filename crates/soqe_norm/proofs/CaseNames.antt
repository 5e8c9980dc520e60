-- The names in a case: its variables are binders of the formula, and what is free in its conjuncts is free in the formula or bound there.
use Rattle.std.proofs.Common.{◌≡◌, ℕ, Bool, true, false, cond, eqb, ◌||◌, ◌&&◌, List, [], ◌∷◌, ◌++◌, map, refl, sym, ◌∙◌, ap}
use Rattle.std.specs.List.{All as Every, AllByRecursion}
use Rattle.std.proofs.lemmas.Bool.{false_from_ne_true, both_ways, or_left, or_right}
use Rattle.std.proofs.lemmas.List.{map-append}
use Rattle.std.proofs.lemmas.List.Elements.{All-from_recursion}
use Rattle.soqe_term.specs.declared.term.Var.{Var}
use Rattle.soqe_number.specs.Unused.{member}
use Rattle.soqe_number.proofs.Choices.{by_cases, or_none_first, or_none_second}
use Rattle.soqe_term.proofs.Worlds.{eqb-self}
use Rattle.soqe_form.specs.declared.form.Pred.{Pred}
use Rattle.soqe_form.specs.declared.form.Form.{Form, True, False, Equal, Atom, Not, Not', And, And', Or, Or', Imp, Imp', Iff, Iff', All, All', Ex, Ex', All2, All2', Ex2, Ex2', end_of-Form as end, more_of-Form as one}
use Rattle.soqe_form.specs.Boxes.{boxes}
use Rattle.soqe_form.specs.Free.{free}
use Rattle.soqe_form.specs.FreePreds.{has_free}
use Rattle.soqe_norm.specs.declared.case_list.Case.{Case}
use Rattle.soqe_form.specs.declared.quantifiers.Quantifier.{Quantifier}
use Rattle.soqe_norm.specs.Apart.{binders}
use Rattle.soqe_form.specs.Quantifiers.{quantify}
use Rattle.soqe_norm.specs.Folds.{all_of, exists_in}
use Rattle.soqe_norm.specs.Cases.{whole, both, pairings, below, cases_of, form_of}
use Rattle.soqe_norm.proofs.Quantifieds.{binds, Lack}
use Rattle.soqe_norm.proofs.Aparts.{Unlike}
use Rattle.soqe_norm.proofs.Prenexes.{Parted, parted, member-append, or_more, two-bind, two-free, one-free, none, Closed, closed-first, closed-second}
use Rattle.soqe_norm.proofs.PrenexNames.{free-quantify}
use Rattle.soqe_norm.proofs.Folded.{any_passes, all_pass, or_nothing, or_assoc, and_assoc, any-and}
use Rattle.soqe_norm.proofs.CaseLists.{each-append, each-weaker, each-map, each-pairing}

-- ---- a case as quantifiers in front of a formula

abbrev pub existential : Var → Quantifier
existential x = record { universal = false; variable = x }

abbrev pub existentials : List Var → List Quantifier
existentials xs = map existential xs

pub exists_in-quantify : (xs : List Var) (f : Form) → exists_in xs f ≡ quantify (existentials xs) f
exists_in-quantify [] f = refl
exists_in-quantify (x ∷ xs) f = ap (λ g. Ex x g) (exists_in-quantify xs f)

pub binds-append : (n : ℕ) (xs ys : List Var) → binds n (existentials (xs ++ ys)) ≡ (binds n (existentials xs) || binds n (existentials ys))
binds-append n [] ys = refl
binds-append n (x ∷ xs) ys = ap (λ b. eqb n x.num || b) (binds-append n xs ys) ∙ sym (or_assoc (eqb n x.num) (binds n (existentials xs)) (binds n (existentials ys)))

pub any_passes-append : (h : Form → Bool) (fs gs : List Form) → any_passes h (fs ++ gs) ≡ (any_passes h fs || any_passes h gs)
any_passes-append h [] gs = refl
any_passes-append h (f ∷ fs) gs = ap (λ b. h f || b) (any_passes-append h fs gs) ∙ sym (or_assoc (h f) (any_passes h fs) (any_passes h gs))

pub all_pass-append : (h : Form → Bool) (fs gs : List Form) → all_pass h (fs ++ gs) ≡ (all_pass h fs && all_pass h gs)
all_pass-append h [] gs = refl
all_pass-append h (f ∷ fs) gs = ap (λ b. h f && b) (all_pass-append h fs gs) ∙ sym (and_assoc (h f) (all_pass h fs) (all_pass h gs))

pub free-all : (n : ℕ) (fs : List Form) → free n (all_of fs) ≡ any_passes (free n) fs
unfolding boxes
free-all n [] = refl
free-all n (f ∷ fs) = any-and (free n) (λ f g. refl) f fs

pub free-case : (n : ℕ) (c : Case) → free n (form_of c) ≡ cond (binds n (existentials c.vars)) false (any_passes (free n) c.conj)
free-case n c =
    ap (free n) (exists_in-quantify c.vars (all_of c.conj)) ∙ free-quantify n (existentials c.vars) (all_of c.conj)
    ∙ ap (λ b. cond (binds n (existentials c.vars)) false b) (free-all n c.conj)

-- ---- the names of a case, by the numbers of binders and of free variables of its formula

pub record Named (bs : List ℕ) (p : ℕ → Bool) (c : Case) : Type 0 where
  pub vars : (n : ℕ) → binds n (existentials c.vars) ≡ true → member n bs ≡ true
  pub frees : (n : ℕ) → member n bs ≡ false → any_passes (free n) c.conj ≡ true → p n ≡ true

named-whole : (bs : List ℕ) (f : Form) → AllByRecursion (Named bs (λ n. free n f)) (whole f)
named-whole bs f = (record { vars = λ n h. none h; frees = λ n m h. or_nothing (free n f) ∙ h }, tt)

named-both : (bs cs : List ℕ) (p q : ℕ → Bool) (b c : Case) → Named bs p b → Named cs q c → Named (bs ++ cs) (λ n. p n || q n) (both b c)
named-both bs cs p q b c h k = record {
  vars = λ n e. two-bind n (existentials b.vars) (existentials c.vars) bs cs (h.vars n) (k.vars n) (sym (ap (binds n) (map-append existential b.vars c.vars)) ∙ e);
  frees = λ n m e. two-free n bs cs (any_passes (free n) b.conj) (any_passes (free n) c.conj) (p n) (q n) m (h.frees n) (k.frees n) (sym (any_passes-append (free n) b.conj c.conj) ∙ e);
}

named-left : (bs cs : List ℕ) (p q : ℕ → Bool) (c : Case) → Named bs p c → Named (bs ++ cs) (λ n. p n || q n) c
named-left bs cs p q c h = record {
  vars = λ n e. member-append n bs cs ∙ or_left (member n bs) (member n cs) (h.vars n e);
  frees = λ n m e. or_left (p n) (q n) (h.frees n (or_none_first (member n bs) (member n cs) (sym (member-append n bs cs) ∙ m)) e);
}

named-right : (bs cs : List ℕ) (p q : ℕ → Bool) (c : Case) → Named cs q c → Named (bs ++ cs) (λ n. p n || q n) c
named-right bs cs p q c h = record {
  vars = λ n e. member-append n bs cs ∙ or_right (member n bs) (member n cs) (h.vars n e);
  frees = λ n m e. or_right (p n) (q n) (h.frees n (or_none_second (member n bs) (member n cs) (sym (member-append n bs cs) ∙ m)) e);
}

named-below : (x : Var) (bs : List ℕ) (p : ℕ → Bool) (c : Case) → Named bs p c → Named (x.num ∷ bs) (λ n. cond (eqb n x.num) false (p n)) (below x c)
named-below x bs p c h = record {
  vars = λ n e. or_more (eqb n x.num) (binds n (existentials c.vars)) (eqb n x.num) (member n bs) (λ d. d) (h.vars n) e;
  frees = λ n m e. one-free n x.num (any_passes (free n) c.conj) (p n) (member n bs) m (h.frees n) e;
}

pub named-cases : (q : Pred) (f : Form) → AllByRecursion (Named (binders f) (λ n. free n f)) (cases_of q f)
unfolding boxes
named-cases q True = named-whole [] True
named-cases q False = named-whole [] False
named-cases q (Equal s t) = named-whole [] (Equal s t)
named-cases q (Atom p ts) = named-whole [] (Atom p ts)
named-cases q (Not' _ (one f end)) = named-whole (binders f) (Not f)
named-cases q (And' _ (one f end) _ (one g end)) =
    by_cases (AllByRecursion (Named (binders f ++ binders g) (λ n. free n f || free n g))) (has_free q f || has_free q g) (pairings (cases_of q f) (cases_of q g)) (whole (And f g))
    (λ _. each-pairing (Named (binders f) (λ n. free n f)) (Named (binders g) (λ n. free n g)) (Named (binders f ++ binders g) (λ n. free n f || free n g))
    (λ b c h k. named-both (binders f) (binders g) (λ n. free n f) (λ n. free n g) b c h k) (cases_of q f) (cases_of q g) (named-cases q f) (named-cases q g))
    (λ _. named-whole (binders f ++ binders g) (And f g))
named-cases q (Or' _ (one f end) _ (one g end)) =
    by_cases (AllByRecursion (Named (binders f ++ binders g) (λ n. free n f || free n g))) (has_free q f || has_free q g) (cases_of q f ++ cases_of q g) (whole (Or f g))
    (λ _. each-append (Named (binders f ++ binders g) (λ n. free n f || free n g)) (cases_of q f) (cases_of q g)
    (each-weaker (Named (binders f) (λ n. free n f)) (Named (binders f ++ binders g) (λ n. free n f || free n g)) (λ c h. named-left (binders f) (binders g) (λ n. free n f) (λ n. free n g) c h) (cases_of q f) (named-cases q f))
    (each-weaker (Named (binders g) (λ n. free n g)) (Named (binders f ++ binders g) (λ n. free n f || free n g)) (λ c h. named-right (binders f) (binders g) (λ n. free n f) (λ n. free n g) c h) (cases_of q g) (named-cases q g)))
    (λ _. named-whole (binders f ++ binders g) (Or f g))
named-cases q (Imp' _ (one f end) _ (one g end)) = named-whole (binders f ++ binders g) (Imp f g)
named-cases q (Iff' _ (one f end) _ (one g end)) = named-whole (binders f ++ binders g) (Iff f g)
named-cases q (All' x _ (one f end)) = named-whole (x.num ∷ binders f) (All x f)
named-cases q (Ex' x _ (one f end)) =
    by_cases (AllByRecursion (Named (x.num ∷ binders f) (λ n. cond (eqb n x.num) false (free n f)))) (has_free q f) (map (below x) (cases_of q f)) (whole (Ex x f))
    (λ _. each-map (Named (binders f) (λ n. free n f)) (Named (x.num ∷ binders f) (λ n. cond (eqb n x.num) false (free n f))) (below x)
    (λ c h. named-below x (binders f) (λ n. free n f) c h) (cases_of q f) (named-cases q f))
    (λ _. named-whole (x.num ∷ binders f) (Ex x f))
named-cases q (All2' p _ (one f end)) = named-whole (binders f) (All2 p f)
named-cases q (Ex2' p _ (one f end)) = named-whole (binders f) (Ex2 p f)

number-each : (bs : List ℕ) (xs : List Var) → ((n : ℕ) → binds n (existentials xs) ≡ true → member n bs ≡ true) → AllByRecursion (λ x. member x.num bs ≡ true) xs
number-each bs [] h = tt
number-each bs (x ∷ xs) h = (
  h x.num (or_left (eqb x.num x.num) (binds x.num (existentials xs)) (eqb-self x.num)),
  number-each bs xs (λ n e. h n (or_right (eqb n x.num) (binds n (existentials xs)) e)),
)

pub numbers-cases : (q : Pred) (f : Form) → Every (λ c. Every (λ (x : Var). member x.num (binders f) ≡ true) c.vars) (cases_of q f)
numbers-cases q f =
    All-from_recursion (λ c. Every (λ x. member x.num (binders f) ≡ true) c.vars) (cases_of q f)
    (each-weaker (Named (binders f) (λ n. free n f)) (λ c. Every (λ x. member x.num (binders f) ≡ true) c.vars)
    (λ c h. All-from_recursion (λ x. member x.num (binders f) ≡ true) c.vars (number-each (binders f) c.vars h.vars)) (cases_of q f) (named-cases q f))

-- ---- two sides of a conjunction

-- cases of the two sides: neither's variables stand free in the other
pub record Strange (b c : Case) : Type 0 where
  pub first : Lack (existentials c.vars) (all_of b.conj)
  pub second : Lack (existentials b.vars) (form_of c)

under : (b a : Bool) → cond b false a ≡ true → a ≡ true
under true a h = none h
under false a h = h

pub strange : (f g : Form) → Unlike (binders f ++ binders g) → Closed (binders f ++ binders g) (λ n. free n f || free n g)
    → (b c : Case) → Named (binders f) (λ n. free n f) b → Named (binders g) (λ n. free n g) c → Strange b c
strange f g u cl b c h k =
    let parts : Parted (binders f) (binders g) = parted (binders f) (binders g) u in
    let left : Closed (binders f) (λ n. free n f || free n g) = closed-first (binders f) (binders g) (λ n. free n f) (λ n. free n g) cl in
    let right : Closed (binders g) (λ n. free n f || free n g) = closed-second (binders f) (binders g) (λ n. free n f) (λ n. free n g) cl in
    record {
      first = λ n e. false_from_ne_true (free n (all_of b.conj)) (λ d. both_ways (free n f)
          (or_none_first (free n f) (free n g) (right n (k.vars n e)))
          (h.frees n (false_from_ne_true (member n (binders f)) (λ m. both_ways (member n (binders g)) (parts.cross n m) (k.vars n e))) (sym (free-all n b.conj) ∙ d)));
      second = λ n e. false_from_ne_true (free n (form_of c)) (λ d. both_ways (free n g)
          (or_none_second (free n f) (free n g) (left n (h.vars n e)))
          (k.frees n (parts.cross n (h.vars n e)) (under (binds n (existentials c.vars)) (any_passes (free n) c.conj) (sym (free-case n c) ∙ d))));
    }

-- ---- what is free in a case

-- of two cases together: k and l whether a case binds the number, a and b whether it is free in their conjuncts
two_cases : (k l a b : Bool) → cond (k || l) false (a || b) ≡ true → (cond k false a || cond l false b) ≡ true
two_cases true l a b h = none h
two_cases false true a b h = none h
two_cases false false a b h = h

free-both : (n : ℕ) (b c : Case) → free n (form_of (both b c)) ≡ true → (free n (form_of b) || free n (form_of c)) ≡ true
free-both n b c h =
    (λ i. free-case n b i || free-case n c i)
    ∙ two_cases (binds n (existentials b.vars)) (binds n (existentials c.vars)) (any_passes (free n) b.conj) (any_passes (free n) c.conj)
    (sym (λ i. cond (binds-append n b.vars c.vars i) false (any_passes-append (free n) b.conj c.conj i)) ∙ sym (free-case n (both b c)) ∙ h)

hidden_more : (b c d : Bool) → (c ≡ true → d ≡ true) → cond b false c ≡ true → cond b false d ≡ true
hidden_more true c d h e = none e
hidden_more false c d h e = h e

-- what is free in the case is free in the formula
abbrev pub Frees : ℕ → Form → Case → Type 0
Frees n f c = free n (form_of c) ≡ true → free n f ≡ true

pub free-cases : (n : ℕ) (q : Pred) (f : Form) → AllByRecursion (Frees n f) (cases_of q f)
unfolding boxes
free-cases n q True = (λ h. h, tt)
free-cases n q False = (λ h. h, tt)
free-cases n q (Equal s t) = (λ h. h, tt)
free-cases n q (Atom p ts) = (λ h. h, tt)
free-cases n q (Not' _ (one f end)) = (λ h. h, tt)
free-cases n q (And' _ (one f end) _ (one g end)) =
    by_cases (AllByRecursion (Frees n (And f g))) (has_free q f || has_free q g) (pairings (cases_of q f) (cases_of q g)) (whole (And f g))
    (λ _. each-pairing (Frees n f) (Frees n g) (Frees n (And f g))
    (λ b c h k e. or_more (free n (form_of b)) (free n (form_of c)) (free n f) (free n g) h k (free-both n b c e)) (cases_of q f) (cases_of q g) (free-cases n q f) (free-cases n q g))
    (λ _. (λ h. h, tt))
free-cases n q (Or' _ (one f end) _ (one g end)) =
    by_cases (AllByRecursion (Frees n (Or f g))) (has_free q f || has_free q g) (cases_of q f ++ cases_of q g) (whole (Or f g))
    (λ _. each-append (Frees n (Or f g)) (cases_of q f) (cases_of q g)
    (each-weaker (Frees n f) (Frees n (Or f g)) (λ c h e. or_left (free n f) (free n g) (h e)) (cases_of q f) (free-cases n q f))
    (each-weaker (Frees n g) (Frees n (Or f g)) (λ c h e. or_right (free n f) (free n g) (h e)) (cases_of q g) (free-cases n q g)))
    (λ _. (λ h. h, tt))
free-cases n q (Imp' _ (one f end) _ (one g end)) = (λ h. h, tt)
free-cases n q (Iff' _ (one f end) _ (one g end)) = (λ h. h, tt)
free-cases n q (All' x _ (one f end)) = (λ h. h, tt)
free-cases n q (Ex' x _ (one f end)) =
    by_cases (AllByRecursion (Frees n (Ex x f))) (has_free q f) (map (below x) (cases_of q f)) (whole (Ex x f))
    (λ _. each-map (Frees n f) (Frees n (Ex x f)) (below x) (λ c h e. hidden_more (eqb n x.num) (free n (form_of c)) (free n f) h e) (cases_of q f) (free-cases n q f))
    (λ _. (λ h. h, tt))
free-cases n q (All2' p _ (one f end)) = (λ h. h, tt)
free-cases n q (Ex2' p _ (one f end)) = (λ h. h, tt)
