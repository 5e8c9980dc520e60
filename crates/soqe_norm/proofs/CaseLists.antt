-- Lists of cases: what holds of each case of two lists together, and of a formula's cases by its parts.
use Rattle.std.proofs.Common.{◌≡◌, ◌≢◌, ℕ, Bool, true, false, ◌||◌, List, [], ◌∷◌, ◌++◌, map, refl}
use Rattle.std.specs.List.{All as Every, AllByRecursion}
use Rattle.std.proofs.lemmas.Bool.{and_parts, or_left, or_right}
use Rattle.std.proofs.lemmas.List.Elements.{All-from_recursion}
use Rattle.soqe_term.specs.declared.term.Var.{Var}
use Rattle.soqe_number.proofs.Choices.{by_cases, or_none_first, or_none_second}
use Rattle.soqe_form.specs.declared.form.Pred.{Pred}
use Rattle.soqe_form.specs.declared.form.Form.{Form, True, False, Equal, Atom, Not, Not', And, And', Or, Or', Imp, Imp', Iff, Iff', All, All', Ex, Ex', All2, All2', Ex2, Ex2', end_of-Form as end, more_of-Form as one}
use Rattle.soqe_form.specs.Boxes.{boxes}
use Rattle.soqe_form.specs.Free.{free_pred}
use Rattle.soqe_form.specs.FreePreds.{has_free}
use Rattle.soqe_form.specs.Places.{has_blocks}
use Rattle.soqe_norm.specs.declared.case_list.Case.{Case}
use Rattle.soqe_norm.specs.Nnf.{is_nnf}
use Rattle.soqe_norm.specs.Cases.{whole, both, pairings, below, cases_of}

-- ---- each element of a list

pub each-append : {X : Type 0} (P : X → Type 0) (xs ys : List X) → AllByRecursion P xs → AllByRecursion P ys → AllByRecursion P (xs ++ ys)
each-append P [] ys h k = k
each-append P (x ∷ xs) ys h k = (h.0, each-append P xs ys h.1 k)

pub each-weaker : {X : Type 0} (P Q : X → Type 0) → ((x : X) → P x → Q x) → (xs : List X) → AllByRecursion P xs → AllByRecursion Q xs
each-weaker P Q w [] h = tt
each-weaker P Q w (x ∷ xs) h = (w x h.0, each-weaker P Q w xs h.1)

pub each-map : {X Y : Type 0} (P : X → Type 0) (Q : Y → Type 0) (f : X → Y) → ((x : X) → P x → Q (f x)) → (xs : List X) → AllByRecursion P xs → AllByRecursion Q (map f xs)
each-map P Q f w [] h = tt
each-map P Q f w (x ∷ xs) h = (w x h.0, each-map P Q f w xs h.1)

pub each-two : {X : Type 0} (P Q : X → Type 0) (xs : List X) → AllByRecursion P xs → AllByRecursion Q xs → AllByRecursion (λ x. P x × Q x) xs
each-two P Q [] h k = tt
each-two P Q (x ∷ xs) h k = ((h.0, k.0), each-two P Q xs h.1 k.1)

-- what holds of two cases together holds of each pairing
pub each-pairing : (P Q R : Case → Type 0) → ((b c : Case) → P b → Q c → R (both b c)) → (bs cs : List Case) → AllByRecursion P bs → AllByRecursion Q cs → AllByRecursion R (pairings bs cs)
each-pairing P Q R w [] cs h k = tt
each-pairing P Q R w (b ∷ bs) cs h k = each-append R (map (both b) cs) (pairings bs cs) (each-map Q R (both b) (λ c d. w b c h.0 d) cs k) (each-pairing P Q R w bs cs h.1 k)

-- ---- there is a case

filled-append : {X : Type 0} (xs ys : List X) → xs ≢ [] → (xs ++ ys) ≢ []
filled-append [] ys h = absurd (h refl)
filled-append (x ∷ xs) ys h = λ e. cc

filled-map : {X Y : Type 0} (f : X → Y) (xs : List X) → xs ≢ [] → map f xs ≢ []
filled-map f [] h = absurd (h refl)
filled-map f (x ∷ xs) h = λ e. cc

filled-pairings : (bs cs : List Case) → bs ≢ [] → cs ≢ [] → pairings bs cs ≢ []
filled-pairings [] cs h k = absurd (h refl)
filled-pairings (b ∷ bs) cs h k = filled-append (map (both b) cs) (pairings bs cs) (filled-map (both b) cs k)

filled-whole : (f : Form) → whole f ≢ []
filled-whole f = λ e. cc

pub cases-there : (q : Pred) (f : Form) → cases_of q f ≢ []
unfolding boxes
cases-there q True = filled-whole True
cases-there q False = filled-whole False
cases-there q (Equal s t) = filled-whole (Equal s t)
cases-there q (Atom p ts) = filled-whole (Atom p ts)
cases-there q (Not' _ (one f end)) = filled-whole (Not f)
cases-there q (And' _ (one f end) _ (one g end)) =
    by_cases (λ cs. cs ≢ []) (has_free q f || has_free q g) (pairings (cases_of q f) (cases_of q g)) (whole (And f g)) (λ _. filled-pairings (cases_of q f) (cases_of q g) (cases-there q f) (cases-there q g)) (λ _. filled-whole (And f g))
cases-there q (Or' _ (one f end) _ (one g end)) =
    by_cases (λ cs. cs ≢ []) (has_free q f || has_free q g) (cases_of q f ++ cases_of q g) (whole (Or f g)) (λ _. filled-append (cases_of q f) (cases_of q g) (cases-there q f)) (λ _. filled-whole (Or f g))
cases-there q (Imp' _ (one f end) _ (one g end)) = filled-whole (Imp f g)
cases-there q (Iff' _ (one f end) _ (one g end)) = filled-whole (Iff f g)
cases-there q (All' x _ (one f end)) = filled-whole (All x f)
cases-there q (Ex' x _ (one f end)) =
    by_cases (λ cs. cs ≢ []) (has_free q f) (map (below x) (cases_of q f)) (whole (Ex x f)) (λ _. filled-map (below x) (cases_of q f) (cases-there q f)) (λ _. filled-whole (Ex x f))
cases-there q (All2' p _ (one f end)) = filled-whole (All2 p f)
cases-there q (Ex2' p _ (one f end)) = filled-whole (Ex2 p f)

-- ---- what passes from a formula to its parts holds of each conjunct

-- a fact about formulas that passes from conjunctions, disjunctions and existential formulas to their parts
pub record PassesDown (P : Form → Type 0) : Type 0 where
  pub and : (f g : Form) → P (And f g) → P f × P g
  pub or : (f g : Form) → P (Or f g) → P f × P g
  pub ex : (x : Var) (f : Form) → P (Ex x f) → P f

-- the fact holds of each conjunct of a case
abbrev pub OfConjuncts : (Form → Type 0) → Case → Type 0
OfConjuncts P c = AllByRecursion P c.conj

pub of_conjuncts : (P : Form → Type 0) → PassesDown P → (q : Pred) (f : Form) → P f → AllByRecursion (OfConjuncts P) (cases_of q f)
unfolding boxes
of_conjuncts P d q True h = ((h, tt), tt)
of_conjuncts P d q False h = ((h, tt), tt)
of_conjuncts P d q (Equal s t) h = ((h, tt), tt)
of_conjuncts P d q (Atom p ts) h = ((h, tt), tt)
of_conjuncts P d q (Not' _ (one f end)) h = ((h, tt), tt)
of_conjuncts P d q (And' _ (one f end) _ (one g end)) h =
    by_cases (AllByRecursion (OfConjuncts P)) (has_free q f || has_free q g) (pairings (cases_of q f) (cases_of q g)) (whole (And f g))
    (λ _. each-pairing (OfConjuncts P) (OfConjuncts P) (OfConjuncts P) (λ b c k l. each-append P b.conj c.conj k l) (cases_of q f) (cases_of q g)
    (of_conjuncts P d q f (d.and f g h).0) (of_conjuncts P d q g (d.and f g h).1))
    (λ _. ((h, tt), tt))
of_conjuncts P d q (Or' _ (one f end) _ (one g end)) h =
    by_cases (AllByRecursion (OfConjuncts P)) (has_free q f || has_free q g) (cases_of q f ++ cases_of q g) (whole (Or f g))
    (λ _. each-append (OfConjuncts P) (cases_of q f) (cases_of q g) (of_conjuncts P d q f (d.or f g h).0) (of_conjuncts P d q g (d.or f g h).1))
    (λ _. ((h, tt), tt))
of_conjuncts P d q (Imp' _ (one f end) _ (one g end)) h = ((h, tt), tt)
of_conjuncts P d q (Iff' _ (one f end) _ (one g end)) h = ((h, tt), tt)
of_conjuncts P d q (All' x _ (one f end)) h = ((h, tt), tt)
of_conjuncts P d q (Ex' x _ (one f end)) h =
    by_cases (AllByRecursion (OfConjuncts P)) (has_free q f) (map (below x) (cases_of q f)) (whole (Ex x f))
    (λ _. each-map (OfConjuncts P) (OfConjuncts P) (below x) (λ c k. k) (cases_of q f) (of_conjuncts P d q f (d.ex x f h)))
    (λ _. ((h, tt), tt))
of_conjuncts P d q (All2' p _ (one f end)) h = ((h, tt), tt)
of_conjuncts P d q (Ex2' p _ (one f end)) h = ((h, tt), tt)

-- the same by places in the lists
pub of_conjuncts-all : (P : Form → Type 0) → PassesDown P → (q : Pred) (f : Form) → P f → Every (λ c. Every P c.conj) (cases_of q f)
of_conjuncts-all P d q f h =
    All-from_recursion (λ c. Every P c.conj) (cases_of q f)
    (each-weaker (OfConjuncts P) (λ c. Every P c.conj) (λ c k. All-from_recursion P c.conj k) (cases_of q f) (of_conjuncts P d q f h))

pub normal-down : PassesDown (λ f. is_nnf f ≡ true)
unfolding boxes
normal-down = record { and = λ f g h. and_parts (is_nnf f) (is_nnf g) h; or = λ f g h. and_parts (is_nnf f) (is_nnf g) h; ex = λ x f h. h }

neither : (b c : Bool) → (b || c) ≡ false → (b ≡ false) × (c ≡ false)
neither b c h = (or_none_first b c h, or_none_second b c h)

pub blocks-down : PassesDown (λ f. has_blocks f ≡ false)
unfolding boxes
blocks-down = record { and = λ f g h. neither (has_blocks f) (has_blocks g) h; or = λ f g h. neither (has_blocks f) (has_blocks g) h; ex = λ x f h. h }

each_leads : (b c : Bool) (A : Type 0) → ((b || c) ≡ true → A) → (b ≡ true → A) × (c ≡ true → A)
each_leads b c A h = (λ e. h (or_left b c e), λ e. h (or_right b c e))

pub free_pred-down : (n : ℕ) (A : Type 0) → PassesDown (λ f. free_pred n f ≡ true → A)
unfolding boxes
free_pred-down n A = record { and = λ f g h. each_leads (free_pred n f) (free_pred n g) A h; or = λ f g h. each_leads (free_pred n f) (free_pred n g) A h; ex = λ x f h. h }
