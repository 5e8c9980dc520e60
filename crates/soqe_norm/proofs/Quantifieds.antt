-- Quantifiers drawn over a conjunction or a disjunction whose other side lacks their variables.
-- Seen as a function of the quantified side, joining with the other side keeps conjunctions and disjunctions; over a sort
-- that is not empty, such a function passes through `every` and `some`.
use Rattle.std.proofs.Common.{◌≡◌, ℕ, zero, suc, ◌<◌, Bool, true, false, cond, eqb, ◌||◌, ◌&&◌, List, [], ◌∷◌, ◌++◌, refl, sym, ◌∙◌, ap, arith}
use Rattle.std.proofs.lemmas.Bool.{or_left, or_right}
use Rattle.std.specs.List.{list_any}
use Rattle.soqe_term.specs.World.{World, with_var}
use Rattle.soqe_number.specs.Finite.{every, some}
use Rattle.soqe_term.proofs.Worlds.{eqb-self}
use Rattle.soqe_form.specs.declared.form.Form.{Form, All, Ex}
use Rattle.soqe_form.specs.Boxes.{boxes}
use Rattle.soqe_form.specs.Truth.{truth}
use Rattle.soqe_form.specs.Free.{free}
use Rattle.soqe_form.proofs.Agree.{truth-unused}
use Rattle.soqe_form.specs.declared.quantifiers.Quantifier.{Quantifier}
use Rattle.soqe_form.specs.Quantifiers.{quantify}

-- no sort is empty
abbrev pub NoneEmpty : World → Type 0
NoneEmpty w = (s : ℕ) → 0 < w.size s

-- a function of truth values that keeps conjunctions and disjunctions
pub record Keeps (h : Bool → Bool) : Type 0 where
  pub and : (a b : Bool) → h (a && b) ≡ (h a && h b)
  pub or : (a b : Bool) → h (a || b) ≡ (h a || h b)

-- joining with a truth value, on the left or on the right
pub and-keeps : (c : Bool) → Keeps (λ b. c && b)
and-keeps true = record { and = λ a b. refl; or = λ a b. refl }
and-keeps false = record { and = λ a b. refl; or = λ a b. refl }

pub or-keeps : (c : Bool) → Keeps (λ b. c || b)
or-keeps true = record { and = λ a b. refl; or = λ a b. refl }
or-keeps false = record { and = λ a b. refl; or = λ a b. refl }

pub and_false : (a : Bool) → (a && false) ≡ false
and_false true = refl
and_false false = refl

pub and_true : (a : Bool) → (a && true) ≡ a
and_true true = refl
and_true false = refl

pub or_false : (a : Bool) → (a || false) ≡ a
or_false true = refl
or_false false = refl

pub or_true : (a : Bool) → (a || true) ≡ true
or_true true = refl
or_true false = refl

pub and-keeps_right : (c : Bool) → Keeps (λ b. b && c)
and-keeps_right true = record { and = λ a b. and_true (a && b) ∙ sym (λ i. and_true a i && and_true b i); or = λ a b. and_true (a || b) ∙ sym (λ i. and_true a i || and_true b i) }
and-keeps_right false = record { and = λ a b. and_false (a && b) ∙ sym (λ i. and_false a i && and_false b i); or = λ a b. and_false (a || b) ∙ sym (λ i. and_false a i || and_false b i) }

pub or-keeps_right : (c : Bool) → Keeps (λ b. b || c)
or-keeps_right true = record { and = λ a b. or_true (a && b) ∙ sym (λ i. or_true a i && or_true b i); or = λ a b. or_true (a || b) ∙ sym (λ i. or_true a i || or_true b i) }
or-keeps_right false = record { and = λ a b. or_false (a && b) ∙ sym (λ i. or_false a i && or_false b i); or = λ a b. or_false (a || b) ∙ sym (λ i. or_false a i || or_false b i) }

every-keeps : (n : ℕ) → 0 < n → (h : Bool → Bool) → Keeps h → (p : ℕ → Bool) → every n (λ a. h (p a)) ≡ h (every n p)
every-keeps zero l h k p = absurd (omega arith)
every-keeps (suc zero) l h k p = refl
every-keeps (suc (suc n)) l h k p = (λ i. every-keeps (suc n) (omega arith) h k p i && h (p (suc n))) ∙ sym (k.and (every (suc n) p) (p (suc n)))

some-keeps : (n : ℕ) → 0 < n → (h : Bool → Bool) → Keeps h → (p : ℕ → Bool) → some n (λ a. h (p a)) ≡ h (some n p)
some-keeps zero l h k p = absurd (omega arith)
some-keeps (suc zero) l h k p = refl
some-keeps (suc (suc n)) l h k p = (λ i. some-keeps (suc n) (omega arith) h k p i || h (p (suc n))) ∙ sym (k.or (some (suc n) p) (p (suc n)))

-- quantifiers in front of a test of worlds
abbrev pub quantified : World → List Quantifier → (World → Bool) → Bool
quantified w [] p = p w
quantified w (q ∷ qs) p = cond q.universal
    (every (w.size q.variable.sort) (λ a. quantified (with_var w q.variable.num a) qs p))
    (some (w.size q.variable.sort) (λ a. quantified (with_var w q.variable.num a) qs p))

truth-choice : (w : World) (b : Bool) (f g : Form) → truth w (cond b f g) ≡ cond b (truth w f) (truth w g)
truth-choice w true f g = refl
truth-choice w false f g = refl

-- a quantifier behind others stands in front of the formula, and they in front of it
pub quantify-push : (qs : List Quantifier) (q : Quantifier) (f : Form) → quantify (qs ++ q ∷ []) f ≡ quantify qs (cond q.universal (All q.variable f) (Ex q.variable f))
quantify-push [] q f = refl
quantify-push (p ∷ qs) q f = ap (λ g. cond p.universal (All p.variable g) (Ex p.variable g)) (quantify-push qs q f)

pub truth-quantify : (w : World) (qs : List Quantifier) (f : Form) → truth w (quantify qs f) ≡ quantified w qs (λ v. truth v f)
unfolding boxes
truth-quantify w [] f = refl
truth-quantify w (q ∷ qs) f =
    truth-choice w q.universal (All q.variable (quantify qs f)) (Ex q.variable (quantify qs f))
    ∙ (λ i. cond q.universal
    (every (w.size q.variable.sort) (λ a. truth-quantify (with_var w q.variable.num a) qs f i))
    (some (w.size q.variable.sort) (λ a. truth-quantify (with_var w q.variable.num a) qs f i)))

pub quantified-append : (w : World) (ps qs : List Quantifier) (p : World → Bool) → quantified w (ps ++ qs) p ≡ quantified w ps (λ v. quantified v qs p)
quantified-append w [] qs p = refl
quantified-append w (q ∷ ps) qs p = λ i. cond q.universal
    (every (w.size q.variable.sort) (λ a. quantified-append (with_var w q.variable.num a) ps qs p i))
    (some (w.size q.variable.sort) (λ a. quantified-append (with_var w q.variable.num a) ps qs p i))

-- tests that agree in worlds without an empty sort
pub quantified-same : (w : World) (qs : List Quantifier) (p r : World → Bool) → NoneEmpty w → ((v : World) → NoneEmpty v → p v ≡ r v) → quantified w qs p ≡ quantified w qs r
quantified-same w [] p r o h = h w o
quantified-same w (q ∷ qs) p r o h = λ i. cond q.universal
    (every (w.size q.variable.sort) (λ a. quantified-same (with_var w q.variable.num a) qs p r o h i))
    (some (w.size q.variable.sort) (λ a. quantified-same (with_var w q.variable.num a) qs p r o h i))

-- one of the quantifiers binds the variable n
abbrev pub binds : ℕ → List Quantifier → Bool
binds n qs = list_any (λ q. eqb n q.variable.num) qs

-- a function of truth values in each world that keeps joins, and that the quantified variables do not change
pub record Passes (qs : List Quantifier) (h : World → Bool → Bool) : Type 0 where
  pub keeps : (w : World) → Keeps (h w)
  pub same : (w : World) (n a : ℕ) → binds n qs ≡ true → h (with_var w n a) ≡ h w

rest-passes : (q : Quantifier) (qs : List Quantifier) (h : World → Bool → Bool) → Passes (q ∷ qs) h → Passes qs h
rest-passes q qs h k = record { keeps = k.keeps; same = λ w n a m. k.same w n a (or_right (eqb n q.variable.num) (binds n qs) m) }

first-same : (q : Quantifier) (qs : List Quantifier) (h : World → Bool → Bool) → Passes (q ∷ qs) h → (w : World) (a : ℕ) → h (with_var w q.variable.num a) ≡ h w
first-same q qs h k w a = k.same w q.variable.num a (or_left (eqb q.variable.num q.variable.num) (binds q.variable.num qs) (eqb-self q.variable.num))

-- the outermost quantifier, where the rest is drawn already
drawn-first : (w : World) (q : Quantifier) (qs : List Quantifier) (h : World → Bool → Bool) (p : World → Bool) → NoneEmpty w → Passes (q ∷ qs) h
    → ((a : ℕ) → quantified (with_var w q.variable.num a) qs (λ v. h v (p v)) ≡ h (with_var w q.variable.num a) (quantified (with_var w q.variable.num a) qs p))
    → quantified w (q ∷ qs) (λ v. h v (p v)) ≡ h w (quantified w (q ∷ qs) p)
drawn-first w q qs h p o k inside = choose q.universal
  where
    at_w : (a : ℕ) → quantified (with_var w q.variable.num a) qs (λ v. h v (p v)) ≡ h w (quantified (with_var w q.variable.num a) qs p)
    at_w a = inside a ∙ (λ i. first-same q qs h k w a i (quantified (with_var w q.variable.num a) qs p))

    choose : (b : Bool) → cond b
        (every (w.size q.variable.sort) (λ a. quantified (with_var w q.variable.num a) qs (λ v. h v (p v))))
        (some (w.size q.variable.sort) (λ a. quantified (with_var w q.variable.num a) qs (λ v. h v (p v))))
        ≡ h w (cond b
        (every (w.size q.variable.sort) (λ a. quantified (with_var w q.variable.num a) qs p))
        (some (w.size q.variable.sort) (λ a. quantified (with_var w q.variable.num a) qs p)))
    choose true = (λ i. every (w.size q.variable.sort) (λ a. at_w a i)) ∙ every-keeps (w.size q.variable.sort) (o q.variable.sort) (h w) (k.keeps w) (λ a. quantified (with_var w q.variable.num a) qs p)
    choose false = (λ i. some (w.size q.variable.sort) (λ a. at_w a i)) ∙ some-keeps (w.size q.variable.sort) (o q.variable.sort) (h w) (k.keeps w) (λ a. quantified (with_var w q.variable.num a) qs p)

-- a function that passes through the quantifiers is drawn out of them
pub drawn : (w : World) (qs : List Quantifier) (h : World → Bool → Bool) (p : World → Bool) → NoneEmpty w → Passes qs h → quantified w qs (λ v. h v (p v)) ≡ h w (quantified w qs p)
drawn w [] h p o k = refl
drawn w (q ∷ qs) h p o k = drawn-first w q qs h p o k (λ a. drawn (with_var w q.variable.num a) qs h p o (rest-passes q qs h k))

-- the quantified variables are not free in the formula
abbrev pub Lack : List Quantifier → Form → Type 0
Lack qs f = (n : ℕ) → binds n qs ≡ true → free n f ≡ false

pub passes-left : (op : Bool → Bool → Bool) → ((c : Bool) → Keeps (op c)) → (qs : List Quantifier) (f : Form) → Lack qs f → Passes qs (λ w. op (truth w f))
passes-left op k qs f l = record { keeps = λ w. k (truth w f); same = λ w n a m. ap op (truth-unused w n a f (l n m)) }

pub passes-right : (op : Bool → Bool → Bool) → ((c : Bool) → Keeps (λ b. op b c)) → (qs : List Quantifier) (f : Form) → Lack qs f → Passes qs (λ w b. op b (truth w f))
passes-right op k qs f l = record { keeps = λ w. k (truth w f); same = λ w n a m. ap (λ c b. op b c) (truth-unused w n a f (l n m)) }

-- the quantifiers of both sides in front
pub both-drawn : (op : Bool → Bool → Bool) → ((c : Bool) → Keeps (op c)) → ((c : Bool) → Keeps (λ b. op b c))
    → (w : World) → NoneEmpty w → (ps qs : List Quantifier) (m f n g : Form) → Lack qs m → Lack ps g
    → truth w (quantify ps m) ≡ truth w f → ((v : World) → NoneEmpty v → truth v (quantify qs n) ≡ truth v g)
    → quantified w (ps ++ qs) (λ v. op (truth v m) (truth v n)) ≡ op (truth w f) (truth w g)
both-drawn op left right w o ps qs m f n g lm lg hf hg =
    quantified-append w ps qs (λ v. op (truth v m) (truth v n))
    ∙ quantified-same w ps (λ v. quantified v qs (λ u. op (truth u m) (truth u n))) (λ v. op (truth v m) (truth v g)) o
    (λ v e. drawn v qs (λ u. op (truth u m)) (λ u. truth u n) e (passes-left op left qs m lm) ∙ ap (op (truth v m)) (sym (truth-quantify v qs n) ∙ hg v e))
    ∙ drawn w ps (λ u b. op b (truth u g)) (λ u. truth u m) o (passes-right op right ps g lg)
    ∙ ap (λ b. op b (truth w g)) (sym (truth-quantify w ps m) ∙ hf)
