-- Collecting the free variables with marks gives the first of each number, and their numbers are those that are free.
use Rattle.std.proofs.Common.{◌≡◌, ℕ, Bool, true, false, cond, eqb, not, ◌||◌, List, [], ◌∷◌, ◌++◌, refl, sym, ◌∙◌, ap, subst, append_assoc}
use Rattle.std.proofs.lemmas.List.{append-nil}
use Rattle.std.proofs.lemmas.List.Folds.{list_any-append}
use Rattle.std.proofs.lemmas.Bool.{eqb-true, both_ways}
use Rattle.soqe_term.specs.declared.term.Var.{Var}
use Rattle.soqe_term.specs.declared.term.Term.{Term, Var as var, App}
use Rattle.soqe_term.specs.declared.term.Terms.{Terms, Nil, Cons', end_of-Term as end-t, more_of-Term as one-t, end_of-Terms as ends-t, more_of-Terms as ones-t}
use Rattle.soqe_number.specs.Updates.{changed}
use Rattle.soqe_term.specs.Occurs.{occurs, occurs_any}
use Rattle.soqe_form.specs.declared.form.Form.{Form, True, False, Equal, Atom, Not', And', Or', Imp', Iff', All', Ex', All2', Ex2', end_of-Form as end, more_of-Form as one}
use Rattle.soqe_form.specs.declared.free_variables.Collected.{Collected}
use Rattle.soqe_form.specs.Free.{free}
use Rattle.soqe_number.specs.Marks.{marked}
use Rattle.soqe_form.specs.FreeVars.{occurrences, all_occurrences, others, free_occurrences, firsts, free_vars, is_among}
use Rattle.soqe_form.specs.Collects.{Collects}

-- the test, or a number of the list
abbrev pub also : List Var → (ℕ → Bool) → ℕ → Bool
also xs p n = is_among xs n || p n

absorbed : (a b c : Bool) → (a ≡ true → c ≡ true) → ((a || b) || c) ≡ (b || c)
absorbed true true c h = refl
absorbed true false c h = sym (h refl)
absorbed false b c h = refl

or_swap : (a b c : Bool) → (a || (b || c)) ≡ ((b || a) || c)
or_swap true true c = refl
or_swap true false c = refl
or_swap false true c = refl
or_swap false false c = refl

or_no : (b : Bool) → (b || false) ≡ b
or_no true = refl
or_no false = refl

two_lists : (b : Bool) (x : Var) (u v s t r : List Var) → (b ≡ true → u ≡ s ++ r) → (b ≡ false → v ≡ t ++ r) → cond b u (x ∷ v) ≡ cond b s (x ∷ t) ++ r
two_lists true x u v s t r h k = h refl
two_lists false x u v s t r h k = ap (λ l. x ∷ l) (k refl)

pub firsts-append : (p : ℕ → Bool) (xs ys : List Var) → firsts p (xs ++ ys) ≡ firsts p xs ++ firsts (also xs p) ys
firsts-append p [] ys = refl
firsts-append p (x ∷ xs) ys =
    two_lists (p x.num) x (firsts p (xs ++ ys)) (firsts (λ n. eqb n x.num || p n) (xs ++ ys)) (firsts p xs) (firsts (λ n. eqb n x.num || p n) xs) (firsts (also (x ∷ xs) p) ys)
    (λ e. firsts-append p xs ys ∙ ap (λ q. firsts p xs ++ firsts q ys) (λ i n. sym (absorbed (eqb n x.num) (is_among xs n) (p n) (λ q. ap p (eqb-true n x.num q) ∙ e)) i))
    (λ e. firsts-append (λ n. eqb n x.num || p n) xs ys ∙ ap (λ q. firsts (λ n. eqb n x.num || p n) xs ++ firsts q ys) (λ i n. or_swap (is_among xs n) (eqb n x.num) (p n) i))

others_step : (p : ℕ → Bool) (b : Bool) (y : Var) (zs u v : List Var) → firsts p zs ≡ u → firsts (λ n. eqb n y.num || p n) zs ≡ v → firsts p (cond (not b) (y ∷ zs) zs) ≡ cond (b || p y.num) u (y ∷ v)
others_step p true y zs u v h k = h
others_step p false y zs u v h k = λ i. cond (p y.num) (h i) (y ∷ k i)

or_exchange : (a b c : Bool) → (a || (b || c)) ≡ (b || (a || c))
or_exchange true true c = refl
or_exchange true false c = refl
or_exchange false b c = refl

pub firsts-others : (x : ℕ) (p : ℕ → Bool) (ys : List Var) → firsts p (others x ys) ≡ firsts (λ n. eqb n x || p n) ys
firsts-others x p [] = refl
firsts-others x p (y ∷ ys) =
    others_step p (eqb y.num x) y (others x ys) (firsts (λ n. eqb n x || p n) ys) (firsts (λ n. eqb n y.num || (eqb n x || p n)) ys)
    (firsts-others x p ys)
    (firsts-others x (λ n. eqb n y.num || p n) ys ∙ ap (λ q. firsts q ys) (λ i n. or_exchange (eqb n x) (eqb n y.num) (p n) i))

among_step : (b c d a : Bool) (n : ℕ) (y : Var) (zs : List Var) → eqb n y.num ≡ d → is_among zs n ≡ cond c false a → (b ≡ true → d ≡ c) → (b ≡ false → d ≡ true → c ≡ true → ⊥)
    → is_among (cond (not b) (y ∷ zs) zs) n ≡ cond c false (d || a)
among_step true true d a n y zs e h k l = h
among_step true false d a n y zs e h k l = h ∙ ap (λ d. d || a) (sym (k refl))
among_step false true true a n y zs e h k l = absurd (l refl refl refl)
among_step false true false a n y zs e h k l = λ i. e i || h i
among_step false false d a n y zs e h k l = λ i. e i || h i

pub is_among-others : (x n : ℕ) (ys : List Var) → is_among (others x ys) n ≡ cond (eqb n x) false (is_among ys n)
is_among-others x n [] = none (eqb n x)
  where
    none : (b : Bool) → false ≡ cond b false false
    none true = refl
    none false = refl
is_among-others x n (y ∷ ys) =
    among_step (eqb y.num x) (eqb n x) (eqb n y.num) (is_among ys n) n y (others x ys) refl (is_among-others x n ys)
    (λ e. ap (λ m. eqb n m) (eqb-true y.num x e))
    (λ e d c. both_ways (eqb y.num x) e (ap (λ m. eqb m x) (sym (eqb-true n y.num d)) ∙ c))

pub is_among-append : (n : ℕ) (xs ys : List Var) → is_among (xs ++ ys) n ≡ (is_among xs n || is_among ys n)
is_among-append n xs ys = list_any-append (λ x. eqb n x.num) xs ys

pub collects-none : (a : Collected) → Collects a a []
collects-none a = record { vars = sym (append-nil a.vars); marks = refl }

pub collects-met : (a : Collected) (x : Var) → marked a.marks x.num ≡ true → Collects a a (x ∷ [])
collects-met a x h = record {
  vars = sym (append-nil a.vars) ∙ ap (λ b. a.vars ++ cond b [] (x ∷ [])) (sym h);
  marks = λ i n. sym (absorbed (eqb n x.num) false (marked a.marks n) (λ e. ap (marked a.marks) (eqb-true n x.num e) ∙ h)) i;
}

cond-or : (b c : Bool) → cond b true c ≡ ((b || false) || c)
cond-or true c = refl
cond-or false c = refl

pub collects-new : (a b : Collected) (x : Var) → marked a.marks x.num ≡ false → b.vars ≡ a.vars ++ x ∷ [] → marked b.marks ≡ changed (marked a.marks) x.num true → Collects a b (x ∷ [])
collects-new a b x h v m = record {
  vars = v ∙ ap (λ b. a.vars ++ cond b [] (x ∷ [])) (sym h);
  marks = m ∙ (λ i n. cond-or (eqb n x.num) (marked a.marks n) i);
}

or_regroup : (a b c : Bool) → (b || (a || c)) ≡ ((a || b) || c)
or_regroup true true c = refl
or_regroup true false c = refl
or_regroup false b c = refl

pub collects-append : (a b c : Collected) (xs ys : List Var) → Collects a b xs → Collects b c ys → Collects a c (xs ++ ys)
collects-append a b c xs ys h k = record {
  vars =
      k.vars ∙ (λ i. h.vars i ++ firsts (h.marks i) ys) ∙ append_assoc a.vars (firsts (marked a.marks) xs) (firsts (also xs (marked a.marks)) ys)
      ∙ ap (λ l. a.vars ++ l) (sym (firsts-append (marked a.marks) xs ys));
  marks =
      k.marks ∙ (λ i n. is_among ys n || h.marks i n) ∙ (λ i n. or_regroup (is_among xs n) (is_among ys n) (marked a.marks n) i)
      ∙ (λ i n. sym (is_among-append n xs ys) i || marked a.marks n);
}

-- the same where the occurrences are known by an equation
pub collects-both : (a b c : Collected) (xs ys zs : List Var) → zs ≡ xs ++ ys → Collects a b xs → Collects b c ys → Collects a c zs
collects-both a b c xs ys zs e h k = subst (λ l. Collects a c l) (sym e) (collects-append a b c xs ys h k)

cond-true-or : (b c : Bool) → cond b true c ≡ (b || c)
cond-true-or true c = refl
cond-true-or false c = refl

unmarked : (c a u v : Bool) → (c ≡ true → u ≡ v) → cond c u (a || cond c true v) ≡ (cond c false a || v)
unmarked true a u v h = h refl
unmarked false a u v h = refl

-- a binder's number has a mark while its body is gone through
pub collects-below : (a b c d : Collected) (x : ℕ) (xs : List Var) → b.vars ≡ a.vars → marked b.marks ≡ changed (marked a.marks) x true → Collects b c xs
    → d.vars ≡ c.vars → marked d.marks ≡ changed (marked c.marks) x (marked a.marks x) → Collects a d (others x xs)
collects-below a b c d x xs v m h u l = record {
  vars =
      u ∙ h.vars ∙ (λ i. v i ++ firsts (m i) xs) ∙ ap (λ p. a.vars ++ firsts p xs) (λ i n. cond-true-or (eqb n x) (marked a.marks n) i)
      ∙ ap (λ l. a.vars ++ l) (sym (firsts-others x (marked a.marks) xs));
  marks =
      l ∙ (λ i. changed (h.marks i) x (marked a.marks x)) ∙ (λ i n. cond (eqb n x) (marked a.marks x) (is_among xs n || m i n))
      ∙ (λ i n. unmarked (eqb n x) (is_among xs n) (marked a.marks x) (marked a.marks n) (λ e. ap (marked a.marks) (sym (eqb-true n x e))) i)
      ∙ (λ i n. sym (is_among-others x n xs) i || marked a.marks n);
}

pub collected_all : (a b : Collected) (xs : List Var) → a.vars ≡ [] → marked a.marks ≡ (λ n. false) → Collects a b xs → b.vars ≡ firsts (λ n. false) xs
collected_all a b xs v m h = h.vars ∙ (λ i. v i ++ firsts (m i) xs)

pub ruleset collects = (collects-none, collects-met, collects-new, collected_all)

mutual
  is_among-occurrences : (n : ℕ) (t : Term) → is_among (occurrences t) n ≡ occurs n t
  is_among-occurrences n (var x) = or_no (eqb n x.num)
  is_among-occurrences n (App f s ts) = is_among-all_occurrences n ts

  is_among-all_occurrences : (n : ℕ) (ts : Terms) → is_among (all_occurrences ts) n ≡ occurs_any n ts
  is_among-all_occurrences n Nil = refl
  is_among-all_occurrences n (Cons' _ (one-t t end-t) _ (ones-t ts ends-t)) =
      is_among-append n (occurrences t) (all_occurrences ts) ∙ (λ i. is_among-occurrences n t i || is_among-all_occurrences n ts i)

both : (n : ℕ) (xs ys : List Var) (a b : Bool) → is_among xs n ≡ a → is_among ys n ≡ b → is_among (xs ++ ys) n ≡ (a || b)
both n xs ys a b h k = is_among-append n xs ys ∙ (λ i. h i || k i)

-- a number is that of a free occurrence exactly where it is free
pub is_among-free_occurrences : (n : ℕ) (f : Form) → is_among (free_occurrences f) n ≡ free n f
is_among-free_occurrences n True = refl
is_among-free_occurrences n False = refl
is_among-free_occurrences n (Equal s t) = both n (occurrences s) (occurrences t) (occurs n s) (occurs n t) (is_among-occurrences n s) (is_among-occurrences n t)
is_among-free_occurrences n (Atom p ts) = is_among-all_occurrences n ts
is_among-free_occurrences n (Not' _ (one f end)) = is_among-free_occurrences n f
is_among-free_occurrences n (And' _ (one f end) _ (one g end)) = both n (free_occurrences f) (free_occurrences g) (free n f) (free n g) (is_among-free_occurrences n f) (is_among-free_occurrences n g)
is_among-free_occurrences n (Or' _ (one f end) _ (one g end)) = both n (free_occurrences f) (free_occurrences g) (free n f) (free n g) (is_among-free_occurrences n f) (is_among-free_occurrences n g)
is_among-free_occurrences n (Imp' _ (one f end) _ (one g end)) = both n (free_occurrences f) (free_occurrences g) (free n f) (free n g) (is_among-free_occurrences n f) (is_among-free_occurrences n g)
is_among-free_occurrences n (Iff' _ (one f end) _ (one g end)) = both n (free_occurrences f) (free_occurrences g) (free n f) (free n g) (is_among-free_occurrences n f) (is_among-free_occurrences n g)
is_among-free_occurrences n (All' x _ (one f end)) = is_among-others x.num n (free_occurrences f) ∙ ap (λ b. cond (eqb n x.num) false b) (is_among-free_occurrences n f)
is_among-free_occurrences n (Ex' x _ (one f end)) = is_among-others x.num n (free_occurrences f) ∙ ap (λ b. cond (eqb n x.num) false b) (is_among-free_occurrences n f)
is_among-free_occurrences n (All2' p _ (one f end)) = is_among-free_occurrences n f
is_among-free_occurrences n (Ex2' p _ (one f end)) = is_among-free_occurrences n f

firsts_step : (n : ℕ) (b d q a : Bool) (x : Var) (us vs : List Var) → eqb n x.num ≡ d → is_among us n ≡ cond q false a → is_among vs n ≡ cond (d || q) false a → (d ≡ true → q ≡ b)
    → is_among (cond b us (x ∷ vs)) n ≡ cond q false (d || a)
firsts_step n true true true a x us vs e h k l = h
firsts_step n true true false a x us vs e h k l = let r : false ≡ true = l refl in cc
firsts_step n true false q a x us vs e h k l = h
firsts_step n false true true a x us vs e h k l = let r : true ≡ false = l refl in cc
firsts_step n false true false a x us vs e h k l = ap (λ b. b || is_among vs n) e
firsts_step n false false q a x us vs e h k l = λ i. e i || k i

-- the numbers of the first ones are those of the list that fail the test
pub is_among-firsts : (n : ℕ) (p : ℕ → Bool) (xs : List Var) → is_among (firsts p xs) n ≡ cond (p n) false (is_among xs n)
is_among-firsts n p [] = none (p n)
  where
    none : (b : Bool) → false ≡ cond b false false
    none true = refl
    none false = refl
is_among-firsts n p (x ∷ xs) =
    firsts_step n (p x.num) (eqb n x.num) (p n) (is_among xs n) x (firsts p xs) (firsts (λ n. eqb n x.num || p n) xs) refl
    (is_among-firsts n p xs) (is_among-firsts n (λ n. eqb n x.num || p n) xs) (λ e. ap p (eqb-true n x.num e))

-- a number is that of a free variable exactly where it is free
pub is_among-free_vars : (f : Form) (n : ℕ) → is_among (free_vars f) n ≡ free n f
is_among-free_vars f n = is_among-firsts n (λ n. false) (free_occurrences f) ∙ is_among-free_occurrences n f
