-- Changes of a function at one number, and what a term's value depends on.
use Rattle.std.proofs.Common.{◌≡◌, ℕ, Bool, true, false, cond, eqb, ◌||◌, List, ◌∷◌, zero, suc, ◌+◌, ◌≤◌, subst, arith, refl, sym, ◌∙◌, ap}
use Rattle.std.proofs.lemmas.Bool.{eqb-true, eqb-false, eq-eqb, ne_eqb, or_left, or_right, or_from, both_ways}
use Rattle.soqe_term.specs.declared.term.Term.{Term, Var, App}
use Rattle.soqe_term.specs.declared.term.Terms.{Terms, Nil, Cons', end_of-Term as end, more_of-Term as one, end_of-Terms as ends, more_of-Terms as ones}
use Rattle.soqe_term.specs.World.{World, with_var, with_bound}
use Rattle.soqe_number.specs.Updates.{changed}
use Rattle.soqe_term.specs.Value.{value, values, apply}
use Rattle.soqe_term.specs.Occurs.{occurs, occurs_any, AgreeOn, above, all_above, first_from}
use Rattle.soqe_number.proofs.Choices.{by_cases}

two_choices : {A : Type 0} (b c : Bool) (u v d : A) → (b ≡ true → c ≡ true → ⊥) → cond c v (cond b u d) ≡ cond b u (cond c v d)
two_choices true true u v d h = absurd (h refl refl)
two_choices true false u v d h = refl
two_choices false true u v d h = refl
two_choices false false u v d h = refl

choice_again : {A : Type 0} (b : Bool) (u v d : A) → cond b v (cond b u d) ≡ cond b v d
choice_again true u v d = refl
choice_again false u v d = refl

choice_same : {A : Type 0} (b : Bool) (u d : A) → (b ≡ true → u ≡ d) → cond b u d ≡ d
choice_same true u d h = h refl
choice_same false u d h = refl

pub not_both : (n x y : ℕ) → eqb x y ≡ false → eqb n x ≡ true → eqb n y ≡ true → ⊥
not_both n x y h a b = eqb-false x y h (sym (eqb-true n x a) ∙ eqb-true n y b)

pub eqb-self : (n : ℕ) → eqb n n ≡ true
eqb-self n = eq-eqb n n refl

module _ {A : Type 0} where
  pub changed-commutes : (f : ℕ → A) (x y : ℕ) (u v : A) → eqb x y ≡ false → changed (changed f x u) y v ≡ changed (changed f y v) x u
  changed-commutes f x y u v h = λ i n. two_choices (eqb n x) (eqb n y) u v (f n) (not_both n x y h) i

  pub changed-again : (f : ℕ → A) (x : ℕ) (u v : A) → changed (changed f x u) x v ≡ changed f x v
  changed-again f x u v = λ i n. choice_again (eqb n x) u v (f n) i

  pub changed-same : (f : ℕ → A) (x : ℕ) → changed f x (f x) ≡ f
  changed-same f x = λ i n. choice_same (eqb n x) (f x) (f n) (λ e. ap f (sym (eqb-true n x e))) i

  pub changed-at : (f : ℕ → A) (x : ℕ) (u : A) → changed f x u x ≡ u
  changed-at f x u = ap (λ b. cond b u (f x)) (eqb-self x)

  pub changed-off : (f : ℕ → A) (x n : ℕ) (u : A) → eqb n x ≡ false → changed f x u n ≡ f n
  changed-off f x n u h = ap (λ b. cond b u (f n)) h

-- a change at a number where the test fails
pub agree_changed : {A : Type 0} (p : ℕ → Bool) (f : ℕ → A) (x : ℕ) (v : A) → p x ≡ false → AgreeOn p (changed f x v) f
agree_changed p f x v h n o = changed-off f x n v (ne_eqb n x (λ e. both_ways (p n) (ap p e ∙ h) o))

agree_below : {A : Type 0} (b q : Bool) (v d c : A) → (cond b false q ≡ true → d ≡ c) → q ≡ true → cond b v d ≡ cond b v c
agree_below true q v d c h o = refl
agree_below false q v d c h o = h o

-- below a binder both functions get the same value at its number
pub agree_under : {A : Type 0} (p : ℕ → Bool) (f g : ℕ → A) (x : ℕ) (v : A) → AgreeOn (λ n. cond (eqb n x) false (p n)) f g → AgreeOn p (changed f x v) (changed g x v)
agree_under p f g x v h n o = agree_below (eqb n x) (p n) v (f n) (g n) (h n) o

pub agree-left : {A : Type 0} (p q : ℕ → Bool) (f g : ℕ → A) → AgreeOn (λ n. p n || q n) f g → AgreeOn p f g
agree-left p q f g h n o = h n (or_left (p n) (q n) o)

pub agree-right : {A : Type 0} (p q : ℕ → Bool) (f g : ℕ → A) → AgreeOn (λ n. p n || q n) f g → AgreeOn q f g
agree-right p q f g h n o = h n (or_right (p n) (q n) o)

-- the same world with other elements and other tables of the bound predicates
abbrev pub reading : World → (ℕ → ℕ) → (ℕ → List ℕ → Bool) → World
reading w e b = record w { element = e; bound = b }

mutual
  -- a term's value depends on the elements of its variables alone
  pub value-agree : (w : World) (e d : ℕ → ℕ) (b c : ℕ → List ℕ → Bool) (t : Term) → AgreeOn (λ n. occurs n t) e d → value (reading w e b) t ≡ value (reading w d c) t
  value-agree w e d b c (Var x) h = h x.num (eqb-self x.num)
  value-agree w e d b c (App f s ts) h = ap (apply w f) (values-agree w e d b c ts h)

  pub values-agree : (w : World) (e d : ℕ → ℕ) (b c : ℕ → List ℕ → Bool) (ts : Terms) → AgreeOn (λ n. occurs_any n ts) e d → values (reading w e b) ts ≡ values (reading w d c) ts
  values-agree w e d b c Nil h = refl
  values-agree w e d b c (Cons' _ (one t end) _ (ones ts ends)) h =
      λ i. value-agree w e d b c t (agree-left (λ n. occurs n t) (λ n. occurs_any n ts) e d h) i ∷ values-agree w e d b c ts (agree-right (λ n. occurs n t) (λ n. occurs_any n ts) e d h) i

-- an element that a term doesn't use
pub value-unused : (w : World) (x a : ℕ) (t : Term) → occurs x t ≡ false → value (with_var w x a) t ≡ value w t
value-unused w x a t h =
    value-agree w (changed w.element x a) w.element w.bound w.bound t (agree_changed (λ n. occurs n t) w.element x a h)

pub values-unused : (w : World) (x a : ℕ) (ts : Terms) → occurs_any x ts ≡ false → values (with_var w x a) ts ≡ values w ts
values-unused w x a ts h =
    values-agree w (changed w.element x a) w.element w.bound w.bound ts (agree_changed (λ n. occurs_any n ts) w.element x a h)

-- a term's value doesn't depend on bound predicates
pub value-bound : (w : World) (p : ℕ) (t : List ℕ → Bool) (s : Term) → value (with_bound w p t) s ≡ value w s
value-bound w p t s = value-agree w w.element w.element (changed w.bound p t) w.bound s (λ n o. refl)

pub values-bound : (w : World) (p : ℕ) (t : List ℕ → Bool) (ts : Terms) → values (with_bound w p t) ts ≡ values w ts
values-bound w p t ts = values-agree w w.element w.element (changed w.bound p t) w.bound ts (λ n o. refl)

mutual
  pub occurs-above : (n : ℕ) (t : Term) → above t ≤ n → occurs n t ≡ false
  occurs-above n (Var x) h = ne_eqb n x.num (omega arith)
  occurs-above n (App f s ts) h = occurs_any-above n ts h

  pub occurs_any-above : (n : ℕ) (ts : Terms) → all_above ts ≤ n → occurs_any n ts ≡ false
  occurs_any-above n Nil h = refl
  occurs_any-above n (Cons' _ (one t end) _ (ones ts ends)) h =
      or_from (occurs n t) (occurs_any n ts) (occurs-above n t (omega arith)) (occurs_any-above n ts (omega arith))

-- the first number that passes does pass, where the last one tried does
pub first_from-passes : (p : ℕ → Bool) (n k : ℕ) → p (n + k) ≡ true → p (first_from p n k) ≡ true
first_from-passes p n zero h = let e : n + 0 ≡ n = omega arith in subst (λ m. p m ≡ true) e h
first_from-passes p n (suc k) h =
    let e : n + suc k ≡ suc n + k = omega arith in
    by_cases (λ m. p m ≡ true) (p n) n (first_from p (suc n) k) (λ e. e) (λ _. first_from-passes p (suc n) k (subst (λ m. p m ≡ true) e h))
