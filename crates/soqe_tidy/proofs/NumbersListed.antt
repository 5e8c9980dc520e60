-- Listing the new numbers of the variables without a mark: one list behind the other, and below a binder.
use Rattle.std.proofs.Common.{◌≡◌, ℕ, Bool, true, false, cond, eqb, not, ◌||◌, List, [], ◌∷◌, ◌++◌, Option, Some, None, refl, sym, ◌∙◌, ap, append_assoc}
use Rattle.std.proofs.Math.Bool.{or-false}
use Rattle.std.proofs.lemmas.List.{map-append, append-nil}
use Rattle.std.proofs.lemmas.List.Elements.{filter-append}
use Rattle.soqe_term.specs.declared.term.Var.{Var}
use Rattle.soqe_number.specs.Updates.{changed}
use Rattle.soqe_term.proofs.Worlds.{changed-again, changed-same}
use Rattle.soqe_number.specs.Marks.{marked}
use Rattle.soqe_form.specs.FreeVars.{others}
use Rattle.soqe_tidy.specs.Numbers.{is_bound, new_numbers, unmarked, Lists}

abbrev Marked : Type 0
Marked = List (ℕ × Bool)

-- where the marks are the same, the same numbers are bound
bound-same : (o : Option ℕ) (a b : Marked) → marked b ≡ marked a → is_bound o b ≡ is_bound o a
bound-same (Some y) a b e = λ i n. eqb n y || e i n
bound-same None a b e = λ i n. e i n

or_changed : (b c d : Bool) → (b || cond c true d) ≡ cond c true (b || d)
or_changed true true d = refl
or_changed true false d = refl
or_changed false c d = refl

-- one more mark binds one more number
bound-more : (o : Option ℕ) (x : ℕ) (a b : Marked) → marked b ≡ changed (marked a) x true → is_bound o b ≡ changed (is_bound o a) x true
bound-more (Some y) x a b e = λ i n. (ap (λ h. eqb n y || h n) e ∙ or_changed (eqb n y) (eqb n x) (marked a n)) i
bound-more None x a b e = λ i n. e i n

pub lists-none : (r : ℕ → ℕ) (o : Option ℕ) (a : Marked) (ns : List ℕ) → Lists r o [] a a ns ns
lists-none r o a ns = record { nums = sym (append-nil ns); marks = refl }

pub lists-both : (r : ℕ → ℕ) (o : Option ℕ) (xs ys zs : List Var) (a b c : Marked) (ks ls ms : List ℕ) → zs ≡ xs ++ ys → Lists r o xs a b ks ls → Lists r o ys b c ls ms
    → Lists r o zs a c ks ms
lists-both r o xs ys zs a b c ks ls ms e h k = record {
  nums =
      let p : ℕ → Bool = is_bound o a in
      k.nums ∙ (λ i. h.nums i ++ new_numbers r (unmarked (bound-same o a b h.marks i) ys))
      ∙ append_assoc ks (new_numbers r (unmarked p xs)) (new_numbers r (unmarked p ys))
      ∙ ap (λ l. ks ++ l)
      (sym (map-append (λ y. r y.num) (unmarked p xs) (unmarked p ys))
      ∙ ap (new_numbers r) (sym (filter-append (λ y. not (p y.num)) xs ys) ∙ ap (unmarked p) (sym e)));
  marks = k.marks ∙ h.marks;
}

unmarked_step : (b c : Bool) (y : Var) (h : ℕ → Bool) (us vs : List Var) → h y.num ≡ c → us ≡ unmarked h vs → cond (not (cond b true c)) (y ∷ us) us ≡ unmarked h (cond (not b) (y ∷ vs) vs)
unmarked_step true c y h us vs e k = k
unmarked_step false c y h us vs e k = λ i. cond (not (sym e i)) (y ∷ k i) (k i)

-- a mark on x leaves the other variables
pub unmarked-others : (h : ℕ → Bool) (x : ℕ) (ys : List Var) → unmarked (changed h x true) ys ≡ unmarked h (others x ys)
unmarked-others h x [] = refl
unmarked-others h x (y ∷ ys) = unmarked_step (eqb y.num x) (h y.num) y h (unmarked (changed h x true) ys) (others x ys) refl (unmarked-others h x ys)

pub unmarked-all : (ys : List Var) → unmarked (λ n. false) ys ≡ ys
unmarked-all [] = refl
unmarked-all (y ∷ ys) = ap (λ l. y ∷ l) (unmarked-all ys)

-- where there are no marks but an outer binder of x, the other variables are not bound
pub unmarked-outer : (x : ℕ) (a : Marked) (ys : List Var) → marked a ≡ (λ n. false) → unmarked (is_bound (Some x) a) ys ≡ others x ys
unmarked-outer x a ys e = ap (λ h. unmarked h ys) (λ i n. (ap (λ m. eqb n x || m n) e ∙ or-false (eqb n x)) i)

pub lists-below : (r : ℕ → ℕ) (o : Option ℕ) (x : ℕ) (was : Bool) (ys : List Var) (a b c d : Marked) (ks ls : List ℕ) → was ≡ marked a x → marked b ≡ changed (marked a) x true
    → Lists r o ys b c ks ls → marked d ≡ changed (marked c) x was → Lists r o (others x ys) a d ks ls
lists-below r o x was ys a b c d ks ls e set h back = record {
  nums = h.nums ∙ ap (λ q. ks ++ new_numbers r q) (ap (λ m. unmarked m ys) (bound-more o x a b set) ∙ unmarked-others (is_bound o a) x ys);
  marks =
      back ∙ (λ i. changed (h.marks i) x (e i)) ∙ ap (λ q. changed q x (marked a x)) set ∙ changed-again (marked a) x true (marked a x)
      ∙ changed-same (marked a) x;
}
