-- The first place at which a test passes, one element at a time, and the two ways between names and their codes.
use Rattle.std.proofs.Common.{◌≡◌, ℕ, suc, zero, ◌+◌, Bool, true, false, not, ◌&&◌, ◌||◌, cond, nat_lt, List, [], ◌∷◌, map, length, Option, Some, None, refl, sym, ◌∙◌, ap, subst, slice_get, arith}
use Rattle.std.specs.List.{list_any, position_or_len, position}
use Rattle.std.specs.Str.{bytes_eq}
use Rattle.std.specs.Borrow.{Bor}
use Rattle.std.proofs.lemmas.Slice.Eq.{bytes_eq-Decides}
use Rattle.soqe_form.proofs.SameCases.{never}
use Rattle.soqe_simp.proofs.RowForms.{Some-is, none_of}
use Rattle.soqe_simp.specs.RowTables.{texts, code_of, CodesLeadBack, NamesLeadBack}

abbrev one_more : Option ℕ → Option ℕ
one_more None = None
one_more (Some n) = Some (suc n)

module _ {A : Type 0} (test : A → Bool) where
  first-place : (l : ℕ) → nat_lt 0 (suc l) ≡ true
  first-place l = grind arith

  one-less : (n l : ℕ) → nat_lt (1 + n) (suc l) ≡ nat_lt n l
  one-less n l = grind arith

  place-after : (b : Bool) (n l : ℕ) → cond (nat_lt (cond (not b) (1 + n) 0) (suc l)) (Some (cond (not b) (1 + n) 0)) None ≡ cond b (Some 0) (one_more (cond (nat_lt n l) (Some n) None))
  place-after true n l = ap (λ b. cond b (Some 0) None) (first-place l)
  place-after false n l = (λ i. cond (one-less n l i) (Some (1 + n)) None) ∙ choose (nat_lt n l)
    where
      choose : (b : Bool) → cond b (Some (1 + n)) None ≡ one_more (cond b (Some n) None)
      choose true = let e : 1 + n ≡ suc n = omega arith in ap Some e
      choose false = refl

  pub position-cons : (x : A) (xs : List A) → position test (x ∷ xs) ≡ cond (test x) (Some 0) (one_more (position test xs))
  position-cons x xs = place-after (test x) (position_or_len test xs) (length xs)

pub position-map : {A B : Type 0} (test : B → Bool) (f : A → B) (xs : List A) → position (λ x. test (f x)) xs ≡ position test (map f xs)
position-map test f [] = refl
position-map test f (x ∷ xs) =
    position-cons (λ x. test (f x)) x xs ∙ ap (λ o. cond (test (f x)) (Some 0) (one_more o)) (position-map test f xs) ∙ sym (position-cons test (f x) (map f xs))

pub code_of_texts : (name : List ℕ) (names : List (Bor (List ℕ))) → position (λ n. bytes_eq n.now name) names ≡ code_of name (texts names)
code_of_texts name names = position-map (λ n. bytes_eq n name) (λ n. n.now) names

pub codes-lead_back : CodesLeadBack
codes-lead_back [] name k h = none_of h
codes-lead_back (n ∷ more) name k h =
    choose (bytes_eq n name) ((bytes_eq-Decides n name).0) (λ j e. codes-lead_back more name j e) (sym (position-cons (λ n. bytes_eq n name) n more) ∙ h)
  where
    behind : (o : Option ℕ) (k : ℕ) → ((j : ℕ) → o ≡ Some j → slice_get more j ≡ Some name) → one_more o ≡ Some k → slice_get (n ∷ more) k ≡ Some name
    behind None k f h = none_of h
    behind (Some j) k f h = subst (λ k. slice_get (n ∷ more) k ≡ Some name) (Some-is h) (f j refl)

    choose : (b : Bool) → (b ≡ true → n ≡ name) → ((j : ℕ) → code_of name more ≡ Some j → slice_get more j ≡ Some name)
        → cond b (Some 0) (one_more (code_of name more)) ≡ Some k → slice_get (n ∷ more) k ≡ Some name
    choose true is f h = subst (λ k. slice_get (n ∷ more) k ≡ Some name) (Some-is h) (ap Some (is refl))
    choose false is f h = behind (code_of name more) k f h

stands : (names : List (List ℕ)) (name : List ℕ) (k : ℕ) → slice_get names k ≡ Some name → list_any (λ m. bytes_eq m name) names ≡ true
stands [] name k h = none_of h
stands (n ∷ more) name zero h = ap (λ b. b || list_any (λ m. bytes_eq m name) more) ((bytes_eq-Decides n name).1 (Some-is h))
stands (n ∷ more) name (suc k) h = ap (λ b. bytes_eq n name || b) (stands more name k h) ∙ or-true (bytes_eq n name)
  where
    or-true : (b : Bool) → (b || true) ≡ true
    or-true true = refl
    or-true false = refl

and-first : (a b : Bool) → (not a && b) ≡ true → a ≡ false
and-first true b h = never h
and-first false b h = refl

and-second : (a b : Bool) → (not a && b) ≡ true → b ≡ true
and-second true b h = never h
and-second false b h = h

pub names-lead_back : NamesLeadBack
names-lead_back [] name k d h = none_of h
names-lead_back (n ∷ more) name zero d h =
    position-cons (λ n. bytes_eq n name) n more
    ∙ ap (λ b. cond b (Some 0) (one_more (code_of name more))) ((bytes_eq-Decides n name).1 (Some-is h))
names-lead_back (n ∷ more) name (suc k) d h =
    position-cons (λ n. bytes_eq n name) n more
    ∙ choose (bytes_eq n name) ((bytes_eq-Decides n name).0) (names-lead_back more name k (and-second _ _ d) h)
  where
    choose : (b : Bool) → (b ≡ true → n ≡ name) → code_of name more ≡ Some k → cond b (Some 0) (one_more (code_of name more)) ≡ Some (suc k)
    choose false is e = ap one_more e
    choose true is e = never (sym (and-first _ _ d) ∙ subst (λ m. list_any (λ l. bytes_eq l m) more ≡ true) (sym (is refl)) (stands more name k h))
