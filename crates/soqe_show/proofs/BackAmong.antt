-- A number that is found among variables, bound predicates or Skolem functions is one of theirs, and can be read where all can.
use Rattle.std.proofs.Common.{◌≡◌, ℕ, ◌<◌, ◌^◌, Bool, true, false, cond, eqb, List, [], ◌∷◌, map, Option, Some, None, refl, ◌∙◌, ap, sym, eqb-true}
use Rattle.std.specs.List.{list_all, list_any}
use Rattle.std.proofs.lemmas.Bool.{ltb-true, eq-eqb, or_left, or_right}
use Rattle.std.proofs.lemmas.Option.{none-some}
use Rattle.soqe_signature.specs.declared.skolems.SkolemSig.{SkolemSig}
use Rattle.soqe_term.specs.declared.term.Var.{Var}
use Rattle.soqe_term.specs.Sorting.{FunSort}
use Rattle.soqe_signature.specs.SkolemSigs.{skolem_sort_of}
use Rattle.soqe_number.proofs.Choices.{and_first, and_second}
use Rattle.soqe_form.specs.declared.form.PVar.{PVar}
use Rattle.soqe_signature.specs.Scope.{sort_among, sorts_among}
use Rattle.soqe_show.specs.FormBack.{is_small}

-- what the first item with a number has
abbrev first_with : {X A : Type 0} → (X → ℕ) → (X → A) → List X → ℕ → Option A
first_with num value [] n = None
first_with num value (x ∷ xs) n = cond (eqb n (num x)) (Some (value x)) (first_with num value xs n)

module _ {X A : Type 0} (num : X → ℕ) (value : X → A) where
  member_at : (xs : List X) (n : ℕ) (a : A) → first_with num value xs n ≡ Some a → list_any (λ m. eqb m n) (map num xs) ≡ true
  member_at [] n a h = absurd (none-some a h)
  member_at (x ∷ xs) n a h = by (eqb n (num x)) refl (member_at xs n a) h
    where
      by : (b : Bool) → eqb n (num x) ≡ b → (first_with num value xs n ≡ Some a → list_any (λ m. eqb m n) (map num xs) ≡ true) → cond b (Some (value x)) (first_with num value xs n) ≡ Some a → list_any (λ m. eqb m n) (map num (x ∷ xs)) ≡ true
      by true e rest h = or_left (eqb (num x) n) _ (eq-eqb (num x) n (sym (eqb-true n (num x) e)))
      by false e rest h = or_right (eqb (num x) n) _ (rest h)

  small_at : (xs : List X) (n : ℕ) (a : A) → first_with num value xs n ≡ Some a → list_all (λ x. is_small (num x)) xs ≡ true → n < 2 ^ 64
  small_at [] n a h small = absurd (none-some a h)
  small_at (x ∷ xs) n a h small = by (eqb n (num x)) refl (λ h. small_at xs n a h (and_second (is_small (num x)) _ small)) h
    where
      by : (b : Bool) → eqb n (num x) ≡ b → (first_with num value xs n ≡ Some a → n < 2 ^ 64) → cond b (Some (value x)) (first_with num value xs n) ≡ Some a → n < 2 ^ 64
      by true e rest h = ltb-true n (2 ^ 64) (ap is_small (eqb-true n (num x) e) ∙ and_first (is_small (num x)) _ small)
      by false e rest h = rest h

sort_first : (xs : List Var) (n : ℕ) → sort_among xs n ≡ first_with (λ (x : Var). x.num) (λ (x : Var). x.sort) xs n
sort_first [] n = refl
sort_first (x ∷ xs) n = ap (cond (eqb n x.num) (Some x.sort)) (sort_first xs n)

sorts_first : (ps : List PVar) (n : ℕ) → sorts_among ps n ≡ first_with (λ (p : PVar). p.num) (λ (p : PVar). p.args) ps n
sorts_first [] n = refl
sorts_first (p ∷ ps) n = ap (cond (eqb n p.num) (Some p.args)) (sorts_first ps n)

skolem_first : (ks : List SkolemSig) (n : ℕ) → skolem_sort_of ks n ≡ first_with (λ (k : SkolemSig). k.num) (λ (k : SkolemSig). record { args = k.args; result = k.result }) ks n
skolem_first [] n = refl
skolem_first (k ∷ ks) n = ap (cond (eqb n k.num) (Some (record { args = k.args; result = k.result }))) (skolem_first ks n)

-- the numbers of variables, and of bound predicates
abbrev pub numbers : List Var → List ℕ
numbers xs = map (λ (x : Var). x.num) xs

abbrev pub pred_numbers : List PVar → List ℕ
pred_numbers ps = map (λ (p : PVar). p.num) ps

pub variable_member : (xs : List Var) (n s : ℕ) → sort_among xs n ≡ Some s → list_any (λ m. eqb m n) (numbers xs) ≡ true
variable_member xs n s h = member_at (λ (x : Var). x.num) (λ (x : Var). x.sort) xs n s (sym (sort_first xs n) ∙ h)

pub variable_small : (xs : List Var) (n s : ℕ) → sort_among xs n ≡ Some s → list_all (λ (x : Var). is_small x.num) xs ≡ true → n < 2 ^ 64
variable_small xs n s h small = small_at (λ (x : Var). x.num) (λ (x : Var). x.sort) xs n s (sym (sort_first xs n) ∙ h) small

pub predicate_member : (ps : List PVar) (n : ℕ) (ss : List ℕ) → sorts_among ps n ≡ Some ss → list_any (λ m. eqb m n) (pred_numbers ps) ≡ true
predicate_member ps n ss h = member_at (λ (p : PVar). p.num) (λ (p : PVar). p.args) ps n ss (sym (sorts_first ps n) ∙ h)

pub predicate_small : (ps : List PVar) (n : ℕ) (ss : List ℕ) → sorts_among ps n ≡ Some ss → list_all (λ (p : PVar). is_small p.num) ps ≡ true → n < 2 ^ 64
predicate_small ps n ss h small = small_at (λ (p : PVar). p.num) (λ (p : PVar). p.args) ps n ss (sym (sorts_first ps n) ∙ h) small

pub skolem_small : (ks : List SkolemSig) (n : ℕ) (k : FunSort) → skolem_sort_of ks n ≡ Some k → list_all (λ (k : SkolemSig). is_small k.num) ks ≡ true → n < 2 ^ 64
skolem_small ks n k h small =
    small_at (λ (k : SkolemSig). k.num) (λ (k : SkolemSig). record { args = k.args; result = k.result }) ks n k (sym (skolem_first ks n) ∙ h) small
