-- What a map of marks says of each number.
use Rattle.std.proofs.Common.{◌≡◌, ℕ, suc, ◌<◌, ◌≤◌, ◌+◌, Bool, true, false, cond, eqb, not, ◌||◌, List, [], ◌∷◌, length, take, get_or, Option, Some, refl, sym, ◌∙◌, ap, subst, arith}
use Rattle.std.specs.Map.{lookup, keys_of}
use Rattle.std.specs.Option.{unwrap_or}
use Rattle.std.specs.List.{list_any}
use Rattle.std.proofs.lemmas.Bool.{eqb-true, eqb-false}
use Rattle.std.proofs.lemmas.List.Folds.{list_any_more}
use Rattle.std.proofs.lemmas.List.{length-map}
use Rattle.std.proofs.lemmas.Map.Steps.{le-length_from_below}
use Rattle.soqe_number.proofs.Choices.{bool_cases}
use Rattle.soqe_number.proofs.Equalities.{eqb_sym}
use Rattle.soqe_number.specs.Updates.{changed}
use Rattle.soqe_number.specs.SmallMap.{Sets}
use Rattle.soqe_number.specs.Marks.{marked, as_marks, IsLeastWithout, Adds}

mark_of : (b c : Bool) (value : ℕ) (mark : Bool) (o : Option ℕ) → b ≡ c → not (eqb value 0) ≡ mark
    → not (eqb (unwrap_or (cond b (Some value) o) 0) 0) ≡ cond c mark (not (eqb (unwrap_or o 0) 0))
mark_of true true value mark o e h = h
mark_of false false value mark o e h = refl
mark_of true false value mark o e h = cc
mark_of false true value mark o e h = cc

-- ---- values that stand for marks

as_step : (b : Bool) (value : ℕ) (o : Option ℕ) (m : Option Bool) → unwrap_or m false ≡ not (eqb (unwrap_or o 0) 0)
    → unwrap_or (cond b (Some (not (eqb value 0))) m) false ≡ not (eqb (unwrap_or (cond b (Some value) o) 0) 0)
as_step true value o m h = refl
as_step false value o m h = h

-- a number has a mark where its value is not 0
pub marked-as : (n : ℕ) (es : List (ℕ × ℕ)) → marked (as_marks es) n ≡ not (eqb (unwrap_or (lookup (eqb n) es) 0) 0)
unfolding marked
marked-as n [] = refl
marked-as n (e ∷ es) = as_step (eqb n e.0) e.1 (lookup (eqb n) es) (lookup (eqb n) (as_marks es)) (marked-as n es)

pub length-as : (es : List (ℕ × ℕ)) → length (as_marks es) ≡ length es
length-as es = length-map es (λ (e : ℕ × ℕ). (e.0, not (eqb e.1 0)))

-- the marks after one was set
pub marked-set : (old new : List (ℕ × ℕ)) (n value : ℕ) (mark : Bool) → not (eqb value 0) ≡ mark → Sets n value old new
    → marked (as_marks new) ≡ changed (marked (as_marks old)) n mark
marked-set old new n value mark e h =
    λ i q. (marked-as q new ∙ ap (λ o. not (eqb (unwrap_or o 0) 0)) (h q) ∙ mark_of (eqb n q) (eqb q n) value mark (lookup (eqb q) old) (eqb_sym n q) e
    ∙ ap (cond (eqb q n) mark) (sym (marked-as q old))) i

-- ---- the least number without a mark

key_step : (b : Bool) (mark : Bool) (o : Option Bool) (c : Bool) → (unwrap_or o false ≡ true → c ≡ true) → unwrap_or (cond b (Some mark) o) false ≡ true → (b || c) ≡ true
key_step true mark o c h k = refl
key_step false mark o c h k = h k

-- a number with a mark is a key
pub marked-key : (n : ℕ) (marks : List (ℕ × Bool)) → unwrap_or (lookup (eqb n) marks) false ≡ true → list_any (eqb n) (keys_of marks) ≡ true
marked-key n [] h = h
marked-key n (m ∷ marks) h = key_step (eqb n m.0) m.1 (lookup (eqb n) marks) (list_any (eqb n) (keys_of marks)) (marked-key n marks) h

pub one_more : (p : ℕ → Bool) (n : ℕ) → ((k : ℕ) → k < n → p k ≡ true) → p n ≡ true → (k : ℕ) → k < suc n → p k ≡ true
one_more p n h e k l = bool_cases (λ q. eqb k n ≡ q → p k ≡ true) (eqb k n) (λ o q. ap p (eqb-true k n q) ∙ e)
    (λ o q. let ne : k ≡ n → ⊥ = eqb-false k n q in h k (omega arith)) refl

-- where each number below the length has a mark, the length has none
pub least_of_all : (marks : List (ℕ × Bool)) → ((k : ℕ) → k < length marks → marked marks k ≡ true) → IsLeastWithout (marked marks) (length marks)
unfolding marked
least_of_all marks h = record {
  fails = bool_cases (λ q. marked marks (length marks) ≡ q → q ≡ false) (marked marks (length marks))
      (λ o e.
      let more : suc (length marks) ≤ length (keys_of marks) =
      le-length_from_below (keys_of marks) (suc (length marks)) (λ k l. marked-key k marks (one_more (marked marks) (length marks) h e k l)) in
      absurd (omega (arith, more, length-map marks (λ (e : ℕ × Bool). e.0))))
      (λ o e. refl) refl;
  below = h;
}

-- the same where as many numbers as there are marks were tried
pub least_of_tried : (values : List (ℕ × ℕ)) (marks : List (ℕ × Bool)) (count n : ℕ) → as_marks values ≡ marks → count ≡ length values → count ≤ n
    → ((k : ℕ) → k < n → marked marks k ≡ true) → IsLeastWithout (marked marks) count
least_of_tried values marks count n view len enough h =
    let same : count ≡ length marks = len ∙ sym (length-as values) ∙ ap length view in
    subst (λ m. IsLeastWithout (marked marks) m) (sym same) (least_of_all marks (λ k l. h k (omega (arith, l, same, enough))))

-- ---- marks that are added

pub adds-none : (a : List (ℕ × Bool)) → Adds (λ n. false) a a
adds-none a = record { is = refl }

or_groups : (a b c : Bool) → (b || (a || c)) ≡ ((a || b) || c)
or_groups true true c = refl
or_groups true false c = refl
or_groups false b c = refl

cond_or : (b c : Bool) → cond b true c ≡ (b || c)
cond_or true c = refl
cond_or false c = refl

pub adds-one : (a b : List (ℕ × Bool)) (x : ℕ) → marked b ≡ changed (marked a) x true → Adds (λ n. eqb n x) a b
adds-one a b x h = record { is = h ∙ (λ i n. cond_or (eqb n x) (marked a n) i) }

pub adds-both : (p q : ℕ → Bool) (a b c : List (ℕ × Bool)) → Adds p a b → Adds q b c → Adds (λ n. p n || q n) a c
adds-both p q a b c h k = record { is = k.is ∙ (λ i n. q n || h.is i n) ∙ (λ i n. or_groups (p n) (q n) (marked a n) i) }

-- the same for a test that is known by an equation
pub adds-same : (p q : ℕ → Bool) (a b : List (ℕ × Bool)) → ((n : ℕ) → q n ≡ p n) → Adds p a b → Adds q a b
adds-same p q a b e h = record { is = h.is ∙ (λ i n. sym (e n) i || marked a n) }

pub adds-two : (p q r : ℕ → Bool) (a b c : List (ℕ × Bool)) → ((n : ℕ) → r n ≡ (p n || q n)) → Adds p a b → Adds q b c → Adds r a c
adds-two p q r a b c e h k = adds-same (λ n. p n || q n) r a c e (adds-both p q a b c h k)

-- the same for one more number of a list
pub adds-more : (t : ℕ → ℕ → Bool) (ns : List ℕ) (i x : ℕ) (a b c : List (ℕ × Bool)) → i < length ns → x ≡ get_or ns i 0 → Adds (λ n. list_any (λ y. t y n) (take i ns)) a b
    → Adds (t x) b c → Adds (λ n. list_any (λ y. t y n) (take (i + 1) ns)) a c
adds-more t ns i x a b c l e h k =
    adds-two (λ n. list_any (λ y. t y n) (take i ns)) (t x) (λ n. list_any (λ y. t y n) (take (i + 1) ns)) a b c
    (λ n. list_any_more (λ y. t y n) ns i 0 l ∙ ap (λ y. list_any (λ y. t y n) (take i ns) || t y n) (sym e)) h k
