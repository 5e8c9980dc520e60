-- What a map of counts says of each number, and how often numbers stand in a list.
use Rattle.std.proofs.Common.{◌≡◌, ℕ, suc, ◌<◌, ◌≤◌, ◌+◌, Bool, true, false, cond, eqb, not, ◌||◌, List, [], ◌∷◌, ◌++◌, length, length-append, take, get_or, ⊎_elim, Option, Some, refl, sym, ◌∙◌, ap, arith}
use Rattle.std.specs.Map.{lookup, keys_of}
use Rattle.std.specs.Option.{unwrap_or}
use Rattle.std.specs.List.{list_any}
use Rattle.std.proofs.lemmas.Bool.{eqb-true, eq-eqb, or_cases, or_left, or_right}
use Rattle.std.proofs.lemmas.List.Folds.{list_any-append}
use Rattle.std.proofs.lemmas.List.{length-map, take_more}
use Rattle.std.proofs.lemmas.Map.Steps.{le-length_from_below}
use Rattle.soqe_number.proofs.Choices.{bool_cases}
use Rattle.soqe_number.proofs.Equalities.{eqb_sym}
use Rattle.soqe_number.specs.Updates.{changed}
use Rattle.soqe_number.specs.Unused.{member}
use Rattle.soqe_number.specs.Marks.{marked, IsLeastWithout}
use Rattle.soqe_number.specs.Counts.{counted, times, Counts}
use Rattle.soqe_number.proofs.Marked.{marked-key, one_more}

-- ---- the map

count_of : (b c : Bool) (count : ℕ) (o : Option ℕ) → b ≡ c → unwrap_or (cond b (Some count) o) 0 ≡ cond c count (unwrap_or o 0)
count_of true true count o e = refl
count_of false false count o e = refl
count_of true false count o e = cc
count_of false true count o e = cc

-- the counts after one was set
pub counted-set : (old new : List (ℕ × ℕ)) (n count : ℕ) → ((q : ℕ) → lookup (eqb q) new ≡ cond (eqb n q) (Some count) (lookup (eqb q) old)) → counted new ≡ changed (counted old) n count
unfolding counted
counted-set old new n count h = λ i q. (ap (λ o. unwrap_or o 0) (h q) ∙ count_of (eqb n q) (eqb q n) count (lookup (eqb q) old) (eqb_sym n q)) i

-- the counts with one more entry in front
pub counted-front : (k count n : ℕ) (l : List (ℕ × ℕ)) → counted ((k, count) ∷ l) n ≡ cond (eqb n k) count (counted l n)
unfolding counted
counted-front k count n l = count_of (eqb n k) (eqb n k) count (lookup (eqb n) l) refl

cond_twice : (b : Bool) (x y z : ℕ) → cond b x z ≡ cond b x (cond b y z)
cond_twice true x y z = refl
cond_twice false x y z = refl

pub counted-here : (n k count : ℕ) (l : List (ℕ × ℕ)) → n ≡ k → counted ((k, count) ∷ l) n ≡ count
counted-here n k count l e = counted-front k count n l ∙ ap (λ b. cond b count (counted l n)) (eq-eqb n k e)

pub counted-behind : (n k count : ℕ) (l : List (ℕ × ℕ)) → (n ≡ k → ⊥) → counted ((k, count) ∷ l) n ≡ counted l n
counted-behind n k count l ne =
    counted-front k count n l
    ∙ bool_cases (λ q. eqb n k ≡ q → cond q count (counted l n) ≡ counted l n) (eqb n k) (λ o q. absurd (ne (eqb-true n k q))) (λ o q. refl) refl

cond_zero : (b : Bool) → ◌≡◌ {A = ℕ} (cond b 0 0) 0
cond_zero true = refl
cond_zero false = refl

pub counted-nothing : (k : ℕ) (l : List (ℕ × ℕ)) → counted l ≡ (λ n. 0) → counted ((k, 0) ∷ l) ≡ (λ n. 0)
counted-nothing k l h = λ i q. (counted-front k 0 q l ∙ ap (cond (eqb q k) 0) (λ j. h j q) ∙ cond_zero (eqb q k)) i

-- the entry in front was changed
pub counted-again : (n count old : ℕ) (l : List (ℕ × ℕ)) → counted ((n, count) ∷ l) ≡ changed (counted ((n, old) ∷ l)) n count
counted-again n count old l =
    λ i q. (counted-front n count q l ∙ cond_twice (eqb q n) count old (counted l q) ∙ ap (cond (eqb q n) count) (sym (counted-front n old q l))) i

-- the entry in front went to the others, and another stands there
pub counted-turned : (n count k old : ℕ) (l m : List (ℕ × ℕ)) → counted m ≡ changed (counted l) k old → counted ((n, count) ∷ m) ≡ changed (counted ((k, old) ∷ l)) n count
counted-turned n count k old l m h =
    λ i q. (counted-front n count q m ∙ ap (cond (eqb q n) count) ((λ j. h j q) ∙ sym (counted-front k old q l))) i

more_by : (b : Bool) (more a c : ℕ) → (b ≡ true → a ≡ c) → cond b (more + a) c ≡ cond b more 0 + c
more_by true more a c h = ap (λ d. more + d) (h refl)
more_by false more a c h = let sum : c ≡ 0 + c = omega arith in sum

-- a number that was counted so many times more
pub counts-one : (old new : List (ℕ × ℕ)) (n more : ℕ) → counted new ≡ changed (counted old) n (more + counted old n) → Counts (λ m. cond (eqb m n) more 0) old new
counts-one old new n more h = record {
  is = λ m. (λ i. h i m) ∙ more_by (eqb m n) more (counted old n) (counted old m) (λ e. ap (counted old) (sym (eqb-true m n e)));
}

key_step : (b : Bool) (count : ℕ) (o : Option ℕ) (c : Bool) → (not (eqb (unwrap_or o 0) 0) ≡ true → c ≡ true) → not (eqb (unwrap_or (cond b (Some count) o) 0) 0) ≡ true → (b || c) ≡ true
key_step true count o c h k = refl
key_step false count o c h k = h k

-- a number that was counted is a key
counted-key : (n : ℕ) (counts : List (ℕ × ℕ)) → not (eqb (unwrap_or (lookup (eqb n) counts) 0) 0) ≡ true → list_any (eqb n) (keys_of counts) ≡ true
counted-key n [] h = h
counted-key n (m ∷ counts) h = key_step (eqb n m.0) m.1 (lookup (eqb n) counts) (list_any (eqb n) (keys_of counts)) (counted-key n counts) h

-- a number with a mark or a count is one of the keys
either_key : (n : ℕ) (a : List (ℕ × Bool)) (b : List (ℕ × ℕ)) → (marked a n || not (eqb (counted b n) 0)) ≡ true → list_any (eqb n) (keys_of a ++ keys_of b) ≡ true
unfolding marked counted
either_key n a b h =
    list_any-append (eqb n) (keys_of a) (keys_of b)
    ∙ ⊎_elim (λ e. or_left (list_any (eqb n) (keys_of a)) (list_any (eqb n) (keys_of b)) (marked-key n a e))
    (λ e. or_right (list_any (eqb n) (keys_of a)) (list_any (eqb n) (keys_of b)) (counted-key n b e)) (or_cases (marked a n) (not (eqb (counted b n) 0)) h)

-- where each number below the sum of the lengths has a mark or a count, the sum has neither
pub least_of_both : (a : List (ℕ × Bool)) (b : List (ℕ × ℕ)) (count : ℕ) → count ≡ length a + length b → ((k : ℕ) → k < count → (marked a k || not (eqb (counted b k) 0)) ≡ true)
    → IsLeastWithout (λ n. marked a n || not (eqb (counted b n) 0)) count
least_of_both a b count len h =
    let p : ℕ → Bool = λ n. marked a n || not (eqb (counted b n) 0) in
    record {
      fails = bool_cases (λ q. p count ≡ q → q ≡ false) (p count)
          (λ o e.
          let more : suc count ≤ length (keys_of a ++ keys_of b) =
          le-length_from_below (keys_of a ++ keys_of b) (suc count) (λ k l. either_key k a b (one_more p count h e k l)) in
          absurd (omega (arith, more, length-append (keys_of a) (keys_of b), length-map a (λ (e : ℕ × Bool). e.0), length-map b (λ (e : ℕ × ℕ). e.0))))
          (λ o e. refl) refl;
      below = h;
    }

-- ---- numbers in a list

pub times-append : (n : ℕ) (xs ys : List ℕ) → times n (xs ++ ys) ≡ times n xs + times n ys
times-append n [] ys = omega arith
times-append n (x ∷ xs) ys = let rest = times-append n xs ys in omega (arith, rest)

-- one more number of a list, as in a loop
pub times-more : (n : ℕ) (xs : List ℕ) (i x : ℕ) → i < length xs → x ≡ get_or xs i 0 → times n (take (i + 1) xs) ≡ times n (take i xs) + cond (eqb n x) 1 0
times-more n xs i x l e =
    let last : cond {A = ℕ} (eqb n (get_or xs i 0)) 1 0 ≡ cond (eqb n x) 1 0 = ap (λ y. cond (eqb n y) 1 0) (sym e) in
    let parts : times n (take (i + 1) xs) ≡ times n (take i xs) + (cond (eqb n (get_or xs i 0)) 1 0 + 0) =
    ap (times n) (take_more xs i 0 l) ∙ times-append n (take i xs) (get_or xs i 0 ∷ []) in
    omega (arith, last, parts)

pub not_zero : (n : ℕ) → (n ≡ 0 → ⊥) → not (eqb n 0) ≡ true
not_zero n h = bool_cases (λ q. eqb n 0 ≡ q → not q ≡ true) (eqb n 0) (λ o e. absurd (h (eqb-true n 0 e))) (λ o e. refl) refl

some_step : (b : Bool) (k : ℕ) (c : Bool) → not (eqb k 0) ≡ c → not (eqb (cond b 1 0 + k) 0) ≡ (b || c)
some_step true k c h = not_zero (1 + k) (λ e. omega (arith, e))
some_step false k c h = let sum : 0 + k ≡ k = omega arith in ap (λ n. not (eqb n 0)) sum ∙ h

-- a number stands in a list exactly where it does not stand there 0 times
pub times-member : (n : ℕ) (xs : List ℕ) → not (eqb (times n xs) 0) ≡ member n xs
times-member n [] = refl
times-member n (x ∷ xs) = some_step (eqb n x) (times n xs) (member n xs) (times-member n xs)
