-- What trying every element or every table finds, and the table of a function.
use Rattle.std.proofs.Common.{◌≡◌, ℕ, zero, suc, ◌+◌, ◌-◌, ◌*◌, ◌<◌, Bool, true, false, not, ◌||◌, ◌&&◌, ⊎_elim, List, [], ◌∷◌, ◌++◌, length, get_or, refl, sym, ◌∙◌, ap, arith, length-append}
use Rattle.std.proofs.lemmas.Bool.{cases_lt, or_cases, or_left, or_right, and_from}
use Rattle.std.proofs.lemmas.List.{get_or_append_left, get_or-append_right}
use Rattle.soqe_number.specs.Finite.{every, some, every_list, some_list, product, place, entry}
use Rattle.soqe_number.specs.Ranges.{InRange, joined, tabulated}
use Rattle.soqe_number.proofs.Choices.{and_first, and_second, not_or, not_and}

-- some number below n passes
pub record Below (n : ℕ) (p : ℕ → Bool) : Type 0 where
  pub at : ℕ
  pub below : at < n
  pub passes : p at ≡ true

pub found : (n : ℕ) (p : ℕ → Bool) → some n p ≡ true → Below n p
found zero p h = let h : false ≡ true = h in cc
found (suc n) p h = ⊎_elim (λ q. let r = found n p q in record { at = r.at; below = omega (arith, r.below); passes = r.passes }) (λ q. record { at = n; below = omega arith; passes = q }) (or_cases (some n p) (p n) h)

pub finds : (n : ℕ) (p : ℕ → Bool) (a : ℕ) → a < n → p a ≡ true → some n p ≡ true
finds zero p a l h = absurd (omega arith)
finds (suc n) p a l h = ⊎_elim (λ q. or_left (some n p) (p n) (finds n p a q h)) (λ q. let e : a ≡ n = omega arith in or_right (some n p) (p n) (ap p (sym e) ∙ h)) (cases_lt a n)

-- what holds of every number below n holds of each
pub every-at : (n : ℕ) (p : ℕ → Bool) → every n p ≡ true → (a : ℕ) → a < n → p a ≡ true
every-at zero p h a l = absurd (omega arith)
every-at (suc n) p h a l = ⊎_elim (λ q. every-at n p (and_first (every n p) (p n) h) a q) (λ q. let e : a ≡ n = omega arith in ap p e ∙ and_second (every n p) (p n) h) (cases_lt a n)

pub every-from : (n : ℕ) (p : ℕ → Bool) → ((a : ℕ) → a < n → p a ≡ true) → every n p ≡ true
every-from zero p h = refl
every-from (suc n) p h = and_from (every n p) (p n) (every-from n p (λ a l. h a (omega arith))) (h n (omega arith))

-- some list of n truth values passes
pub record Table (n : ℕ) (p : List Bool → Bool) : Type 0 where
  pub items : List Bool
  pub size : length items ≡ n
  pub passes : p items ≡ true

pub found_list : (n : ℕ) (p : List Bool → Bool) → some_list n p ≡ true → Table n p
found_list zero p h = record { items = []; size = refl; passes = h }
found_list (suc n) p h = ⊎_elim
    (λ q. let r = found_list n (λ t. p (true ∷ t)) q in record { items = true ∷ r.items; size = ap suc r.size; passes = r.passes })
    (λ q. let r = found_list n (λ t. p (false ∷ t)) q in record { items = false ∷ r.items; size = ap suc r.size; passes = r.passes })
    (or_cases (some_list n (λ t. p (true ∷ t))) (some_list n (λ t. p (false ∷ t))) h)

pub finds_list : (n : ℕ) (p : List Bool → Bool) (t : List Bool) → length t ≡ n → p t ≡ true → some_list n p ≡ true
finds_list zero p [] l h = h
finds_list zero p (b ∷ t) l h = absurd (omega arith)
finds_list (suc n) p [] l h = absurd (omega arith)
finds_list (suc n) p (true ∷ t) l h = or_left (some_list n (λ t. p (true ∷ t))) (some_list n (λ t. p (false ∷ t))) (finds_list n (λ t. p (true ∷ t)) t (omega arith) h)
finds_list (suc n) p (false ∷ t) l h = or_right (some_list n (λ t. p (true ∷ t))) (some_list n (λ t. p (false ∷ t))) (finds_list n (λ t. p (false ∷ t)) t (omega arith) h)

-- what holds of every list of n truth values holds of each
pub every_list-at : (n : ℕ) (p : List Bool → Bool) → every_list n p ≡ true → (t : List Bool) → length t ≡ n → p t ≡ true
every_list-at zero p h [] l = h
every_list-at zero p h (b ∷ t) l = absurd (omega arith)
every_list-at (suc n) p h [] l = absurd (omega arith)
every_list-at (suc n) p h (true ∷ t) l = every_list-at n (λ t. p (true ∷ t)) (and_first (every_list n (λ t. p (true ∷ t))) (every_list n (λ t. p (false ∷ t))) h) t (omega arith)
every_list-at (suc n) p h (false ∷ t) l = every_list-at n (λ t. p (false ∷ t)) (and_second (every_list n (λ t. p (true ∷ t))) (every_list n (λ t. p (false ∷ t))) h) t (omega arith)

pub every_list-from : (n : ℕ) (p : List Bool → Bool) → ((t : List Bool) → length t ≡ n → p t ≡ true) → every_list n p ≡ true
every_list-from zero p h = h [] refl
every_list-from (suc n) p h = and_from (every_list n (λ t. p (true ∷ t))) (every_list n (λ t. p (false ∷ t)))
    (every_list-from n (λ t. p (true ∷ t)) (λ t l. h (true ∷ t) (ap suc l))) (every_list-from n (λ t. p (false ∷ t)) (λ t l. h (false ∷ t) (ap suc l)))

-- none passes where every one fails, so each lemma on `some` gives one on `every`
pub not_some : (n : ℕ) (p : ℕ → Bool) → not (some n p) ≡ every n (λ a. not (p a))
not_some zero p = refl
not_some (suc n) p = not_or (some n p) (p n) ∙ ap (λ b. b && not (p n)) (not_some n p)

pub not_every : (n : ℕ) (p : ℕ → Bool) → not (every n p) ≡ some n (λ a. not (p a))
not_every zero p = refl
not_every (suc n) p = not_and (every n p) (p n) ∙ ap (λ b. b || not (p n)) (not_every n p)

pub not_some_list : (n : ℕ) (p : List Bool → Bool) → not (some_list n p) ≡ every_list n (λ t. not (p t))
not_some_list zero p = refl
not_some_list (suc n) p = not_or (some_list n (λ t. p (true ∷ t))) (some_list n (λ t. p (false ∷ t))) ∙ (λ i. not_some_list n (λ t. p (true ∷ t)) i && not_some_list n (λ t. p (false ∷ t)) i)

pub not_every_list : (n : ℕ) (p : List Bool → Bool) → not (every_list n p) ≡ some_list n (λ t. not (p t))
not_every_list zero p = refl
not_every_list (suc n) p = not_and (every_list n (λ t. p (true ∷ t))) (every_list n (λ t. p (false ∷ t))) ∙ (λ i. not_every_list n (λ t. p (true ∷ t)) i || not_every_list n (λ t. p (false ∷ t)) i)

-- tests that agree below n
pub every-same : (n : ℕ) (p q : ℕ → Bool) → ((a : ℕ) → a < n → p a ≡ q a) → every n p ≡ every n q
every-same zero p q h = refl
every-same (suc n) p q h = λ i. every-same n p q (λ a l. h a (omega arith)) i && h n (omega arith) i

pub some-same : (n : ℕ) (p q : ℕ → Bool) → ((a : ℕ) → a < n → p a ≡ q a) → some n p ≡ some n q
some-same zero p q h = refl
some-same (suc n) p q h = λ i. some-same n p q (λ a l. h a (omega arith)) i || h n (omega arith) i

-- tests that agree on the lists of n truth values
pub every_list-same : (n : ℕ) (p q : List Bool → Bool) → ((t : List Bool) → length t ≡ n → p t ≡ q t) → every_list n p ≡ every_list n q
every_list-same zero p q h = h [] refl
every_list-same (suc n) p q h = λ i. every_list-same n (λ t. p (true ∷ t)) (λ t. q (true ∷ t)) (λ t l. h (true ∷ t) (ap suc l)) i && every_list-same n (λ t. p (false ∷ t)) (λ t. q (false ∷ t)) (λ t l. h (false ∷ t) (ap suc l)) i

pub some_list-same : (n : ℕ) (p q : List Bool → Bool) → ((t : List Bool) → length t ≡ n → p t ≡ q t) → some_list n p ≡ some_list n q
some_list-same zero p q h = h [] refl
some_list-same (suc n) p q h = λ i. some_list-same n (λ t. p (true ∷ t)) (λ t. q (true ∷ t)) (λ t l. h (true ∷ t) (ap suc l)) i || some_list-same n (λ t. p (false ∷ t)) (λ t. q (false ∷ t)) (λ t l. h (false ∷ t) (ap suc l)) i

length-joined : (n s : ℕ) (f : ℕ → List Bool) → ((a : ℕ) → length (f a) ≡ s) → length (joined n f) ≡ n * s
length-joined zero s f h = omega arith
length-joined (suc n) s f h = length-append (joined n f) (f n) ∙ (λ i. length-joined n s f h i + h n i) ∙ times n s
  where
    times : (n s : ℕ) → n * s + s ≡ suc n * s
    times n s = grind arith

pub length-tabulated : (sizes : List ℕ) (g : List ℕ → Bool) → length (tabulated sizes g) ≡ product sizes
length-tabulated [] g = refl
length-tabulated (n ∷ ns) g = length-joined n (product ns) (λ a. tabulated ns (λ more. g (a ∷ more))) (λ a. length-tabulated ns (λ more. g (a ∷ more)))

pub place-below : (sizes args : List ℕ) → InRange sizes args → place sizes args < product sizes
place-below [] [] h = omega arith
place-below [] (a ∷ more) h = absurd h
place-below (n ∷ ns) [] h = absurd h
place-below (n ∷ ns) (a ∷ more) h = fits a n (product ns) (place ns more) h.0 (place-below ns more h.1)
  where
    fits : (a n s j : ℕ) → a < n → j < s → a * s + j < n * s
    fits a n s j h k = grind arith

joined-at : (n s : ℕ) (f : ℕ → List Bool) (a j : ℕ) → ((a : ℕ) → length (f a) ≡ s) → a < n → j < s → get_or (joined n f) (a * s + j) false ≡ get_or (f a) j false
joined-at zero s f a j h l k = absurd (omega arith)
joined-at (suc n) s f a j h l k = ⊎_elim
    (λ q. get_or_append_left (joined n f) (f n) false (a * s + j) (let len : length (joined n f) ≡ n * s = length-joined n s f h in inside a n s j (length (joined n f)) q k len) ∙ joined-at n s f a j h q k)
    (λ q. let e : a ≡ n = omega arith in
    ap (λ m. get_or (joined n f ++ f n) (m * s + j) false) e
    ∙ get_or-append_right (joined n f) (f n) (n * s) (n * s + j) false (length-joined n s f h) (omega arith)
    ∙ ap (λ i. get_or (f n) i false) (back (n * s) j)
    ∙ ap (λ m. get_or (f m) j false) (sym e))
    (cases_lt a n)
  where
    back : (m j : ℕ) → m + j - m ≡ j
    back m j = omega arith

    inside : (a n s j m : ℕ) → a < n → j < s → m ≡ n * s → a * s + j < m
    inside a n s j m h k e = grind arith

-- the table of a function gives it back at arguments in range
pub entry-tabulated : (sizes args : List ℕ) (g : List ℕ → Bool) → InRange sizes args → entry sizes (tabulated sizes g) args ≡ g args
entry-tabulated [] [] g h = refl
entry-tabulated [] (a ∷ more) g h = absurd h
entry-tabulated (n ∷ ns) [] g h = absurd h
entry-tabulated (n ∷ ns) (a ∷ more) g h =
    joined-at n (product ns) (λ a. tabulated ns (λ more. g (a ∷ more))) a (place ns more) (λ a. length-tabulated ns (λ more. g (a ∷ more))) h.0 (place-below ns more h.1)
    ∙ entry-tabulated ns more (λ more. g (a ∷ more)) h.1
