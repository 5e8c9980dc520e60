-- The longest token at the front of a text, kind by kind.
use Rattle.std.proofs.Common.{◌≡◌, ℕ, zero, suc, ◌+◌, ◌-◌, ◌≤◌, ◌<◌, ◌==◌, Bool, true, false, cond, ◌||◌, List, [], ◌∷◌, length, take, drop, get_or, Option, Some, None, MatchOption, refl, sym, ap, subst, ◌∙◌, arith}
use Rattle.std.specs.List.{list_all, prefix_len}
use Rattle.std.specs.Char.{is_ascii_digit, is_ascii_alphabetic}
use Rattle.std.proofs.lemmas.Bool.{and_from, cond-true, cond-false, or_left}
use Rattle.std.proofs.lemmas.Bool.Decides.{nat_tests}
use Rattle.std.proofs.lemmas.List.{length-take-le, get_or-take, take_all}
use Rattle.std.proofs.lemmas.List.Folds.{list_all_at}
use Rattle.std.proofs.lemmas.List.Sums.{prefix_len-le-length, prefix_len_stops}
use Rattle.soqe_lex.specs.declared.token.TokenKind.{TokenKind}
use Rattle.soqe_lex.specs.declared.token.TokenKind.TheVariants.{Ordinary, Keyword, Tagged, Number, Mark}
use Rattle.soqe_lex.specs.Lexical.{is_number, is_tag, is_tagged, is_mark, kind_from, kind_of, IsLongest, BeginsNone}
use Rattle.soqe_name.specs.Names.{is_word, is_keyword}
use Rattle.soqe_lex.specs.Front.{IsLongestOf, HasNone}
use Rattle.soqe_lex.proofs.Numbers.{other_first}

-- ---- words

word-kind : (b : ℕ) (bs : List ℕ) → is_ascii_alphabetic b ≡ true → kind_from b bs ≡ cond (list_all is_word bs) (Some (cond (is_keyword (b ∷ bs)) Keyword Ordinary)) None
word-kind b bs h = cond-true (is_ascii_alphabetic b) _ _ h

take-passes : (p : ℕ → Bool) (xs : List ℕ) → list_all p (take (prefix_len p xs) xs) ≡ true
take-passes p [] = refl
take-passes p (x ∷ xs) = go (p x) refl (take-passes p xs)
  where
    go : (b : Bool) → p x ≡ b → list_all p (take (prefix_len p xs) xs) ≡ true → list_all p (take (cond b (1 + prefix_len p xs) 0) (x ∷ xs)) ≡ true
    go true e h = let k : 1 + prefix_len p xs ≡ suc (prefix_len p xs) = omega arith in rw k (and_from (p x) (list_all p (take (prefix_len p xs) xs)) e h)
    go false e h = refl

take-stops : (p : ℕ → Bool) (xs : List ℕ) (k : ℕ) → prefix_len p xs < k → k ≤ length xs → list_all p (take k xs) ≡ false
take-stops p xs k lt le =
    let i : prefix_len p xs < length (take k xs) = omega (arith, length-take-le k xs le) in
    list_all_at p (take k xs) (prefix_len p xs) 0 i (ap p (get_or-take k xs (prefix_len p xs) 0 lt) ∙ prefix_len_stops p xs 0 (omega arith))

alpha-word : (b : ℕ) → is_ascii_alphabetic b ≡ true → is_word b ≡ true
alpha-word b h = or_left (is_ascii_alphabetic b || is_ascii_digit b) (b == 95) (or_left (is_ascii_alphabetic b) (is_ascii_digit b) h)

pub word_longest : (bytes : List ℕ) (n : ℕ) → n ≡ prefix_len is_word bytes → 0 < length bytes → is_ascii_alphabetic (get_or bytes 0 0) ≡ true
    → IsLongest bytes n (cond (is_keyword (take n bytes)) Keyword Ordinary)
unfolding kind_of
word_longest [] n e some h = absurd (omega arith)
word_longest (b ∷ bs) n e some h =
    subst (λ (m : ℕ). IsLongest (b ∷ bs) m (cond (is_keyword (take m (b ∷ bs))) Keyword Ordinary)) (sym len) (record {
      within = omega (arith, prefix_len-le-length is_word bs);
      token = word-kind b (take (prefix_len is_word bs) bs) h ∙ cond-true (list_all is_word (take (prefix_len is_word bs) bs)) _ None (take-passes is_word bs);
      longest = longest;
    })
  where
    len : n ≡ suc (prefix_len is_word bs)
    len = e ∙ cond-true (is_word b) (1 + prefix_len is_word bs) 0 (alpha-word b h) ∙ omega arith

    longest : (k : ℕ) → suc (prefix_len is_word bs) < k → k ≤ length (b ∷ bs) → kind_of (take k (b ∷ bs)) ≡ None
    longest zero lt le = absurd (omega arith)
    longest (suc k) lt le = word-kind b (take k bs) h ∙ cond-false (list_all is_word (take k bs)) _ None (take-stops is_word bs k (omega arith) (omega arith))

-- ---- the other kinds: the first byte leaves one test

module _ (test : List ℕ → Bool) (kind : TokenKind) (b : ℕ) (class : (xs : List ℕ) → kind_from b xs ≡ cond (test (b ∷ xs)) (Some kind) None) where
  pub kind_longest : (bs : List ℕ) (n : ℕ) → test [] ≡ false → IsLongestOf test (b ∷ bs) n → IsLongest (b ∷ bs) n kind
  unfolding kind_of
  kind_longest bs zero empty h = let e = sym empty ∙ h.passes in absurd cc
  kind_longest bs (suc n) empty h = record {
    within = h.within;
    token = class (take n bs) ∙ cond-true (test (b ∷ take n bs)) (Some kind) None h.passes;
    longest = longer;
  }
    where
      longer : (k : ℕ) → suc n < k → k ≤ length (b ∷ bs) → kind_of (take k (b ∷ bs)) ≡ None
      longer zero lt le = absurd (omega arith)
      longer (suc k) lt le = class (take k bs) ∙ cond-false (test (b ∷ take k bs)) (Some kind) None (h.longest (suc k) lt le)

  pub kind_none : (bs : List ℕ) → HasNone test (b ∷ bs) → BeginsNone (b ∷ bs)
  unfolding kind_of
  kind_none bs none zero le = refl
  kind_none bs none (suc k) le = class (take k bs) ∙ cond-false (test (b ∷ take k bs)) (Some kind) None (none (suc k) le)

digit-kind : (b : ℕ) → is_ascii_alphabetic b ≡ false → is_ascii_digit b ≡ true → (bs : List ℕ) → kind_from b bs ≡ cond (is_number (b ∷ bs)) (Some Number) None
digit-kind b letter digit bs = cond-false (is_ascii_alphabetic b) _ _ letter ∙ cond-true (is_ascii_digit b) _ _ digit

tagged-kind : (b : ℕ) → is_ascii_alphabetic b ≡ false → is_ascii_digit b ≡ false → (b == 95) ≡ true → (bs : List ℕ) → kind_from b bs ≡ cond (is_tagged bs) (Some Tagged) None
tagged-kind b letter digit line bs = cond-false (is_ascii_alphabetic b) _ _ letter ∙ cond-false (is_ascii_digit b) _ _ digit ∙ cond-true (b == 95) _ _ line

mark-kind : (b : ℕ) → is_ascii_alphabetic b ≡ false → is_ascii_digit b ≡ false → (b == 95) ≡ false → (bs : List ℕ) → kind_from b bs ≡ cond (is_mark (b ∷ bs)) (Some Mark) None
mark-kind b letter digit line bs = cond-false (is_ascii_alphabetic b) _ _ letter ∙ cond-false (is_ascii_digit b) _ _ digit ∙ cond-false (b == 95) _ _ line

pub number_longest : (bytes : List ℕ) (n : ℕ) → IsLongestOf is_number bytes n → 0 < length bytes → is_ascii_alphabetic (get_or bytes 0 0) ≡ false → is_ascii_digit (get_or bytes 0 0) ≡ true
    → IsLongest bytes n Number
number_longest [] n h some letter digit = absurd (omega arith)
number_longest (b ∷ bs) n h some letter digit = kind_longest is_number Number b (digit-kind b letter digit) bs n refl h

pub number_none : (bytes : List ℕ) → HasNone is_number bytes → 0 < length bytes → is_ascii_alphabetic (get_or bytes 0 0) ≡ false → is_ascii_digit (get_or bytes 0 0) ≡ true → BeginsNone bytes
number_none [] h some letter digit = absurd (omega arith)
number_none (b ∷ bs) h some letter digit = kind_none is_number Number b (digit-kind b letter digit) bs h

pub mark_longest : (bytes : List ℕ) (n : ℕ) → IsLongestOf is_mark bytes n → 0 < length bytes → is_ascii_alphabetic (get_or bytes 0 0) ≡ false → is_ascii_digit (get_or bytes 0 0) ≡ false
    → (get_or bytes 0 0 == 95) ≡ false → IsLongest bytes n Mark
mark_longest [] n h some letter digit line = absurd (omega arith)
mark_longest (b ∷ bs) n h some letter digit line = kind_longest is_mark Mark b (mark-kind b letter digit line) bs n refl h

pub mark_none : (bytes : List ℕ) → HasNone is_mark bytes → 0 < length bytes → is_ascii_alphabetic (get_or bytes 0 0) ≡ false → is_ascii_digit (get_or bytes 0 0) ≡ false
    → (get_or bytes 0 0 == 95) ≡ false → BeginsNone bytes
mark_none [] h some letter digit line = absurd (omega arith)
mark_none (b ∷ bs) h some letter digit line = kind_none is_mark Mark b (mark-kind b letter digit line) bs h

-- ---- tagged names

tail_of : (b : ℕ) (bs : List ℕ) → take (length (b ∷ bs) - 1) (drop 1 (b ∷ bs)) ≡ bs
tail_of b bs = take_all (length (b ∷ bs) - 1) bs (omega arith)

tag-other : (c : ℕ) → is_tag c ≡ true → is_ascii_digit c ≡ false
tag-other c h = grind (arith, nat_tests)

by_tag : (c : ℕ) (cs : List ℕ) → is_tag c ≡ true → is_tagged (c ∷ cs) ≡ is_number cs
by_tag c cs h = let e = other_first c cs (tag-other c h) in rw (e, h) refl

by_digits : (c : ℕ) (cs : List ℕ) → is_tag c ≡ false → is_tagged (c ∷ cs) ≡ is_number (c ∷ cs)
by_digits c cs h = rw h (or_nothing (is_number (c ∷ cs)))
  where
    or_nothing : (t : Bool) → (t || false) ≡ t
    or_nothing true = refl
    or_nothing false = refl

pub tag_number : (bytes : List ℕ) (n : ℕ) → is_tag (get_or bytes 0 0) ≡ true → IsLongestOf is_number (take (length bytes - 1) (drop 1 bytes)) n → IsLongestOf is_tagged bytes (1 + n)
tag_number [] n tag h = absurd cc
tag_number (c ∷ cs) n tag h' =
    let h : IsLongestOf is_number cs n = subst (λ (xs : List ℕ). IsLongestOf is_number xs n) (tail_of c cs) h' in
    let e : 1 + n ≡ suc n = omega arith in
    subst (λ (m : ℕ). IsLongestOf is_tagged (c ∷ cs) m) (sym e) (record {
      within = omega (arith, h.within);
      passes = by_tag c (take n cs) tag ∙ h.passes;
      longest = longer h;
    })
  where
    longer : IsLongestOf is_number cs n → (k : ℕ) → suc n < k → k ≤ length (c ∷ cs) → is_tagged (take k (c ∷ cs)) ≡ false
    longer h zero lt le = refl
    longer h (suc k) lt le = by_tag c (take k cs) tag ∙ h.longest k (omega (arith, lt)) (omega (arith, le))

pub tag_none : (bytes : List ℕ) → is_tag (get_or bytes 0 0) ≡ true → HasNone is_number (take (length bytes - 1) (drop 1 bytes)) → HasNone is_tagged bytes
tag_none [] tag h k le = absurd cc
tag_none (c ∷ cs) tag h zero le = refl
tag_none (c ∷ cs) tag h (suc k) le =
    let none : HasNone is_number cs = subst (HasNone is_number) (tail_of c cs) h in by_tag c (take k cs) tag ∙ none k (omega (arith, le))

pub nothing_tagged : (bytes : List ℕ) → length bytes ≡ 0 → HasNone is_tagged bytes
nothing_tagged [] e zero le = refl
nothing_tagged [] e (suc k) le = refl
nothing_tagged (c ∷ cs) e k le = absurd (omega (arith, e))

plain_number : (bytes : List ℕ) (n : ℕ) → is_tag (get_or bytes 0 0) ≡ false → IsLongestOf is_number bytes n → IsLongestOf is_tagged bytes n
plain_number [] zero tag h = let e : false ≡ true = h.passes in absurd cc
plain_number [] (suc n) tag h = let e : false ≡ true = h.passes in absurd cc
plain_number (c ∷ cs) zero tag h = let e : false ≡ true = h.passes in absurd cc
plain_number (c ∷ cs) (suc n) tag h = record {
  within = h.within;
  passes = by_digits c (take n cs) tag ∙ h.passes;
  longest = longer;
}
  where
    longer : (k : ℕ) → suc n < k → k ≤ length (c ∷ cs) → is_tagged (take k (c ∷ cs)) ≡ false
    longer zero lt le = refl
    longer (suc k) lt le = by_digits c (take k cs) tag ∙ h.longest (suc k) lt le

plain_none : (bytes : List ℕ) → is_tag (get_or bytes 0 0) ≡ false → HasNone is_number bytes → HasNone is_tagged bytes
plain_none [] tag h zero le = refl
plain_none [] tag h (suc k) le = refl
plain_none (c ∷ cs) tag h zero le = refl
plain_none (c ∷ cs) tag h (suc k) le = by_digits c (take k cs) tag ∙ h (suc k) le

pub plain : (bytes : List ℕ) (r : Option ℕ) → is_tag (get_or bytes 0 0) ≡ false → MatchOption r (HasNone is_number bytes) (IsLongestOf is_number bytes)
    → MatchOption r (HasNone is_tagged bytes) (IsLongestOf is_tagged bytes)
plain bytes None tag h = plain_none bytes tag h
plain bytes (Some n) tag h = plain_number bytes n tag h

pub tagged_longest : (bytes : List ℕ) (n : ℕ) → IsLongestOf is_tagged (take (length bytes - 1) (drop 1 bytes)) n → 0 < length bytes → is_ascii_alphabetic (get_or bytes 0 0) ≡ false
    → is_ascii_digit (get_or bytes 0 0) ≡ false → (get_or bytes 0 0 == 95) ≡ true → IsLongest bytes (1 + n) Tagged
unfolding kind_of
tagged_longest [] n h' some letter digit line = absurd (omega arith)
tagged_longest (b ∷ bs) n h' some letter digit line =
    let h : IsLongestOf is_tagged bs n = subst (λ (xs : List ℕ). IsLongestOf is_tagged xs n) (tail_of b bs) h' in
    let e : 1 + n ≡ suc n = omega arith in
    subst (λ (m : ℕ). IsLongest (b ∷ bs) m Tagged) (sym e) (record {
      within = omega (arith, h.within);
      token = tagged-kind b letter digit line (take n bs) ∙ cond-true (is_tagged (take n bs)) (Some Tagged) None h.passes;
      longest = longer h;
    })
  where
    longer : IsLongestOf is_tagged bs n → (k : ℕ) → suc n < k → k ≤ length (b ∷ bs) → kind_of (take k (b ∷ bs)) ≡ None
    longer h zero lt le = refl
    longer h (suc k) lt le = tagged-kind b letter digit line (take k bs) ∙ cond-false (is_tagged (take k bs)) (Some Tagged) None (h.longest k (omega (arith, lt)) (omega (arith, le)))

pub tagged_none : (bytes : List ℕ) → HasNone is_tagged (take (length bytes - 1) (drop 1 bytes)) → 0 < length bytes → is_ascii_alphabetic (get_or bytes 0 0) ≡ false
    → is_ascii_digit (get_or bytes 0 0) ≡ false → (get_or bytes 0 0 == 95) ≡ true → BeginsNone bytes
unfolding kind_of
tagged_none [] h some letter digit line k le = absurd (omega arith)
tagged_none (b ∷ bs) h some letter digit line zero le = refl
tagged_none (b ∷ bs) h some letter digit line (suc k) le =
    let none : HasNone is_tagged bs = subst (HasNone is_tagged) (tail_of b bs) h in
    tagged-kind b letter digit line (take k bs) ∙ cond-false (is_tagged (take k bs)) (Some Tagged) None (none k (omega (arith, le)))
