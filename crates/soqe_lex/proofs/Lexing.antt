-- A text falls into tokens in one way.
use Rattle.std.proofs.Common.{◌≡◌, inl, inr, ℕ, zero, suc, ◌+◌, ◌-◌, ◌≤◌, ◌<◌, ◌==◌, true, false, ◌||◌, List, [], ◌∷◌, ◌++◌, length, take, drop, get_or, Option, Some, None, refl, sym, ap, subst, ◌∙◌, arith, append_assoc, add-one, add-zero}
use Rattle.std.specs.List.{prefix_len}
use Rattle.std.proofs.lemmas.Bool.{cases_order, or_cases, eqb-true, eq-eqb, ne_eqb}
use Rattle.std.proofs.lemmas.List.{append-nil, drop_all, take_all, length-drop, get_or-drop, drop-drop}
use Rattle.std.proofs.lemmas.List.Sums.{prefix_len-le-length}
use Rattle.std.proofs.Math.Seq.{drop-cons}
use Rattle.soqe_lex.specs.declared.token.TokenKind.{TokenKind}
use Rattle.soqe_lex.specs.declared.token.Token.{Token}
use Rattle.soqe_lex.specs.Lexical.{kind_from, kind_of, IsLongest, BeginsNone, is_blank, is_remark, Lexed, end, blank, comment, token, fault}

same_some : {A : Type 0} (x y : A) → Some x ≡ Some y → x ≡ y
same_some x y e = cc

-- what is no token, by its first byte
at32 : (bs : List ℕ) → kind_from 32 bs ≡ None
at32 [] = refl
at32 (a ∷ []) = refl
at32 (a ∷ b ∷ []) = refl
at32 (a ∷ b ∷ c ∷ bs) = refl

at9 : (bs : List ℕ) → kind_from 9 bs ≡ None
at9 [] = refl
at9 (a ∷ []) = refl
at9 (a ∷ b ∷ []) = refl
at9 (a ∷ b ∷ c ∷ bs) = refl

at13 : (bs : List ℕ) → kind_from 13 bs ≡ None
at13 [] = refl
at13 (a ∷ []) = refl
at13 (a ∷ b ∷ []) = refl
at13 (a ∷ b ∷ c ∷ bs) = refl

at10 : (bs : List ℕ) → kind_from 10 bs ≡ None
at10 [] = refl
at10 (a ∷ []) = refl
at10 (a ∷ b ∷ []) = refl
at10 (a ∷ b ∷ c ∷ bs) = refl

at35 : (bs : List ℕ) → kind_from 35 bs ≡ None
at35 [] = refl
at35 (a ∷ []) = refl
at35 (a ∷ b ∷ []) = refl
at35 (a ∷ b ∷ c ∷ bs) = refl

from_eq : (k : ℕ) → ((bs : List ℕ) → kind_from k bs ≡ None) → (b : ℕ) (bs : List ℕ) → (b == k) ≡ true → kind_from b bs ≡ None
from_eq k h b bs e = subst (λ (x : ℕ). kind_from x bs ≡ None) (sym (eqb-true b k e)) (h bs)

blank-none : (b : ℕ) (bs : List ℕ) → is_blank b ≡ true → kind_from b bs ≡ None
blank-none b bs h =
    elim (or_cases (b == 32 || b == 9 || b == 13) (b == 10) h) [
      | inl x ↦ elim (or_cases (b == 32 || b == 9) (b == 13) x) [
        | inl y ↦ elim (or_cases (b == 32) (b == 9) y) [ inl z ↦ from_eq 32 at32 b bs z | inr z ↦ from_eq 9 at9 b bs z ]
        | inr y ↦ from_eq 13 at13 b bs y
      ]
      | inr x ↦ from_eq 10 at10 b bs x
    ]

remark-none : (b : ℕ) (bs : List ℕ) → (b == 35) ≡ true → kind_from b bs ≡ None
remark-none b bs h = from_eq 35 at35 b bs h

blank-remark : (b : ℕ) → is_blank b ≡ true → (b == 35) ≡ true → ⊥
blank-remark b h e = let i = eqb-true b 35 e in let j : is_blank 35 ≡ true = rw i at h in cc

-- no token stands where a blank or a comment does
no-token : (b : ℕ) (bs : List ℕ) (n : ℕ) (kind : TokenKind) → ((xs : List ℕ) → kind_from b xs ≡ None) → IsLongest (b ∷ bs) n kind → ⊥
unfolding kind_of
no-token b bs zero kind none h = let e = h.token in cc
no-token b bs (suc n) kind none h = let e = sym (none (take n bs)) ∙ h.token in cc

nothing-there : (bytes : List ℕ) (n : ℕ) (kind : TokenKind) → BeginsNone bytes → IsLongest bytes n kind → ⊥
nothing-there bytes n kind none h = let e = sym (none n h.within) ∙ h.token in cc

one-length : (bytes : List ℕ) (m n : ℕ) (k l : TokenKind) → IsLongest bytes m k → IsLongest bytes n l → m ≡ n
one-length bytes m n k l g h =
    elim (cases_order m n) [
      | inl e ↦ e
      | inr o ↦ elim o [
        | inl lt ↦ (let e = sym (g.longest n lt h.within) ∙ h.token in absurd cc)
        | inr lt ↦ (let e = sym (h.longest m lt g.within) ∙ g.token in absurd cc)
      ]
    ]

one-kind : (bytes : List ℕ) (m n : ℕ) (k l : TokenKind) → m ≡ n → IsLongest bytes m k → IsLongest bytes n l → k ≡ l
one-kind bytes m n k l e g h = same_some k l (sym g.token ∙ ap (λ (x : ℕ). kind_of (take x bytes)) e ∙ h.token)

not-empty : (n : ℕ) (kind : TokenKind) → IsLongest [] n kind → ⊥
unfolding kind_of
not-empty zero kind h = let e = h.token in cc
not-empty (suc n) kind h = let e = h.token in cc

same-token : (at m n : ℕ) (k l : TokenKind) (ts us : List Token) → m ≡ n → k ≡ l → ts ≡ us → record { kind = k; start = at; end = at + m } ∷ ts ≡ record { kind = l; start = at; end = at + n } ∷ us
same-token at m n k l ts us e f g = cc

abbrev pub IsSame : List Token → Option ℕ → List Token → Option ℕ → Type 0
IsSame ts stop us halt = (ts ≡ us) × (stop ≡ halt)

pub one_reading : {at : ℕ} {bytes : List ℕ} {ts us : List Token} {stop halt : Option ℕ} → Lexed at bytes ts stop → Lexed at bytes us halt → IsSame ts stop us halt
one_reading end end = (refl, refl)
one_reading end (token n kind h r) = absurd (not-empty n kind h)
one_reading end (fault h) = absurd (omega (arith, h.some))
one_reading (blank h r) (blank h' r') = one_reading r r'
one_reading (blank h r) (comment h' r') = absurd (blank-remark _ h h')
one_reading (blank {b = b} {bs = bs} h r) (token n kind h' r') = absurd (no-token b bs n kind (λ xs. blank-none b xs h) h')
one_reading (blank h r) (fault h') = let e = h'.blank in absurd cc
one_reading (comment h r) (blank h' r') = absurd (blank-remark _ h' h)
one_reading (comment h r) (comment h' r') = one_reading r r'
one_reading (comment {b = b} {bs = bs} h r) (token n kind h' r') = absurd (no-token b bs n kind (λ xs. remark-none b xs h) h')
one_reading (comment h r) (fault h') = let e = h'.remark in absurd cc
one_reading (token n kind h r) end = absurd (not-empty n kind h)
one_reading (token n kind h r) (blank {b = b} {bs = bs} h' r') = absurd (no-token b bs n kind (λ xs. blank-none b xs h') h)
one_reading (token n kind h r) (comment {b = b} {bs = bs} h' r') = absurd (no-token b bs n kind (λ xs. remark-none b xs h') h)
one_reading (token {at = at} {bytes = bytes} {ts = ts} {stop = stop} n kind h r) (token {ts = us} {stop = halt} n' kind' h' r') =
    let e = one-length bytes n n' kind kind' h h' in
    let k = one-kind bytes n n' kind kind' e h h' in
    let ih = one_reading r (subst (λ (m : ℕ). Lexed (at + m) (drop m bytes) us halt) (sym e) r') in
    (same-token at n n' kind kind' ts us e k ih.0, ih.1)
one_reading (token {bytes = bytes} n kind h r) (fault h') = absurd (nothing-there bytes n kind h'.none h)
one_reading (fault h) end = absurd (omega (arith, h.some))
one_reading (fault h) (blank h' r') = let e = h.blank in absurd cc
one_reading (fault h) (comment h' r') = let e = h.remark in absurd cc
one_reading (fault {bytes = bytes} h) (token n kind h' r') = absurd (nothing-there bytes n kind h.none h')
one_reading (fault h) (fault h') = (refl, refl)

no-zero : (xs : List ℕ) (kind : TokenKind) → IsLongest xs 0 kind → ⊥
unfolding kind_of
no-zero xs kind h = let e = h.token in cc

pub has_bytes : (xs : List ℕ) (n : ℕ) (kind : TokenKind) → IsLongest xs n kind → 0 < n
has_bytes xs zero kind h = absurd (no-zero xs kind h)
has_bytes xs (suc n) kind h = omega arith

-- ---- a loop from left to right

tail : (xs : List ℕ) (n : ℕ) → take (length xs - n) (drop n xs) ≡ drop n xs
tail xs n = take_all (length xs - n) (drop n xs) (omega (arith, length-drop n xs))

-- the tokens of the text up to the offset: tokens from there on go on with them
abbrev pub SoFar : List ℕ → List Token → ℕ → Type 0
SoFar bytes list at = (ts : List Token) (stop : Option ℕ) → Lexed at (drop at bytes) ts stop → Lexed 0 bytes (list ++ ts) stop

module _ (bytes : List ℕ) (list : List Token) (at : ℕ) (within : at < length bytes) (so_far : SoFar bytes list at) where
  opened : drop at bytes ≡ get_or bytes at 0 ∷ drop (at + 1) bytes
  opened = rw add-one (drop-cons bytes at 0 within)

  pub after_blank : is_blank (get_or bytes at 0) ≡ true → SoFar bytes list (at + 1)
  after_blank h ts stop r = so_far ts stop (subst (λ (x : List ℕ). Lexed at x ts stop) (sym opened) (blank h r))

  pub after_comment : (n : ℕ) → get_or bytes at 0 ≡ 35 → n ≡ prefix_len is_remark (take (length bytes - (at + 1)) (drop (at + 1) bytes))
      → (at + 1 + n ≤ length bytes) × SoFar bytes list (at + 1 + n)
  after_comment n h e =
      let e' : n ≡ prefix_len is_remark (drop (at + 1) bytes) = e ∙ ap (prefix_len is_remark) (tail bytes (at + 1)) in (
        omega (arith, e', prefix_len-le-length is_remark (drop (at + 1) bytes), length-drop (at + 1) bytes),
        λ ts stop r. so_far ts stop (subst (λ (x : List ℕ). Lexed at x ts stop) (sym opened)
            (comment (eq-eqb (get_or bytes at 0) 35 h)
            (subst (λ (m : ℕ). Lexed (at + 1 + m) (drop m (drop (at + 1) bytes)) ts stop) e' (subst (λ (x : List ℕ). Lexed (at + 1 + n) x ts stop) (sym (drop-drop n (at + 1) bytes)) r)))),
      )

  pub after_token : (n : ℕ) (kind : TokenKind) → IsLongest (take (length bytes - at) (drop at bytes)) n kind
      → (at + n ≤ length bytes) × (0 < n) × SoFar bytes (list ++ record { kind = kind; start = at; end = at + n } ∷ []) (at + n)
  after_token n kind h =
      let h' : IsLongest (drop at bytes) n kind = subst (λ (x : List ℕ). IsLongest x n kind) (tail bytes at) h in (
        omega (arith, h'.within, length-drop at bytes),
        has_bytes (drop at bytes) n kind h',
        λ ts stop r. subst (λ (x : List Token). Lexed 0 bytes x stop) (sym (append_assoc list (record { kind = kind; start = at; end = at + n } ∷ []) ts))
            (so_far (record { kind = kind; start = at; end = at + n } ∷ ts) stop
            (token n kind h' (subst (λ (x : List ℕ). Lexed (at + n) x ts stop) (sym (drop-drop n at bytes)) r))),
      )

  pub at_fault : is_blank (get_or bytes at 0) ≡ false → (get_or bytes at 0 ≡ 35 → ⊥) → BeginsNone (take (length bytes - at) (drop at bytes)) → Lexed 0 bytes (list ++ []) (Some at)
  at_fault b c none = so_far [] (Some at) (fault (record {
    some = omega (arith, length-drop at bytes);
    blank = ap is_blank first ∙ b;
    remark = ap (λ (x : ℕ). x == 35) first ∙ ne_eqb (get_or bytes at 0) 35 c;
    none = subst BeginsNone (tail bytes at) none;
  }))
    where
      first : get_or (drop at bytes) 0 0 ≡ get_or bytes at 0
      first = get_or-drop at bytes 0 0 ∙ ap (λ (k : ℕ). get_or bytes k 0) (add-zero at)

pub whole : (bytes : List ℕ) (list : List Token) (at : ℕ) → length bytes ≤ at → SoFar bytes list at → Lexed 0 bytes list None
whole bytes list at all so_far =
    let nothing : drop at bytes ≡ [] = drop_all at bytes all in
    subst (λ (x : List Token). Lexed 0 bytes x None) (append-nil list) (so_far [] None (subst (λ (x : List ℕ). Lexed at x [] None) (sym nothing) end))
