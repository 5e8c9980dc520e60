-- Which texts are tokens, and how a text falls into tokens.
use Rattle.std.specs.Prelude.{◌≡◌, ℕ, ◌+◌, ◌≤◌, ◌<◌, ◌^◌, Bool, true, false, cond, not, ◌&&◌, ◌||◌, ◌==◌, nat_lt, List, [], ◌∷◌, length, take, drop, get_or, Option, Some, None, codes}
use Rattle.std.specs.List.{list_all, list_any, prefix_len}
use Rattle.std.specs.Char.{is_ascii_digit, is_ascii_alphabetic}
use Rattle.std.specs.Str.{bytes_eq}
use Rattle.std.specs.Str.Parse.{digits_value}
use Rattle.soqe_name.specs.Names.{is_word, is_keyword}
use Rattle.soqe_lex.specs.declared.token.TokenKind.{TokenKind}
use Rattle.soqe_lex.specs.declared.token.TokenKind.TheVariants.{Ordinary, Keyword, Tagged, Number, Mark}
use Rattle.soqe_lex.specs.declared.token.Token.{Token}

-- some text, and no 0 in front of further digits
abbrev pub has_no_leading_zero : List ℕ → Bool
has_no_leading_zero [] = false
has_no_leading_zero (b ∷ []) = true
has_no_leading_zero (b ∷ c ∷ bs) = not (b == 48)

-- decimal digits without a leading zero, below 2 ^ 64
abbrev pub is_number : List ℕ → Bool
is_number text = has_no_leading_zero text && list_all is_ascii_digit text && nat_lt (digits_value 10 text) (2 ^ 64)

-- p, f or n: the tags of bound predicates, Skolem functions and nominals
abbrev pub is_tag : ℕ → Bool
is_tag b = b == 112 || b == 102 || b == 110

-- what stands behind the underscore of a tagged name: a number, or a tag and a number
abbrev pub is_tagged : List ℕ → Bool
is_tagged [] = false
is_tagged (b ∷ bs) = is_number (b ∷ bs) || (is_tag b && is_number bs)

-- ( ) [ ] < > . , : ; ~ & | =
abbrev pub is_single : ℕ → Bool
is_single a = (a == 40 || a == 41 || a == 91 || a == 93 || a == 60 || a == 62) || (a == 46 || a == 44 || a == 58 || a == 59) || a == 126 || a == 38 || a == 124 || a == 61

-- -> != := =>
abbrev pub is_pair : ℕ → ℕ → Bool
is_pair a b = (a == 45 && b == 62) || (a == 33 && b == 61) || (a == 58 && b == 61) || (a == 61 && b == 62)

-- <->
abbrev pub is_triple : ℕ → ℕ → ℕ → Bool
is_triple a b c = a == 60 && b == 45 && c == 62

-- a sign
abbrev pub is_mark : List ℕ → Bool
is_mark [] = false
is_mark (a ∷ []) = is_single a
is_mark (a ∷ b ∷ []) = is_pair a b
is_mark (a ∷ b ∷ c ∷ []) = is_triple a b c
is_mark (a ∷ b ∷ c ∷ d ∷ e) = false

-- the kind of a token, by its first byte and the others
abbrev pub kind_from : ℕ → List ℕ → Option TokenKind
kind_from b bs =
    cond (is_ascii_alphabetic b) (cond (list_all is_word bs) (Some (cond (is_keyword (b ∷ bs)) Keyword Ordinary)) None)
    (cond (is_ascii_digit b) (cond (is_number (b ∷ bs)) (Some Number) None)
    (cond (b == 95) (cond (is_tagged bs) (Some Tagged) None)
    (cond (is_mark (b ∷ bs)) (Some Mark) None)))

-- the kind of a text that is a token, none where it is no token
unfoldable pub kind_of : List ℕ → Option TokenKind
kind_of [] = None
kind_of (b ∷ bs) = kind_from b bs

-- The first n bytes are a token, and no more of them are one.
pub record IsLongest (bytes : List ℕ) (n : ℕ) (kind : TokenKind) : Type 0 where
  pub within : n ≤ length bytes
  pub token : kind_of (take n bytes) ≡ Some kind
  pub longest : (k : ℕ) → n < k → k ≤ length bytes → kind_of (take k bytes) ≡ None

-- No front of the text is a token.
abbrev pub BeginsNone : List ℕ → Type 0
BeginsNone bytes = (k : ℕ) → k ≤ length bytes → kind_of (take k bytes) ≡ None

-- a space, a tab, a carriage return or a line feed
abbrev pub is_blank : ℕ → Bool
is_blank b = b == 32 || b == 9 || b == 13 || b == 10

-- a byte that a comment goes on with
abbrev pub is_remark : ℕ → Bool
is_remark b = not (b == 10) && nat_lt b 128

-- The text has a byte at its front that is no blank and begins neither a comment nor a token.
pub record IsFault (bytes : List ℕ) : Type 0 where
  pub some : 0 < length bytes
  pub blank : is_blank (get_or bytes 0 0) ≡ false
  pub remark : (get_or bytes 0 0 == 35) ≡ false
  pub none : BeginsNone bytes

-- A text that begins at the offset at falls into these tokens, up to its end, or up to the first byte that begins no
-- token. A `#` begins a comment, which ends before the next line feed.
pub data Lexed : ℕ → List ℕ → List Token → Option ℕ → Type 0 where
  end : {at : ℕ} → Lexed at [] [] None
  blank : {at b : ℕ} {bs : List ℕ} {ts : List Token} {stop : Option ℕ} → is_blank b ≡ true → Lexed (at + 1) bs ts stop → Lexed at (b ∷ bs) ts stop
  comment : {at b : ℕ} {bs : List ℕ} {ts : List Token} {stop : Option ℕ} → (b == 35) ≡ true
      → Lexed (at + 1 + prefix_len is_remark bs) (drop (prefix_len is_remark bs) bs) ts stop → Lexed at (b ∷ bs) ts stop
  token : {at : ℕ} {bytes : List ℕ} {ts : List Token} {stop : Option ℕ} (n : ℕ) (kind : TokenKind) → IsLongest bytes n kind
      → Lexed (at + n) (drop n bytes) ts stop → Lexed at bytes (record { kind = kind; start = at; end = at + n } ∷ ts) stop
  fault : {at : ℕ} {bytes : List ℕ} → IsFault bytes → Lexed at bytes [] (Some at)
