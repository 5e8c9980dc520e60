-- How texts that are written one behind the other fall into tokens. A text is known by the pieces that it falls into at
-- any offset, before what begins with a byte that passes a test: a word stands before a byte that no word has, a sign
-- before a byte that makes no longer sign with it, a blank before any. Two such texts make one again where the second
-- begins with a byte that the first may stand before.
use Rattle.std.proofs.Common.{◌≡◌, ℕ, zero, suc, ◌+◌, ◌-◌, ◌≤◌, ◌<◌, ◌==◌, Bool, true, false, cond, not, ◌||◌, ◌&&◌, List, [], ◌∷◌, ◌++◌, length, take, drop, get_or, map, slice_range, Option, Some, None, refl, sym, ap, ap₂, subst, ◌∙◌, arith, append_assoc, add-zero, length-append, nat_lt, ◌^◌}
use Rattle.std.specs.List.{list_all}
use Rattle.std.specs.Char.{is_ascii_digit, is_ascii_alphabetic}
use Rattle.std.proofs.lemmas.Bool.{and_left, and_right, or_from, or_parts, not-true, cond-false}
use Rattle.std.proofs.lemmas.Bool.Decides.{nat_tests}
use Rattle.std.proofs.lemmas.List.Folds.{list_all-append}
use Rattle.std.proofs.Math.Seq.{drop-append_seam, take-append_seam, take-append-add}
use Rattle.std.specs.Str.Parse.{digits_value}
use Rattle.soqe_lex.specs.declared.token.Token.{Token}
use Rattle.soqe_lex.specs.declared.token.TokenKind.{TokenKind}
use Rattle.soqe_lex.specs.declared.token.TokenKind.TheVariants.{Tagged, Number}
use Rattle.soqe_lex.specs.Lexical.{has_no_leading_zero, is_number, is_tag, is_tagged, is_blank, kind_from, kind_of, IsLongest, Lexed, end, blank, token}
use Rattle.soqe_name.specs.Names.{is_word}
use Rattle.soqe_syntax.specs.declared.piece.Piece.{Piece}
use Rattle.soqe_syntax.specs.Pieces.{piece_of, piece_with}
use Rattle.soqe_show.specs.Printed.{Text}

-- ---- a text from an offset on

-- The text falls into tokens whose pieces are these, whatever stands in front of the offset.
pub record Reads (at : ℕ) (bytes : List ℕ) (pieces : List Piece) : Type 0 where
  pub tokens : List Token
  pub lexed : Lexed at bytes tokens None
  pub spelled : (front : List ℕ) → length front ≡ at → map (piece_of (front ++ bytes)) tokens ≡ pieces

pub reads-end : (at : ℕ) → Reads at [] []
reads-end at = record { tokens = []; lexed = end; spelled = λ front e. refl }

-- what is read behind a text, the text counted to the front
behind-front : (at : ℕ) (a rest : List ℕ) (ps : List Piece) (ts : List Token)
    → ((front : List ℕ) → length front ≡ at + length a → map (piece_of (front ++ rest)) ts ≡ ps)
    → (front : List ℕ) → length front ≡ at → map (piece_of (front ++ (a ++ rest))) ts ≡ ps
behind-front at a rest ps ts h front e =
    ap (λ (bytes : List ℕ). map (piece_of bytes) ts) (sym (append_assoc front a rest)) ∙ h (front ++ a) (length-append front a ∙ ap (λ (n : ℕ). n + length a) e)

reads-blank : (at b : ℕ) (rest : List ℕ) (ps : List Piece) → is_blank b ≡ true → Reads (at + 1) rest ps → Reads at (b ∷ rest) ps
reads-blank at b rest ps h r = record { tokens = r.tokens; lexed = blank h r.lexed; spelled = behind-front at (b ∷ []) rest ps r.tokens r.spelled }

-- a text stands between what is in front of it and behind it
pub there : (front text rest : List ℕ) (at : ℕ) → length front ≡ at → slice_range (front ++ (text ++ rest)) at (at + length text) ≡ text
there front text rest at e =
    let n : (at + length text) - at ≡ length text = omega arith in
    ap₂ take n (ap (λ (k : ℕ). drop k (front ++ (text ++ rest))) (sym e) ∙ drop-append_seam front (text ++ rest)) ∙ take-append_seam text rest

reads-token : (at : ℕ) (text rest : List ℕ) (ps : List Piece) (kind : TokenKind) → IsLongest (text ++ rest) (length text) kind → Reads (at + length text) rest ps
    → Reads at (text ++ rest) (piece_with text (record { kind = kind; start = at; end = at + length text }) ∷ ps)
reads-token at text rest ps kind h r = record {
  tokens = record { kind = kind; start = at; end = at + length text } ∷ r.tokens;
  lexed = token (length text) kind h (subst (λ (bytes : List ℕ). Lexed (at + length text) bytes r.tokens None) (sym (drop-append_seam text rest)) r.lexed);
  spelled = λ front e. ap₂ (λ (x : Piece) (xs : List Piece). x ∷ xs)
      (ap (λ (bytes : List ℕ). piece_with bytes (record { kind = kind; start = at; end = at + length text })) (there front text rest at e))
      (behind-front at text rest ps r.tokens r.spelled front e);
}

-- ---- tokens

-- The text is a token, and no longer one with a byte behind it that passes the test.
pub record IsToken (test : ℕ → Bool) (text : Text) (kind : TokenKind) : Type 0 where
  pub token : kind_of text ≡ Some kind
  pub longest : (c : ℕ) (cs : List ℕ) → test c ≡ true → kind_of (text ++ c ∷ cs) ≡ None

longest-before : (test : ℕ → Bool) (text rest : List ℕ) (kind : TokenKind) → IsToken test text kind → test (get_or rest 0 0) ≡ true
    → IsLongest (text ++ rest) (length text) kind
longest-before test text rest kind h e = record {
  within = omega (arith, length-append text rest);
  token = ap kind_of (take-append_seam text rest) ∙ h.token;
  longest = λ k lt le.
      let n : k ≡ length text + (k - length text) = omega arith in
      ap (λ (m : ℕ). kind_of (take m (text ++ rest))) n ∙ ap kind_of (take-append-add text rest (k - length text))
      ∙ longer rest (k - length text) e (omega arith) (omega (arith, length-append text rest));
}
  where
    longer : (bytes : List ℕ) (m : ℕ) → test (get_or bytes 0 0) ≡ true → 0 < m → m ≤ length bytes → kind_of (text ++ take m bytes) ≡ None
    longer [] m e some within = absurd (omega arith)
    longer (c ∷ cs) zero e some within = absurd (omega arith)
    longer (c ∷ cs) (suc m) e some within = h.longest c (take m cs) e

-- a byte that no word has
abbrev pub ends_word : ℕ → Bool
ends_word b = not (is_word b)

-- any byte
abbrev pub any : ℕ → Bool
any b = true

other-digit : (c : ℕ) → is_word c ≡ false → is_ascii_digit c ≡ false
other-digit c h = (or_parts (is_ascii_alphabetic c) (is_ascii_digit c) (or_parts (is_ascii_alphabetic c || is_ascii_digit c) (c == 95) h).0).1

other-tag : (c : ℕ) → is_word c ≡ false → is_tag c ≡ false
other-tag c h = grind (arith, nat_tests)

not-all : (test : ℕ → Bool) (bs : List ℕ) (c : ℕ) (cs : List ℕ) → test c ≡ false → list_all test (bs ++ c ∷ cs) ≡ false
not-all test bs c cs h = list_all-append test bs (c ∷ cs) ∙ and_right (list_all test bs) (list_all test (c ∷ cs)) (and_left (test c) (list_all test cs) h)

no-number : (bs : List ℕ) (c : ℕ) (cs : List ℕ) → is_word c ≡ false → is_number (bs ++ c ∷ cs) ≡ false
no-number bs c cs h =
    let text = bs ++ c ∷ cs in
    and_left (has_no_leading_zero text && list_all is_ascii_digit text) (nat_lt (digits_value 10 text) (2 ^ 64))
    (and_right (has_no_leading_zero text) (list_all is_ascii_digit text) (not-all is_ascii_digit bs c cs (other-digit c h)))

not-tagged : (bs : List ℕ) (c : ℕ) (cs : List ℕ) → is_word c ≡ false → is_tagged (bs ++ c ∷ cs) ≡ false
not-tagged [] c cs h = or_from (is_number (c ∷ cs)) (is_tag c && is_number cs) (no-number [] c cs h) (and_left (is_tag c) (is_number cs) (other-tag c h))
not-tagged (b ∷ bs) c cs h =
    or_from (is_number (b ∷ bs ++ c ∷ cs)) (is_tag b && is_number (bs ++ c ∷ cs)) (no-number (b ∷ bs) c cs h) (and_right (is_tag b) (is_number (bs ++ c ∷ cs)) (no-number bs c cs h))

-- a word does not go on with such a byte
word-ends : (b : ℕ) (bs : List ℕ) (c : ℕ) (cs : List ℕ) → is_word b ≡ true → is_word c ≡ false → kind_from b (bs ++ c ∷ cs) ≡ None
word-ends b bs c cs h e = by_tests (is_ascii_alphabetic b) (is_ascii_digit b) (b == 95) _ _ _ _ _ h (not-all is_word bs c cs e) (no-number (b ∷ bs) c cs e) (not-tagged bs c cs e)
  where
    by_tests : (letter digit line words number tagged : Bool) (kind : TokenKind) (mark : Option TokenKind) → (letter || digit || line) ≡ true → words ≡ false → number ≡ false → tagged ≡ false
        → cond letter (cond words (Some kind) None) (cond digit (cond number (Some Number) None) (cond line (cond tagged (Some Tagged) None) mark)) ≡ None
    by_tests true digit line words number tagged kind mark h w n t = cond-false words (Some kind) None w
    by_tests false true line words number tagged kind mark h w n t = cond-false number (Some Number) None n
    by_tests false false true words number tagged kind mark h w n t = cond-false tagged (Some Tagged) None t
    by_tests false false false words number tagged kind mark h w n t = absurd cc

pub word-token : (text : Text) (kind : TokenKind) → kind_of text ≡ Some kind → is_word (get_or text 0 0) ≡ true → IsToken ends_word text kind
unfolding kind_of
word-token [] kind e h = absurd cc
word-token (b ∷ bs) kind e h = record { token = e; longest = λ c cs ends. word-ends b bs c cs h (not-true (is_word c) ends) }

-- ---- texts that are written

-- Written at any offset, before what begins with a byte that passes the test, the text falls into these pieces.
pub record Writes (test : ℕ → Bool) (text : Text) (pieces : ℕ → List Piece) : Type 0 where
  pub reads : (at : ℕ) (rest : List ℕ) (more : List Piece) → test (get_or rest 0 0) ≡ true → Reads (at + length text) rest more → Reads at (text ++ rest) (pieces at ++ more)

pub token-writes : {test : ℕ → Bool} {text : Text} {kind : TokenKind} → IsToken test text kind
    → Writes test text (λ at. piece_with text (record { kind = kind; start = at; end = at + length text }) ∷ [])
token-writes {test = test} {text = text} {kind = kind} h = record { reads = λ at rest more e r. reads-token at text rest more kind (longest-before test text rest kind h e) r }

pub blank-writes : (b : ℕ) → is_blank b ≡ true → Writes any (b ∷ []) (λ at. [])
blank-writes b h = record { reads = λ at rest more e r. reads-blank at b rest more h r }

pub nothing-writes : (test : ℕ → Bool) → Writes test [] (λ at. [])
nothing-writes test = record { reads = λ at rest more e r. subst (λ (n : ℕ). Reads n rest more) (add-zero at) r }

-- one text behind another
pub join : {p q : ℕ → Bool} {a b : Text} {s t : ℕ → List Piece} → ((rest : List ℕ) → q (get_or rest 0 0) ≡ true → p (get_or (b ++ rest) 0 0) ≡ true)
    → Writes p a s → Writes q b t → Writes q (a ++ b) (λ at. s at ++ t (at + length a))
join {a = a} {b = b} {s = s} {t = t} fits x y = record {
  reads = λ at rest more e r.
      let n : at + length (a ++ b) ≡ (at + length a) + length b = omega (arith, length-append a b) in
      let r' = y.reads (at + length a) rest more e (subst (λ (k : ℕ). Reads k rest more) n r) in
      let r'' = x.reads at (b ++ rest) (t (at + length a) ++ more) (fits rest e) r' in
      subst (λ (bytes : List ℕ). Reads at bytes ((s at ++ t (at + length a)) ++ more)) (sym (append_assoc a b rest))
      (subst (λ (ps : List Piece). Reads at (a ++ (b ++ rest)) ps) (sym (append_assoc (s at) (t (at + length a)) more)) r'');
}

-- a text behind one that stands before any byte
pub next : {q : ℕ → Bool} {a b : Text} {s t : ℕ → List Piece} → Writes any a s → Writes q b t → Writes q (a ++ b) (λ at. s at ++ t (at + length a))
next x y = join {p = any} (λ rest h. refl) x y

-- the same pieces, said otherwise
pub as_pieces : {p : ℕ → Bool} {a : Text} {s t : ℕ → List Piece} → ((at : ℕ) → s at ≡ t at) → Writes p a s → Writes p a t
as_pieces {a = a} {s = s} {t = t} e x = record { reads = λ at rest more h r. subst (λ (ps : List Piece). Reads at (a ++ rest) (ps ++ more)) (e at) (x.reads at rest more h r) }

-- what stands before any byte stands before those that pass a test
pub before : {a : Text} {s : ℕ → List Piece} (test : ℕ → Bool) → Writes any a s → Writes test a s
before test x = record { reads = λ at rest more h r. x.reads at rest more refl r }
