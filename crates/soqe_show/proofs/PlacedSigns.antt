-- The pieces of names, keywords and signs as they are printed, with the blanks beside them.
use Rattle.std.proofs.Common.{◌≡◌, inl, inr, ℕ, ◌+◌, ◌==◌, Bool, true, false, cond, not, ◌||◌, ◌&&◌, List, [], ◌∷◌, ◌++◌, get_or, Option, Some, None, codes, refl, ap, ◌∙◌}
use Rattle.std.specs.Char.{is_ascii_digit, is_ascii_alphabetic}
use Rattle.std.proofs.lemmas.Bool.{and_left, or_from, not-true, not_from_false, false_from_ne_true, eqb-true, cond-true, cond-false}
use Rattle.soqe_lex.specs.declared.token.TokenKind.{TokenKind}
use Rattle.soqe_lex.specs.declared.token.TokenKind.TheVariants.{Ordinary, Keyword, Tagged, Mark}
use Rattle.soqe_lex.specs.Lexical.{is_single, is_pair, is_triple, is_mark, kind_from, kind_of}
use Rattle.soqe_name.specs.Names.{is_word, is_keyword}
use Rattle.soqe_syntax.specs.declared.piece.Quantifier.{Quantifier}
use Rattle.soqe_syntax.specs.declared.piece.Quantifier.TheVariants as quantifier
use Rattle.soqe_syntax.specs.declared.piece.Operator.{Operator}
use Rattle.soqe_syntax.specs.declared.piece.Operator.TheVariants as operator
use Rattle.soqe_syntax.specs.declared.piece.Head.TheVariants as head
use Rattle.soqe_syntax.specs.declared.piece.Piece.{Piece}
use Rattle.soqe_syntax.specs.declared.piece.Piece.TheVariants as piece
use Rattle.soqe_syntax.specs.Pieces.{mark_piece, keyword_piece}
use Rattle.soqe_show.specs.Printed.{Text, constant_text, quantifier_text, quantifier2_text, operator_text}
use Rattle.soqe_show.specs.Placed.{place, IsWord, equation_sign}
use Rattle.soqe_show.proofs.PlacedLexing.{IsToken, ends_word, any, word-token, Writes, token-writes, blank-writes, join, next, as_pieces, before}

-- ---- names

-- a token of any kind but a sign begins with a byte of words
word-first : (text : Text) (kind : TokenKind) → (Mark ≡ kind → ⊥) → kind_of text ≡ Some kind → is_word (get_or text 0 0) ≡ true
unfolding kind_of
word-first [] kind other e = absurd cc
word-first (b ∷ bs) kind other e = by_tests (is_ascii_alphabetic b) (is_ascii_digit b) (b == 95) (is_mark (b ∷ bs)) _ _ _ e
  where
    by_tests : (letter digit line mark : Bool) (word number tagged : Option TokenKind)
        → cond letter word (cond digit number (cond line tagged (cond mark (Some Mark) None))) ≡ Some kind → (letter || digit || line) ≡ true
    by_tests true digit line mark word number tagged e = refl
    by_tests false true line mark word number tagged e = refl
    by_tests false false true mark word number tagged e = refl
    by_tests false false false true word number tagged e = absurd (other cc)
    by_tests false false false false word number tagged e = absurd cc

word-start : (text : Text) → IsWord text → is_word (get_or text 0 0) ≡ true
word-start text (inl e) = word-first text Ordinary (λ h. absurd cc) e
word-start text (inr e) = word-first text Tagged (λ h. absurd cc) e

pub name-writes : (text : Text) → IsWord text → Writes ends_word text (λ at. piece.Name (place at text) ∷ [])
name-writes text (inl e) = token-writes (word-token text Ordinary e (word-start text (inl e)))
name-writes text (inr e) = token-writes (word-token text Tagged e (word-start text (inr e)))

-- ---- keywords

keyword-writes : (text : Text) (p : Piece) → kind_of text ≡ Some Keyword → is_word (get_or text 0 0) ≡ true → keyword_piece text ≡ p → Writes ends_word text (λ at. p ∷ [])
keyword-writes text p e h f = as_pieces (λ at. ap (λ (x : Piece). x ∷ []) f) (token-writes (word-token text Keyword e h))

-- a keyword and a space
keyword-blank : (text : Text) (p : Piece) → kind_of text ≡ Some Keyword → is_word (get_or text 0 0) ≡ true → keyword_piece text ≡ p → Writes any (text ++ 32 ∷ []) (λ at. p ∷ [])
keyword-blank text p e h f = join (λ rest t. refl) (keyword-writes text p e h f) (blank-writes 32 refl)

pub constant-writes : (b : Bool) → Writes ends_word (constant_text b) (λ at. piece.Constant b ∷ [])
unfolding kind_of is_keyword keyword_piece
constant-writes true = keyword-writes (codes "true") (piece.Constant true) refl refl refl
constant-writes false = keyword-writes (codes "false") (piece.Constant false) refl refl refl

pub quantifier-writes : (q : Quantifier) → Writes any (quantifier_text q) (λ at. piece.Binder q ∷ [])
unfolding kind_of is_keyword keyword_piece
quantifier-writes quantifier.All = keyword-blank (codes "all") (piece.Binder quantifier.All) refl refl refl
quantifier-writes quantifier.Ex = keyword-blank (codes "ex") (piece.Binder quantifier.Ex) refl refl refl

pub quantifier2-writes : (q : Quantifier) → Writes any (quantifier2_text q) (λ at. piece.Binder2 q ∷ [])
unfolding kind_of is_keyword keyword_piece
quantifier2-writes quantifier.All = keyword-blank (codes "all2") (piece.Binder2 quantifier.All) refl refl refl
quantifier2-writes quantifier.Ex = keyword-blank (codes "ex2") (piece.Binder2 quantifier.Ex) refl refl refl

pub sort-writes : Writes any (codes "sort ") (λ at. piece.Begin head.Sort ∷ [])
unfolding kind_of is_keyword keyword_piece
sort-writes = keyword-blank (codes "sort") (piece.Begin head.Sort) refl refl refl

pub fun-writes : Writes any (codes "fun ") (λ at. piece.Begin head.Fun ∷ [])
unfolding kind_of is_keyword keyword_piece
fun-writes = keyword-blank (codes "fun") (piece.Begin head.Fun) refl refl refl

pub pred-writes : Writes any (codes "pred ") (λ at. piece.Begin head.Pred ∷ [])
unfolding kind_of is_keyword keyword_piece
pred-writes = keyword-blank (codes "pred") (piece.Begin head.Pred) refl refl refl

pub var-writes : Writes any (codes "var ") (λ at. piece.Begin head.Var ∷ [])
unfolding kind_of is_keyword keyword_piece
var-writes = keyword-blank (codes "var") (piece.Begin head.Var) refl refl refl

pub goal-writes : Writes any (codes "goal ") (λ at. piece.Begin head.Goal ∷ [])
unfolding kind_of is_keyword keyword_piece
goal-writes = keyword-blank (codes "goal") (piece.Begin head.Goal) refl refl refl

-- ---- signs

-- the first byte begins signs alone
abbrev BeginsMark : ℕ → Type 0
BeginsMark a = (bs : List ℕ) → kind_from a bs ≡ cond (is_mark (a ∷ bs)) (Some Mark) None

not-triple : (a b c : ℕ) → (a == 60) ≡ false → is_triple a b c ≡ false
not-triple a b c h = and_left (a == 60 && b == 45) (c == 62) (and_left (a == 60) (b == 45) h)

single-token : (test : ℕ → Bool) (a : ℕ) → BeginsMark a → is_single a ≡ true → (a == 60) ≡ false → ((c : ℕ) → test c ≡ true → is_pair a c ≡ false) → IsToken test (a ∷ []) Mark
unfolding kind_of
single-token test a class single other pair = record {
  token = class [] ∙ cond-true (is_single a) (Some Mark) None single;
  longest = λ c cs h. class (c ∷ cs) ∙ cond-false (is_mark (a ∷ c ∷ cs)) (Some Mark) None (longer c cs (pair c h));
}
  where
    longer : (c : ℕ) (cs : List ℕ) → is_pair a c ≡ false → is_mark (a ∷ c ∷ cs) ≡ false
    longer c [] h = h
    longer c (d ∷ []) h = not-triple a c d other
    longer c (d ∷ e ∷ cs) h = refl

pair-token : (a b : ℕ) → BeginsMark a → is_pair a b ≡ true → (a == 60) ≡ false → IsToken any (a ∷ b ∷ []) Mark
unfolding kind_of
pair-token a b class pair other = record {
  token = class (b ∷ []) ∙ cond-true (is_pair a b) (Some Mark) None pair;
  longest = λ c cs h. class (b ∷ c ∷ cs) ∙ cond-false (is_mark (a ∷ b ∷ c ∷ cs)) (Some Mark) None (longer c cs);
}
  where
    longer : (c : ℕ) (cs : List ℕ) → is_mark (a ∷ b ∷ c ∷ cs) ≡ false
    longer c [] = not-triple a b c other
    longer c (d ∷ cs) = refl

pub open-writes : Writes any (codes "(") (λ at. piece.Open ∷ [])
unfolding mark_piece
open-writes = token-writes (single-token any 40 (λ bs. refl) refl refl (λ c h. refl))

pub close-writes : Writes any (codes ")") (λ at. piece.Close ∷ [])
unfolding mark_piece
close-writes = token-writes (single-token any 41 (λ bs. refl) refl refl (λ c h. refl))

pub tilde-writes : Writes any (codes "~") (λ at. piece.Tilde ∷ [])
unfolding mark_piece
tilde-writes = token-writes (single-token any 126 (λ bs. refl) refl refl (λ c h. refl))

-- signs with a blank behind them
pub comma-writes : Writes any (codes ", ") (λ at. piece.Comma ∷ [])
unfolding mark_piece
comma-writes = next (token-writes (single-token any 44 (λ bs. refl) refl refl (λ c h. refl))) (blank-writes 32 refl)

pub dot-writes : Writes any (codes ". ") (λ at. piece.Dot ∷ [])
unfolding mark_piece
dot-writes = next (token-writes (single-token any 46 (λ bs. refl) refl refl (λ c h. refl))) (blank-writes 32 refl)

pub semicolon-writes : Writes any (codes ";\n") (λ at. piece.Semicolon ∷ [])
unfolding mark_piece
semicolon-writes = next (token-writes (single-token any 59 (λ bs. refl) refl refl (λ c h. refl))) (blank-writes 10 refl)

-- a byte but `=`
abbrev pub not_equals : ℕ → Bool
not_equals b = not (b == 61)

pub colon-writes : Writes not_equals (codes ":") (λ at. piece.Colon ∷ [])
unfolding mark_piece
colon-writes = token-writes (single-token not_equals 58 (λ bs. refl) refl refl (λ c h. or_from (c == 61) false (not-true (c == 61) h) refl))

-- no name begins with `=`
pub colon-before : (text : Text) → IsWord text → (rest : List ℕ) → not_equals (get_or (text ++ rest) 0 0) ≡ true
colon-before [] w rest = let h = word-start [] w in absurd cc
colon-before (b ∷ bs) w rest =
    let h : is_word b ≡ true = word-start (b ∷ bs) w in
    not_from_false (b == 61) (false_from_ne_true (b == 61) (λ e. let i : is_word 61 ≡ true = rw (eqb-true b 61 e) at h in absurd cc))

-- a byte but `>`
abbrev pub not_greater : ℕ → Bool
not_greater b = not (b == 62)

pub equals-writes : (b : Bool) → Writes not_greater (equation_sign b) (λ at. piece.Equals b (place at (equation_sign b)) ∷ [])
unfolding mark_piece
equals-writes false = token-writes (single-token not_greater 61 (λ bs. refl) refl refl (λ c h. not-true (c == 62) h))
equals-writes true = before not_greater (token-writes (pair-token 33 61 (λ bs. refl) refl refl))

iff-token : IsToken any (codes "<->") Mark
unfolding kind_of
iff-token = record { token = refl; longest = λ c cs h. refl }

-- a sign between two spaces
spaced : {text : Text} {s : ℕ → List Piece} → Writes any text s → Writes any (codes " " ++ text ++ codes " ") (λ at. s (at + 1) ++ [])
spaced x = next (next (blank-writes 32 refl) x) (blank-writes 32 refl)

pub operator-writes : (op : Operator) → Writes any (operator_text op) (λ at. piece.Sign op ∷ [])
unfolding mark_piece
operator-writes operator.And = spaced (token-writes (single-token any 38 (λ bs. refl) refl refl (λ c h. refl)))
operator-writes operator.Or = spaced (token-writes (single-token any 124 (λ bs. refl) refl refl (λ c h. refl)))
operator-writes operator.Imp = spaced (token-writes (pair-token 45 62 (λ bs. refl) refl refl))
operator-writes operator.Iff = spaced (token-writes iff-token)
